-- How many bytes instructions have.
use Rattle.std.proofs.Common.{◌≡◌, ℕ, ◌+◌, ◌*◌, List, [], ◌∷◌, ◌++◌, length, refl, arith, length-append}
use Rattle.std.specs.List.{flat_map}
use Rattle.rv_table.specs.declared.op.Op.{Op}
use Rattle.elf_write.specs.Code.{op_bytes}

-- four bytes for each instruction
pub length-code : (ops : List Op) → length (flat_map op_bytes ops) ≡ 4 * length ops
unfolding op_bytes
length-code [] = refl
length-code (op ∷ ops) =
    let rest = length-code ops in
    let all = length-append (op_bytes op) (flat_map op_bytes ops) in
    omega (arith, rest, all)
