-- The loader accepts a generated program.
use Rattle.std.proofs.Common.{◌≡◌, ℕ, ◌≤◌, [], ◌∙◌, length, cond, true, Some, None, ap, arith, lit<, lit≤}
use Rattle.std.specs.List.{flat_map}
use Rattle.std.proofs.lemmas.Bool.Decides.{nat_tests}
use Rattle.elf_write.specs.Code.{op_bytes}
use Rattle.elf_write.specs.Loading.{IsLoaded, begins_in_text}
use Rattle.elf_write.specs.declared.layout.TheConstants.{TEXT_BASE}
use Rattle.elf_write.proofs.Loaded.{loaded}
use Rattle.img_gen.specs.Laws.{IsAccepted}
use Rattle.img_gen.specs.Program.{generated, program}
use Rattle.img_gen.proofs.Sizes.{length-text}

begins : (n : ℕ) → 4 ≤ n → begins_in_text TEXT_BASE n ≡ true
unfolding begins_in_text
begins n h = grind (arith, nat_tests)

pub written : (number size : ℕ) → size ≤ 4096 → IsLoaded TEXT_BASE (flat_map op_bytes (program number size)) []
written number size h =
    let long = length-text number size in
    loaded TEXT_BASE (flat_map op_bytes (program number size)) [] (lit< tt) (omega (arith, long)) (omega (arith, long)) (lit≤ tt)

pub accepted : (number size : ℕ) → size ≤ 4096 → IsAccepted number size
unfolding generated
accepted number size h ram fits =
    let long = length-text number size in
    (written number size h).refusal ram fits
    ∙ ap (λ t. cond t None (Some 12)) (begins (length (flat_map op_bytes (program number size))) (omega (arith, long)))
