use Rattle.std.proofs.Common.{◌≡◌, ℕ, length}
use Rattle.std.specs.Prelude.{slice_index}
use Rattle.rv_isa.specs.Architecture.{byte_stored}
use Rattle.rv_isa.proofs.arch.store_bytes.Given as goal

-- the first k bytes are stored
abbrev pub invariant-loop-k : goal.invariant-loop-k
invariant-loop-k l =
    (length l.bytes.items ≡ length l.initial.bytes.items)
    × ((p : ℕ) → slice_index l.bytes.items p ≡ byte_stored l.at l.k l.value l.initial.bytes.items p)
