-- A cycle retires at most one instruction, so a record has no more instructions than cycles.
use Rattle.std.proofs.Common.{ℕ, zero, suc, ◌+◌, ◌≤◌, Bool, true, false, arith}
use Rattle.std.specs.Prelude.{if◌then◌else◌}
use Rattle.elf_load.specs.Image.{LoadedImage}
use Rattle.bit_field.specs.declared.shapes.Shape.{Shape}
use Rattle.cyc_machine.specs.Cycle.{retires}
use Rattle.cyc_machine.specs.Run.{retired_after, retired_below, state_at}
use Rattle.run_record.specs.Run.{IsRecord, RecordedRun}

one_more : (b : Bool) (n t : ℕ) → n ≤ t → (if b then n + 1 else n) ≤ suc t
one_more true n t h = omega arith
one_more false n t h = omega arith

pub few_below : (image : LoadedImage) (shape : Shape) (t : ℕ) → retired_below image shape t ≤ t
unfolding retired_after
few_below image shape zero = omega arith
few_below image shape (suc t) = one_more (retires (state_at image shape t)) (retired_below image shape t) t (few_below image shape t)

pub record_few : (r : RecordedRun) → IsRecord r → r.instructions ≤ r.cycles
record_few r is = let below = few_below r.image r.shape r.cycles in omega (arith, is.instructions)
