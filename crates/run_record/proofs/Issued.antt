-- Each instruction that was retired left EX before.
use Rattle.std.proofs.Common.{◌≡◌, ℕ, zero, suc, ◌+◌, ◌≤◌, List, [], ◌∷◌, Bool, true, false, length, length-append, arith, refl}
use Rattle.std.specs.Prelude.{◌&&◌, if◌then◌else◌}
use Rattle.elf_load.specs.Image.{LoadedImage}
use Rattle.bit_field.specs.declared.shapes.Shape.{Shape}
use Rattle.pipe_latch.specs.Latches.{DecodedLatch, ExecutedLatch, no_executed}
use Rattle.cyc_machine.specs.declared.fate.Fate.{Fate}
use Rattle.cyc_machine.specs.declared.fate.Fate.TheVariants.{Absent, Dropped, Stays, Goes}
use Rattle.cyc_machine.specs.Pipeline.{executed_after}
use Rattle.cyc_machine.specs.Cycle.{cycled, fate, served_m}
use Rattle.cyc_machine.specs.State.{State, reset}
use Rattle.run_record.specs.Run.{IsRecord, RecordedRun}
use Rattle.cyc_machine.specs.Run.{cycle_if, goes, issues_after, issues_below, retired_after, retired_below, state_after, state_at, with_one}

-- how many instructions a latch holds
abbrev pub occupied : Bool → ℕ
occupied valid = if valid then 1 else 0

one_at_most : (valid : Bool) → occupied valid ≤ 1
one_at_most true = omega arith
one_at_most false = omega arith

-- what leaves EX/MEM was in it
retires_one : (valid leaves : Bool) (n : ℕ) → (if valid && leaves then n + 1 else n) ≤ n + occupied valid
retires_one true true n = omega arith
retires_one true false n = omega arith
retires_one false leaves n = omega arith

stays : (valid leaves : Bool) (n issued : ℕ) → n + occupied valid ≤ issued
    → (if valid && leaves then n + 1 else n) + (if leaves then 0 else occupied valid) ≤ issued
stays true true n issued h = omega (arith, h)
stays true false n issued h = omega (arith, h)
stays false true n issued h = omega (arith, h)
stays false false n issued h = omega (arith, h)

left_behind : (m : ExecutedLatch) (leaves : Bool) → occupied (if leaves then no_executed else m).valid ≡ (if leaves then 0 else occupied m.valid)
left_behind m true = refl
left_behind m false = refl

kept : (m : ExecutedLatch) (leaves : Bool) (n issued : ℕ) → n + occupied m.valid ≤ issued
    → (if m.valid && leaves then n + 1 else n) + occupied (if leaves then no_executed else m).valid ≤ issued
kept m leaves n issued h = let e = left_behind m leaves in let k = stays m.valid leaves n issued h in omega (arith, e, k)

-- one cycle, by what becomes of ID/EX
by_fate : (image : LoadedImage) (f : Fate) (leaves : Bool) (d : DecodedLatch) (cycle issued : ℕ) (m : ExecutedLatch) (s : State) (n : ℕ) (xs : List ℕ) →
    n + occupied m.valid ≤ length xs →
    (if m.valid && leaves then n + 1 else n) + occupied (executed_after image f leaves d cycle issued m).valid ≤ length (with_one xs (cycle_if (goes f) s))
unfolding executed_after
by_fate image Absent leaves d cycle issued m s n xs h = kept m leaves n (length xs) h
by_fate image Dropped leaves d cycle issued m s n xs h = kept m leaves n (length xs) h
by_fate image Stays leaves d cycle issued m s n xs h = kept m leaves n (length xs) h
by_fate image (Goes a b) leaves d cycle issued m s n xs h =
    let one = one_at_most (executed_after image (Goes a b) leaves d cycle issued m).valid in
    let out = retires_one m.valid leaves n in
    let longer = length-append xs (s.cycle ∷ []) in
    omega (arith, one, out, longer, h)

pub retired-issued : (image : LoadedImage) (shape : Shape) (t : ℕ)
    → retired_below image shape t + occupied (state_at image shape t).m.valid ≤ length (issues_below image shape t)
unfolding state_after retired_after issues_after cycled reset
retired-issued image shape zero = omega arith
retired-issued image shape (suc t) =
    let s = state_at image shape t in
    by_fate s.image (fate s) (served_m s).goes s.d s.cycle s.issued s.m s (retired_below image shape t) (issues_below image shape t)
    (retired-issued image shape t)

-- each retired instruction of a record has its issue cycle
pub record_issued : (r : RecordedRun) → IsRecord r → r.instructions ≤ length r.issues
record_issued r is = let few = retired-issued r.image r.shape r.cycles in rw (is.instructions, is.issues) (omega (arith, few))
