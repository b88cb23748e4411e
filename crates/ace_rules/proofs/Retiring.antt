-- How many instructions have left the memory stage, from cycle to cycle.
use Rattle.std.proofs.Common.{◌≡◌, ◌-◌, ◌≤◌, zero, suc, ℕ, Bool, true, false, arith, refl, ap, inl, inr, if◌then◌else◌}
use Rattle.std.proofs.lemmas.Bool.{cases_eq}
use Rattle.bit_field.specs.declared.shapes.Shape.{Shape}
use Rattle.elf_load.specs.Image.{LoadedImage}
use Rattle.cyc_machine.specs.Cycle.{served_m}
use Rattle.cyc_machine.specs.Run.{state_at}
use Rattle.flush_view.specs.Positions.{left_execute, left_memory}
use Rattle.flush_view.proofs.Run.RunCounts.{memory-next}
use Rattle.ace_law.specs.Moments.{retired}
use Rattle.ace_rules.specs.Notes.{Story, moment}

-- it is the number that have left EX, where EX/MEM is left
not-fewer : (goes holds : Bool) (x m : ℕ) → m ≡ x - (if holds then 1 else 0) → m ≤ (if goes then x else m)
not-fewer true holds x m e = omega (arith, e)
not-fewer false holds x m e = omega arith

retired-next : (image : LoadedImage) (shape : Shape) (t : ℕ) → left_memory image shape t ≤ left_memory image shape (suc t)
retired-next image shape t =
    let next = memory-next image shape t in
    let more = not-fewer (served_m (state_at image shape t)).goes (state_at image shape t).m.valid (left_execute image shape t)
    (left_memory image shape t) refl in
    omega (arith, next, more)

-- what no cycle lowers rises
rising : (f : ℕ → ℕ) → ((t : ℕ) → f t ≤ f (suc t)) → (t u : ℕ) → t ≤ u → f t ≤ f u
rising f step t zero l = let e : t ≡ 0 = omega (arith, l) in omega (arith, ap f e)
rising f step t (suc u) l =
    elim (cases_eq t (suc u)) [
      | inl same ↦ omega (arith, ap f same)
      | inr ne ↦ let before = rising f step t u (omega (arith, l, ne)) in let next = step u in omega (arith, before, next)
    ]

-- it never falls
pub retired-rises : (story : Story) (t u : ℕ) → t ≤ u → retired (moment story t) ≤ retired (moment story u)
retired-rises story = rising (left_memory story.r.image story.r.shape) (retired-next story.r.image story.r.shape)
