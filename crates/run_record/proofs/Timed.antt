-- The issue cycles and clock values of a record are numbers of cycles in order.
use Rattle.std.proofs.Common.{◌≡◌, ◌<◌, ◌++◌, ℕ, zero, suc, Bool, length, refl, sym, ap, ◌∙◌, subst}
use Rattle.std.specs.Prelude.{AllPairs, count_by, filter, nat_le, nat_lt}
use Rattle.bit_field.specs.declared.shapes.Shape.{Shape}
use Rattle.elf_load.specs.Image.{LoadedImage}
use Rattle.cyc_machine.specs.Run.{clocks_after, clocks_below, issues, issues_after, issues_below, issues_clock, state_at}
use Rattle.cyc_machine.proofs.RunsOn.{cycle-at}
use Rattle.run_record.specs.Run.{IsRecord, RecordedRun}
use Rattle.run_record.specs.Times.{IsTimed}
use Rattle.run_record.proofs.Noted.{counted, front, noted, rest, rising}

module _ (image : LoadedImage) (shape : Shape) where
  pub issues_are : (t : ℕ) → issues_below image shape t ≡ noted (λ u. issues (state_at image shape u)) t
  unfolding issues_after noted
  issues_are zero = refl
  issues_are (suc t) = rw (issues_are t, cycle-at image shape t) refl

  pub clocks_are : (t : ℕ) → clocks_below image shape t ≡ noted (λ u. issues_clock (state_at image shape u)) t
  unfolding clocks_after noted
  clocks_are zero = refl
  clocks_are (suc t) = rw (clocks_are t, cycle-at image shape t) refl

pub record_timed : (r : RecordedRun) → IsRecord r → IsTimed r
record_timed r is =
    let does : ℕ → Bool = λ u. issues (state_at r.image r.shape u) in
    let reads : ℕ → Bool = λ u. issues_clock (state_at r.image r.shape u) in
    let all : r.issues ≡ noted does r.cycles = is.issues ∙ issues_are r.image r.shape r.cycles in
    let clocks : r.clocks ≡ noted reads r.cycles = is.clocks ∙ clocks_are r.image r.shape r.cycles in
    record {
      rising = subst (AllPairs (λ c d. c < d)) (sym all) (rising does r.cycles);
      issued = λ t l. ap length (issues_are r.image r.shape t) ∙ counted does t r.cycles l ∙ ap (count_by (λ c. nat_lt c t)) (sym all);
      clocks = λ t l. clocks_are r.image r.shape t ∙ sym (front reads t r.cycles l) ∙ ap (filter (λ c. nat_lt c t)) (sym clocks);
      split = λ t l.
          clocks ∙ rest reads t r.cycles l ∙ ap (λ xs. noted reads t ++ filter (λ c. nat_le t c) xs) (sym clocks)
          ∙ ap (λ xs. xs ++ filter (λ c. nat_le t c) r.clocks) (sym (clocks_are r.image r.shape t));
    }
