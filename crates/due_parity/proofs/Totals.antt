-- Counts of a structure, bit by bit and group by group.
use Rattle.std.proofs.Common.{◌≡◌, ℕ, zero, suc, ◌+◌, ◌-◌, ◌*◌, ◌≤◌, inl, inr, Bool, refl, sym, ◌∙◌, ap, arith, subst}
use Rattle.std.proofs.lemmas.Bool.{cases_lt}
use Rattle.bit_field.specs.Shapes.{bits_in}
use Rattle.bit_field.specs.declared.places.Structure.{Structure}
use Rattle.bit_field.specs.declared.places.Structure.TheVariants.{CData, Rf}
use Rattle.bit_field.specs.declared.shapes.Shape.{Shape}
use Rattle.ace_class.specs.declared.class.Class.{Class}
use Rattle.ace_class.specs.declared.class.Class.TheVariants.{Ace}
use Rattle.ace_law.specs.Classes.{IsClass}
use Rattle.ace_rules.specs.Notes.{Story, moment}
use Rattle.ace_rules.specs.Sums.{sum_below}
use Rattle.due_parity.specs.Due.{CountsBits, count_from, count_pairs, is_false_due, is_quiet, is_true_due, place, sum_from}
use Rattle.due_parity.specs.Fates.{fate}
use Rattle.due_parity.specs.Notes.{group_count}
use Rattle.due_parity.specs.Stretches.{CountsCycles, CountsGroup, all_of, no_pairs, plus, width}
use Rattle.due_parity.specs.Touches.{IsProtected}
use Rattle.due_parity.specs.declared.counting.DueCounts.{DueCounts}
use Rattle.due_parity.specs.declared.fate.Fate.{Fate}
use Rattle.due_parity.proofs.OneDue.{same_counts}
use Rattle.due_parity.proofs.Ranges.{count-three, pick, pick-behind, pick-below, sum-more, sum-same, sum-three}
use Rattle.due_parity.proofs.Stretched.{one-fate}

-- the bits of a structure are those of its groups
pub bits-of-groups : (s : Structure) (shape : Shape) → IsProtected s → width s * group_count s shape ≡ bits_in s shape
bits-of-groups Rf shape is = omega arith
bits-of-groups CData shape is = omega arith
bits-of-groups _ shape is = absurd is

module _ (story : Story) (s : Structure) where
  abbrev fate_of_pair : ℕ → ℕ → Fate
  fate_of_pair k t = fate story.r (place s k) t

  abbrev cycles : ℕ
  cycles = story.r.cycles

  pub no-bits : CountsBits story s 0 no_pairs
  unfolding sum_from
  no-bits = record { classes = λ k t. Ace; are = λ k t c l m e. absurd (omega (arith, l)); true_due = refl; false_due = refl; quiet = refl }

  -- a count by classes of which those of the last bit are others
  one-bit : (k : ℕ) (f g : ℕ → ℕ → Class) (test : ℕ → ℕ → Class → Bool)
      → count_pairs k cycles (λ j t. test j t (f j t)) + count_from 0 cycles (λ t. test k t (g k t))
      ≡ count_pairs (k + 1) cycles (λ j t. test j t (pick k f g j t))
  one-bit k f g test =
      let below = sum-same k 0 (λ j. count_from 0 cycles (λ t. test j t (f j t))) (λ j. count_from 0 cycles (λ t. test j t (pick k f g j t)))
      (λ j l m. ap (λ (h : ℕ → Class). count_from 0 cycles (λ t. test j t (h t))) (sym (pick-below k f g j (omega (arith, m))))) in
      let here = ap (λ (h : ℕ → Class). count_from 0 cycles (λ t. test k t (h t))) (sym (pick-behind k f g k (omega arith))) in
      let more = sum-more k (λ j. count_from 0 cycles (λ t. test j t (pick k f g j t))) in
      omega (arith, below, here, more)

  pub more-bits : (k : ℕ) (before one : DueCounts) → CountsBits story s k before → CountsCycles story (place s k) 0 cycles one
      → CountsBits story s (k + 1) (plus before one)
  more-bits k before one x y =
      let g : ℕ → ℕ → Class = λ j. y.classes in
      let whole : cycles - 0 ≡ cycles = omega arith in
      record {
        classes = pick k x.classes (λ j. y.classes);
        are = λ j t c l m e. elim (cases_lt j k) as (λ _. IsClass (pick k x.classes (λ j. y.classes) j t) (moment story t) (place s j)) [
          | inl h ↦ subst (λ (f : ℕ → Class). IsClass (f t) (moment story t) (place s j)) (sym (pick-below k x.classes (λ j. y.classes) j h)) (x.are j t c h m e)
          | inr h ↦ (let at : j ≡ k = omega (arith, l, h) in
              subst (λ (f : ℕ → Class). IsClass (f t) (moment story t) (place s j)) (sym (pick-behind k x.classes (λ j. y.classes) j h))
              (subst (λ j. IsClass (y.classes t) (moment story t) (place s j)) (sym at)
              (y.are t c (omega arith) m (ap (λ j. fate_of_pair j t) (sym at) ∙ e))))
        ];
        true_due =
            let first = x.true_due in
            let last = y.true_due ∙ ap (λ n. count_from 0 n (λ t. is_true_due (fate_of_pair k t) (y.classes t))) whole in
            let both = one-bit k x.classes (λ j. y.classes) (λ j t class. is_true_due (fate_of_pair j t) class) in
            omega (arith, first, last, both);
        false_due =
            let first = x.false_due in
            let last = y.false_due ∙ ap (λ n. count_from 0 n (λ t. is_false_due (fate_of_pair k t) (y.classes t))) whole in
            let both = one-bit k x.classes (λ j. y.classes) (λ j t class. is_false_due (fate_of_pair j t) class) in
            omega (arith, first, last, both);
        quiet =
            let first = x.quiet in
            let last = y.quiet ∙ ap (λ n. count_from 0 n (λ t. is_quiet (fate_of_pair k t))) whole in
            let both = sum-more k (λ j. count_from 0 cycles (λ t. is_quiet (fate_of_pair j t))) in
            omega (arith, first, last, both);
      }

  -- the bits of a group
  module _ (group : ℕ) (before one : DueCounts) (x : CountsBits story s (width s * group) before) (y : CountsGroup story s group 0 cycles one) where
    -- the counts of its first n bits
    abbrev first_bits : ℕ → DueCounts
    first_bits n = record {
      true_due = sum_below n (λ k. (y.parts k).true_due);
      false_due = sum_below n (λ k. (y.parts k).false_due);
      quiet = sum_below n (λ k. (y.parts k).quiet);
    }

    up-to : (n : ℕ) → n ≤ width s → CountsBits story s (width s * group + n) (plus before (first_bits n))
    unfolding sum_below
    up-to zero l =
        let at : width s * group ≡ width s * group + 0 = omega arith in
        let same : before ≡ plus before (first_bits 0) = same_counts before (plus before (first_bits 0)) (omega arith) (omega arith) (omega arith) in
        subst (λ (k : ℕ). CountsBits story s k (plus before (first_bits 0))) at (subst (CountsBits story s (width s * group)) same x)
    up-to (suc n) l =
        let at : width s * group + n + 1 ≡ width s * group + suc n = omega arith in
        let sofar : DueCounts = plus before (first_bits n) in
        let same : plus (plus before (first_bits n)) (y.parts n) ≡ plus before (first_bits (suc n)) =
        same_counts (plus (plus before (first_bits n)) (y.parts n)) (plus before (first_bits (suc n))) (omega arith) (omega arith) (omega arith) in
        subst (λ (k : ℕ). CountsBits story s k (plus before (first_bits (suc n)))) at
        (subst (CountsBits story s (width s * group + n + 1)) same
        (more-bits (width s * group + n) (plus before (first_bits n)) (y.parts n) (up-to n (omega (arith, l))) (y.are n (omega (arith, l)))))

    pub more-group : CountsBits story s (width s * (group + 1)) (plus before one)
    more-group =
        let at : width s * group + width s ≡ width s * (group + 1) = grind arith in
        let true_same = y.true_due in
        let false_same = y.false_due in
        let quiet_same = y.quiet in
        let same : plus before (first_bits (width s)) ≡ plus before one =
        same_counts (plus before (first_bits (width s))) (plus before one) (omega (arith, true_same)) (omega (arith, false_same)) (omega (arith, quiet_same)) in
        subst (λ (k : ℕ). CountsBits story s k (plus before one)) at
        (subst (CountsBits story s (width s * group + width s)) same (up-to (width s) (omega arith)))

  -- each pair is counted once
  pub all-pairs : (bits : ℕ) (counts : DueCounts) → CountsBits story s bits counts → all_of counts ≡ bits * cycles
  all-pairs bits counts h =
      let one = h.true_due in
      let two = h.false_due in
      let three = h.quiet in
      let all = sum-three bits 0 cycles (λ k. count_from 0 cycles (λ t. is_true_due (fate_of_pair k t) (h.classes k t)))
      (λ k. count_from 0 cycles (λ t. is_false_due (fate_of_pair k t) (h.classes k t))) (λ k. count_from 0 cycles (λ t. is_quiet (fate_of_pair k t)))
      (λ k. count-three cycles 0 (λ t. is_true_due (fate_of_pair k t) (h.classes k t)) (λ t. is_false_due (fate_of_pair k t) (h.classes k t))
      (λ t. is_quiet (fate_of_pair k t)) (λ t. one-fate (fate_of_pair k t) (h.classes k t))) in
      omega (arith, one, two, three, all)
