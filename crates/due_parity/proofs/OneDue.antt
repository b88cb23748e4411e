-- A structure has one count.
use Rattle.std.proofs.Common.{◌≡◌, ℕ, ◌<◌, Bool, refl, sym, ◌∙◌, ap, arith}
use Rattle.bit_field.specs.Shapes.{bits_in}
use Rattle.bit_field.specs.declared.places.Structure.{Structure}
use Rattle.ace_class.specs.declared.class.Class.{Class}
use Rattle.ace_rules.specs.Notes.{Story, moment}
use Rattle.ace_rules.proofs.OneClass.{one_class}
use Rattle.due_parity.specs.Due.{IsDue, count_from, count_pairs, is_false_due, is_true_due, place}
use Rattle.due_parity.specs.Fates.{fate}
use Rattle.due_parity.specs.declared.counting.DueCounts.{DueCounts}
use Rattle.due_parity.specs.declared.fate.Fate.{Fate}
use Rattle.due_parity.specs.declared.fate.Fate.TheVariants.{Detected, Quiet}
use Rattle.due_parity.proofs.Ranges.{count-same, sum-same}

pub same_counts : (a b : DueCounts) → a.true_due ≡ b.true_due → a.false_due ≡ b.false_due → a.quiet ≡ b.quiet → a ≡ b
same_counts a b e f g =
    ap (λ n. record a { true_due = n }) e
    ∙ ap (λ n. record b { false_due = n; quiet = a.quiet }) f
    ∙ ap (λ n. record b { quiet = n }) g

same_true : (f : Fate) (x y : Class) → ((c : ℕ) → f ≡ Detected c → x ≡ y) → is_true_due f x ≡ is_true_due f y
same_true (Detected c) x y h = ap (is_true_due (Detected c)) (h c refl)
same_true Quiet x y h = refl

same_false : (f : Fate) (x y : Class) → ((c : ℕ) → f ≡ Detected c → x ≡ y) → is_false_due f x ≡ is_false_due f y
same_false (Detected c) x y h = ap (is_false_due (Detected c)) (h c refl)
same_false Quiet x y h = refl

same_pairs : (bits cycles : ℕ) (p q : ℕ → ℕ → Bool) → ((k t : ℕ) → k < bits → t < cycles → p k t ≡ q k t) → count_pairs bits cycles p ≡ count_pairs bits cycles q
same_pairs bits cycles p q h =
    sum-same bits 0 (λ k. count_from 0 cycles (p k)) (λ k. count_from 0 cycles (q k))
    (λ k l m. count-same cycles 0 (p k) (q k) (λ t n o. h k t (omega (arith, m)) (omega (arith, o))))

pub due_unique : (story : Story) (s : Structure) (a b : DueCounts) → IsDue story s a → IsDue story s b → a ≡ b
due_unique story s a b x y =
    let agree : (k t c : ℕ) → k < bits_in s story.r.shape → t < story.r.cycles → fate story.r (place s k) t ≡ Detected c → x.classes k t ≡ y.classes k t =
    λ k t c l m e. one_class (moment story t) (place s k) (x.classes k t) (y.classes k t) (x.are k t c l m e) (y.are k t c l m e) in
    same_counts a b
    (x.true_due
    ∙ same_pairs (bits_in s story.r.shape) story.r.cycles (λ k t. is_true_due (fate story.r (place s k) t) (x.classes k t))
    (λ k t. is_true_due (fate story.r (place s k) t) (y.classes k t))
    (λ k t l m. same_true (fate story.r (place s k) t) (x.classes k t) (y.classes k t) (λ c e. agree k t c l m e))
    ∙ sym y.true_due)
    (x.false_due
    ∙ same_pairs (bits_in s story.r.shape) story.r.cycles (λ k t. is_false_due (fate story.r (place s k) t) (x.classes k t))
    (λ k t. is_false_due (fate story.r (place s k) t) (y.classes k t))
    (λ k t l m. same_false (fate story.r (place s k) t) (x.classes k t) (y.classes k t) (λ c e. agree k t c l m e))
    ∙ sym y.false_due)
    (x.quiet ∙ sym y.quiet)
