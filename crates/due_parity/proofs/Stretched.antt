-- Counts of one bit in stretches of cycles.
use Rattle.std.proofs.Common.{◌≡◌, ℕ, ◌+◌, ◌-◌, ◌<◌, ◌≤◌, inl, inr, true, false, refl, sym, ◌∙◌, ap, arith, subst}
use Rattle.std.specs.Prelude.{if◌then◌else◌}
use Rattle.std.proofs.lemmas.Bool.{cases_lt}
use Rattle.bit_field.specs.declared.places.Place.{Place}
use Rattle.ace_class.specs.declared.class.Class.{Class}
use Rattle.ace_class.specs.declared.class.Class.TheVariants.{Ace, UnAce}
use Rattle.ace_law.specs.Classes.{IsClass}
use Rattle.ace_rules.specs.AceGroups.{is_ace}
use Rattle.ace_rules.specs.Notes.{Story, moment}
use Rattle.due_parity.specs.Due.{count_from, is_false_due, is_quiet, is_true_due, sum_from}
use Rattle.due_parity.specs.Fates.{fate}
use Rattle.due_parity.specs.Stretches.{AreDetected, CountsCycles, HasAce, all_of, no_pairs, plus}
use Rattle.due_parity.specs.declared.counting.DueCounts.{DueCounts}
use Rattle.due_parity.specs.declared.fate.Fate.{Fate}
use Rattle.due_parity.specs.declared.fate.Fate.TheVariants.{Detected, Quiet}
use Rattle.due_parity.proofs.Ranges.{One, count-const, count-joined, count-none, count-all, count-same, count-split, count-three, pick, pick-behind, pick-below}
use Rattle.due_parity.proofs.Ranges.One.{First, Second, Third}

-- a flip is a true detection, a false one or quiet
pub one-fate : (f : Fate) (c : Class) → One (is_true_due f c) (is_false_due f c) (is_quiet f)
one-fate (Detected c) Ace = First
one-fate (Detected c) (UnAce rule) = Second
one-fate Quiet class = Third

seen-true : (f : Fate) (c : Class) → is_quiet f ≡ false → is_true_due f c ≡ is_ace c
seen-true (Detected c) Ace e = refl
seen-true (Detected c) (UnAce rule) e = refl
seen-true Quiet class e = absurd cc

quiet-true : (f : Fate) (c : Class) → is_quiet f ≡ true → is_true_due f c ≡ false
quiet-true Quiet class e = refl
quiet-true (Detected c) class e = absurd cc

quiet-false : (f : Fate) (c : Class) → is_quiet f ≡ true → is_false_due f c ≡ false
quiet-false Quiet class e = refl
quiet-false (Detected c) class e = absurd cc

not-detected : (f : Fate) (c : ℕ) → is_quiet f ≡ true → f ≡ Detected c → ⊥
not-detected Quiet c e d = cc
not-detected (Detected n) c e d = cc

module _ (story : Story) (p : Place) where
  abbrev fate_at : ℕ → Fate
  fate_at t = fate story.r p t

  -- ---- one class after another

  pub no-ace : (from : ℕ) → HasAce story p from from 0
  unfolding sum_from
  no-ace from = record {
    classes = λ t. Ace;
    are = λ t l m. absurd (omega (arith, l, m));
    count = let e : 0 ≡ from - from = omega arith in ap (λ n. count_from from n (λ t. true)) e;
  }

  pub more-ace : (from t next n added : ℕ) (class : Class) → from ≤ t → t ≤ next → ((u : ℕ) → t ≤ u → u < next → IsClass class (moment story u) p)
      → added ≡ (if is_ace class then next - t else 0) → HasAce story p from t n → HasAce story p from next (n + added)
  more-ace from t next n added class l m is e before = record {
    classes = pick t before.classes (λ u. class);
    are = λ u k o. elim (cases_lt u t) as (λ _. IsClass (pick t before.classes (λ u. class) u) (moment story u) p) [
      | inl b ↦ subst (λ (c : Class). IsClass c (moment story u) p) (sym (pick-below t before.classes (λ u. class) u b)) (before.are u k b)
      | inr b ↦ subst (λ (c : Class). IsClass c (moment story u) p) (sym (pick-behind t before.classes (λ u. class) u b)) (is u b o)
    ];
    count =
        ap (λ k. k + added) before.count
        ∙ ap (λ k. count_from from (t - from) (λ u. is_ace (before.classes u)) + k) (e ∙ sym (count-const (is_ace class) (next - t) t))
        ∙ count-joined from t next before.classes (λ u. class) (λ u c. is_ace c) l m;
  }

  -- ---- one stretch

  detected-true : (from until : ℕ) (classes : ℕ → Class) → AreDetected story p from until true → from ≤ until
      → count_from from (until - from) (λ t. is_ace (classes t)) ≡ count_from from (until - from) (λ t. is_true_due (fate_at t) (classes t))
  detected-true from until classes are l =
      count-same (until - from) from (λ t. is_ace (classes t)) (λ t. is_true_due (fate_at t) (classes t))
      (λ t k o. sym (seen-true (fate_at t) (classes t) (are t k (omega (arith, l, o)))))

  pub detected : (from until ace : ℕ) → from ≤ until → AreDetected story p from until true → HasAce story p from until ace
      → CountsCycles story p from until (record { true_due = ace; false_due = until - from - ace; quiet = 0 })
  detected from until ace l are has =
      let first : ace ≡ count_from from (until - from) (λ t. is_true_due (fate_at t) (has.classes t)) =
      has.count ∙ detected-true from until has.classes are l in
      let third : 0 ≡ count_from from (until - from) (λ t. is_quiet (fate_at t)) =
      sym (count-none (until - from) from)
      ∙ count-same (until - from) from (λ t. false) (λ t. is_quiet (fate_at t)) (λ t k o. sym (are t k (omega (arith, l, o)))) in
      let all = count-three (until - from) from (λ t. is_true_due (fate_at t) (has.classes t)) (λ t. is_false_due (fate_at t) (has.classes t))
      (λ t. is_quiet (fate_at t)) (λ t. one-fate (fate_at t) (has.classes t)) in
      record {
        classes = has.classes;
        are = λ t c k o e. has.are t k o;
        true_due = first;
        false_due = omega (arith, first, third, all);
        quiet = third;
      }

  pub undetected : (from until : ℕ) → from ≤ until → AreDetected story p from until false
      → CountsCycles story p from until (record { true_due = 0; false_due = 0; quiet = until - from })
  undetected from until l are = record {
    classes = λ t. Ace;
    are = λ t c k o e. absurd (not-detected (fate_at t) c (are t k o) e);
    true_due =
        sym (count-none (until - from) from)
        ∙ count-same (until - from) from (λ t. false) (λ t. is_true_due (fate_at t) Ace)
        (λ t k o. sym (quiet-true (fate_at t) Ace (are t k (omega (arith, l, o)))));
    false_due =
        sym (count-none (until - from) from)
        ∙ count-same (until - from) from (λ t. false) (λ t. is_false_due (fate_at t) Ace)
        (λ t k o. sym (quiet-false (fate_at t) Ace (are t k (omega (arith, l, o)))));
    quiet =
        sym (count-all (until - from) from)
        ∙ count-same (until - from) from (λ t. true) (λ t. is_quiet (fate_at t)) (λ t k o. sym (are t k (omega (arith, l, o))));
  }

  -- ---- one stretch after another

  pub nothing : CountsCycles story p 0 0 no_pairs
  unfolding sum_from
  nothing = record { classes = λ t. Ace; are = λ t c l m e. absurd (omega (arith, m)); true_due = refl; false_due = refl; quiet = refl }

  pub joined : (a b c : ℕ) (first second : DueCounts) → a ≤ b → b ≤ c → CountsCycles story p a b first → CountsCycles story p b c second
      → CountsCycles story p a c (plus first second)
  joined a b c first second l m x y = record {
    classes = pick b x.classes y.classes;
    are = λ t n k o e. elim (cases_lt t b) as (λ _. IsClass (pick b x.classes y.classes t) (moment story t) p) [
      | inl h ↦ subst (λ (c : Class). IsClass c (moment story t) p) (sym (pick-below b x.classes y.classes t h)) (x.are t n k h e)
      | inr h ↦ subst (λ (c : Class). IsClass c (moment story t) p) (sym (pick-behind b x.classes y.classes t h)) (y.are t n h o e)
    ];
    true_due =
        let one = x.true_due in
        let two = y.true_due in
        let both = count-joined a b c x.classes y.classes (λ t class. is_true_due (fate_at t) class) l m in
        omega (arith, one, two, both);
    false_due =
        let one = x.false_due in
        let two = y.false_due in
        let both = count-joined a b c x.classes y.classes (λ t class. is_false_due (fate_at t) class) l m in
        omega (arith, one, two, both);
    quiet =
        let one = x.quiet in
        let two = y.quiet in
        let both = count-split a b c (λ t. is_quiet (fate_at t)) l m in
        omega (arith, one, two, both);
  }

  pub all-counted : (from until : ℕ) (counts : DueCounts) → CountsCycles story p from until counts → all_of counts ≡ until - from
  all-counted from until counts h =
      let one = h.true_due in
      let two = h.false_due in
      let three = h.quiet in
      let all = count-three (until - from) from (λ t. is_true_due (fate_at t) (h.classes t)) (λ t. is_false_due (fate_at t) (h.classes t))
      (λ t. is_quiet (fate_at t)) (λ t. one-fate (fate_at t) (h.classes t)) in
      omega (arith, one, two, three, all)
