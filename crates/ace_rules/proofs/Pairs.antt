-- Rows of counts that grow by pairs of a bit and a cycle.
use Rattle.std.proofs.Common.{◌≡◌, ℕ, zero, suc, ◌+◌, ◌-◌, ◌*◌, ◌<◌, ◌≤◌, ◌==◌, List, [], ◌∷◌, length, refl, sym, ap, ◌∙◌, subst, inl, inr, arith}
use Rattle.std.specs.Prelude.{replicate, slice_index}
use Rattle.std.proofs.Math.Nat.{suc-mul}
use Rattle.std.proofs.lemmas.Bool.{cases_lt}
use Rattle.bit_field.specs.Layouts.{number_of}
use Rattle.ace_class.specs.Classes.{class_number}
use Rattle.ace_class.specs.declared.class.Class.{Class}
use Rattle.ace_class.specs.declared.class.Class.TheVariants.{Ace}
use Rattle.ace_class.specs.declared.class.TheConstants.{CLASSES}
use Rattle.ace_rules.specs.RuleMasks.{first_of}
use Rattle.ace_rules.specs.Sums.{count_below, count_pairs, sum_below}
use Rattle.ace_rules.specs.Tallies.{ArePairsAdded, IsAdded, IsTally}
use Rattle.ace_rules.specs.declared.tally.RuleMask.{RuleMask}
use Rattle.ace_rules.proofs.FirstMasks.{sum_below-mul}
use Rattle.ace_rules.proofs.Sums.{sum_below-add, sum_below-const, sum_below-same, sum_below-split}
use Rattle.ace_rules.proofs.Tallies.{joined, joined-back, joined-front, pairs-le, tally-next_cycle, tally-no_cycles, zeros}

-- no cycle yet
pub pairs-start : (Has : ℕ → ℕ → Class → Type 0) (bits : ℕ) (row : List ℕ) → ArePairsAdded Has bits 0 row row
unfolding sum_below
pairs-start Has bits row = record {
  classes = λ k t. Ace;
  are = λ k t l m. absurd (omega (arith, m));
  full = refl;
  counts = λ n. let e = sum_below-const bits 0 in omega (arith, e);
}

-- the row has room for what is added
pub pairs-most : (Has : ℕ → ℕ → Class → Type 0) (bits cycles : ℕ) (old row : List ℕ) → ArePairsAdded Has bits cycles old row
    → (n : ℕ) → slice_index row n ≤ slice_index old n + bits * cycles
pairs-most Has bits cycles old row h n =
    let e = h.counts n in let l = pairs-le bits cycles (λ k t. class_number (h.classes k t) == n) in omega (arith, e, l)

-- the classes of pairs
abbrev counted : (ℕ → ℕ → Class) → ℕ → ℕ → ℕ → ℕ
counted classes bits cycles n = count_pairs bits cycles (λ k t. class_number (classes k t) == n)

-- further cycles of the same bits
later-counts : (f g : ℕ → ℕ → Class) (bits m more n : ℕ)
    → counted (λ k. joined m (f k) (g k)) bits (m + more) n ≡ counted f bits m n + counted g bits more n
later-counts f g bits m more n =
    sum_below-same bits _ _ (λ k l.
    sum_below-split m more (λ t. number_of (class_number (joined m (f k) (g k) t) == n))
    ∙ (let a = sum_below-same m _ _ (λ t l. ap (λ c. number_of (class_number c == n)) (joined-front m (f k) (g k) t l)) in
    let b = sum_below-same more _ _ (λ t l. ap (λ c. number_of (class_number c == n)) (joined-back m (f k) (g k) t)) in
    omega (arith, a, b)))
    ∙ sum_below-add bits (λ k. count_below m (λ t. class_number (f k t) == n)) (λ k. count_below more (λ t. class_number (g k t) == n))

pub pairs-later : (Has : ℕ → ℕ → Class → Type 0) (bits m more : ℕ) (old between row : List ℕ) → ArePairsAdded Has bits m old between
    → ArePairsAdded (λ k t. Has k (m + t)) bits more between row → ArePairsAdded Has bits (m + more) old row
pairs-later Has bits m more old between row h next = record {
  classes = λ k. joined m (h.classes k) (next.classes k);
  are = λ k t l b. elim (cases_lt t m) [
    | inl front ↦ rw (joined-front m (h.classes k) (next.classes k) t front) (h.are k t l front)
    | inr behind ↦
        let e : m + (t - m) ≡ t = omega (arith, behind) in
        subst (λ (i : ℕ). Has k i (joined m (h.classes k) (next.classes k) i)) e
        (rw (joined-back m (h.classes k) (next.classes k) (t - m)) (next.are k (t - m) l (omega (arith, behind, b))))
  ];
  full = next.full ∙ h.full;
  counts = λ n.
      let a = h.counts n in
      let b = next.counts n in
      let s = later-counts h.classes next.classes bits m more n in
      omega (arith, a, b, s);
}

-- a tally is what is added to a row of zeros
tally-pairs : (Has : ℕ → ℕ → Class → Type 0) (bits cycles : ℕ) (row : List ℕ) → IsTally Has bits cycles row
    → ArePairsAdded Has bits cycles (replicate CLASSES 0) row
tally-pairs Has bits cycles row h = record {
  classes = h.classes;
  are = h.are;
  full = h.full;
  counts = λ n. let e = h.counts n in let z = zeros CLASSES n in omega (arith, e, z);
}

pairs-tally : (Has : ℕ → ℕ → Class → Type 0) (bits cycles : ℕ) (row : List ℕ) → ArePairsAdded Has bits cycles (replicate CLASSES 0) row
    → IsTally Has bits cycles row
pairs-tally Has bits cycles row h = record {
  classes = h.classes;
  are = h.are;
  full = h.full;
  counts = λ n. let e = h.counts n in let z = zeros CLASSES n in omega (arith, e, z);
}

pub tally-later : (Has : ℕ → ℕ → Class → Type 0) (bits m more : ℕ) (old row : List ℕ) → IsTally Has bits m old
    → ArePairsAdded (λ k t. Has k (m + t)) bits more old row → IsTally Has bits (m + more) row
tally-later Has bits m more old row h next =
    pairs-tally Has bits (m + more) row
    (pairs-later Has bits m more (replicate CLASSES 0) old row (tally-pairs Has bits m old h) next)

-- further bits in the same cycles
more-counts : (f g : ℕ → ℕ → Class) (m more cycles n : ℕ) → counted (joined m f g) (m + more) cycles n ≡ counted f m cycles n + counted g more cycles n
more-counts f g m more cycles n =
    let s = sum_below-split m more (λ k. count_below cycles (λ t. class_number (joined m f g k t) == n)) in
    let a = sum_below-same m _ _ (λ k l. ap (λ (c : ℕ → Class). count_below cycles (λ t. class_number (c t) == n)) (joined-front m f g k l)) in
    let b = sum_below-same more _ _ (λ k l. ap (λ (c : ℕ → Class). count_below cycles (λ t. class_number (c t) == n)) (joined-back m f g k)) in
    omega (arith, s, a, b)

pub tally-more : (Has : ℕ → ℕ → Class → Type 0) (m more cycles : ℕ) (old row : List ℕ) → IsTally Has m cycles old
    → ArePairsAdded (λ k. Has (m + k)) more cycles old row → IsTally Has (m + more) cycles row
tally-more Has m more cycles old row h next = record {
  classes = joined m h.classes next.classes;
  are = λ k t l b. elim (cases_lt k m) [
    | inl front ↦ rw (joined-front m h.classes next.classes k front) (h.are k t front b)
    | inr behind ↦
        let e : m + (k - m) ≡ k = omega (arith, behind) in
        subst (λ (i : ℕ). Has i t (joined m h.classes next.classes i t)) e
        (rw (joined-back m h.classes next.classes (k - m)) (next.are (k - m) t (omega (arith, behind, l)) b))
  ];
  full = next.full ∙ h.full;
  counts = λ n.
      let a = h.counts n in
      let b = next.counts n in
      let s = more-counts h.classes next.classes m more cycles n in
      omega (arith, a, b, s);
}

-- bits that keep their classes, counted by masks of the rules
kept-counts : (bits times : ℕ) (test : ℕ → ℕ) → sum_below bits (λ k. sum_below times (λ t. test k)) ≡ times * sum_below bits test
kept-counts bits times test =
    sum_below-same bits _ _ (λ k l. sum_below-const times (test k) ∙ omega arith)
    ∙ sum_below-mul bits test times ∙ omega arith

pub pairs-kept : (Has : ℕ → ℕ → Class → Type 0) (masks : List RuleMask) (bits times : ℕ) (old row : List ℕ) → length row ≡ length old
    → ((n : ℕ) → slice_index row n ≡ slice_index old n + times * count_below bits (λ k. class_number (first_of masks k) == n))
    → ((k t : ℕ) → k < bits → t < times → Has k t (first_of masks k)) → ArePairsAdded Has bits times old row
pairs-kept Has masks bits times old row full counts are = record {
  classes = λ k t. first_of masks k;
  are = are;
  full = full;
  counts = λ n.
      let c = counts n in
      let s = kept-counts bits times (λ k. number_of (class_number (first_of masks k) == n)) in
      omega (arith, c, s);
}

-- ---- the same row in each cycle

-- a row so many times
scaled : ℕ → List ℕ → List ℕ
scaled t [] = []
scaled t (x ∷ xs) = t * x ∷ scaled t xs

scaled-length : (t : ℕ) (xs : List ℕ) → length (scaled t xs) ≡ length xs
unfolding scaled
scaled-length t [] = refl
scaled-length t (x ∷ xs) = ap suc (scaled-length t xs)

scaled-at : (t : ℕ) (xs : List ℕ) (n : ℕ) → slice_index (scaled t xs) n ≡ t * slice_index xs n
unfolding scaled
scaled-at t [] n = omega arith
scaled-at t (x ∷ xs) zero = refl
scaled-at t (x ∷ xs) (suc n) = scaled-at t xs n

module _ (Has : ℕ → ℕ → Class → Type 0) (bits : ℕ) (start one : List ℕ) (full : length start ≡ CLASSES) (none : (n : ℕ) → slice_index start n ≡ 0) where
  tallied : (times : ℕ) → ((t : ℕ) → t < times → IsAdded (λ k. Has k t) bits start one) → length one ≡ CLASSES → IsTally Has bits times (scaled times one)
  tallied zero each all =
      tally-no_cycles Has bits (scaled 0 one) (scaled-length 0 one ∙ all) (λ n. let s = scaled-at 0 one n in omega (arith, s))
  tallied (suc times) each all =
      let more = each times (omega arith) in
      let e : times + 1 ≡ suc times = omega arith in
      subst (λ (m : ℕ). IsTally Has bits m (scaled (suc times) one)) e
      (tally-next_cycle Has bits times (scaled times one) (scaled (suc times) one) (tallied times (λ t l. each t (omega (arith, l))) all)
      (record {
        classes = more.classes;
        are = more.are;
        full = scaled-length (suc times) one ∙ sym (scaled-length times one);
        counts = λ n.
            let a = scaled-at times one n in
            let b = scaled-at (suc times) one n in
            let c = more.counts n in
            let z = none n in
            let m : suc times * slice_index one n ≡ times * slice_index one n + slice_index one n = suc-mul times (slice_index one n) in
            omega (arith, a, b, c, z, m);
      }))

  pub pairs-each : (times : ℕ) (old row : List ℕ) → ((t : ℕ) → t < times → IsAdded (λ k. Has k t) bits start one) → length one ≡ CLASSES
      → length row ≡ length old → ((n : ℕ) → slice_index row n ≡ slice_index old n + times * slice_index one n) → ArePairsAdded Has bits times old row
  pairs-each times old row each all same counts =
      let h = tallied times each all in
      record {
        classes = h.classes;
        are = h.are;
        full = same;
        counts = λ n.
            let a = counts n in
            let b = h.counts n in
            let s = scaled-at times one n in
            omega (arith, a, b, s);
      }
