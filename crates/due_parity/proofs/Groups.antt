-- Counts of the bits of a group with one parity bit, in stretches of cycles.
use Rattle.std.proofs.Common.{◌≡◌, ℕ, zero, suc, ◌+◌, ◌-◌, ◌*◌, ◌^◌, ◌<◌, ◌≤◌, Bool, true, false, refl, sym, ap, ◌∙◌, arith}
use Rattle.std.specs.Prelude.{if◌then◌else◌}
use Rattle.std.proofs.lemmas.Nat.{mul-le}
use Rattle.bit_field.specs.Layouts.{number_of}
use Rattle.bit_field.specs.declared.places.Place.{Place}
use Rattle.bit_field.specs.declared.places.Structure.{Structure}
use Rattle.bit_field.specs.declared.places.Structure.TheVariants.{Rf}
use Rattle.ace_class.specs.declared.class.Class.{Class}
use Rattle.ace_rules.specs.AceGroups.{AreAces, is_ace}
use Rattle.ace_rules.specs.Notes.{Story}
use Rattle.ace_rules.specs.Sums.{count_below, sum_below}
use Rattle.ace_rules.specs.declared.ace_groups.Aces.{Aces}
use Rattle.ace_rules.proofs.Sums.{sum_below-add, sum_below-const, sum_below-same}
use Rattle.due_parity.specs.Stretches.{AreGroupDetected, CountsGroup, HasAce, HasAcePairs, all_of, bit_in, no_pairs, plus, width}
use Rattle.due_parity.specs.declared.counting.DueCounts.{DueCounts}
use Rattle.due_parity.proofs.Ranges.{count-most}
use Rattle.due_parity.proofs.Stretched.{all-counted, detected, joined, more-ace, no-ace, nothing, undetected}

-- ---- sums

sum-most : (n m : ℕ) (f : ℕ → ℕ) → ((k : ℕ) → k < n → f k ≤ m) → sum_below n f ≤ n * m
unfolding sum_below
sum-most zero m f h = omega arith
sum-most (suc n) m f h =
    let rest = sum-most n m f (λ k l. h k (omega (arith, l))) in
    let last = h n (omega arith) in
    let more : suc n * m ≡ n * m + m = grind arith in
    omega (arith, rest, last, more)

one-more : (b : Bool) (c m r : ℕ) → r ≡ m * c → r + (if b then c else 0) ≡ (m + number_of b) * c
one-more true c m r e = let more : (m + 1) * c ≡ m * c + c = grind arith in omega (arith, e, more)
one-more false c m r e = let same : (m + 0) * c ≡ m * c = grind arith in omega (arith, e, same)

-- the same number for each that passes a test
sum-where : (n c : ℕ) (test : ℕ → Bool) → sum_below n (λ k. if test k then c else 0) ≡ count_below n test * c
unfolding sum_below
sum-where zero c test = omega arith
sum-where (suc n) c test =
    one-more (test n) c (count_below n test) (sum_below n (λ k. if test k then c else 0)) (sum-where n c test)

-- what is left of the same number for each
sum-left : (n m : ℕ) (f : ℕ → ℕ) → ((k : ℕ) → k < n → f k ≤ m) → sum_below n (λ k. m - f k) + sum_below n f ≡ n * m
sum-left n m f h =
    sym (sum_below-add n (λ k. m - f k) f)
    ∙ sum_below-same n (λ k. m - f k + f k) (λ k. m) (λ k l. let most = h k l in omega (arith, most))
    ∙ sum_below-const n m

pub width-most : (s : Structure) → width s ≤ 32
width-most Rf = omega arith
width-most _ = omega arith

-- two counts of bits in cycles together fit into 64 bits
pub pairs-fit : (bits from until cycles first second : ℕ) → bits ≤ 32 → until ≤ cycles → cycles ≤ 2 ^ 31 → first ≡ bits * from
    → second ≡ bits * (until - from) → from ≤ cycles → first + second < 2 ^ 64
pairs-fit bits from until cycles first second few within short e f below =
    let one = mul-le bits from 32 (2 ^ 31) few (omega (arith, below, short)) in
    let two = mul-le bits (until - from) 32 (2 ^ 31) few (omega (arith, within, short)) in
    omega (arith, e, f, one, two)

-- and so do those of some groups and of one more
pub groups-fit : (bits groups cycles first second : ℕ) → bits ≤ 32 → groups < 2 ^ 32 → cycles ≤ 1000000 → first ≡ bits * groups * cycles
    → second ≡ bits * (cycles - 0) → first + second < 2 ^ 64
groups-fit bits groups cycles first second few all short e f =
    let one = mul-le bits groups 32 (2 ^ 32) few (omega (arith, all)) in
    let two = mul-le (bits * groups) cycles (32 * 2 ^ 32) 1000000 (omega (arith, one)) short in
    let three = mul-le bits (cycles - 0) 32 1000000 few (omega (arith, short)) in
    omega (arith, e, f, two, three)

-- ---- one bit

ace-most : (story : Story) (p : Place) (from until n : ℕ) → HasAce story p from until n → n ≤ until - from
ace-most story p from until n h =
    let e = h.count in
    let most = count-most (until - from) from (λ t. is_ace (h.classes t)) in
    omega (arith, e, most)

-- what a bit of a class adds in so many cycles
abbrev added : (ℕ → Class) → ℕ → ℕ → ℕ
added classes cycles k = if is_ace (classes k) then cycles else 0

module _ (story : Story) (s : Structure) (group : ℕ) where
  -- ---- the pairs that are ACE

  pub no-ace-pairs : (from : ℕ) → HasAcePairs story s group from from 0
  no-ace-pairs from = record {
    aces = λ k. 0;
    are = λ k l. no-ace story (bit_in s group k) from;
    count = let e = sum_below-const (width s) 0 in omega (arith, e);
  }

  pub more-ace-pairs : (from t next n : ℕ) (aces : Aces) → from ≤ t → t ≤ next → next ≤ aces.until
      → AreAces story s (width s * group) (width s) t aces → HasAcePairs story s group from t n
      → HasAcePairs story s group from next (n + aces.bits * (next - t))
  more-ace-pairs from t next n aces l m within x before = record {
    aces = λ k. before.aces k + added x.classes (next - t) k;
    are = λ k b.
        more-ace story (bit_in s group k) from t next (before.aces k) (added x.classes (next - t) k) (x.classes k) l m
        (λ u o p. x.are k u b o (omega (arith, p, within))) refl (before.are k b);
    count =
        let so_far = before.count in
        let more = ap (λ (i : ℕ). i * (next - t)) x.count ∙ sym (sum-where (width s) (next - t) (λ k. is_ace (x.classes k))) in
        let both = sum_below-add (width s) before.aces (added x.classes (next - t)) in
        omega (arith, so_far, more, both);
  }

  pub pairs-most : (from until n : ℕ) → HasAcePairs story s group from until n → n ≤ width s * (until - from)
  pairs-most from until n h =
      let e = h.count in
      let most = sum-most (width s) (until - from) h.aces (λ k l. ace-most story (bit_in s group k) from until (h.aces k) (h.are k l)) in
      omega (arith, e, most)

  pub pairs-few : (from until n : ℕ) → HasAcePairs story s group from until n → n ≤ 32 * (until - from)
  pairs-few from until n h =
      let most = pairs-most from until n h in
      let few = mul-le (width s) (until - from) 32 (until - from) (width-most s) (omega arith) in
      omega (arith, most, few)

  -- ---- one stretch

  pub group-detected : (from until ace all : ℕ) → from ≤ until → all ≡ width s * (until - from) → AreGroupDetected story s group from until true
      → HasAcePairs story s group from until ace → CountsGroup story s group from until (record { true_due = ace; false_due = all - ace; quiet = 0 })
  group-detected from until ace all l whole are has = record {
    parts = λ k. record { true_due = has.aces k; false_due = until - from - has.aces k; quiet = 0 };
    are = λ k b. detected story (bit_in s group k) from until (has.aces k) l (are k b) (has.are k b);
    true_due = has.count;
    false_due =
        let e = has.count in
        let left = sum-left (width s) (until - from) has.aces (λ k b. ace-most story (bit_in s group k) from until (has.aces k) (has.are k b)) in
        omega (arith, e, left, whole);
    quiet = let e = sum_below-const (width s) 0 in omega (arith, e);
  }

  pub group-undetected : (from until all : ℕ) → from ≤ until → all ≡ width s * (until - from) → AreGroupDetected story s group from until false
      → CountsGroup story s group from until (record { true_due = 0; false_due = 0; quiet = all })
  group-undetected from until all l whole are = record {
    parts = λ k. record { true_due = 0; false_due = 0; quiet = until - from };
    are = λ k b. undetected story (bit_in s group k) from until l (are k b);
    true_due = let e = sum_below-const (width s) 0 in omega (arith, e);
    false_due = let e = sum_below-const (width s) 0 in omega (arith, e);
    quiet = whole ∙ sym (sum_below-const (width s) (until - from));
  }

  -- ---- one stretch after another

  pub group-nothing : CountsGroup story s group 0 0 no_pairs
  group-nothing = record {
    parts = λ k. no_pairs;
    are = λ k b. nothing story (bit_in s group k);
    true_due = let e = sum_below-const (width s) 0 in omega (arith, e);
    false_due = let e = sum_below-const (width s) 0 in omega (arith, e);
    quiet = let e = sum_below-const (width s) 0 in omega (arith, e);
  }

  pub group-joined : (a b c : ℕ) (first second : DueCounts) → a ≤ b → b ≤ c → CountsGroup story s group a b first
      → CountsGroup story s group b c second → CountsGroup story s group a c (plus first second)
  group-joined a b c first second l m x y = record {
    parts = λ k. plus (x.parts k) (y.parts k);
    are = λ k o. joined story (bit_in s group k) a b c (x.parts k) (y.parts k) l m (x.are k o) (y.are k o);
    true_due =
        let one = x.true_due in
        let two = y.true_due in
        let both = sum_below-add (width s) (λ k. (x.parts k).true_due) (λ k. (y.parts k).true_due) in
        omega (arith, one, two, both);
    false_due =
        let one = x.false_due in
        let two = y.false_due in
        let both = sum_below-add (width s) (λ k. (x.parts k).false_due) (λ k. (y.parts k).false_due) in
        omega (arith, one, two, both);
    quiet =
        let one = x.quiet in
        let two = y.quiet in
        let both = sum_below-add (width s) (λ k. (x.parts k).quiet) (λ k. (y.parts k).quiet) in
        omega (arith, one, two, both);
  }

  pub all-of-group : (from until : ℕ) (counts : DueCounts) → CountsGroup story s group from until counts → all_of counts ≡ width s * (until - from)
  all-of-group from until counts h =
      let one = h.true_due in
      let two = h.false_due in
      let three = h.quiet in
      let first = sum_below-add (width s) (λ k. (h.parts k).true_due) (λ k. (h.parts k).false_due) in
      let both = sum_below-add (width s) (λ k. (h.parts k).true_due + (h.parts k).false_due) (λ k. (h.parts k).quiet) in
      let each = sum_below-same (width s) (λ k. all_of (h.parts k)) (λ k. until - from)
      (λ k b. all-counted story (bit_in s group k) from until (h.parts k) (h.are k b)) in
      let all = sum_below-const (width s) (until - from) in
      omega (arith, one, two, three, first, both, each, all)
