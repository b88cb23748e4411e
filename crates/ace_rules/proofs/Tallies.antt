-- Rows of counts, made bit by bit, cycle by cycle, or stretch by stretch.
use Rattle.std.proofs.Common.{◌≡◌, ◌≢◌, ℕ, zero, suc, ◌^◌, ◌+◌, ◌-◌, ◌*◌, ◌<◌, ◌≤◌, ◌==◌, cond, Bool, true, false, nat_lt, List, length, set, refl, sym, ap, ◌∙◌, subst, inl, inr, arith, sum_by}
use Rattle.std.specs.Prelude.{slice_index, replicate}
use Rattle.std.proofs.lemmas.Bool.{cases_lt, cases_eq}
use Rattle.std.proofs.lemmas.Bool.Decides.{nat_tests}
use Rattle.std.proofs.lemmas.List.{get_or-set_same, get_or-set_other}
use Rattle.std.proofs.Math.ListN.{length-set}
use Rattle.std.proofs.Math.Path.{fun_ext}
use Rattle.std.proofs.lemmas.Nat.{mul-le}
use Rattle.bit_field.specs.Layouts.{number_of}
use Rattle.ace_class.specs.Classes.{class_number, classes}
use Rattle.ace_class.specs.declared.class.Class.{Class}
use Rattle.ace_class.specs.declared.class.Class.TheVariants.{Ace, UnAce}
use Rattle.ace_class.specs.declared.class.TheConstants.{CLASSES}
use Rattle.ace_class.specs.declared.class.Rule.TheVariants.{Timing, EmptyPlace, WrongPath, OnPath, Masked, DeadRegister, DeadData}
use Rattle.ace_class.specs.declared.class.Rule.TheVariants.{StoreRedirection, CleanData, CleanLine, UnaccessedLine, CleanTag, NoTrapCause}
use Rattle.ace_rules.specs.Sums.{count_below, count_pairs, sum_below}
use Rattle.ace_rules.specs.Tallies.{IsAdded, IsTally}
use Rattle.ace_rules.proofs.Sums.{sum_below-suc, sum_below-same, sum_below-const, sum_below-le, sum_below-on, sum_by-sum_below, sum_below-add, sum_below-split}

-- each number has one class at most
abbrev pub HasOne : (ℕ → Class → Type 0) → Type 0
HasOne Has = (k : ℕ) (c d : Class) → Has k c → Has k d → c ≡ d

pub number-le : (b : Bool) → number_of b ≤ 1
number-le true = omega arith
number-le false = omega arith

pub count-le : (n : ℕ) (test : ℕ → Bool) → count_below n test ≤ n
count-le n test = let h = sum_below-le n 1 (λ k. number_of (test k)) (λ k. number-le (test k)) in omega (arith, h)

pub pairs-le : (m n : ℕ) (test : ℕ → ℕ → Bool) → count_pairs m n test ≤ m * n
pairs-le m n test = sum_below-le m n (λ k. count_below n (test k)) (λ k. count-le n (test k))

pub number-most : (c : Class) → class_number c < CLASSES
number-most Ace = omega arith
number-most (UnAce Timing) = omega arith
number-most (UnAce EmptyPlace) = omega arith
number-most (UnAce WrongPath) = omega arith
number-most (UnAce OnPath) = omega arith
number-most (UnAce Masked) = omega arith
number-most (UnAce DeadRegister) = omega arith
number-most (UnAce DeadData) = omega arith
number-most (UnAce StoreRedirection) = omega arith
number-most (UnAce CleanData) = omega arith
number-most (UnAce CleanLine) = omega arith
number-most (UnAce UnaccessedLine) = omega arith
number-most (UnAce CleanTag) = omega arith
number-most (UnAce NoTrapCause) = omega arith

-- a row with more at one place
pub put-at : (row : List ℕ) (i n by : ℕ) → i < length row → slice_index (set row i (slice_index row i + by)) n ≡ slice_index row n + by * number_of (i == n)
put-at row i n by within =
    elim (cases_eq n i) [
      | inl e ↦
          let same : slice_index (set row i (slice_index row i + by)) i ≡ slice_index row i + by =
          get_or-set_same row i (slice_index row i + by) 0 within in
          rw (e, same) (grind (arith, nat_tests))
      | inr d ↦
          let other : slice_index (set row i (slice_index row i + by)) n ≡ slice_index row n =
          get_or-set_other row i n (slice_index row i + by) 0 d in
          rw other (grind (arith, nat_tests))
    ]

-- ---- a stretch of numbers that have one class

-- classes up to before `from` as they were, and one class from there on
and_on : (ℕ → Class) → ℕ → Class → ℕ → Class
and_on classes from class k = cond (nat_lt k from) (classes k) class

before : (classes : ℕ → Class) (from : ℕ) (class : Class) (k : ℕ) → k < from → and_on classes from class k ≡ classes k
unfolding and_on
before classes from class k l = grind (arith, nat_tests)

after : (classes : ℕ → Class) (from : ℕ) (class : Class) (k : ℕ) → from ≤ k → and_on classes from class k ≡ class
unfolding and_on
after classes from class k l = grind (arith, nat_tests)

pub added-start : (Has : ℕ → Class → Type 0) (row : List ℕ) → IsAdded Has 0 row row
unfolding sum_below
added-start Has row = record {
  classes = λ k. Ace;
  are = λ k l. absurd (omega (arith, l));
  full = refl;
  counts = λ n. omega arith;
}

module _ (Has : ℕ → Class → Type 0) (one : HasOne Has) (from until : ℕ) (old row : List ℕ) (so_far : IsAdded Has from old row) (class : Class)
    (further : from < until) (here : Has from class) where
  stretch : (n : ℕ) → count_below until (λ k. class_number (and_on so_far.classes from class k) == n)
      ≡ count_below from (λ k. class_number (so_far.classes k) == n) + (until - from) * number_of (class_number class == n)
  stretch n =
      let e : from + (until - from) ≡ until = omega arith in
      ap (λ (i : ℕ). count_below i (λ k. class_number (and_on so_far.classes from class k) == n)) (sym e)
      ∙ sum_below-on from (until - from) (number_of (class_number class == n)) (λ k. number_of (class_number (and_on so_far.classes from class k) == n))
      (λ k l m. ap (λ c. number_of (class_number c == n)) (after so_far.classes from class k l))
      ∙ ap (λ (s : ℕ). s + (until - from) * number_of (class_number class == n))
      (sum_below-same from _ _ (λ k l. ap (λ c. number_of (class_number c == n)) (before so_far.classes from class k l)))

  -- the next numbers have a class, up to before `until`
  pub added-on : (other : Class) → ((k : ℕ) → from ≤ k → k < until → Has k other) → (i by : ℕ) → i ≡ class_number class → i < length row
      → by ≡ until - from → IsAdded Has until old (set row i (slice_index row i + by))
  added-on other same i by is within length =
      let e : class ≡ other = one from class other here (same from (omega arith) further) in
      rw length record {
        classes = and_on so_far.classes from class;
        are = λ k l. elim (cases_lt k from) [
          | inl b ↦ rw (before so_far.classes from class k b) (so_far.are k b)
          | inr b ↦ rw (after so_far.classes from class k b, e) (same k b l)
        ];
        full = length-set row _ _ ∙ so_far.full;
        counts = λ n. let h = so_far.counts n in put-at row i n (until - from) within ∙ rw is (omega (arith, h, stretch n));
      }

-- one number more
pub added-next : (Has : ℕ → Class → Type 0) → HasOne Has → (from : ℕ) (old row : List ℕ) → IsAdded Has from old row → (class : Class) → Has from class
    → (i : ℕ) → i ≡ class_number class → i < length row → IsAdded Has (from + 1) old (set row i (slice_index row i + 1))
added-next Has one from old row so_far class here i is within =
    added-on Has one from (from + 1) old row so_far class (omega arith) here class
    (λ k l m. let e : from ≡ k = omega (arith, l, m) in subst (λ (j : ℕ). Has j class) e here) i 1 is within (omega arith)

-- the row has room for what is added
pub added-most : (Has : ℕ → Class → Type 0) (end : ℕ) (old row : List ℕ) → IsAdded Has end old row → (n : ℕ) → slice_index row n ≤ slice_index old n + end
added-most Has end old row h n = let e = h.counts n in let l = count-le end (λ k. class_number (h.classes k) == n) in omega arith

-- the values of m numbers, and those of the numbers behind them
pub joined : {A : Type 0} → ℕ → (ℕ → A) → (ℕ → A) → ℕ → A
joined m f g k = cond (nat_lt k m) (f k) (g (k - m))

pub joined-front : {A : Type 0} (m : ℕ) (f g : ℕ → A) (k : ℕ) → k < m → joined m f g k ≡ f k
unfolding joined
joined-front m f g k l = grind (arith, nat_tests)

pub joined-back : {A : Type 0} (m : ℕ) (f g : ℕ → A) (k : ℕ) → joined m f g (m + k) ≡ g k
unfolding joined
joined-back m f g k =
    let e : m + k - m ≡ k = omega arith in
    let b : nat_lt (m + k) m ≡ false = grind (arith, nat_tests) in
    rw b (ap g e)

-- numbers behind those that have a class
pub added-behind : (Has : ℕ → Class → Type 0) (m n : ℕ) (old between row : List ℕ) → IsAdded Has m old between
    → IsAdded (λ k. Has (m + k)) n between row → IsAdded Has (m + n) old row
added-behind Has m n old between row h more =
    record {
      classes = joined m h.classes more.classes;
      are = λ k l. elim (cases_lt k m) [
        | inl b ↦ rw (joined-front m h.classes more.classes k b) (h.are k b)
        | inr b ↦
            let e : m + (k - m) ≡ k = omega (arith, b) in
            subst (λ (i : ℕ). Has i (joined m h.classes more.classes i)) e
            (rw (joined-back m h.classes more.classes (k - m)) (more.are (k - m) (omega (arith, b, l))))
      ];
      full = more.full ∙ h.full;
      counts = λ i.
          let a = h.counts i in
          let b = more.counts i in
          let s = sum_below-split m n (λ k. number_of (class_number (joined m h.classes more.classes k) == i)) in
          let f = sum_below-same m _ _ (λ k l. ap (λ c. number_of (class_number c == i)) (joined-front m h.classes more.classes k l)) in
          let g = sum_below-same n _ _ (λ k l. ap (λ c. number_of (class_number c == i)) (joined-back m h.classes more.classes k)) in
          omega (arith, a, b, s, f, g);
    }

-- numbers that all have one class
pub added-all : (Has : ℕ → Class → Type 0) (class : Class) (count : ℕ) → ((k : ℕ) → k < count → Has k class) → (old : List ℕ) (i by : ℕ)
    → i ≡ class_number class → i < length old → by ≡ count → IsAdded Has count old (set old i (slice_index old i + by))
added-all Has class count same old i by is within all = record {
  classes = λ k. class;
  are = same;
  full = length-set old _ _;
  counts = λ n.
      let p = put-at old i n by within in
      let s = sum_below-const count (number_of (class_number class == n)) in
      p ∙ rw (is, all) (omega (arith, s));
}

-- ---- bits or cycles one by one

pub zeros : (m n : ℕ) → slice_index (replicate m 0) n ≡ 0
zeros zero n = refl
zeros (suc m) zero = refl
zeros (suc m) (suc n) = zeros m n

pub tally-no_bits : (Has : ℕ → ℕ → Class → Type 0) (cycles : ℕ) (row : List ℕ) → length row ≡ CLASSES → ((n : ℕ) → slice_index row n ≡ 0) → IsTally Has 0 cycles row
unfolding sum_below
tally-no_bits Has cycles row full none = record {
  classes = λ k t. Ace;
  are = λ k t l m. absurd (omega (arith, l));
  full = full;
  counts = none;
}

pub tally-no_cycles : (Has : ℕ → ℕ → Class → Type 0) (bits : ℕ) (row : List ℕ) → length row ≡ CLASSES → ((n : ℕ) → slice_index row n ≡ 0) → IsTally Has bits 0 row
unfolding sum_below
tally-no_cycles Has bits row full none = record {
  classes = λ k t. Ace;
  are = λ k t l m. absurd (omega (arith, m));
  full = full;
  counts = λ n. let e = sum_below-const bits 0 in none n ∙ omega (arith, e);
}

-- a value for all but one number
with : {A : Type 0} → (ℕ → A) → ℕ → A → ℕ → A
with f n x k = cond (k == n) x (f k)

with-here : {A : Type 0} (f : ℕ → A) (n : ℕ) (x : A) → with f n x n ≡ x
unfolding with
with-here f n x = grind (arith, nat_tests)

with-there : {A : Type 0} (f : ℕ → A) (n : ℕ) (x : A) (k : ℕ) → k ≢ n → with f n x k ≡ f k
unfolding with
with-there f n x k d = grind (arith, nat_tests)

pub tally-next_bit : (Has : ℕ → ℕ → Class → Type 0) (bit cycles : ℕ) (old row : List ℕ) → IsTally Has bit cycles old → IsAdded (Has bit) cycles old row
    → IsTally Has (bit + 1) cycles row
tally-next_bit Has bit cycles old row so_far more = record {
  classes = with so_far.classes bit more.classes;
  are = λ k t l m. elim (cases_eq k bit) [
    | inl e ↦ rw (e, with-here so_far.classes bit more.classes) (more.are t m)
    | inr d ↦ rw (with-there so_far.classes bit more.classes k d) (so_far.are k t (omega arith) m)
  ];
  full = more.full ∙ so_far.full;
  counts = λ n.
      let h = so_far.counts n in
      let e = more.counts n in
      let s = sum_below-suc bit (λ k. count_below cycles (λ t. class_number (with so_far.classes bit more.classes k t) == n)) in
      let f : count_below cycles (λ t. class_number (with so_far.classes bit more.classes bit t) == n) ≡ count_below cycles (λ t. class_number (more.classes t) == n) =
      ap (λ (c : ℕ → Class). count_below cycles (λ t. class_number (c t) == n)) (with-here so_far.classes bit more.classes) in
      let g : count_pairs bit cycles (λ k t. class_number (with so_far.classes bit more.classes k t) == n) ≡ count_pairs bit cycles (λ k t. class_number (so_far.classes k t) == n) =
      sum_below-same bit _ _ (λ k l. ap (λ (c : ℕ → Class). count_below cycles (λ t. class_number (c t) == n)) (with-there so_far.classes bit more.classes k (omega arith))) in
      omega (arith, h, e, s, f, g);
}

pub tally-next_cycle : (Has : ℕ → ℕ → Class → Type 0) (bits cycle : ℕ) (old row : List ℕ) → IsTally Has bits cycle old → IsAdded (λ k. Has k cycle) bits old row
    → IsTally Has bits (cycle + 1) row
tally-next_cycle Has bits cycle old row so_far more = record {
  classes = λ k. with (so_far.classes k) cycle (more.classes k);
  are = λ k t l m. elim (cases_eq t cycle) [
    | inl e ↦ rw (e, with-here (so_far.classes k) cycle (more.classes k)) (more.are k l)
    | inr d ↦ rw (with-there (so_far.classes k) cycle (more.classes k) t d) (so_far.are k t l (omega arith))
  ];
  full = more.full ∙ so_far.full;
  counts = λ n.
      let h = so_far.counts n in
      let e = more.counts n in
      let s : (k : ℕ) → count_below (cycle + 1) (λ t. class_number (with (so_far.classes k) cycle (more.classes k) t) == n)
      ≡ count_below cycle (λ t. class_number (so_far.classes k t) == n) + number_of (class_number (more.classes k) == n) =
      λ k. sum_below-suc cycle (λ t. number_of (class_number (with (so_far.classes k) cycle (more.classes k) t) == n))
      ∙ ap (λ (x : ℕ). x + number_of (class_number (with (so_far.classes k) cycle (more.classes k) cycle) == n))
      (sum_below-same cycle _ _ (λ t l. ap (λ c. number_of (class_number c == n)) (with-there (so_far.classes k) cycle (more.classes k) t (omega arith))))
      ∙ ap (λ c. count_below cycle (λ t. class_number (so_far.classes k t) == n) + number_of (class_number c == n)) (with-here (so_far.classes k) cycle (more.classes k)) in
      let g = sum_below-same bits _ _ (λ k l. s k) in
      let a = sum_below-add bits (λ k. count_below cycle (λ t. class_number (so_far.classes k t) == n)) (λ k. number_of (class_number (more.classes k) == n)) in
      omega (arith, h, e, g, a);
}

-- no bits yet
pub tally-none : (Has : ℕ → ℕ → Class → Type 0) (cycles : ℕ) → IsTally Has 0 cycles (replicate CLASSES 0)
tally-none Has cycles = tally-no_bits Has cycles (replicate CLASSES 0) refl (zeros CLASSES)

pub tally-most : (Has : ℕ → ℕ → Class → Type 0) (bits cycles : ℕ) (row : List ℕ) → IsTally Has bits cycles row → (n : ℕ) → slice_index row n ≤ bits * cycles
tally-most Has bits cycles row h n = rw (h.counts n) (pairs-le bits cycles (λ k t. class_number (h.classes k t) == n))

-- no cycles yet
pub tally-none_yet : (Has : ℕ → ℕ → Class → Type 0) (bits : ℕ) → IsTally Has bits 0 (replicate CLASSES 0)
tally-none_yet Has bits = tally-no_cycles Has bits (replicate CLASSES 0) refl (zeros CLASSES)

-- with room for the cycles that are left
pub tally-room_for_cycles : (Has : ℕ → ℕ → Class → Type 0) (bits cycle cycles : ℕ) (row : List ℕ) → IsTally Has bits cycle row → bits ≤ 65536
    → cycle ≤ cycles → cycles ≤ 1000000 → (n : ℕ) → slice_index row n + bits * (cycles - cycle) < 2 ^ 64
tally-room_for_cycles Has bits cycle cycles row h few within short n =
    let m = tally-most Has bits cycle row h n in
    let p = mul-le bits cycle 65536 cycles few within in
    let q = mul-le bits (cycles - cycle) 65536 cycles few (omega arith) in
    omega (arith, m, p, q, short)

-- with room for one bit more
pub tally-room : (Has : ℕ → ℕ → Class → Type 0) (bit cycles : ℕ) (row : List ℕ) → IsTally Has bit cycles row → bit < 2 ^ 32 → cycles ≤ 1000000
    → (n : ℕ) → slice_index row n + cycles < 2 ^ 64
tally-room Has bit cycles row h few short n =
    let m = tally-most Has bit cycles row h n in
    let p = mul-le bit cycles (2 ^ 32) 1000000 (omega arith) short in
    omega (arith, m, p)

-- with room for eight bits more
pub tally-room_for_byte : (Has : ℕ → ℕ → Class → Type 0) (bit cycles : ℕ) (row : List ℕ) → IsTally Has bit cycles row → bit < 2 ^ 32 → cycles ≤ 1000000
    → (n : ℕ) → slice_index row n + 8 * cycles < 2 ^ 64
tally-room_for_byte Has bit cycles row h few short n =
    let m = tally-most Has bit cycles row h n in
    let p = mul-le bit cycles (2 ^ 32) 1000000 (omega arith) short in
    omega (arith, m, p)

-- ---- all classes together

one_class : (c : Class) → sum_by (λ d. number_of (class_number c == class_number d)) classes ≡ 1
one_class Ace = refl
one_class (UnAce Timing) = refl
one_class (UnAce EmptyPlace) = refl
one_class (UnAce WrongPath) = refl
one_class (UnAce OnPath) = refl
one_class (UnAce Masked) = refl
one_class (UnAce DeadRegister) = refl
one_class (UnAce DeadData) = refl
one_class (UnAce StoreRedirection) = refl
one_class (UnAce CleanData) = refl
one_class (UnAce CleanLine) = refl
one_class (UnAce UnaccessedLine) = refl
one_class (UnAce CleanTag) = refl
one_class (UnAce NoTrapCause) = refl

-- each pair is counted once
pub tally-all : (Has : ℕ → ℕ → Class → Type 0) (bits cycles : ℕ) (row : List ℕ) → IsTally Has bits cycles row
    → sum_by (λ c. slice_index row (class_number c)) classes ≡ bits * cycles
tally-all Has bits cycles row h =
    ap (λ (f : Class → ℕ). sum_by f classes) (fun_ext (λ c. h.counts (class_number c)))
    ∙ sum_by-sum_below bits (λ c k. count_below cycles (λ t. class_number (h.classes k t) == class_number c)) classes
    ∙ sum_below-same bits _ _ (λ k l.
    sum_by-sum_below cycles (λ c t. number_of (class_number (h.classes k t) == class_number c)) classes
    ∙ sum_below-same cycles _ _ (λ t m. one_class (h.classes k t)) ∙ sum_below-const cycles 1 ∙ omega arith)
    ∙ sum_below-const bits cycles

-- ---- a row is known by what it counts

pub tally-one : (Has : ℕ → ℕ → Class → Type 0) (bits cycles : ℕ) (a b : List ℕ) → ((k : ℕ) → HasOne (Has k)) → IsTally Has bits cycles a
    → IsTally Has bits cycles b → (n : ℕ) → slice_index a n ≡ slice_index b n
tally-one Has bits cycles a b one h k n =
    h.counts n
    ∙ sum_below-same bits _ _ (λ i l. sum_below-same cycles _ _ (λ t m.
    ap (λ c. number_of (class_number c == n)) (one i t _ _ (h.are i t l m) (k.are i t l m))))
    ∙ sym (k.counts n)
