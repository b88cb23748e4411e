-- The needs of a run have a table: that there is none is absurd. So what is proved of a run with the table of its needs, and is decidable,
-- holds of every run, whether or not there is memory to make the table.
use Rattle.std.proofs.Common.{◌≡◌, ◌⊎◌, ℕ, zero, suc, ◌+◌, ◌-◌, ◌^◌, ◌<◌, ◌≤◌, Bool, true, false, List, [], ◌∷◌, length, refl, sym, ◌∙◌, subst, ap, arith, inl, inr}
use Rattle.std.specs.Prelude.{◌↔◌, ◌==◌, if◌then◌else◌, drop, nat_le, slice_index_or, Some, bit_xor}
use Rattle.std.specs.BTreeMap.{is_at}
use Rattle.std.specs.Int.{bit_at}
use Rattle.std.specs.Map.{lookup}
use Rattle.std.specs.Ordering.{nat_cmp}
use Rattle.std.proofs.lemmas.Bool.{cases_lt}
use Rattle.std.proofs.lemmas.Bool.Decides.{nat_tests}
use Rattle.std.proofs.lemmas.List.{drop_all}
use Rattle.std.proofs.lemmas.Nat.Bits.{bit_at-lt, bit_at-zero}
use Rattle.bit_field.proofs.Bits.{bit_at-flip_other, bit_at-flip_same}
use Rattle.bit_field.proofs.Low.{bit_at-mod}
use Rattle.rv_isa.specs.declared.effect.Retired.{Retired}
use Rattle.need_pass.specs.Histories.{mask_after, mask_at}
use Rattle.need_pass.specs.Needed.{Needed}
use Rattle.need_pass.specs.ProgramBits.{Byte, ProgramBit, Register}
use Rattle.need_pass.specs.Tables.{IsNeedOf, Needs, byte_need, reg_need}
use Rattle.need_pass.specs.declared.history.Change.{Change}

-- ---- what can't be absent

abbrev NotAbsent : Type 0 → Type 0
NotAbsent P = (P → ⊥) → ⊥

decided : (P : Type 0) → NotAbsent (P ⊎ (P → ⊥))
decided P h = h (inr (λ p. h (inl p)))

put : {A : Type 0} → (ℕ → A) → ℕ → A → ℕ → A
put f n x k = if k == n then x else f k

put_is : {A : Type 0} (Q : ℕ → A → Type 0) (f : ℕ → A) (n : ℕ) (x : A) → ((k : ℕ) → k < n → Q k (f k)) → Q n x → (k : ℕ) → k < suc n
    → (b : Bool) → (k == n) ≡ b → Q k (if b then x else f k)
put_is Q f n x each at k l true e = let same : n ≡ k = grind (arith, nat_tests) in subst (λ j. Q j x) same at
put_is Q f n x each at k l false e = each k (grind (arith, nat_tests))

-- a choice for each of the first n numbers
chosen : {A : Type 0} (Q : ℕ → A → Type 0) (a : A) (n : ℕ) → ((k : ℕ) → k < n → NotAbsent ((x : A) × Q k x))
    → NotAbsent ((f : ℕ → A) × ((k : ℕ) → k < n → Q k (f k)))
unfolding put
chosen Q a zero each h = h (λ k. a, λ k l. absurd (omega (arith, l)))
chosen Q a (suc n) each h =
    chosen Q a n (λ k l. each k (omega (arith, l)))
    (λ (f, is). each n (omega arith) (λ (x, at). h (put f n x, λ k l. put_is Q f n x is at k l (k == n) refl)))

-- ---- a number with given bits

abbrev HasBits : ℕ → (ℕ → Type 0) → ℕ → Type 0
HasBits w P m = (k : ℕ) → k < w → (bit_at m k ≡ 1) ↔ P k

one_more : (P : ℕ → Type 0) (w m n : ℕ) → HasBits w P m → ((k : ℕ) → k < w → bit_at n k ≡ bit_at m k) → ((bit_at n w ≡ 1) ↔ P w)
    → HasBits (suc w) P n
one_more P w m n is same at k l =
    elim (cases_lt k w) [
      | inl below ↦ (λ one. (is k below).0 (sym (same k below) ∙ one), λ p. same k below ∙ (is k below).1 p)
      | inr above ↦ let e : w ≡ k = omega (arith, l, above) in subst (λ j. (bit_at n j ≡ 1) ↔ P j) e at
    ]

flipped_same : (w m k : ℕ) → k < w → bit_at (bit_xor m (2 ^ w)) k ≡ bit_at m k
flipped_same w m k l = bit_at-flip_other m w k (λ e. omega (arith, l, e))

with_bit : (P : ℕ → Type 0) (w m : ℕ) → HasBits w P m → (P w ⊎ (P w → ⊥)) → ((bit_at m w ≡ 1) ⊎ (bit_at m w ≡ 0)) → (n : ℕ) × HasBits (suc w) P n
with_bit P w m is (inl p) (inl one) = (m, one_more P w m m is (λ k l. refl) (λ _. p, λ _. one))
with_bit P w m is (inr none) (inr nil) = (m, one_more P w m m is (λ k l. refl) (λ one. absurd (omega (arith, one, nil)), λ p. absurd (none p)))
with_bit P w m is (inl p) (inr nil) =
    let n = bit_xor m (2 ^ w) in
    let one : bit_at n w ≡ 1 = omega (arith, bit_at-flip_same m w, nil) in
    (n, one_more P w m n is (flipped_same w m) (λ _. p, λ _. one))
with_bit P w m is (inr none) (inl one) =
    let n = bit_xor m (2 ^ w) in
    let nil : bit_at n w ≡ 0 = omega (arith, bit_at-flip_same m w, one) in
    (n, one_more P w m n is (flipped_same w m) (λ e. absurd (omega (arith, e, nil)), λ p. absurd (none p)))

one_or_nil : (m w : ℕ) → (bit_at m w ≡ 1) ⊎ (bit_at m w ≡ 0)
one_or_nil m w = elim (cases_lt (bit_at m w) 1) [ inl l ↦ inr (omega (arith, l)) | inr g ↦ inl (omega (arith, g, bit_at-lt m w)) ]

masked : (P : ℕ → Type 0) (w : ℕ) → NotAbsent ((m : ℕ) × HasBits w P m)
masked P zero h = h (0, λ k l. absurd (omega (arith, l)))
masked P (suc w) h = masked P w (λ (m, is). decided (P w) (λ d. h (with_bit P w m is d (one_or_nil m w))))

-- ---- a list of changes with given masks

history : (ℕ → ℕ) → ℕ → List Change
history f zero = []
history f (suc n) = record { at = n; mask = f n } ∷ history f n

past : (f : ℕ → ℕ) (n i m : ℕ) → n ≤ i → mask_after m (history f n) i ≡ m
unfolding history mask_after
past f zero i m l = refl
past f (suc n) i m l = let e : nat_le i n ≡ false = grind (arith, nat_tests) in rw e refl

within : (f : ℕ → ℕ) (n i m : ℕ) → i < n → mask_after m (history f n) i ≡ f i
unfolding history mask_after
within f zero i m l = absurd (omega (arith, l))
within f (suc n) i m l =
    let e : nat_le i n ≡ true = grind (arith, nat_tests) in
    let at : mask_after (f n) (history f n) i ≡ f i =
    elim (cases_lt i n) [
      | inl below ↦ within f n i (f n) below
      | inr above ↦ past f n i (f n) above ∙ ap f (omega (arith, l, above))
    ] in
    rw e at

abbrev IsRow : ℕ → (ℕ → ℕ → Type 0) → List Change → Type 0
IsRow w P changes = (i k : ℕ) → k < w → (bit_at (mask_at changes i) k ≡ 1) ↔ P i k

row : (w : ℕ) (P : ℕ → ℕ → Type 0) (n : ℕ) → ((i k : ℕ) → n ≤ i → P i k → ⊥) → NotAbsent ((changes : List Change) × IsRow w P changes)
row w P n none h =
    chosen (λ i m. HasBits w (P i) m) 0 n (λ i l. masked (P i) w)
    (λ (f, is). h (
      history f n,
      λ i k l. elim (cases_lt i n) [
        | inl below ↦ let e : mask_at (history f n) i ≡ f i = within f n i 0 below in
            subst (λ m. (bit_at m k ≡ 1) ↔ P i k) (sym e) (is i below k l)
        | inr above ↦ let e : mask_at (history f n) i ≡ 0 = past f n i 0 above in
            (λ one. absurd (omega (arith, one, ap (λ m. bit_at m k) e, bit_at-zero k)), λ p. absurd (none i k above p))
      ],
    ))

-- ---- rows by number

rows : (ℕ → List Change) → ℕ → ℕ → List (List Change)
rows f from zero = []
rows f from (suc n) = f from ∷ rows f (suc from) n

row_at : (f : ℕ → List Change) (from n k : ℕ) → k < n → slice_index_or (rows f from n) k [] ≡ f (from + k)
unfolding rows
row_at f from zero k l = absurd (omega (arith, l))
row_at f from (suc n) zero l = ap f (omega arith)
row_at f from (suc n) (suc k) l = row_at f (suc from) n k (omega (arith, l)) ∙ ap f (omega arith)

keyed : (ℕ → List Change) → ℕ → List (ℕ × List Change)
keyed f zero = []
keyed f (suc n) = (n, f n) ∷ keyed f n

found : (f : ℕ → List Change) (n p : ℕ) → p < n → lookup (is_at (nat_cmp p)) (keyed f n) ≡ Some (f p)
unfolding keyed
found f zero p l = absurd (omega (arith, l))
found f (suc n) p l =
    elim (cases_lt p n) [
      | inl below ↦ let e : is_at (nat_cmp p) n ≡ false = grind (arith, nat_tests) in rw e (found f n p below)
      | inr above ↦ let same : n ≡ p = omega (arith, l, above) in let e : is_at (nat_cmp p) n ≡ true = grind (arith, nat_tests) in rw e (ap (λ q. Some (f q)) same)
    ]

-- ---- the table

none_past : (entries : List Retired) (p : ProgramBit) (i : ℕ) → length entries ≤ i → Needed (drop i entries) p → ⊥
unfolding Needed
none_past entries p i l h = subst (λ xs. Needed xs p) (drop_all i entries l) h

table_of : (entries : List Retired) (n : ℕ) (f g : ℕ → List Change) → n ≡ 2 ^ 32
    → ((r : ℕ) → r < 31 → IsRow 32 (λ i k. Needed (drop i entries) (Register (r + 1) k)) (f r))
    → ((p : ℕ) → p < n → IsRow 8 (λ i k. Needed (drop i entries) (Byte p k)) (g p))
    → IsNeedOf entries (record { count = length entries; registers = rows f 0 31; bytes = keyed g n })
unfolding reg_need byte_need
table_of entries n f g all registers bytes = record {
  count = refl;
  register = λ r k i some below l.
      let at : slice_index_or (rows f 0 31) (r - 1) [] ≡ f (r - 1) = row_at f 0 31 (r - 1) (omega (arith, some, below)) ∙ ap f (omega arith) in
      let is : (bit_at (mask_at (f (r - 1)) i) k ≡ 1) ↔ Needed (drop i entries) (Register (r - 1 + 1) k) = registers (r - 1) (omega (arith, some, below)) i k l in
      let back : r - 1 + 1 ≡ r = omega (arith, some) in
      rw at (subst (λ j. (bit_at (mask_at (f (r - 1)) i) k ≡ 1) ↔ Needed (drop i entries) (Register j k)) back is);
  byte = λ p k i below l.
      let at : lookup (is_at (nat_cmp p)) (keyed g n) ≡ Some (g p) = found g n p (rw all below) in
      let is : (bit_at (mask_at (g p) i) k ≡ 1) ↔ Needed (drop i entries) (Byte p k) = bytes p (rw all below) i k l in
      rw at (rw (bit_at-mod (mask_at (g p) i) 8 k l) is);
}

some_by : (entries : List Retired) (n : ℕ) → n ≡ 2 ^ 32 → NotAbsent ((table : Needs) × IsNeedOf entries table)
some_by entries n all none =
    chosen (λ r changes. IsRow 32 (λ i k. Needed (drop i entries) (Register (r + 1) k)) changes) [] 31
    (λ r l. row 32 (λ i k. Needed (drop i entries) (Register (r + 1) k)) (length entries) (λ i k. none_past entries (Register (r + 1) k) i))
    (λ (f, registers). chosen (λ p changes. IsRow 8 (λ i k. Needed (drop i entries) (Byte p k)) changes) [] n
    (λ p l. row 8 (λ i k. Needed (drop i entries) (Byte p k)) (length entries) (λ i k. none_past entries (Byte p k) i))
    (λ (g, bytes). none (record { count = length entries; registers = rows f 0 31; bytes = keyed g n }, table_of entries n f g all registers bytes)))

pub some_needs : (entries : List Retired) → ((table : Needs) → IsNeedOf entries table → ⊥) → ⊥
some_needs entries none = some_by entries (2 ^ 32) refl (λ (table, is). none table is)
