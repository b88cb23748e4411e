-- The row of a code and the row of a word, by their places in the table.
use Rattle.std.proofs.Common.{◌≡◌, ℕ, zero, suc, ◌+◌, ◌<◌, ◌≤◌, ◌==◌, ◌&&◌, ◌||◌, not, ◌⊎◌, inl, inr, Bool, true, false, cond, List, [], ◌∷◌, length, Some}
use Rattle.std.proofs.Common.{arith, ap, sym, ◌∙◌, refl, subst}
use Rattle.std.proofs.lemmas.Bool.{and_parts, eqb-true, eq-eqb, ne_eqb}
use Rattle.std.specs.List.{list_all}
use Rattle.std.specs.Prelude.{Option, find, map, nat_lt, option_map, slice_get, slice_index_or}
use Rattle.std.proofs.lemmas.Bool.Decides.{nat_tests}
use Rattle.std.proofs.Common.{◌^◌}
use Rattle.rv_table.specs.Codes.{fixed_word, with_sets}
use Rattle.rv_table.specs.Operations.{delay_of}
use Rattle.rv_table.specs.declared.operation.Operation.{Operation}
use Rattle.rv_table.specs.declared.operation.Operation.TheVariants.{Fence}
use Rattle.rv_table.specs.declared.row.InstructionRow.{InstructionRow}
use Rattle.rv_table.specs.Rows.{Row, has_word, illegal_row, row_in, row_of, rows, shown}
use Rattle.rv_table.specs.Words.{matches, row_matching, row_of_word}
use Rattle.rv_table.specs.declared.row.Pattern.{Pattern}
use Rattle.rv_table.specs.declared.row.Pattern.TheVariants.{NoWord, Opcode, Funct3, Funct7, Word, WordButRd}

-- the codes rise by one from n on
abbrev pub coded_from : ℕ → List Row → Bool
coded_from n [] = true
coded_from n (r ∷ rs) = r.code == n && coded_from (n + 1) rs

pub rows_coded : coded_from 0 rows ≡ true
rows_coded = refl

some_same : (x y : Row) → Some x ≡ Some y → x ≡ y
some_same x y e = cc

code_in : (rs : List Row) (n i : ℕ) (r : Row) → coded_from n rs ≡ true → slice_get rs i ≡ Some r → r.code ≡ n + i
code_in [] n i r h e = absurd cc
code_in (x ∷ xs) n zero r h e =
    let first : x.code ≡ n = eqb-true _ _ (and_parts _ _ h).0 in
    let same : x.code ≡ r.code = ap (λ (y : Row). y.code) (some_same x r e) in
    omega arith
code_in (x ∷ xs) n (suc i) r h e = let at : (n + 1) + i ≡ n + suc i = omega arith in code_in xs (n + 1) i r (and_parts _ _ h).1 e ∙ at

found_first : (t : Bool) (x rest r : Row) → t ≡ true → x ≡ r → cond t x rest ≡ r
found_first t x rest r h e = rw h e

found_later : (t : Bool) (x rest r : Row) → t ≡ false → rest ≡ r → cond t x rest ≡ r
found_later t x rest r h e = rw h e

found_in : (rs : List Row) (n i : ℕ) (r : Row) → coded_from n rs ≡ true → slice_get rs i ≡ Some r → row_in rs (n + i) ≡ r
found_in [] n i r h e = absurd cc
found_in (x ∷ xs) n zero r h e =
    let first : x.code ≡ n = eqb-true _ _ (and_parts _ _ h).0 in
    found_first (n + 0 == x.code) x (row_in xs (n + 0)) r (eq-eqb _ _ (omega arith)) (some_same x r e)
found_in (x ∷ xs) n (suc i) r h e =
    let first : x.code ≡ n = eqb-true _ _ (and_parts _ _ h).0 in
    let at : (n + 1) + i ≡ n + suc i = omega arith in
    found_later (n + suc i == x.code) x (row_in xs (n + suc i)) r (ne_eqb _ _ (λ same. omega arith))
    (ap (row_in xs) (sym at) ∙ found_in xs (n + 1) i r (and_parts _ _ h).1 e)

none_in : (rs : List Row) (n code : ℕ) → coded_from n rs ≡ true → n + length rs ≤ code → row_in rs code ≡ illegal_row
none_in [] n code h l = refl
none_in (x ∷ xs) n code h l =
    let first : x.code ≡ n = eqb-true _ _ (and_parts _ _ h).0 in
    let longer : length (x ∷ xs) ≡ 1 + length xs = omega arith in
    found_later (code == x.code) x (row_in xs code) illegal_row (ne_eqb _ _ (λ same. omega arith))
    (none_in xs (n + 1) code (and_parts _ _ h).1 (omega arith))

-- row i has code i, and is the row of that code
pub code-get : (i : ℕ) (r : Row) → slice_get rows i ≡ Some r → r.code ≡ i
code-get i r e = let at = code_in rows 0 i r rows_coded e in omega arith

pub row_of-get : (i : ℕ) (r : Row) → slice_get rows i ≡ Some r → row_of i ≡ r
unfolding row_of
row_of-get i r e = let at : 0 + i ≡ i = omega arith in ap (row_in rows) (sym at) ∙ found_in rows 0 i r rows_coded e

pub row_of-beyond : (code : ℕ) → length rows ≤ code → row_of code ≡ illegal_row
unfolding row_of
row_of-beyond code l = none_in rows 0 code rows_coded (omega arith)

own_by : (t : Bool) (code : ℕ) (r rest : Row) → (code == r.code) ≡ t → (rest ≡ illegal_row) ⊎ (rest.code ≡ code) → (cond t r rest ≡ illegal_row) ⊎ ((cond t r rest).code ≡ code)
own_by true code r rest e h = inr (sym (eqb-true _ _ e))
own_by false code r rest e h = h

own_in : (rs : List Row) (code : ℕ) → (row_in rs code ≡ illegal_row) ⊎ ((row_in rs code).code ≡ code)
own_in [] code = inl refl
own_in (r ∷ rs) code = own_by (code == r.code) code r (row_in rs code) refl (own_in rs code)

pub row_of-own : (code : ℕ) → row_of (row_of code).code ≡ row_of code
unfolding row_of
row_of-own code = go (own_in rows code)
  where
    go : (row_in rows code ≡ illegal_row) ⊎ ((row_in rows code).code ≡ code) → row_in rows (row_in rows code).code ≡ row_in rows code
    go (inl e) = ap (λ (r : Row). row_in rows r.code) e ∙ sym e
    go (inr e) = ap (row_in rows) e

-- what each row of the table passes, the row of every code passes
passes : (test : Row → Bool) (t : Bool) (r rest : Row) → test r ≡ true → test rest ≡ true → test (cond t r rest) ≡ true
passes test true r rest h k = h
passes test false r rest h k = k

each_in : (test : Row → Bool) (rs : List Row) (code : ℕ) → test illegal_row ≡ true → list_all test rs ≡ true → test (row_in rs code) ≡ true
each_in test [] code h k = h
each_in test (r ∷ rs) code h k =
    passes test (code == r.code) r (row_in rs code) (and_parts _ _ k).0 (each_in test rs code h (and_parts _ _ k).1)

pub each_row : (test : Row → Bool) → list_all test rows ≡ true → (code : ℕ) → test (row_of code) ≡ true
unfolding row_of
each_row test h code = each_in test rows code (and_parts _ _ h).0 h

-- for tests of the form "if t then u"
pub implied : (t u : Bool) → t ≡ true → (not t || u) ≡ true → u ≡ true
implied true u e h = h
implied false u e h = absurd cc

-- ---- the row of a word

-- a row among these, whose fixed bits the word has, or ILLEGAL
abbrev pub IsMatched : List Row → ℕ → Row → Type 0
IsMatched rs w r = (r ≡ illegal_row) ⊎ ((i : ℕ) × (slice_get rs i ≡ Some r) × (matches r.fixed w ≡ true))

matched_by : (t : Bool) (r : Row) (rs : List Row) (w : ℕ) (rest : Row) → matches r.fixed w ≡ t → IsMatched rs w rest → IsMatched (r ∷ rs) w (cond t r rest)
matched_by true r rs w rest e h = inr (zero, refl, e)
matched_by false r rs w rest e (inl h) = inl h
matched_by false r rs w rest e (inr (i, at, m)) = inr (suc i, at, m)

matched_in : (rs : List Row) (w : ℕ) → IsMatched rs w (row_matching rs w)
matched_in [] w = inl refl
matched_in (r ∷ rs) w = matched_by (matches r.fixed w) r rs w (row_matching rs w) refl (matched_in rs w)

-- a word is in a row, whose fixed bits it has, or in none
pub matched : (w : ℕ) → IsMatched rows w (row_of_word w)
unfolding row_of_word
matched w = matched_in rows w

illegal-found : row_of 0 ≡ illegal_row
unfolding row_of
illegal-found = refl

-- and its row is that of its code
pub row_of-word : (w : ℕ) → row_of (row_of_word w).code ≡ row_of_word w
row_of-word w = go (matched w)
  where
    go : IsMatched rows w (row_of_word w) → row_of (row_of_word w).code ≡ row_of_word w
    go (inl e) = ap (λ (r : Row). row_of r.code) e ∙ illegal-found ∙ sym e
    go (inr (i, e, m)) = ap row_of (code-get i (row_of_word w) e) ∙ row_of-get i (row_of_word w) e

pub matches-word : (p : Pattern) (w : ℕ) → matches p w ≡ true → has_word p ≡ true
matches-word NoWord w h = absurd cc
matches-word (Opcode o) w h = refl
matches-word (Funct3 o f) w h = refl
matches-word (Funct7 o f g) w h = refl
matches-word (Word word) w h = refl
matches-word (WordButRd word) w h = refl

-- a word that is in no row has code 0
pub worded : (w : ℕ) → ((row_of_word w).code ≡ 0) ⊎ (has_word (row_of_word w).fixed ≡ true)
worded w = go (matched w)
  where
    go : IsMatched rows w (row_of_word w) → ((row_of_word w).code ≡ 0) ⊎ (has_word (row_of_word w).fixed ≡ true)
    go (inl e) = inl (ap (λ (r : Row). r.code) e)
    go (inr (i, e, m)) = inr (matches-word (row_of_word w).fixed w m)

-- ---- what the code reads of it

row_at : (xs : List InstructionRow) (rs : List Row) (i : ℕ) (d : InstructionRow) → map shown xs ≡ rs → i < length xs → slice_get rs i ≡ Some (shown (slice_index_or xs i d))
row_at [] rs i d e l = absurd (omega arith)
row_at (x ∷ xs) [] i d e l = absurd cc
row_at (x ∷ xs) (y ∷ rs) zero d e l = cc
row_at (x ∷ xs) (y ∷ rs) (suc i) d e l = let same : map shown xs ≡ rs = cc in let shorter : i < length xs = omega arith in row_at xs rs i d same shorter

as_many : (xs : List InstructionRow) (rs : List Row) → map shown xs ≡ rs → length xs ≡ length rs
as_many [] [] e = refl
as_many [] (y ∷ rs) e = absurd cc
as_many (x ∷ xs) [] e = absurd cc
as_many (x ∷ xs) (y ∷ rs) e = let same : map shown xs ≡ rs = cc in let fewer : length xs ≡ length rs = as_many xs rs same in omega arith

pub row_of-index : (xs : List InstructionRow) (code : ℕ) (d : InstructionRow) → map shown xs ≡ rows → code < length xs → shown (slice_index_or xs code d) ≡ row_of code
row_of-index xs code d e l = sym (row_of-get code _ (row_at xs rows code d e l))

first_row : slice_get rows 0 ≡ Some illegal_row
first_row = refl

pub row_of-first : (xs : List InstructionRow) (code : ℕ) (d : InstructionRow) → map shown xs ≡ rows → length xs ≤ code → shown (slice_index_or xs 0 d) ≡ row_of code
row_of-first xs code d e l =
    let many : length xs ≡ length rows = as_many xs rows e in
    let some : 0 < length xs = omega arith in
    some_same _ _ (sym (row_at xs rows 0 d e some) ∙ first_row) ∙ sym (row_of-beyond code (omega arith))

pub some_row : (xs : List InstructionRow) → map shown xs ≡ rows → 0 < length xs
some_row xs e = let many : length xs ≡ length rows = as_many xs rows e in omega arith

found_shown : (test : Row → Bool) (t : Bool) (r : InstructionRow) (rest : Option InstructionRow) (o : Option Row) → option_map shown rest ≡ o → option_map shown (cond t (Some r) rest) ≡ cond t (Some (shown r)) o
found_shown test true r rest o h = refl
found_shown test false r rest o h = h

pub find-shown : (test : Row → Bool) (xs : List InstructionRow) → option_map shown (find (λ r. test (shown r)) xs) ≡ find test (map shown xs)
find-shown test [] = refl
find-shown test (x ∷ xs) = found_shown test (test (shown x)) x (find (λ r. test (shown r)) xs) (find test (map shown xs)) (find-shown test xs)

-- ---- numbers in the rows

fits_bits : (code : ℕ) → nat_lt (with_sets (row_of code).operation (fixed_word (row_of code).fixed)) (2 ^ 32) ≡ true
fits_bits code = each_row (λ r. nat_lt (with_sets r.operation (fixed_word r.fixed)) (2 ^ 32)) refl code

sets_above : (o : Operation) (n : ℕ) → nat_lt (with_sets o n) (2 ^ 32) ≡ true → n < 2 ^ 32
sets_above o n h = grind (arith, nat_tests)

pub bits-below : (r : InstructionRow) (code : ℕ) → shown r ≡ row_of code → fixed_word r.fixed < 2 ^ 32
bits-below r code e =
    let P : Row → Type 0 = λ x. fixed_word x.fixed < 2 ^ 32 in
    subst P (sym e) (sets_above (row_of code).operation (fixed_word (row_of code).fixed) (fits_bits code))

pub sets-below : (r : InstructionRow) (code : ℕ) → shown r ≡ row_of code → r.operation ≡ Fence → 0x0FF00000 + fixed_word r.fixed < 2 ^ 32
sets-below r code e o =
    let P : Row → Type 0 = λ x. nat_lt (with_sets x.operation (fixed_word x.fixed)) (2 ^ 32) ≡ true in
    let test : nat_lt (with_sets r.operation (fixed_word r.fixed)) (2 ^ 32) ≡ true = subst P (sym e) (fits_bits code) in
    let fence : nat_lt (with_sets Fence (fixed_word r.fixed)) (2 ^ 32) ≡ true = ap (λ o. nat_lt (with_sets o (fixed_word r.fixed)) (2 ^ 32)) (sym o) ∙ test in
    grind (arith, nat_tests)

pub delay_of-below : (code : ℕ) → delay_of code < 32
unfolding delay_of
delay_of-below code =
    let test : nat_lt (row_of code).delay 32 ≡ true = each_row (λ r. nat_lt r.delay 32) refl code in
    grind (arith, nat_tests)

pub ruleset looking_up = (row_of-index, row_of-first, some_row, bits-below)

pub ruleset fixing = (sets-below, bits-below)

pub ruleset delaying = (delay_of-below)
