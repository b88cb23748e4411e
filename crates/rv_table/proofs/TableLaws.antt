-- The word table as a whole: no word has two rows, and no name.
use Rattle.std.proofs.Common.{◌≡◌, ℕ, zero, suc, ◌%◌, ◌/◌, ◌^◌, ◌==◌, ◌&&◌, ◌||◌, ◌⊎◌, not, Bool, true, false, cond, List, [], ◌∷◌, Some, None, Option}
use Rattle.std.proofs.Common.{arith, ap, sym, ◌∙◌, refl, subst, inl, inr, true≢false}
use Rattle.std.proofs.lemmas.Bool.{and_parts, eqb-true}
use Rattle.std.proofs.lemmas.Bool.Decides.{nat_tests}
use Rattle.std.specs.List.{list_all}
use Rattle.std.specs.Prelude.{find, slice_get}
use Rattle.rv_table.proofs.RowLookups.{IsMatched, code-get, each_row, matched, implied, matches-word, row_of-get, row_of-own}
use Rattle.rv_table.specs.Operations.{has_row}
use Rattle.rv_table.specs.Rows.{Row, has_word, is_named, row_named, row_of, rows}
use Rattle.rv_table.specs.TableLaw.{TableLaw}
use Rattle.rv_table.specs.Words.{decode, funct3_of, funct7_of, matches, op_of_form, opcode_of, row_matching, row_of_word}
use Rattle.rv_table.specs.declared.row.Pattern.{Pattern}
use Rattle.rv_table.specs.declared.row.Pattern.TheVariants.{NoWord, Opcode, Funct3, Funct7, Word, WordButRd}

-- what a pattern says of the fields of its words
abbrev opcode_in : Pattern → Option ℕ
opcode_in NoWord = None
opcode_in (Opcode o) = Some o
opcode_in (Funct3 o f) = Some o
opcode_in (Funct7 o f g) = Some o
opcode_in (Word word) = Some (opcode_of word)
opcode_in (WordButRd word) = Some (opcode_of word)

abbrev funct3_in : Pattern → Option ℕ
funct3_in NoWord = None
funct3_in (Opcode o) = None
funct3_in (Funct3 o f) = Some f
funct3_in (Funct7 o f g) = Some f
funct3_in (Word word) = Some (funct3_of word)
funct3_in (WordButRd word) = Some (funct3_of word)

abbrev funct7_in : Pattern → Option ℕ
funct7_in NoWord = None
funct7_in (Opcode o) = None
funct7_in (Funct3 o f) = None
funct7_in (Funct7 o f g) = Some g
funct7_in (Word word) = Some (funct7_of word)
funct7_in (WordButRd word) = Some (funct7_of word)

-- the bits from 12 on
abbrev upper_in : Pattern → Option ℕ
upper_in (Word word) = Some (word / 2 ^ 12)
upper_in (WordButRd word) = Some (word / 2 ^ 12)
upper_in _ = None

abbrev IsAt : Option ℕ → ℕ → Type 0
IsAt None n = Unit {0}
IsAt (Some m) n = n ≡ m

opcode-is : (p : Pattern) (w : ℕ) → matches p w ≡ true → IsAt (opcode_in p) (opcode_of w)
opcode-is NoWord w h = tt
opcode-is (Opcode o) w h = grind (arith, nat_tests)
opcode-is (Funct3 o f) w h = grind (arith, nat_tests)
opcode-is (Funct7 o f g) w h = grind (arith, nat_tests)
opcode-is (Word word) w h = grind (arith, nat_tests)
opcode-is (WordButRd word) w h = grind (arith, nat_tests)

funct3-is : (p : Pattern) (w : ℕ) → matches p w ≡ true → IsAt (funct3_in p) (funct3_of w)
funct3-is NoWord w h = tt
funct3-is (Opcode o) w h = tt
funct3-is (Funct3 o f) w h = grind (arith, nat_tests)
funct3-is (Funct7 o f g) w h = grind (arith, nat_tests)
funct3-is (Word word) w h = grind (arith, nat_tests)
funct3-is (WordButRd word) w h = let upper : w / 2 ^ 12 ≡ word / 2 ^ 12 = grind (arith, nat_tests) in ap (λ n. n % 2 ^ 3) upper

funct7-is : (p : Pattern) (w : ℕ) → matches p w ≡ true → IsAt (funct7_in p) (funct7_of w)
funct7-is NoWord w h = tt
funct7-is (Opcode o) w h = tt
funct7-is (Funct3 o f) w h = tt
funct7-is (Funct7 o f g) w h = grind (arith, nat_tests)
funct7-is (Word word) w h = grind (arith, nat_tests)
funct7-is (WordButRd word) w h = let upper : w / 2 ^ 12 ≡ word / 2 ^ 12 = grind (arith, nat_tests) in omega arith

upper-is : (p : Pattern) (w : ℕ) → matches p w ≡ true → IsAt (upper_in p) (w / 2 ^ 12)
upper-is NoWord w h = tt
upper-is (Opcode o) w h = tt
upper-is (Funct3 o f) w h = tt
upper-is (Funct7 o f g) w h = tt
upper-is (Word word) w h = grind (arith, nat_tests)
upper-is (WordButRd word) w h = grind (arith, nat_tests)

-- two patterns that say different things of one field
abbrev differ : Option ℕ → Option ℕ → Bool
differ (Some a) (Some b) = not (a == b)
differ _ _ = false

abbrev apart : Pattern → Pattern → Bool
apart p q =
    not (has_word p && has_word q)
    || (differ (opcode_in p) (opcode_in q)
    || (differ (funct3_in p) (funct3_in q)
    || (differ (funct7_in p) (funct7_in q) || differ (upper_in p) (upper_in q))))

never_both : (a b : Option ℕ) (n : ℕ) → differ a b ≡ true → IsAt a n → IsAt b n → ⊥
never_both (Some a) (Some b) n h e f = grind (arith, nat_tests)
never_both (Some a) None n h e f = absurd cc
never_both None b n h e f = absurd cc

no_word : (w : ℕ) → matches NoWord w ≡ true → ⊥
no_word w h = cc

one_of : (a b : Bool) → (a || b) ≡ true → (a ≡ true) ⊎ (b ≡ true)
one_of true b h = inl refl
one_of false b h = inr h

both : (a b : Bool) → a ≡ true → b ≡ true → not (a && b) ≡ true → ⊥
both true true e f h = cc
both true false e f h = cc
both false b e f h = cc

apart-never : (p q : Pattern) (w : ℕ) → apart p q ≡ true → matches p w ≡ true → matches q w ≡ true → ⊥
apart-never p q w h e f =
    elim (one_of _ _ h) [
      | inl none ↦ both _ _ (matches-word p w e) (matches-word q w f) none
      | inr h ↦ elim (one_of _ _ h) [
        | inl d ↦ never_both _ _ (opcode_of w) d (opcode-is p w e) (opcode-is q w f)
        | inr h ↦ elim (one_of _ _ h) [
          | inl d ↦ never_both _ _ (funct3_of w) d (funct3-is p w e) (funct3-is q w f)
          | inr h ↦ elim (one_of _ _ h) [
            | inl d ↦ never_both _ _ (funct7_of w) d (funct7-is p w e) (funct7-is q w f)
            | inr d ↦ never_both _ _ (w / 2 ^ 12) d (upper-is p w e) (upper-is q w f)
          ]
        ]
      ]
    ]

-- every two rows of the table are apart, or one
abbrev one_or_apart : Row → Row → Bool
one_or_apart r s = r.code == s.code || apart r.fixed s.fixed

all_apart : list_all (λ r. list_all (one_or_apart r) rows) rows ≡ true
all_apart = refl

in_list : (test : Row → Bool) (rs : List Row) (i : ℕ) (r : Row) → list_all test rs ≡ true → slice_get rs i ≡ Some r → test r ≡ true
in_list test [] i r h e = absurd cc
in_list test (x ∷ xs) zero r h e = let same : x ≡ r = cc in subst (λ (y : Row). test y ≡ true) same (and_parts _ _ h).0
in_list test (x ∷ xs) (suc i) r h e = in_list test xs i r (and_parts _ _ h).1 e

one_row : (w i j : ℕ) (r s : Row) → slice_get rows i ≡ Some r → slice_get rows j ≡ Some s → matches r.fixed w ≡ true → matches s.fixed w ≡ true → i ≡ j
one_row w i j r s er es mr ms =
    let test : one_or_apart r s ≡ true = in_list (one_or_apart r) rows j s (in_list (λ x. list_all (one_or_apart x) rows) rows i r all_apart er) es in
    let one : r.code ≡ i = code-get i r er in
    let other : s.code ≡ j = code-get j s es in
    elim (one_of _ _ test) [
      | inl same ↦ sym one ∙ eqb-true _ _ same ∙ other
      | inr far ↦ absurd (apart-never r.fixed s.fixed w far mr ms)
    ]

-- ---- a word with the fixed bits of a row is that instruction

kept_match : (t : Bool) (r rest : Row) (w : ℕ) → matches r.fixed w ≡ t → (t ≡ false → matches rest.fixed w ≡ true) → matches (cond t r rest).fixed w ≡ true
kept_match true r rest w e h = e
kept_match false r rest w e h = h refl

match-found : (rs : List Row) (w i : ℕ) (r : Row) → slice_get rs i ≡ Some r → matches r.fixed w ≡ true → matches (row_matching rs w).fixed w ≡ true
match-found [] w i r e m = absurd cc
match-found (x ∷ xs) w zero r e m =
    let same : r ≡ x = cc in
    let first : matches x.fixed w ≡ true = subst (λ (y : Row). matches y.fixed w ≡ true) same m in
    kept_match (matches x.fixed w) x (row_matching xs w) w refl (λ no. absurd (true≢false (sym first ∙ no)))
match-found (x ∷ xs) w (suc i) r e m = kept_match (matches x.fixed w) x (row_matching xs w) w refl (λ no. match-found xs w i r e m)

word-matches : (w i : ℕ) (r : Row) → slice_get rows i ≡ Some r → matches r.fixed w ≡ true → matches (row_of_word w).fixed w ≡ true
unfolding row_of_word
word-matches w i r e m = match-found rows w i r e m

row-is : (w i : ℕ) (r : Row) → slice_get rows i ≡ Some r → matches r.fixed w ≡ true → row_of_word w ≡ r
row-is w i r e m = go (matched w)
  where
    some_same : (x y : Row) → Some x ≡ Some y → x ≡ y
    some_same x y e = cc

    go : IsMatched rows w (row_of_word w) → row_of_word w ≡ r
    go (inl none) = absurd (no_word w (subst (λ (x : Row). matches x.fixed w ≡ true) none (word-matches w i r e m)))
    go (inr (j, at, mj)) =
        let same : j ≡ i = one_row w j i (row_of_word w) r at e mj m in
        some_same _ _ (sym at ∙ ap (slice_get rows) same ∙ e)

decodes : (w i : ℕ) (r : Row) → slice_get rows i ≡ Some r → matches r.fixed w ≡ true → decode w ≡ op_of_form r.form r.code w
unfolding decode
decodes w i r e m = ap (λ (x : Row). op_of_form x.form x.code w) (row-is w i r e m)

-- ---- each instruction by its name

abbrev has_code : Option Row → ℕ → Bool
has_code (Some r) code = r.code == code
has_code None code = false

abbrev finds_itself : Row → Bool
finds_itself r = not (has_word r.fixed) || has_code (find (is_named r.mnemonic) rows) r.code

itself : (code : ℕ) → finds_itself (row_of code) ≡ true
itself code = each_row finds_itself refl code

found_by : (t : Bool) (r s : Row) (rs : List Row) (rest : Option Row) → cond t (Some r) rest ≡ Some s → (rest ≡ Some s → (i : ℕ) × (slice_get rs i ≡ Some s)) → (i : ℕ) × (slice_get (r ∷ rs) i ≡ Some s)
found_by true r s rs rest e h = (zero, e)
found_by false r s rs rest e h = let at = h e in (suc at.0, at.1)

found_there : (test : Row → Bool) (rs : List Row) (s : Row) → find test rs ≡ Some s → (i : ℕ) × (slice_get rs i ≡ Some s)
found_there test [] s e = absurd cc
found_there test (r ∷ rs) s e = found_by (test r) r s rs (find test rs) e (found_there test rs s)

-- a row that is found is the row of its code
found_row : (test : Row → Bool) (s : Row) → find test rows ≡ Some s → row_of s.code ≡ s
found_row test s e =
    let at = found_there test rows s e in
    ap row_of (code-get at.0 s at.1) ∙ row_of-get at.0 s at.1

named_by : (o : Option Row) (r : Row) → has_code o r.code ≡ true → ((s : Row) → o ≡ Some s → row_of s.code ≡ s) → row_of r.code ≡ r → o ≡ Some r
named_by None r h k own = absurd cc
named_by (Some s) r h k own =
    let same : s ≡ r = sym (k s refl) ∙ ap row_of (eqb-true _ _ h) ∙ own in
    ap Some same

one_name : (code : ℕ) → has_row code ≡ true → row_named (row_of code).mnemonic ≡ Some (row_of code)
unfolding has_row row_named
one_name code h =
    named_by (find (is_named (row_of code).mnemonic) rows) (row_of code) (implied _ _ h (itself code)) (found_row (is_named (row_of code).mnemonic)) (row_of-own code)

pub law : TableLaw
law = record { in_order = code-get; one_row = one_row; decodes = decodes; one_name = one_name }
