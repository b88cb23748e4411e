-- A keyword is found in its table.
use Rattle.std.proofs.Common.{◌≡◌, ℕ, Bool, true, false, cond, List, [], ◌∷◌, find, map, Option, Some, None, not, ◌||◌, refl, ap, sym, ◌∙◌}
use Rattle.std.specs.Prelude.{bytes_eq, option_map}
use Rattle.std.specs.List.{list_all}
use Rattle.std.proofs.lemmas.Bool.{and_parts, false≢true}
use Rattle.rv_table.specs.Operations.{has_row}
use Rattle.rv_table.specs.Rows.{Row, has_word, row_named, row_of, rows, is_named}
use Rattle.rv_asm.specs.Sound.{is_known}
use Rattle.rv_asm.specs.Keywords.{further, further_named, shown}
use Rattle.rv_asm.specs.declared.keyword.Keyword.{Keyword}
use Rattle.rv_asm.specs.declared.keyword.NamedKeyword.{NamedKeyword}

by_test : (t : Bool) (k : NamedKeyword) (all : Option (List ℕ × Keyword)) (rest : Option NamedKeyword)
    → option_map (λ k. k.1) all ≡ option_map (λ k. k.keyword) rest → option_map (λ k. k.1) (cond t (Some (shown k)) all) ≡ option_map (λ k. k.keyword)
    (cond t (Some k) rest)
by_test true k all rest h = refl
by_test false k all rest h = h

found : (word : List ℕ) (ks : List NamedKeyword) → option_map (λ k. k.1) (find (λ k. bytes_eq word k.0) (map shown ks)) ≡ option_map (λ k. k.keyword) (find
    (λ k. bytes_eq word k.name.now) ks)
found word [] = refl
found word (k ∷ ks) = by_test (bytes_eq word k.name.now) k _ _ (found word ks)

pub further-found : (word : List ℕ) (ks : List NamedKeyword) → map shown ks ≡ further
    → further_named word ≡ option_map (λ k. k.keyword) (find (λ k. bytes_eq word k.name.now) ks)
unfolding further_named
further-found word ks e = ap (λ (table : List (List ℕ × Keyword)). option_map (λ (k : List ℕ × Keyword). k.1) (find (λ k. bytes_eq word k.0) table)) (sym
    e) ∙ found word ks

pub further-one : (word : List ℕ) (ks : List NamedKeyword) (k : NamedKeyword) → map shown ks ≡ further → Some k ≡ find (λ k. bytes_eq word k.name.now) ks
    → Some k.keyword ≡ further_named word
further-one word ks k e h = sym (further-found word ks e ∙ ap (option_map (λ (k : NamedKeyword). k.keyword)) (sym h))

pub further-none : (word : List ℕ) (ks : List NamedKeyword) → map shown ks ≡ further
    → ◌≡◌ {A = Option NamedKeyword} None (find (λ k. bytes_eq word k.name.now) ks)
    → ◌≡◌ {A = Option Keyword} None (further_named word)
further-none word ks e h = sym (further-found word ks e ∙ ap (option_map (λ (k : NamedKeyword). k.keyword)) (sym h))

-- What is found in a table passes the test, and each test that all of the table pass.
passes : {X : Type 0} (p good : X → Bool) (xs : List X) (x : X) → list_all good xs ≡ true → find p xs ≡ Some x → (p x ≡ true) × (good x ≡ true)
passes p good [] x all h = absurd cc
passes p good (y ∷ ys) x all h = by_first (p y) refl h (λ e. passes p good ys x parts.1 e)
  where
    parts : (good y ≡ true) × (list_all good ys ≡ true)
    parts = and_parts _ _ all

    by_first : (t : Bool) → p y ≡ t → cond t (Some y) (find p ys) ≡ Some x → (find p ys ≡ Some x → (p x ≡ true) × (good x ≡ true))
        → (p x ≡ true) × (good x ≡ true)
    by_first true f e ih = let same : y ≡ x = cc in (rw (sym same) f, rw (sym same) parts.0)
    by_first false f e ih = ih e

-- an instruction that is found by its mnemonic has words
good : Row → Bool
good r = not (has_word r.fixed) || has_row r.code

all_good : list_all good rows ≡ true
unfolding good has_row row_of
all_good = refl

pub row_known : (word : List ℕ) (r : Row) → Some r ≡ row_named word → has_row r.code ≡ true
unfolding row_named good
row_known word r h =
    let found : (is_named word r ≡ true) × (good r ≡ true) = passes (is_named word) good rows r all_good (sym h) in
    let worded : has_word r.fixed ≡ true = (and_parts _ _ found.0).0 in
    either (has_word r.fixed) (has_row r.code) worded found.1
  where
    either : (a b : Bool) → a ≡ true → (not a || b) ≡ true → b ≡ true
    either true b e h = h
    either false b e h = absurd (false≢true e)

-- none of the further forms is an instruction of the table
all_known : list_all (λ (k : List ℕ × Keyword). is_known k.1) further ≡ true
all_known = refl

known_in : (word : List ℕ) (o : Option (List ℕ × Keyword)) (k : Keyword) → find (λ k. bytes_eq word k.0) further ≡ o → option_map (λ k. k.1) o ≡ Some k
    → is_known k ≡ true
known_in word None k e h = absurd cc
known_in word (Some one) k e h =
    let same : one.1 ≡ k = cc in
    let test : is_known one.1 ≡ true = (passes (λ (k : List ℕ × Keyword). bytes_eq word k.0) (λ k. is_known k.1) further one all_known e).1 in
    rw (sym same) test

pub further_known : (word : List ℕ) (k : Keyword) → Some k ≡ further_named word → is_known k ≡ true
unfolding further_named
further_known word k h = known_in word (find (λ k. bytes_eq word k.0) further) k refl (sym h)
