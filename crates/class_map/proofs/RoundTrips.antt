-- A line that is spelled is read as it was.
use Rattle.std.proofs.Common.{◌≡◌, ℕ, suc, ◌+◌, ◌<◌, ◌^◌, Bool, true, not, ◌&&◌, List, [], ◌∷◌, ◌++◌, length, take, drop, get_or, Some, refl, ap, ◌∙◌, inl, inr, arith, rules, cond}
use Rattle.std.specs.Prelude.{codes, decimal, nat_lt, ◌==◌}
use Rattle.std.specs.List.{list_all, position_or_len}
use Rattle.std.proofs.lemmas.Bool.{and_from, and_parts, cases_eq}
use Rattle.std.proofs.lemmas.Bool.Decides.{nat_tests}
use Rattle.std.proofs.lemmas.Fmt.{decimal_digit, decimal_nonempty, digits_decimal, digits_value-decimal, first_decimal}
use Rattle.std.proofs.lemmas.Str.Parse.{IsNumeralModel, numerals_by_fold}
use Rattle.std.proofs.Math.ListN.{length-append}
use Rattle.std.proofs.Math.Seq.{drop-append-add, take-append_seam}
use Rattle.bit_field.specs.Names.{name_of}
use Rattle.bit_field.specs.declared.places.Structure.{Structure}
use Rattle.bit_field.specs.declared.places.Structure.TheVariants.{Pc, Npc, Bht, Btb, Ib, IdEx, ExMem, MemWb}
use Rattle.bit_field.specs.declared.places.Structure.TheVariants.{Rf, Sb, Port, CData, CTag, CValid, CDirty, CLru}
use Rattle.class_map.specs.Checks.{IsSpellable}
use Rattle.class_map.specs.Spellings.{Said, a_word, behind, first_word, is_digit, is_numeral, is_plain, numeral, said, structure_of, worth}
use Rattle.class_map.specs.Texts.{blank, spelled}
use Rattle.class_map.specs.declared.map_line.MapLine.{MapLine}

-- ---- numbers

own : IsNumeralModel (λ ds. list_all is_digit ds ≡ true) (worth 0)
unfolding worth
own = numerals_by_fold _ (search rules) worth (search rules)

pub digits : (n : ℕ) → n < 2 ^ 64 → list_all is_digit (decimal n) ≡ true
digits n h = digits_decimal own n h

plain_decimal : (n : ℕ) → n < 2 ^ 64 → is_plain (decimal n) ≡ true
plain_decimal n h = elim (cases_eq n 0) [
  | inl e ↦ rw e (ap is_plain (decimal_digit 0 (omega arith)))
  | inr more ↦ first_plain (decimal n) (first_decimal n (omega arith) h)
] where
  first_plain : (w : List ℕ) → 48 < get_or w 0 0 → is_plain w ≡ true
  first_plain w k = grind (arith, nat_tests)

both : (a b c : Bool) → a ≡ true → b ≡ true → c ≡ true → (a && b && c) ≡ true
both a b c p q r = rw (p, q, r) refl

is_numeral_decimal : (n : ℕ) → n < 2 ^ 64 → is_numeral (decimal n) ≡ true
is_numeral_decimal n h =
    both (list_all is_digit (decimal n)) (nat_lt 0 (length (decimal n))) (is_plain (decimal n)) (digits_decimal own n h)
    (let some = decimal_nonempty n h in grind (arith, nat_tests)) (plain_decimal n h)

pub numeral_decimal : (n : ℕ) → n < 2 ^ 32 → numeral (decimal n) ≡ Some n
unfolding numeral
numeral_decimal n h =
    let value : worth 0 (decimal n) ≡ n = digits_value-decimal own n (omega arith) in
    let small : nat_lt n (2 ^ 32) ≡ true = grind (arith, nat_tests) in
    rw (is_numeral_decimal n (omega arith), value, small) refl

-- ---- words

abbrev pub no_blank : List ℕ → Bool
no_blank w = list_all (λ b. not (b == blank)) w

digit_no_blank : (b : ℕ) → is_digit b ≡ true → not (b == blank) ≡ true
digit_no_blank b h = grind (arith, nat_tests)

digits_no_blank : (w : List ℕ) → list_all is_digit w ≡ true → no_blank w ≡ true
digits_no_blank [] h = refl
digits_no_blank (b ∷ bs) h =
    let p = and_parts (is_digit b) (list_all is_digit bs) h in
    and_from (not (b == blank)) (no_blank bs) (digit_no_blank b p.0) (digits_no_blank bs p.1)

decimal_no_blank : (n : ℕ) → n < 2 ^ 64 → no_blank (decimal n) ≡ true
decimal_no_blank n h = digits_no_blank (decimal n) (digits_decimal own n h)

blank_at : (w rest : List ℕ) → no_blank w ≡ true → position_or_len (λ b. b == blank) (w ++ blank ∷ rest) ≡ length w
blank_at [] rest h = refl
blank_at (b ∷ bs) rest h =
    let p = and_parts (not (b == blank)) (no_blank bs) h in
    ap (λ t. cond t (1 + position_or_len (λ b. b == blank) (bs ++ blank ∷ rest)) 0) p.0 ∙ ap (λ (n : ℕ). 1 + n) (blank_at bs rest p.1) ∙ one (length bs)
  where
    one : (n : ℕ) → 1 + n ≡ suc n
    one n = omega arith

first_at : (text : List ℕ) (n : ℕ) → position_or_len (λ b. b == blank) text ≡ n → n < length text → first_word text ≡ Some (take n text, drop (n + 1) text)
unfolding first_word
first_at text n e h = let t : nat_lt n (length text) ≡ true = grind (arith, nat_tests) in rw (e, t) refl

pub first_word_of : (w rest : List ℕ) → no_blank w ≡ true → first_word (w ++ blank ∷ rest) ≡ Some (w, rest)
first_word_of w rest h =
    let size = length-append w (blank ∷ rest) in
    first_at (w ++ blank ∷ rest) (length w) (blank_at w rest h) (omega (arith, size))
    ∙ ap (λ (a : List ℕ). Some (a, drop (length w + 1) (w ++ blank ∷ rest))) (take-append_seam w (blank ∷ rest))
    ∙ ap (λ (a : List ℕ). Some (w, a)) (drop-append-add w (blank ∷ rest) 1)

-- ---- names

record IsGoodName (s : Structure) : Type 0 where
  word : a_word (name_of s) ≡ Some (name_of s)
  no_blank : no_blank (name_of s) ≡ true
  means : structure_of (name_of s) ≡ Some s

good_name : (s : Structure) → IsGoodName s
good_name Pc = record { word = refl; no_blank = refl; means = refl }
good_name Npc = record { word = refl; no_blank = refl; means = refl }
good_name Bht = record { word = refl; no_blank = refl; means = refl }
good_name Btb = record { word = refl; no_blank = refl; means = refl }
good_name Ib = record { word = refl; no_blank = refl; means = refl }
good_name IdEx = record { word = refl; no_blank = refl; means = refl }
good_name ExMem = record { word = refl; no_blank = refl; means = refl }
good_name MemWb = record { word = refl; no_blank = refl; means = refl }
good_name Rf = record { word = refl; no_blank = refl; means = refl }
good_name Sb = record { word = refl; no_blank = refl; means = refl }
good_name Port = record { word = refl; no_blank = refl; means = refl }
good_name CData = record { word = refl; no_blank = refl; means = refl }
good_name CTag = record { word = refl; no_blank = refl; means = refl }
good_name CValid = record { word = refl; no_blank = refl; means = refl }
good_name CDirty = record { word = refl; no_blank = refl; means = refl }
good_name CLru = record { word = refl; no_blank = refl; means = refl }

pub name_means : (s : Structure) → structure_of (name_of s) ≡ Some s
name_means s = (good_name s).means

-- ---- a line

abbrev pub words_of : MapLine → Said
words_of line = record { name = name_of line.place.structure; bit = line.place.bit; from = line.from; to = line.to; rule = line.rule }

rule_word : (w : List ℕ) → behind (codes "U") (codes "U" ++ w) ≡ Some w
rule_word w = refl

pub said_spelled : (line : MapLine) → IsSpellable line → said (spelled line) ≡ Some (words_of line)
unfolding said spelled
said_spelled line h =
    let bit : line.place.bit < 2 ^ 32 = h.bit in
    let from : line.from < 2 ^ 32 = h.from in
    let to : line.to < 2 ^ 32 = h.to in
    let rule : line.rule < 2 ^ 8 = h.rule in
    let good = good_name line.place.structure in
    let e1 =
    first_word_of (name_of line.place.structure)
    (decimal line.place.bit ++ blank ∷ (decimal line.from ++ blank ∷ (decimal line.to ++ blank ∷ (codes "U" ++ decimal line.rule)))) good.no_blank in
    let e2 =
    first_word_of (decimal line.place.bit) (decimal line.from ++ blank ∷ (decimal line.to ++ blank ∷ (codes "U" ++ decimal line.rule)))
    (decimal_no_blank line.place.bit (omega arith)) in
    let e3 = first_word_of (decimal line.from) (decimal line.to ++ blank ∷ (codes "U" ++ decimal line.rule)) (decimal_no_blank line.from (omega arith)) in
    let e4 = first_word_of (decimal line.to) (codes "U" ++ decimal line.rule) (decimal_no_blank line.to (omega arith)) in
    let n1 = numeral_decimal line.place.bit bit in
    let n2 = numeral_decimal line.from from in
    let n3 = numeral_decimal line.to to in
    let n4 = numeral_decimal line.rule (omega arith) in
    rw (e1, good.word, e2, n1, e3, n2, e4, n3, n4) refl
