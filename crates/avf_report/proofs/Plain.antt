-- Fields that the writer of comma-separated values writes with no quotes: names and numbers.
use Rattle.std.proofs.Common.{◌≡◌, ℕ, ◌^◌, ◌<◌, ◌≤◌, true, false, List, [], ◌∷◌, ◌++◌, codes, decimal, map, refl, arith}
use Rattle.std.specs.List.{join_with_byte, list_any}
use Rattle.std.specs.Str.{all_ascii_digits}
use Rattle.std.proofs.lemmas.Bool.Decides.{nat_tests}
use Rattle.std.proofs.lemmas.Fmt.{digits_decimal}
use Rattle.std.proofs.lemmas.Str.Parse.{numerals_by_value, tells_all_ascii_digits}
use Rattle.std.proofs.lemmas.List.{append-nil}
use Rattle.csv.specs.Writing.{default_writer, field_text, fields_text, is_blank, needs_byte, row_text}
use Rattle.bit_field.specs.Names.{name_of}
use Rattle.bit_field.specs.declared.places.Structure.{Structure}
use Rattle.bit_field.specs.declared.places.Structure.TheVariants.{Pc, Npc, Bht, Btb, Ib, IdEx, ExMem, MemWb}
use Rattle.bit_field.specs.declared.places.Structure.TheVariants.{Rf, Sb, Port, CData, CTag, CValid, CDirty, CLru}
use Rattle.ace_class.proofs.Sizes.{bits_in_most, count_most, pairs_most, ppm_most}
use Rattle.ace_class.specs.Classes.{number_of, rules}
use Rattle.ace_class.specs.Counts.{Counted, IsCounted, ace_of, bits_of, count_of, ppm_of}
use Rattle.ace_class.specs.declared.class.Class.{Class}
use Rattle.ace_class.specs.declared.class.Class.TheVariants.{Ace, UnAce}
use Rattle.ace_class.specs.declared.class.Rule.{Rule}
use Rattle.ace_class.specs.declared.class.Rule.TheVariants.{Timing, EmptyPlace, WrongPath, OnPath, Masked, DeadRegister, DeadData}
use Rattle.ace_class.specs.declared.class.Rule.TheVariants.{StoreRedirection, CleanData, CleanLine, UnaccessedLine, CleanTag, NoTrapCause}
use Rattle.avf_report.specs.Tables.{comma, header, row_of, rule_field, structure_row}
use Rattle.avf_report.specs.Texts.{rule_name}

-- no byte of the field calls for quotes
abbrev pub IsPlain : List ℕ → Type 0
IsPlain field = list_any (needs_byte default_writer) field ≡ false

-- none of these fields does
abbrev pub ArePlain : List (List ℕ) → Type 0
ArePlain [] = Unit {0}
ArePlain (field ∷ fields) = IsPlain field × ArePlain fields

plain_byte : (c : ℕ) → 48 ≤ c → c ≤ 57 → needs_byte default_writer c ≡ false
plain_byte c low high = grind (arith, nat_tests)

plain_digits : (ds : List ℕ) → all_ascii_digits ds ≡ true → IsPlain ds
plain_digits [] h = refl
plain_digits (c ∷ cs) h = let p = tells_all_ascii_digits.parts c cs h in rw (plain_byte c p.0.0 p.0.1, plain_digits cs p.1) refl

pub plain_decimal : (n : ℕ) → n < 2 ^ 64 → IsPlain (decimal n)
plain_decimal n h = plain_digits (decimal n) (digits_decimal (numerals_by_value (λ ds. all_ascii_digits ds ≡ true) tells_all_ascii_digits) n h)

pub plain_name : (s : Structure) → IsPlain (name_of s)
plain_name Pc = refl
plain_name Npc = refl
plain_name Bht = refl
plain_name Btb = refl
plain_name Ib = refl
plain_name IdEx = refl
plain_name ExMem = refl
plain_name MemWb = refl
plain_name Rf = refl
plain_name Sb = refl
plain_name Port = refl
plain_name CData = refl
plain_name CTag = refl
plain_name CValid = refl
plain_name CDirty = refl
plain_name CLru = refl

plain_text : (field : List ℕ) → IsPlain field → field_text default_writer field ≡ field
plain_text field h = rw h refl

-- the fields behind the first
plain_fields : (first : List ℕ) (fields : List (List ℕ)) → ArePlain fields
    → first ++ fields_text default_writer fields ≡ join_with_byte comma (first ∷ fields)
unfolding fields_text
plain_fields first [] h = append-nil first
plain_fields first (field ∷ fields) h = rw (plain_text field h.0, plain_fields field fields h.1) refl

-- a row of two fields or more, none of which calls for quotes
pub plain_row : (x y : List ℕ) (fields : List (List ℕ)) → ArePlain (x ∷ y ∷ fields)
    → row_text default_writer (x ∷ y ∷ fields) ≡ row_of (x ∷ y ∷ fields)
unfolding is_blank
plain_row x y fields h = rw (plain_text x h.0, plain_fields x (y ∷ fields) h.1) refl

number_fits : (rule : Rule) → number_of rule < 2 ^ 64
number_fits Timing = omega arith
number_fits EmptyPlace = omega arith
number_fits WrongPath = omega arith
number_fits OnPath = omega arith
number_fits Masked = omega arith
number_fits DeadRegister = omega arith
number_fits DeadData = omega arith
number_fits StoreRedirection = omega arith
number_fits CleanData = omega arith
number_fits CleanLine = omega arith
number_fits UnaccessedLine = omega arith
number_fits CleanTag = omega arith
number_fits NoTrapCause = omega arith

plain_names : (rules : List Rule) → ArePlain (map rule_name rules)
plain_names [] = tt
plain_names (rule ∷ rules) = (plain_decimal (number_of rule) (number_fits rule), plain_names rules)

-- ---- the rows of the table

pub header_text : row_text default_writer header ≡ row_of header
unfolding header
header_text =
    let plain : ArePlain header = (refl, (refl, (refl, (refl, (refl, plain_names rules))))) in
    plain_row (codes "structure") (codes "bits") (codes "cycles" ∷ codes "ace" ∷ codes "ppm" ∷ map rule_name rules) plain

plain_counts : (f : Rule → ℕ) → ((rule : Rule) → f rule < 2 ^ 64) → (rules : List Rule) → ArePlain (map (λ rule. decimal (f rule)) rules)
plain_counts f h [] = tt
plain_counts f h (rule ∷ rules) = (plain_decimal (f rule) (h rule), plain_counts f h rules)

count_fits : (counted : Counted) → IsCounted counted → (s : Structure) (class : Class) → count_of counted s class < 2 ^ 64
count_fits counted h s class =
    let m = count_most counted h s class in
    let p = pairs_most counted h s in
    omega (arith, m, p)

pub structure_row_text : (counted : Counted) → IsCounted counted → (s : Structure)
    → row_text default_writer (structure_row counted s) ≡ row_of (structure_row counted s)
unfolding structure_row rule_field
structure_row_text counted h s =
    let bits = bits_in_most s counted.shape h.shape in
    let most = h.most in
    let ppm = ppm_most counted h s in
    plain_row _ _ _ (
      plain_name s,
      (
        plain_decimal (bits_of counted s) (omega (arith, bits)),
        (
          plain_decimal counted.cycles (omega (arith, most)),
          (
            plain_decimal (ace_of counted s) (count_fits counted h s Ace),
            (
              plain_decimal (ppm_of counted s) (omega (arith, ppm)),
              plain_counts (λ rule. count_of counted s (UnAce rule)) (λ rule. count_fits counted h s (UnAce rule)) rules,
            ),
          ),
        ),
      ),
    )
