-- What parsing says of a numeral.
use Rattle.std.proofs.Common.{◌≡◌, ℕ, ◌^◌, ◌<◌, ◌≤◌, List, length, get_or, Bool, true, false, None, Some, Ok, Err, refl, sym, ap, ◌∙◌, ◌≢◌, arith}
use Rattle.std.specs.Prelude.{◌&&◌, nat_lt, nat_le, if◌then◌else◌}
use Rattle.std.specs.Str.{all_ascii_digits}
use Rattle.std.specs.Str.Parse.{ParsesUnsigned, digits_value}
use Rattle.std.proofs.lemmas.Str.Parse.{parse_plain, numerals_by_value, tells_all_ascii_digits, IsNumeralModel}
use Rattle.std.proofs.lemmas.Bool.Decides.{nat_tests}
use Rattle.avf_tool.specs.Numbers.{is_plain, number, within}

own : IsNumeralModel (λ ds. all_ascii_digits ds ≡ true) (digits_value 10)
own = numerals_by_value _ tells_all_ascii_digits

-- the definition, over what its tests give
number_is : (least most : ℕ) (text : List ℕ) → all_ascii_digits text ≡ true → 0 < length text → is_plain text ≡ true
    → number least most text ≡ within least most (digits_value 10 text)
number_is least most text all some lead =
    let one : nat_lt 0 (length text) ≡ true = grind (arith, nat_tests) in
    rw all (rw one (rw lead refl))

pub found : (least most n : ℕ) (text : List ℕ) → ParsesUnsigned {E = ℕ} 64 10 text (Ok n) → get_or text 0 0 ≢ 43 → is_plain text ≡ true
    → within least most n ≡ number least most text
found least most n text h plain lead =
    let p : (((all_ascii_digits text ≡ true) × (0 < length text) × (digits_value 10 text < 2 ^ 64)) × (n ≡ digits_value 10 text)) =
    parse_plain own {E = ℕ} 64 text (Ok n) h plain in
    ap (within least most) p.1 ∙ sym (number_is least most text p.0.0 p.0.1 lead)

none_of : (n : ℕ) (a b c d e : Bool) → (a ≡ true → b ≡ true → e ≡ true → ⊥) → None ≡ (if a && b && c then (if d && e then Some n else None) else None)
none_of n false b c d e f = refl
none_of n true false c d e f = refl
none_of n true true false d e f = refl
none_of n true true true false e f = refl
none_of n true true true true false f = refl
none_of n true true true true true f = absurd (f refl refl refl)

pub missed : (least most : ℕ) (text : List ℕ) → ParsesUnsigned {E = ℕ} 64 10 text (Err 0) → get_or text 0 0 ≢ 43 → most < 2 ^ 64 → None ≡ number least most text
missed least most text h plain fits =
    let wrong : ¬ ((all_ascii_digits text ≡ true) × (0 < length text) × (digits_value 10 text < 2 ^ 64)) = parse_plain own {E = ℕ} 64 text (Err 0) h plain in
    none_of (digits_value 10 text) (all_ascii_digits text) (nat_lt 0 (length text)) _ (nat_le least (digits_value 10 text)) (nat_le (digits_value 10 text) most)
    (λ a b e.
    let some : 0 < length text = grind (arith, nat_tests) in
    let low : digits_value 10 text ≤ most = grind (arith, nat_tests) in
    wrong (a, some, omega arith))

pub plus_at : (bytes text : List ℕ) → bytes ≡ text → get_or bytes 0 0 ≢ 43 → get_or text 0 0 ≢ 43
plus_at bytes text e h f = h (ap (λ l. get_or l 0 0) e ∙ f)

pub plain_at : (bytes text : List ℕ) (r : Bool) → bytes ≡ text → r ≡ is_plain bytes → r ≡ true → is_plain text ≡ true
plain_at bytes text r e p h = ap is_plain (sym e) ∙ sym p ∙ h
