-- Numbers: decimal digits with an optional minus, or `0x` and hexadecimal digits of both cases.
use Rattle.std.specs.Prelude.{ℕ, ◌+◌, ◌*◌, ◌==◌, ◌||◌, Bool, not, if◌then◌else◌, List, [], ◌∷◌}
use Rattle.std.specs.Prelude.{length, drop, min, codes, Option, Some, None, option_map, ℤ, pos, neg_ℤ}
use Rattle.std.specs.Char.{digit_value, is_digit}
use Rattle.std.specs.List.{list_all, starts_with}
use Rattle.std.specs.Bool.{nat_eq}
use Rattle.rv_asm.specs.declared.numbers.TheConstants.{NUMBER_BOUND}

abbrev pub are_digits : ℕ → List ℕ → Bool
are_digits base digits = list_all (λ d. is_digit d base) digits

-- what digits are worth behind those that are worth n
unfoldable pub value_behind : ℕ → ℕ → List ℕ → ℕ
value_behind base n [] = n
value_behind base n (d ∷ ds) = value_behind base (n * base + digit_value d) ds

-- A number counts up to the bound, which is in no range.
abbrev pub bounded : ℕ → ℕ
bounded n = min NUMBER_BOUND n

-- the number that digits spell in a base
unfoldable pub magnitude : ℕ → List ℕ → Option ℕ
magnitude base digits = if length digits == 0 || not (are_digits base digits) then None else Some (bounded (value_behind base 0 digits))

abbrev pub positive : ℕ → ℤ
positive n = pos n

abbrev pub negative : ℕ → ℤ
negative n = neg_ℤ (pos n)

-- the number that a word spells
unfoldable pub number : List ℕ → Option ℤ
number word =
    if starts_with nat_eq word (codes "-") then option_map negative (magnitude 10 (drop 1 word))
    else if starts_with nat_eq word (codes "0x") then option_map positive (magnitude 16 (drop 2 word))
    else option_map positive (magnitude 10 word)
