-- Registers and labels.
use Rattle.std.specs.Prelude.{ℕ, ◌==◌, ◌&&◌, ◌||◌, Bool, nat_le, not, if◌then◌else◌, List}
use Rattle.std.specs.Prelude.{[], ◌∷◌, length, bytes_eq, codes, find, slice_index, slice_index_or, Option, Some, None}
use Rattle.std.specs.List.{list_all, range_with_len}
use Rattle.rv_table.specs.Texts.{register_name}

-- letters of both cases, `_` and `.`
abbrev pub begins_label : ℕ → Bool
begins_label b = (nat_le 65 b && nat_le b 90) || (nat_le 97 b && nat_le b 122) || b == 95 || b == 46

abbrev pub is_label_byte : ℕ → Bool
is_label_byte b = begins_label b || (nat_le 48 b && nat_le b 57)

abbrev pub is_label : List ℕ → Bool
is_label word = not (length word == 0) && begins_label (slice_index word 0) && list_all is_label_byte word

-- the label that a word spells: the word itself
unfoldable pub label : List ℕ → Option (List ℕ)
label word = if is_label word then Some word else None

-- what names the registers have beside their own, by number
abbrev pub numbered_names : List (List ℕ)
numbered_names =
    codes "x0" ∷ codes "x1" ∷ codes "x2" ∷ codes "x3" ∷ codes "x4" ∷ codes "x5" ∷ codes "x6" ∷ codes "x7" ∷
    codes "x8" ∷ codes "x9" ∷ codes "x10" ∷ codes "x11" ∷ codes "x12" ∷ codes "x13" ∷ codes "x14" ∷ codes "x15" ∷
    codes "x16" ∷ codes "x17" ∷ codes "x18" ∷ codes "x19" ∷ codes "x20" ∷ codes "x21" ∷ codes "x22" ∷ codes "x23" ∷
    codes "x24" ∷ codes "x25" ∷ codes "x26" ∷ codes "x27" ∷ codes "x28" ∷ codes "x29" ∷ codes "x30" ∷ codes "x31" ∷
    []

unfoldable pub numbered_name : ℕ → List ℕ
numbered_name r = slice_index_or numbered_names r []

abbrev pub names_register : List ℕ → ℕ → Bool
names_register word r = bytes_eq word (register_name r) || bytes_eq word (numbered_name r)

-- the register that a word names; x8 is also called fp
unfoldable pub register : List ℕ → Option ℕ
register word = if bytes_eq word (codes "fp") then Some 8 else find (names_register word) (range_with_len 0 32)
