-- The bytes of a source.
use Rattle.std.specs.Prelude.{ℕ, Bool, ◌==◌, ◌&&◌, ◌||◌, not, nat_le}
use Rattle.rv_asm.specs.declared.bytes.TheConstants.{COMMA, COLON, OPEN, CLOSE}

-- a space or a tab
abbrev pub is_blank : ℕ → Bool
is_blank b = b == 0x20 || b == 9

-- a byte that is a token of its own
abbrev pub is_mark : ℕ → Bool
is_mark b = b == COMMA || b == COLON || b == OPEN || b == CLOSE

abbrev pub is_word_byte : ℕ → Bool
is_word_byte b = not (is_blank b) && not (is_mark b)

-- those that can be printed, space and tab
abbrev pub is_allowed : ℕ → Bool
is_allowed b = (nat_le 0x20 b && nat_le b 0x7E) || b == 9
