-- The tokens of a line: words, commas, colons and parentheses. Blanks only separate them.
use Rattle.std.specs.Prelude.{ℕ, Bool, false, ◌==◌, if◌then◌else◌, List, [], ◌∷◌, drop, Option, Some, None}
use Rattle.std.specs.List.{prefix_len}
use Rattle.rv_asm.specs.Chains.{◌>>=◌}
use Rattle.rv_asm.specs.Bytes.{is_blank, is_mark, is_word_byte}
use Rattle.rv_asm.specs.declared.bytes.TheConstants.{COMMA, COLON, OPEN, CLOSE}

pub data Token : Type 0 where
  Word : (bytes : List ℕ) → Token
  Comma : Token
  Colon : Token
  Open : Token
  Close : Token

-- the text without the blanks before it
unfoldable pub trim_start : List ℕ → List ℕ
trim_start text = drop (prefix_len is_blank text) text

abbrev pub mark_of : ℕ → Token
mark_of b = if b == COMMA then Comma else (if b == COLON then Colon else (if b == OPEN then Open else Close))

-- whether a text begins with a byte of a word
abbrev pub begins_word : List ℕ → Bool
begins_word [] = false
begins_word (b ∷ bs) = is_word_byte b

-- the byte in front of the word that comes first
abbrev pub onto_word : ℕ → List Token → List Token
onto_word b (Word bytes ∷ ts) = Word (b ∷ bytes) ∷ ts
onto_word b ts = Word (b ∷ []) ∷ ts

-- A blank is passed over, a mark is a token, and a word goes on as long as bytes of words come.
unfoldable pub tokens : List ℕ → List Token
tokens [] = []
tokens (b ∷ bs) =
    if is_blank b then tokens bs
    else if is_mark b then mark_of b ∷ tokens bs
    else if begins_word bs then onto_word b (tokens bs)
    else Word (b ∷ []) ∷ tokens bs

-- Reading tokens from the front: a word, a mark, the end.
unfoldable pub first_word : List Token → Option (List ℕ × List Token)
first_word (Word bytes ∷ ts) = Some (bytes, ts)
first_word _ = None

unfoldable pub behind : ℕ → List Token → Option (List Token)
behind mark (Comma ∷ ts) = if mark == COMMA then Some ts else None
behind mark (Colon ∷ ts) = if mark == COLON then Some ts else None
behind mark (Open ∷ ts) = if mark == OPEN then Some ts else None
behind mark (Close ∷ ts) = if mark == CLOSE then Some ts else None
behind mark _ = None

-- the word behind a mark
unfoldable pub word_behind : ℕ → List Token → Option (List ℕ × List Token)
word_behind mark ts = behind mark ts >>= first_word

unfoldable pub end : List Token → Option (Unit {0})
end [] = Some tt
end _ = None

-- the word before the colon that comes first, and what stands behind
unfoldable pub before_colon : List Token → Option (List ℕ × List Token)
before_colon (Word bytes ∷ Colon ∷ ts) = Some (bytes, ts)
before_colon _ = None

-- The operands of a statement, by how they are written: none, or one, two or three between commas, or one and `n(base)`.
unfoldable pub one_of : List Token → Option (List ℕ)
one_of (Word a ∷ []) = Some a
one_of _ = None

unfoldable pub two_of : List Token → Option (List ℕ × List ℕ)
two_of (Word a ∷ Comma ∷ Word b ∷ []) = Some (a, b)
two_of _ = None

unfoldable pub three_of : List Token → Option (List ℕ × List ℕ × List ℕ)
three_of (Word a ∷ Comma ∷ Word b ∷ Comma ∷ Word c ∷ []) = Some (a, b, c)
three_of _ = None

-- the first operand, n and the base
unfoldable pub address_of : List Token → Option (List ℕ × List ℕ × List ℕ)
address_of (Word a ∷ Comma ∷ Word n ∷ Open ∷ Word base ∷ Close ∷ []) = Some (a, n, base)
address_of _ = None
