-- Operands read token by token.
use Rattle.std.proofs.Common.{◌≡◌, List, [], ◌∷◌, Some, refl}
use Rattle.rv_asm.specs.Chains.{◌>>=◌}
use Rattle.rv_asm.specs.declared.bytes.TheConstants.{COMMA, OPEN, CLOSE}
use Rattle.rv_asm.specs.Tokens.{Token, Word, Comma, Open, Close, behind, end, first_word, word_behind, one_of, two_of, three_of, address_of}

pub one-chain : (ts : List Token) → one_of ts ≡ (do
  a ← first_word ts
  none ← end a.1
  Some a.0)
unfolding one_of first_word end
one-chain (Word a ∷ []) = refl
one-chain _ = refl

pub two-chain : (ts : List Token) → two_of ts ≡ (do
  a ← first_word ts
  b ← word_behind COMMA a.1
  none ← end b.1
  Some (a.0, b.0))
unfolding two_of first_word behind word_behind end
two-chain (Word a ∷ Comma ∷ Word b ∷ []) = refl
two-chain _ = refl

pub three-chain : (ts : List Token) → three_of ts ≡ (do
  a ← first_word ts
  b ← word_behind COMMA a.1
  c ← word_behind COMMA b.1
  none ← end c.1
  Some (a.0, b.0, c.0))
unfolding three_of first_word behind word_behind end
three-chain (Word a ∷ Comma ∷ Word b ∷ Comma ∷ Word c ∷ []) = refl
three-chain _ = refl

pub address-chain : (ts : List Token) → address_of ts ≡ (do
  a ← first_word ts
  n ← word_behind COMMA a.1
  base ← word_behind OPEN n.1
  closed ← behind CLOSE base.1
  none ← end closed
  Some (a.0, n.0, base.0))
unfolding address_of first_word behind word_behind end
address-chain (Word a ∷ Comma ∷ Word n ∷ Open ∷ Word base ∷ Close ∷ []) = refl
address-chain _ = refl

pub ruleset operands = (one-chain, two-chain, three-chain, address-chain)
