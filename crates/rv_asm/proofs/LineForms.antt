-- A line read token by token.
use Rattle.std.proofs.Common.{◌≡◌, ℕ, Bool, List, [], ◌∷◌, Some, None, Ok, Err, refl, ap}
use Rattle.rv_asm.specs.Chains.{◌>>=◌}
use Rattle.rv_asm.specs.Lines.{labelled, spoken, statement_of, with_label, without_label}
use Rattle.rv_asm.specs.Statements.{Blank}
use Rattle.rv_asm.specs.Tokens.{Token, Word, Colon, before_colon, behind, end, first_word}
use Rattle.rv_asm.specs.declared.bytes.TheConstants.{COLON}
use Rattle.rv_asm.specs.declared.fault.Fault.TheVariants.{UnknownWord}

pub statement_of-none : (in_data : Bool) (ts : List Token) → first_word ts ≡ None → end ts ≡ Some tt → statement_of in_data ts ≡ Ok Blank
unfolding statement_of first_word end
statement_of-none in_data [] f e = refl
statement_of-none in_data (t ∷ ts) f e = absurd cc

pub statement_of-mark : (in_data : Bool) (ts : List Token) → first_word ts ≡ None → end ts ≡ None → statement_of in_data ts ≡ Err UnknownWord
unfolding statement_of first_word end
statement_of-mark in_data [] f e = absurd cc
statement_of-mark in_data (Word bytes ∷ ts) f e = absurd cc
statement_of-mark in_data _ f e = refl

pub ruleset nothing = (statement_of-none, statement_of-mark)

pub statement_of-word : (in_data : Bool) (ts rest : List Token) (bytes : List ℕ) → first_word ts ≡ Some (bytes, rest)
    → statement_of in_data ts ≡ spoken in_data bytes rest
unfolding statement_of first_word
statement_of-word in_data (Word word ∷ ts) rest bytes f =
    let same : (word, ts) ≡ (bytes, rest) = cc in
    ap (λ (p : List ℕ × List Token). spoken in_data p.0 p.1) same
statement_of-word in_data _ rest bytes f = absurd cc

pub ruleset begun = statement_of-word

pub before_colon-chain : (ts : List Token) → before_colon ts ≡ (do
  name ← first_word ts
  rest ← behind COLON name.1
  Some (name.0, rest))
unfolding before_colon first_word behind
before_colon-chain (Word word ∷ Colon ∷ ts) = refl
before_colon-chain _ = refl

pub ruleset colons = before_colon-chain

pub labelled-colon : (in_data : Bool) (ts rest : List Token) (bytes : List ℕ) → before_colon ts ≡ Some (bytes, rest)
    → labelled in_data ts ≡ with_label in_data bytes rest
unfolding labelled before_colon
labelled-colon in_data (Word word ∷ Colon ∷ ts) rest bytes f =
    let same : (word, ts) ≡ (bytes, rest) = cc in
    ap (λ (p : List ℕ × List Token). with_label in_data p.0 p.1) same
labelled-colon in_data _ rest bytes f = absurd cc

pub labelled-none : (in_data : Bool) (ts : List Token) → before_colon ts ≡ None → labelled in_data ts ≡ without_label in_data ts
unfolding labelled before_colon
labelled-none in_data (Word word ∷ Colon ∷ ts) f = absurd cc
labelled-none in_data _ f = refl

pub ruleset labels = (labelled-colon, labelled-none)
