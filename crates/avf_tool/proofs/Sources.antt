-- What `asm` answers for a source, by its fault.
use Rattle.std.proofs.Common.{◌≡◌, ℕ, ◌<◌, List, length, true, Option, None, Some, refl, ap, ◌∙◌, sym, arith}
use Rattle.std.specs.Prelude.{nat_lt, option_map}
use Rattle.std.proofs.lemmas.Bool.Decides.{nat_tests}
use Rattle.avf_base.specs.declared.refusal.Refusal.TheVariants.{BadSource}
use Rattle.rv_asm.specs.Sources.{assembled, fault_in, numbered}
use Rattle.rv_asm.specs.declared.fault.Fault.{Fault}
use Rattle.rv_asm.specs.declared.layout.TheConstants.{SOURCE_ROOM}
use Rattle.avf_tool.specs.Answers.{source_answer, unless_faulty}
use Rattle.avf_tool.specs.Due.{Answer, Text, Refused}
use Rattle.avf_tool.specs.declared.stages.TheConstants.{BAD_SIZE, WHOLE_SOURCE}

-- a source without a fault
pub faultless : (source file : List ℕ) → fault_in source ≡ None → file ≡ assembled source → source_answer source ≡ Text file
faultless source file none is = ap (λ fault. unless_faulty fault (Text (assembled source))) none ∙ ap Text (sym is)

numbered_told : (fault : Option (ℕ × Fault)) (line cause : ℕ) (next : Answer) → option_map numbered fault ≡ Some (line, cause)
    → unless_faulty fault next ≡ Refused (BadSource line cause)
numbered_told None line cause next e = absurd cc
numbered_told (Some fault) line cause next e =
    let same : numbered fault ≡ (line, cause) = cc in
    ap (λ p. Refused (BadSource p.0 p.1)) same

-- one with a fault
pub faulty : (source : List ℕ) (line cause : ℕ) → option_map numbered (fault_in source) ≡ Some (line, cause)
    → source_answer source ≡ Refused (BadSource line cause)
faulty source line cause e = numbered_told (fault_in source) line cause (Text (assembled source)) e

-- one that is too long
pub too_long : (source : List ℕ) → SOURCE_ROOM < length source → source_answer source ≡ Refused (BadSource WHOLE_SOURCE BAD_SIZE)
unfolding fault_in
too_long source long =
    let is : nat_lt SOURCE_ROOM (length source) ≡ true = grind (arith, nat_tests) in
    rw is refl

pub ruleset lemmas = (faultless, faulty)
