-- One cycle of a run beside the recorded one.
use Rattle.std.specs.Prelude.{◌≡◌, ◌≤◌, ◌+◌, ◌⊎◌, ℕ, Bool, true, false, List, length, take, Option, None, Some}
use Rattle.avf_base.specs.declared.end.End.{End}
use Rattle.cyc_machine.specs.Cycle.{end_in, put_in}
use Rattle.cyc_machine.specs.Run.{with_one}
use Rattle.cyc_machine.specs.State.{State}
use Rattle.run_record.specs.Run.{RecordedRun}
use Rattle.run_record.specs.Verdict.{IsFront}
use Rattle.run_record.specs.declared.verdict.Verdict.{Verdict}
use Rattle.run_record.specs.declared.verdict.Verdict.TheVariants.{Same, Differs, NoEnd}

-- the first so many recorded bytes, and what a cycle puts after them
abbrev pub with_put : RecordedRun → ℕ → Option ℕ → List ℕ
with_put r matched put = with_one (take matched r.output) put

-- the bytes are so many of the recorded ones, the first
abbrev pub AreFirst : RecordedRun → List ℕ → ℕ → Type 0
AreFirst r bytes matched = (bytes ≡ take matched r.output) × (matched ≤ length r.output)

-- whether the bytes are the first of the recorded ones, and then so many
abbrev pub IsFollowed : RecordedRun → List ℕ → ℕ → Bool → Type 0
IsFollowed r bytes matched true = AreFirst r bytes matched
IsFollowed r bytes matched false = IsFront r bytes → ⊥

-- an end that isn't the recorded one, or comes with other bytes than the recorded ones
pub record EndsOtherwise (r : RecordedRun) (bytes : List ℕ) (end : Option End) : Type 0 where
  pub ending : End
  pub ends : end ≡ Some ending
  pub unlike : (ending ≡ r.end) × (bytes ≡ r.output) → ⊥

-- What a cycle settles when these bytes are put and it brings this end. Where it settles nothing the run goes on like the recorded one.
abbrev pub IsJudged : RecordedRun → List ℕ → Option End → ℕ → ℕ → Option Verdict → Type 0
IsJudged r bytes end cycle matched None = (end ≡ None) × AreFirst r bytes matched
IsJudged r bytes end cycle matched (Some (Same cycles)) = (end ≡ Some r.end) × (bytes ≡ r.output) × (cycles ≡ cycle + 1)
IsJudged r bytes end cycle matched (Some (Differs at)) = ((IsFront r bytes → ⊥) ⊎ EndsOtherwise r bytes end) × (at ≡ cycle)
IsJudged r bytes end cycle matched (Some (NoEnd at)) = ⊥

-- the same of the cycle of this number from this state, before which so many of the recorded bytes were put, and `now` after it
abbrev pub IsCompared : RecordedRun → State → ℕ → ℕ → ℕ → Option Verdict → Type 0
IsCompared r s cycle matched now verdict = IsJudged r (with_put r matched (put_in s)) (end_in s) cycle now verdict
