-- A run that is flipped, beside the recorded one: when both are the same to the program, when they differ, and when no end comes.
use Rattle.std.specs.Prelude.{◌≡◌, ◌≤◌, ◌<◌, ◌+◌, ◌*◌, ◌⊎◌, ℕ, List, ◌++◌, length, take, None, Some}
use Rattle.avf_base.specs.declared.end.End.{End}
use Rattle.bit_field.specs.declared.places.Place.{Place}
use Rattle.cyc_machine.specs.Cycle.{end_in}
use Rattle.cyc_machine.specs.Run.{EndsIn, output_after, output_below, state_after, state_at}
use Rattle.cyc_machine.specs.State.{State}
use Rattle.cyc_machine.specs.Strikes.{flip_at_place}
use Rattle.cyc_machine.specs.declared.machine.TheConstants.{CYCLES_PER_INSTRUCTION}
use Rattle.run_record.specs.Run.{RecordedRun}
use Rattle.run_record.specs.declared.verdict.Verdict.{Verdict}
use Rattle.run_record.specs.declared.verdict.Verdict.TheVariants.{Same, Differs, NoEnd}

-- the state before cycle t with one bit flipped: the flipped run goes on from here
abbrev pub flipped : RecordedRun → ℕ → Place → State
flipped r t place = flip_at_place (state_at r.image r.shape t) place

-- how far a run that was flipped before cycle t is compared: as many cycles as recorded instructions and 8 more can take
abbrev pub bound : RecordedRun → ℕ → ℕ
bound r t = t + CYCLES_PER_INSTRUCTION * (r.instructions + 8)

-- Below, a run goes on from the state u, which stands in place of the recorded state before cycle t. Its cycle k is cycle t + k from reset.

-- the bytes that were put when n of its cycles are over: those of the first t cycles of the recorded run, and then its own
abbrev pub output_since : RecordedRun → ℕ → State → ℕ → List ℕ
output_since r t u n = output_below r.image r.shape t ++ output_after n u

-- the bytes are the first of the recorded ones
abbrev pub IsFront : RecordedRun → List ℕ → Type 0
IsFront r bytes = bytes ≡ take (length bytes) r.output

-- its cycle k brings no end and, if it puts a byte, the recorded one that is next
pub record GoesOn (r : RecordedRun) (t : ℕ) (u : State) (k : ℕ) : Type 0 where
  pub no_end : end_in (state_after k u) ≡ None
  pub front : IsFront r (output_since r t u (k + 1))

-- its cycle k brings an end that isn't the recorded one, or comes with other bytes than the recorded ones
pub record EndsUnlike (r : RecordedRun) (t : ℕ) (u : State) (k : ℕ) : Type 0 where
  pub end : End
  pub ends : end_in (state_after k u) ≡ Some end
  pub unlike : (end ≡ r.end) × (output_since r t u (k + 1) ≡ r.output) → ⊥

-- its cycle k puts a byte that isn't the recorded one that is next, or one after the last
abbrev pub PutsUnlike : RecordedRun → ℕ → State → ℕ → Type 0
PutsUnlike r t u k = IsFront r (output_since r t u (k + 1)) → ⊥

-- it has so many cycles from reset, at most the bound, and puts the recorded bytes and has the recorded end
pub record EndsSame (r : RecordedRun) (t : ℕ) (u : State) (cycles : ℕ) : Type 0 where
  pub last : ℕ
  pub counted : cycles ≡ t + last + 1
  pub within : cycles ≤ bound r t
  pub ends : EndsIn u last r.end
  pub output : output_since r t u (last + 1) ≡ r.output

-- the first byte or end that is unlike comes in this cycle, which is below the bound
pub record ComesUnlike (r : RecordedRun) (t : ℕ) (u : State) (cycle : ℕ) : Type 0 where
  pub k : ℕ
  pub counted : cycle ≡ t + k
  pub within : cycle < bound r t
  pub before : (i : ℕ) → i < k → GoesOn r t u i
  pub unlike : PutsUnlike r t u k ⊎ EndsUnlike r t u k

-- neither comes before the bound
pub record IsStillOn (r : RecordedRun) (t : ℕ) (u : State) (cycle : ℕ) : Type 0 where
  pub counted : cycle ≡ bound r t
  pub goes_on : (i : ℕ) → t + i < cycle → GoesOn r t u i

abbrev pub IsVerdict : RecordedRun → ℕ → State → Verdict → Type 0
IsVerdict r t u (Same cycles) = EndsSame r t u cycles
IsVerdict r t u (Differs cycle) = ComesUnlike r t u cycle
IsVerdict r t u (NoEnd cycle) = IsStillOn r t u cycle

-- exactly one of the three holds, of one number
pub record HasOneVerdict (r : RecordedRun) (t : ℕ) (u : State) : Type 0 where
  pub verdict : Verdict
  pub is : IsVerdict r t u verdict
  pub only : (other : Verdict) → IsVerdict r t u other → other ≡ verdict

-- the flipped run has the recorded output and end within the bound
pub record HasSame (r : RecordedRun) (t : ℕ) (u : State) : Type 0 where
  pub cycles : ℕ
  pub same : EndsSame r t u cycles
