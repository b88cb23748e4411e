-- A state that seems the recorded one: what the masks are good for.
use Rattle.std.specs.Prelude.{◌≡◌, ℕ, ◌+◌, ◌++◌, List, [], drop, None}
use Rattle.elf_load.specs.Image.{LoadedImage}
use Rattle.rv_isa.specs.declared.effect.Retired.{Retired}
use Rattle.rv_isa.specs.Instruction.{Log, State}
use Rattle.cyc_machine.specs.InFlight.{outcome}
use Rattle.rv_isa.specs.Architecture.{ArchState, state_of}
use Rattle.rv_isa.specs.Effects.{operated}
use Rattle.rv_table.specs.Words.{decode}
use Rattle.need_pass.specs.Needed.{Agrees}
use Rattle.need_pass.specs.Tables.{Needs, IsNeedOf}
use Rattle.eval_mask.specs.LatchMasks.{IsMasked, Latches}
use Rattle.eval_mask.specs.WordMasks.{IsAlikeWord}

-- with these clock values to come and this log
abbrev pub under : List ℕ → Log → State → State
under clocks log at = record at { clocks = clocks; log = log }

abbrev pub no_log : Log
no_log = record { output = []; actions = [] }

-- The state has the output and the end of the recorded one and has read no clock value; where the recorded run goes on, it agrees with
-- it on all that the later instructions need.
pub record Seems (later : List Retired) (clocks : List ℕ) (recorded at : State) : Type 0 where
  pub output : at.log.output ≡ recorded.log.output
  pub stop : at.stop ≡ recorded.stop
  pub unread : at.clocks ≡ clocks
  pub agrees : recorded.stop ≡ None → recorded.clocks ≡ clocks → Agrees later recorded at

-- a state is another one with this output before its own, but for clock values and actions
pub record StandsAt (before : List ℕ) (at base : State) : Type 0 where
  pub registers : at.registers ≡ base.registers
  pub memory : at.memory ≡ base.memory
  pub pc : at.pc ≡ base.pc
  pub count : at.count ≡ base.count
  pub stop : at.stop ≡ base.stop
  pub output : at.log.output ≡ before ++ base.log.output

-- Flipped latches whose bits are masked seem the recorded ones once they are completed, whatever clock values are to come and
-- whatever the log is. ID/EX is occupied as it was, at the address where it was.
abbrev pub MaskedSeems : Type 0
MaskedSeems =
    (entries : List Retired) (needs : Needs) (j : ℕ) (image : LoadedImage) (at recorded : State) (clocks : List ℕ) (log : Log) (l other : Latches)
    → IsNeedOf entries needs → other.d.valid ≡ l.d.valid → other.d.pc ≡ l.d.pc
    → StandsAt log.output recorded (outcome image l.w l.m l.d (under [] no_log at))
    → IsMasked needs j image (under [] no_log at) l other
    → Seems (drop j entries) clocks recorded (outcome image other.w other.m other.d (under clocks log at))

-- The same of an instruction word, at a state of the run: `at` is the state that the program holds, with a log.
abbrev pub WordSeems : Type 0
WordSeems =
    (entries : List Retired) (needs : Needs) (i word other : ℕ) (arch : ArchState) (at : State)
    → IsNeedOf entries needs → state_of arch ≡ under at.clocks no_log at → IsAlikeWord needs i arch word other
    → Seems (drop (i + 1) entries) at.clocks (operated arch.image (decode word) at) (operated arch.image (decode other) at)
