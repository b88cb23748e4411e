-- What a flush makes of what it is given: of the latches and the entries behind them, of the log before it, of the clock values, and of
-- numbers that are in their ranges.
use Rattle.std.specs.Prelude.{◌≡◌, ◌≤◌, ◌<◌, ◌^◌, ◌&&◌, ℕ, Bool, not, List, [], ◌++◌, drop, map, if◌then◌else◌}
use Rattle.rv_isa.specs.Instruction.{State as Arch, Log}
use Rattle.rv_isa.specs.Words.{IsWords}
use Rattle.inst_buf.specs.Buffer.{entries}
use Rattle.cyc_machine.specs.InFlight.{is_latch_reached, outcome}
use Rattle.cyc_machine.specs.State.{State}
use Rattle.flush_view.specs.Flush.{before_latches, completed_path, entries_completed, flush, item_of_entry, latched}
use Rattle.flush_view.specs.Views.{view}

-- the three latches completed
abbrev pub outcome_of : State → List ℕ → Log → Arch
outcome_of s clocks log = outcome s.image s.w s.m s.d (before_latches s (view s) clocks log)

-- ID/EX is occupied, and isn't reached
abbrev pub is_latch_missed : State → List ℕ → Log → Bool
is_latch_missed s clocks log = s.d.valid && not (is_latch_reached s.d (latched s clocks log))

-- the entries completed behind the latches, none where ID/EX is missed
abbrev pub completed_behind : State → List ℕ → Log → Arch
completed_behind s clocks log =
    if is_latch_missed s clocks log
    then outcome_of s clocks log
    else completed_path s.image (map item_of_entry (entries s.buffer)) (outcome_of s clocks log)

abbrev pub no_log : Log
no_log = record { output = []; actions = [] }

-- one log and then another
abbrev pub behind : Log → Log → Log
behind log later = record { output = log.output ++ later.output; actions = log.actions ++ later.actions }

-- a state with a log before its own
abbrev pub after_log : Log → Arch → Arch
after_log log at = record at { log = behind log at.log }

-- The flush takes some clock values from the front, at most one for each entry of the path that it completes.
pub record TakesClocks (s : State) (clocks : List ℕ) (log : Log) : Type 0 where
  pub taken : ℕ
  pub most : taken ≤ entries_completed s clocks log
  pub left : (flush s clocks log).clocks ≡ drop taken clocks

-- The numbers of a state of the instruction set are in their ranges: registers, count and clock values of 32 bits, bytes of 8, and a word
-- address of 30.
pub record InRange (at : Arch) : Type 0 where
  pub words : IsWords at
  pub pc : at.pc < 2 ^ 30
