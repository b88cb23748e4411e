-- The flush law: a cycle leaves the flush as it is, or moves it on by one instruction, outside X; for every state, every set X
-- of lines and all clock values.
use Rattle.std.specs.Prelude.{◌≡◌, ◌+◌, ◌==◌, ◌&&◌, ℕ, Bool, is_none, nat_lt, List, drop, length, Some, None, if◌then◌else◌}
use Rattle.avf_base.specs.declared.end.End.{End}
use Rattle.rv_isa.specs.Instruction.{State as Arch, Log, instruction, logged}
use Rattle.inst_buf.specs.Buffer.{entries}
use Rattle.inst_buf.specs.Entry.{Entry}
use Rattle.cyc_machine.specs.declared.fate.Fate.{Fate}
use Rattle.cyc_machine.specs.declared.fate.Fate.TheVariants.{Stays}
use Rattle.cyc_machine.specs.Cycle.{end_in, fate, retires, done_in}
use Rattle.cyc_machine.specs.State.{State}
use Rattle.flush_view.specs.Avoids.{AvoidsFlush, outside}
use Rattle.flush_view.specs.Coherence.{IsCoherent}
use Rattle.flush_view.specs.Flush.{entries_completed, fed, flush, path}

-- the entries that remain once ID has taken its own
abbrev pub remaining : Fate → List Entry → List Entry
remaining Stays waiting = waiting
remaining _ waiting = drop 1 waiting

-- The cycle moves the flush on: the flush completes the whole path and doesn't end, there is room for one more entry, and the fetch
-- address is the address reached.
unfoldable pub moves_on : State → List ℕ → Log → Bool
moves_on s clocks log =
    entries_completed s clocks log == length (path s)
    && is_none (flush s clocks log).stop
    && nat_lt (length (remaining (fate s) (entries s.buffer))) 4
    && s.pc == (flush s clocks log).pc

-- the flush before a cycle, moved on by the instruction at its address where the cycle does so
abbrev pub moved_flush : State → List ℕ → Log → Arch
moved_flush s clocks log =
    if moves_on s clocks log then instruction s.image (flush s clocks log) else flush s clocks log

-- `next` is the state after one cycle from s; the log is what was done before.
pub record FlushLaw (s next : State) : Type 0 where
  -- A cycle that doesn't end the run. What it is done with, and so the byte that it puts, stands in the log of the next flush.
  pub goes : (out : ℕ → Bool) (clocks : List ℕ) (log : Log) → IsCoherent out s → AvoidsFlush out s (fed s clocks) log → end_in s ≡ None
      → outside out (flush next clocks (logged log (done_in s))) ≡ outside out (moved_flush s (fed s clocks) log)
  -- a cycle that ends the run has the flush's end, and the flush puts nothing
  pub ends : (clocks : List ℕ) (log : Log) (end : End) → end_in s ≡ Some end
      → ((flush s clocks log).stop ≡ Some end) × ((flush s clocks log).log.output ≡ log.output)
  -- The flush completes what EX/MEM holds and so many entries of the path.
  pub counts : (clocks : List ℕ) (log : Log) → length (flush s clocks log).log.actions
      ≡ length log.actions + (if s.m.valid then 1 else 0) + entries_completed s clocks log
  -- a cycle is done with one action where an occupied EX/MEM is left, else with none
  pub leaves : (log : Log) → length (logged log (done_in s)).actions ≡ length log.actions + (if retires s then 1 else 0)
