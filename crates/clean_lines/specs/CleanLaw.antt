-- The law of struck bits of clean lines. It asks of the state the lengths and widths that every cycle keeps, and for tags besides that,
-- where the port is busy, it works for a client whose line is missing, in this state and in all that follow.
use Rattle.std.specs.Prelude.{◌≡◌, ◌≢◌, ℕ, suc, ◌*◌, ◌/◌, ◌<◌, false}
use Rattle.avf_base.specs.declared.end.End.{End}
use Rattle.bit_field.specs.Shapes.{slots, tag_bits}
use Rattle.rv_isa.specs.Instruction.{Log}
use Rattle.event_log.specs.Lookups.{looked_up}
use Rattle.cyc_machine.specs.Busy.{WorksForMiss}
use Rattle.cyc_machine.specs.Cycle.{event_in}
use Rattle.cyc_machine.specs.Run.{EndsIn, RunsFor, events_after, log_after, output_after, retired_after, state_after}
use Rattle.cyc_machine.specs.Sizes.{IsSteady}
use Rattle.cyc_machine.specs.State.{State}
use Rattle.clean_lines.specs.CleanCycle.{DataCycle, IsApart, TagCycle}
use Rattle.clean_lines.specs.CleanRun.{DataRun, SameCycles, TagRun}
use Rattle.clean_lines.specs.Struck.{IsCleanSlot, near_line, tag_line, tag_slot}

-- the first n cycles of two runs do the same
pub record DoesAlike (n : ℕ) (s u : State) : Type 0 where
  pub output : output_after n u ≡ output_after n s
  pub events : events_after n u ≡ events_after n s
  pub retired : retired_after n u ≡ retired_after n s
  pub log : (log : Log) → log_after n u log ≡ log_after n s log
  pub running : RunsFor n s → RunsFor n u

pub record CleanLaw : Type 0 where
  pub data_cycle : (s : State) (k : ℕ) → IsSteady s → k < slots s.cache.shape * 128 → IsCleanSlot s.cache (k / 128) → DataCycle s k
  pub data_run : (n : ℕ) (s : State) (k : ℕ) → IsSteady s → k < slots s.cache.shape * 128 → IsCleanSlot s.cache (k / 128) → DataRun n s k
  pub tag_cycle : (s : State) (k : ℕ) → IsSteady s → (s.port.count ≢ 0 → WorksForMiss s) → k < slots s.cache.shape * tag_bits s.cache.shape
      → IsCleanSlot s.cache (tag_slot s.cache k) → IsApart s k (event_in s) → TagCycle s k
  -- no event, up to and with the first fill into the slot, is of the slot's line or of the line at distance one
  pub tag_run : (n : ℕ) (s : State) (k : ℕ) → IsSteady s → ((i : ℕ) → (state_after i s).port.count ≢ 0 → WorksForMiss (state_after i s))
      → k < slots s.cache.shape * tag_bits s.cache.shape → IsCleanSlot s.cache (tag_slot s.cache k)
      → looked_up s.cache.shape (tag_slot s.cache k) (tag_line s.cache k) s.cycle (events_after n s) ≡ false
      → looked_up s.cache.shape (tag_slot s.cache k) (near_line s.cache k) s.cycle (events_after n s) ≡ false → TagRun n s k
  -- what cycles that are seen alike come to
  pub alike : (n : ℕ) (s u : State) → SameCycles n s u → DoesAlike n s u
  pub ends : (n : ℕ) (s u : State) (end : End) → SameCycles (suc n) s u → EndsIn s n end → EndsIn u n end
