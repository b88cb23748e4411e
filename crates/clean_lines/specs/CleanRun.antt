-- Many cycles with a struck bit of a clean line, beside the same cycles without the strike, by the events of the cache.
use Rattle.std.specs.Prelude.{◌≡◌, ℕ, suc, Option, Some, None, ◌-◌, ◌/◌, ◌%◌, ◌<◌}
use Rattle.wb_cache.specs.declared.event.CacheEvent.{CacheEvent}
use Rattle.event_log.specs.Events.{first_event}
use Rattle.event_log.specs.Lookups.{fills}
use Rattle.event_log.specs.Nexts.{next_of}
use Rattle.event_log.specs.declared.next.Next.{Next}
use Rattle.event_log.specs.declared.next.Next.TheVariants.{Read, Overwritten, Beside, Evicted, Ends}
use Rattle.cyc_machine.specs.Run.{events_after, state_after}
use Rattle.cyc_machine.specs.State.{State}
use Rattle.clean_lines.specs.CleanCycle.{SameCycle}
use Rattle.clean_lines.specs.Struck.{IsCleanSlot, IsDirtySlot, data_struck, tag_line, tag_slot, tag_struck}

-- each of the first n cycles from two states is seen alike
abbrev pub SameCycles : ℕ → State → State → Type 0
SameCycles n s u = (i : ℕ) → i < n → SameCycle (state_after i s) (state_after i u)

-- the first n cycles are seen alike, and lead to one state
pub record IsSettled (n : ℕ) (s u : State) : Type 0 where
  pub same : SameCycles n s u
  pub state : state_after n u ≡ state_after n s

-- the first n cycles are seen alike, and lead to states that differ by the strike alone
pub record IsInStep (n : ℕ) (s : State) (strike : State → State) : Type 0 where
  pub same : SameCycles n s (strike s)
  pub state : state_after n (strike s) ≡ strike (state_after n s)

-- The first n cycles from a state with struck data bit k of a clean line, by the first of their events that concerns the byte.
abbrev pub DataRunBy : ℕ → State → ℕ → Next → Type 0
DataRunBy n s k (Read t) = IsInStep (t - s.cycle) s (data_struck k)
DataRunBy n s k (Overwritten t) = IsSettled n s (data_struck k s)
DataRunBy n s k (Beside t) = IsInStep (suc t - s.cycle) s (data_struck k) × IsDirtySlot (state_after (suc t - s.cycle) s).cache (k / 128)
DataRunBy n s k (Evicted t) = IsSettled n s (data_struck k s)
DataRunBy n s k Ends = IsInStep n s (data_struck k) × IsCleanSlot (state_after n s).cache (k / 128)

abbrev pub DataRun : ℕ → State → ℕ → Type 0
DataRun n s k = DataRunBy n s k (next_of s.cache.shape (k / 128) (k % 128 / 8) s.cycle (events_after n s))

-- The first n cycles from a state with struck tag bit k of a clean line, by the first of their events that fills the slot.
abbrev pub TagRunBy : ℕ → State → ℕ → Option CacheEvent → Type 0
TagRunBy n s k (Some e) = IsSettled n s (tag_struck k s)
TagRunBy n s k None =
    IsInStep n s (tag_struck k) × IsCleanSlot (state_after n s).cache (tag_slot s.cache k) × (tag_line (state_after n s).cache k ≡ tag_line s.cache k)

abbrev pub TagRun : ℕ → State → ℕ → Type 0
TagRun n s k = TagRunBy n s k (first_event (fills s.cache.shape (tag_slot s.cache k)) s.cycle (events_after n s))
