-- One cycle with a struck bit of a clean line, beside the same cycle without the strike.
use Rattle.std.specs.Prelude.{◌≡◌, ◌≢◌, ⊤, ℕ, Bool, true, false, ◌/◌, ◌%◌, Option, Some, None, if◌then◌else◌}
use Rattle.bit_field.specs.declared.shapes.Shape.{Shape}
use Rattle.wb_cache.specs.declared.event.CacheEvent.{CacheEvent}
use Rattle.event_log.specs.Events.{holds_byte}
use Rattle.event_log.specs.Lookups.{fills}
use Rattle.event_log.specs.Nexts.{concerns, told_by}
use Rattle.event_log.specs.declared.next.Next.{Next}
use Rattle.event_log.specs.declared.next.Next.TheVariants.{Read, Overwritten, Beside, Evicted, Ends}
use Rattle.cyc_machine.specs.Cycle.{cycle, done_in, event_in}
use Rattle.cyc_machine.specs.Reports.{SameReport}
use Rattle.cyc_machine.specs.State.{State}
use Rattle.clean_lines.specs.Struck.{IsCleanSlot, IsDirtySlot, data_struck, near_line, tag_line, tag_slot, tag_struck}

-- the cycles from two states have the same report, and are done with the same action
pub record SameCycle (s u : State) : Type 0 where
  pub report : SameReport s u
  pub done : done_in s ≡ done_in u

-- what the event of one cycle does to byte `byte` of slot l; `Ends` where it doesn't concern it
abbrev pub told_in : Shape → ℕ → ℕ → Option CacheEvent → Next
told_in shape l byte None = Ends
told_in shape l byte (Some e) = if concerns shape l byte e then told_by e.kind (holds_byte byte e) e.cycle else Ends

-- The cycle from a state with struck data bit k of a clean line, by what the cycle's event does to the byte. Where it reads the byte,
-- nothing is said. A write of the byte and a fill remove the difference. Else it stays, in a clean line or in one that is dirty from now on.
abbrev pub DataCycleBy : State → ℕ → Next → Type 0
DataCycleBy s k (Read t) = ⊤
DataCycleBy s k (Overwritten t) = SameCycle s (data_struck k s) × (cycle (data_struck k s) ≡ cycle s)
DataCycleBy s k (Beside t) = SameCycle s (data_struck k s) × (cycle (data_struck k s) ≡ data_struck k (cycle s)) × IsDirtySlot (cycle s).cache (k / 128)
DataCycleBy s k (Evicted t) = SameCycle s (data_struck k s) × (cycle (data_struck k s) ≡ cycle s)
DataCycleBy s k Ends = SameCycle s (data_struck k s) × (cycle (data_struck k s) ≡ data_struck k (cycle s)) × IsCleanSlot (cycle s).cache (k / 128)

abbrev pub DataCycle : State → ℕ → Type 0
DataCycle s k = DataCycleBy s k (told_in s.cache.shape (k / 128) (k % 128 / 8) (event_in s))

-- The event of one cycle, if there is one, is of neither of the lines that the slot of tag bit k holds and seems to hold once the bit is
-- flipped.
abbrev pub IsApart : State → ℕ → Option CacheEvent → Type 0
IsApart s k None = ⊤
IsApart s k (Some e) = (e.line ≢ tag_line s.cache k) × (e.line ≢ near_line s.cache k)

-- whether the event of one cycle fills slot l
abbrev pub fills_in : Shape → ℕ → Option CacheEvent → Bool
fills_in shape l None = false
fills_in shape l (Some e) = fills shape l e

-- The cycle from a state with struck tag bit k of a clean line, whose event is apart from both lines, by whether it fills the slot. A fill
-- removes the difference. Else it stays, and the slot holds its line, clean.
abbrev pub TagCycleBy : State → ℕ → Bool → Type 0
TagCycleBy s k true = SameCycle s (tag_struck k s) × (cycle (tag_struck k s) ≡ cycle s)
TagCycleBy s k false =
    SameCycle s (tag_struck k s) × (cycle (tag_struck k s) ≡ tag_struck k (cycle s)) × IsCleanSlot (cycle s).cache (tag_slot s.cache k)
    × (tag_line (cycle s).cache k ≡ tag_line s.cache k)

abbrev pub TagCycle : State → ℕ → Type 0
TagCycle s k = TagCycleBy s k (fills_in s.cache.shape (tag_slot s.cache k) (event_in s))
