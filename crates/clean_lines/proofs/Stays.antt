-- What a line slot that is clean holds after a cycle, by the cycle's event.
use Rattle.std.proofs.Common.{◌≡◌, ℕ, ◌<◌, Bool, true, false, refl, subst}
use Rattle.std.specs.Prelude.{[], Option, Some, None, ◌==◌, if◌then◌else◌}
use Rattle.std.proofs.lemmas.Bool.{eq-eqb}
use Rattle.bit_field.specs.Shapes.{slots as slot_count}
use Rattle.wb_cache.specs.Changes.{set_at}
use Rattle.wb_cache.specs.Contents.{Contents, slot_at}
use Rattle.wb_cache.specs.Lookup.{line_of}
use Rattle.wb_cache.specs.declared.event.CacheEvent.{CacheEvent}
use Rattle.cyc_machine.specs.Cycle.{cycle, event_in}
use Rattle.cyc_machine.specs.EventsLaw.{Clean, Dirty, Held, IsHeld, held_after, held_behind}
use Rattle.cyc_machine.specs.Run.{events_after, state_after, with_one}
use Rattle.cyc_machine.specs.Sizes.{IsSteady}
use Rattle.cyc_machine.specs.State.{State}
use Rattle.cyc_machine.proofs.HeldSlots.{held-on}
use Rattle.clean_lines.specs.Struck.{IsCleanSlot, IsDirtySlot}

-- the line of slot l
abbrev pub line_at : Contents → ℕ → ℕ
line_at c l = line_of c.shape (set_at c.shape l) (slot_at c l).tag

-- what the event makes of a slot that holds a line, clean
abbrev pub held_then : State → ℕ → Held → Option CacheEvent → Held
held_then s l h None = h
held_then s l h (Some e) = held_after s.cache.shape l e h

held-one : (s : State) (l : ℕ) (h : Held) (o : Option CacheEvent) → held_behind s.cache.shape l h (with_one [] o) ≡ held_then s l h o
unfolding held_behind
held-one s l h None = refl
held-one s l h (Some e) = refl

pub held-cycle : (s : State) (l : ℕ) → IsSteady s → l < slot_count s.cache.shape → IsCleanSlot s.cache l
    → IsHeld (cycle s).cache l (held_then s l (Clean (line_at s.cache l)) (event_in s))
unfolding state_after events_after
held-cycle s l is below clean =
    subst (λ (h : Held). IsHeld (cycle s).cache l h) (held-one s l (Clean (line_at s.cache l)) (event_in s))
    (held-on 1 s l (Clean (line_at s.cache l)) is below (clean.valid, clean.clean, refl))

-- a slot that holds a line, by what is held
pub clean-held : (c : Contents) (l line : ℕ) → IsHeld c l (Clean line) → IsCleanSlot c l
clean-held c l line h = record { valid = h.0; clean = h.1 }

pub dirty-held : (c : Contents) (l line : ℕ) → IsHeld c l (Dirty line) → IsDirtySlot c l
dirty-held c l line h = record { valid = h.0; dirty = h.1 }

pub clean-either : (c : Contents) (l line : ℕ) (b : Bool) → IsHeld c l (if b then Clean line else Clean line) → IsCleanSlot c l
clean-either c l line true h = clean-held c l line h
clean-either c l line false h = clean-held c l line h

-- slots of different numbers
pub other-slot : (m n : ℕ) → (m == n) ≡ false → m ≡ n → ⊥
other-slot m n h p = let e : (m == n) ≡ true = eq-eqb m n p in cc
