-- What no cycle reads: the fields of empty places, and the cause of no trap. Two states that differ in nothing else do the same for
-- ever.
use Rattle.std.specs.Prelude.{◌≡◌, ℕ, suc, ◌==◌, [], ◌∷◌, map, cond, if◌then◌else◌}
use Rattle.std.specs.Int.{w32, from_le_bytes}
use Rattle.inst_buf.specs.Entry.{Entry as Fetched, no_entry as no_fetched}
use Rattle.pipe_latch.specs.Latches.{DecodedLatch, ExecutedLatch, ResultLatch, no_decoded, no_executed, no_result}
use Rattle.pipe_latch.specs.LatchedActions.{kind_number}
use Rattle.pipe_latch.specs.declared.kinds.ExMemKind.TheVariants.{Trap}
use Rattle.bit_field.specs.Lanes.{has_lane, lane_byte}
use Rattle.store_buf.specs.Entry.{Entry as Pending, no_entry as no_pending}
use Rattle.wb_cache.specs.Contents.{Contents, Slot, no_slot, slots}
use Rattle.cyc_machine.specs.Cycle.{cycle, done_in}
use Rattle.cyc_machine.specs.Sizes.{IsSteady}
use Rattle.cyc_machine.specs.Run.{state_after}
use Rattle.cyc_machine.specs.Reports.{SameReport}
use Rattle.cyc_machine.specs.State.{State}

-- Each place as cycles read it: what they ignore is 0.

-- they ignore an empty slot of the instruction buffer,
abbrev pub read_of_fetched : Fetched → Fetched
read_of_fetched e = if e.valid then e else no_fetched

-- an empty ID/EX,
abbrev pub read_of_decoded : DecodedLatch → DecodedLatch
read_of_decoded d = if d.valid then d else no_decoded

-- an empty EX/MEM, and the cause in one that holds no trap,
abbrev pub read_of_executed : ExecutedLatch → ExecutedLatch
read_of_executed m = if m.valid then (if m.kind == kind_number Trap then m else record m { cause = 0 }) else no_executed

-- a MEM/WB that writes no register,
abbrev pub read_of_result : ResultLatch → ResultLatch
read_of_result w = if w.rd == 0 then no_result else w

-- (the bytes of the lanes that a mask names)
abbrev pub masked_byte : ℕ → ℕ → ℕ → ℕ
masked_byte mask value lane = cond (has_lane mask lane) (lane_byte value lane) 0

abbrev pub masked_word : ℕ → ℕ → ℕ
masked_word mask value =
    from_le_bytes w32 (masked_byte mask value 0 ∷ masked_byte mask value 1 ∷ masked_byte mask value 2 ∷ masked_byte mask value 3 ∷ [])

-- a free slot of the store buffer, and the bytes that a pending store doesn't write,
abbrev pub read_of_pending : Pending → Pending
read_of_pending e = if e.mask == 0 then no_pending else record e { value = masked_word e.mask e.value }

-- and an invalid line slot.
abbrev pub read_of_slot : Slot → Slot
read_of_slot slot = if slot.valid then slot else no_slot

-- the same valid lines in the same slots, and the same order of use
pub record SameLines (a b : Contents) : Type 0 where
  pub shape : a.shape ≡ b.shape
  pub nodes : a.nodes ≡ b.nodes
  pub slots : (set way : ℕ) → read_of_slot (slots a set way) ≡ read_of_slot (slots b set way)

-- two states that differ in ignored fields alone
pub record DiffersInIgnored (s u : State) : Type 0 where
  pub image : s.image ≡ u.image
  pub pc : s.pc ≡ u.pc
  pub npc : s.npc ≡ u.npc
  pub tables : s.tables ≡ u.tables
  pub buffer : map read_of_fetched s.buffer ≡ map read_of_fetched u.buffer
  pub d : read_of_decoded s.d ≡ read_of_decoded u.d
  pub m : read_of_executed s.m ≡ read_of_executed u.m
  pub w : read_of_result s.w ≡ read_of_result u.w
  pub registers : s.registers ≡ u.registers
  pub stores : map read_of_pending s.stores ≡ map read_of_pending u.stores
  pub port : s.port ≡ u.port
  pub cache : SameLines s.cache u.cache
  pub memory : s.memory ≡ u.memory
  pub cycle : s.cycle ≡ u.cycle
  pub issued : s.issued ≡ u.issued
  pub ended : s.ended ≡ u.ended

-- The lockstep law: a state that differs from s in ignored fields alone has the same report, and its next state differs from
-- s's, which is `next`, in ignored fields alone. Their ID/EX are the same, the count of an empty one too: so where that count is the
-- same from the first, no cycle makes it differ.
pub record LockstepLaw (s next : State) : Type 0 where
  pub report : (u : State) → DiffersInIgnored s u → SameReport s u
  pub done : (u : State) → DiffersInIgnored s u → done_in s ≡ done_in u
  pub state : (u : State) → IsSteady u → DiffersInIgnored s u → DiffersInIgnored next (cycle u)
  pub decoded : (u : State) → DiffersInIgnored s u → next.d ≡ (cycle u).d

-- s and u go on for ever, differing in ignored fields alone: each cycle has the same report and is done with the same, and each ID/EX
-- but the first is the same.
pub record GoesInLockstep (s u : State) : Type 0 where
  pub state : (n : ℕ) → DiffersInIgnored (state_after n s) (state_after n u)
  pub report : (n : ℕ) → SameReport (state_after n s) (state_after n u)
  pub done : (n : ℕ) → done_in (state_after n s) ≡ done_in (state_after n u)
  pub decoded : (n : ℕ) → (state_after (suc n) s).d ≡ (state_after (suc n) u).d
