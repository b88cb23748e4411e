-- The numbers of a flush are in their ranges.
use Rattle.std.proofs.Common.{◌⊎◌, inl, inr, ◌≤◌, length, ℕ, zero, suc, ◌^◌, ◌<◌, Bool, true, false, List, [], ◌∷◌, map, arith, lit<, subst, sym}
use Rattle.std.specs.Prelude.{◌==◌, ◌-◌, slice_index, slice_index_or, if◌then◌else◌}
use Rattle.std.specs.List.{All}
use Rattle.std.proofs.Math.ListN.{get_or-eq_default}
use Rattle.std.proofs.lemmas.Bool.{cases_lt}
use Rattle.std.proofs.lemmas.List.Elements.{All-filter, All-get_or, All-head, All-map, All-tail}
use Rattle.elf_load.specs.Image.{LoadedImage}
use Rattle.inst_buf.specs.Buffer.{entries}
use Rattle.inst_buf.specs.Entry.{Entry}
use Rattle.rv_table.specs.Effects.{written_register}
use Rattle.rv_table.specs.Words.{decode}
use Rattle.rv_table.specs.declared.action.Action.{Action}
use Rattle.rv_table.specs.declared.action.Action.TheVariants.{Nothing}
use Rattle.rv_isa.specs.Instruction.{State as Arch, Log, completed, given, put_reg}
use Rattle.rv_isa.proofs.Ranges.{given_below, operand_below, put_below, words_completed, words_performed}
use Rattle.rv_table.proofs.Addresses.{next_address-below}
use Rattle.rv_table.proofs.DecodedFields.{decode-imm}
use Rattle.rv_table.proofs.Ranges.{IsSmall}
use Rattle.pipe_latch.specs.LatchedActions.{action_by, action_of, kind_of}
use Rattle.pipe_latch.specs.declared.kinds.ExMemKind.{ExMemKind}
use Rattle.pipe_latch.specs.declared.kinds.ExMemKind.TheVariants.{Exit, Load, Put, Store, Trap, WriteBack}
use Rattle.pipe_latch.specs.Latches.{DecodedLatch, ExecutedLatch, ResultLatch}
use Rattle.pipe_latch.proofs.Settled.{settled-operand}
use Rattle.cyc_machine.specs.Cycle.{action_in_m}
use Rattle.cyc_machine.specs.Facts.{IsMachine}
use Rattle.cyc_machine.specs.InFlight.{Item, completed_item, is_reached, item_of_latch, operand_held}
use Rattle.cyc_machine.specs.Pipeline.{op_of_entry, register}
use Rattle.cyc_machine.specs.Sizes.{HoldsBytes}
use Rattle.cyc_machine.specs.State.{State}
use Rattle.flush_view.specs.Flush.{before_latches, completed_path, flush, item_of_entry, latched, path}
use Rattle.flush_view.specs.FlushInputs.{InRange}
use Rattle.flush_view.specs.Views.{view}
use Rattle.flush_view.proofs.Flush.Operands.{written-by}
use Rattle.flush_view.proofs.Memory.ViewBytes.{view-below}

-- ---- what the latches hold

small_by : (kind : ExMemKind) (m : ExecutedLatch) → m.x < 2 ^ 32 → IsSmall (action_by kind m)
small_by WriteBack m h = h
small_by (Load kind) m h = tt
small_by (Store kind) m h = tt
small_by Put m h = tt
small_by Exit m h = tt
small_by Trap m h = tt

pub small-latch : (m : ExecutedLatch) → m.x < 2 ^ 32 → IsSmall (action_of m)
unfolding action_of
small-latch m h = go m.valid
  where
    go : (b : Bool) → IsSmall (if b then action_by (kind_of m.kind) m else Nothing)
    go true = small_by (kind_of m.kind) m h
    go false = tt

pub operand-below : (image : LoadedImage) (m : Action) (w : ResultLatch) (memory : ℕ → ℕ) (rs held : ℕ) → IsSmall m → ((p : ℕ) → memory p < 2 ^ 8)
    → w.value < 2 ^ 32 → held < 2 ^ 32 → operand_held image m w memory rs held < 2 ^ 32
operand-below image m w memory rs held small bytes v h =
    subst (λ n. n < 2 ^ 32) (sym (settled-operand m w rs held (given image m memory) (written-by image m memory)))
    (go (rs == 0) (rs == written_register m) (rs == w.rd) (given_below image m memory small bytes))
  where
    go : (a b c : Bool) → given image m memory < 2 ^ 32
        → (if a then held else (if b then given image m memory else (if c then w.value else held))) < 2 ^ 32
    go true b c g = h
    go false true c g = g
    go false false true g = v
    go false false false g = h

-- ---- the path

-- an item whose operands have 32 bits wherever the registers have
pub record IsSmallItem (item : Item) : Type 0 where
  pub imm : item.op.imm < 2 ^ 32
  pub a : (registers : ℕ → ℕ) → ((r : ℕ) → registers r < 2 ^ 32) → item.a registers < 2 ^ 32
  pub b : (registers : ℕ → ℕ) → ((r : ℕ) → registers r < 2 ^ 32) → item.b registers < 2 ^ 32

item-in_range : (image : LoadedImage) (item : Item) (at : Arch) → IsSmallItem item → InRange at → InRange (completed_item image item at)
unfolding completed
item-in_range image item at small is = record {
  words =
      words_completed image item.op item.pc (item.a at.registers) (item.b at.registers) at (small.a at.registers is.words.registers)
      (small.b at.registers is.words.registers) small.imm is.words;
  pc = next_address-below item.op item.pc (item.a at.registers) _;
}

pub path-in_range : (image : LoadedImage) (items : List Item) (at : Arch) → All IsSmallItem items → InRange at
    → InRange (completed_path image items at)
unfolding completed_path
path-in_range image [] at small is = is
path-in_range image (item ∷ items) at small is =
    go (is_reached item at)
    (path-in_range image items (completed_item image item at) (All-tail IsSmallItem item items small)
    (item-in_range image item at (All-head IsSmallItem item items small) is))
  where
    go : (b : Bool) → InRange (completed_path image items (completed_item image item at))
        → InRange (if b then completed_path image items (completed_item image item at) else at)
    go true next = next
    go false next = is

all-cons : (item : Item) (items : List Item) → IsSmallItem item → All IsSmallItem items → All IsSmallItem (item ∷ items)
all-cons item items h rest zero d l = h
all-cons item items h rest (suc k) d l = rest k d (omega arith)

-- ---- the machine's

entry-imm : (e : Entry) → e.word < 2 ^ 32 → (op_of_entry e).imm < 2 ^ 32
entry-imm e h = go e.fault
  where
    go : (b : Bool) → (if b then record (decode e.word) { code = 1 } else decode e.word).imm < 2 ^ 32
    go true = decode-imm e.word h
    go false = decode-imm e.word h

pub entry-small : (e : Entry) → e.word < 2 ^ 32 → IsSmallItem (item_of_entry e)
entry-small e h = record {
  imm = entry-imm e h;
  a = λ registers below. operand_below registers (op_of_entry e).rs1 below;
  b = λ registers below. operand_below registers (op_of_entry e).rs2 below;
}

pub latch-small : (image : LoadedImage) (m : Action) (w : ResultLatch) (memory : ℕ → ℕ) (d : DecodedLatch) → IsSmall m → ((p : ℕ) → memory p < 2 ^ 8)
    → w.value < 2 ^ 32 → d.a < 2 ^ 32 → d.b < 2 ^ 32 → d.imm < 2 ^ 32 → IsSmallItem (item_of_latch image m w memory d)
latch-small image m w memory d small bytes v ha hb hi = record {
  imm = hi;
  a = λ registers below. operand-below image m w memory d.rs1 d.a small bytes v ha;
  b = λ registers below. operand-below image m w memory d.rs2 d.b small bytes v hb;
}

word_at_below : (xs : List ℕ) (i : ℕ) → All (λ v. v < 2 ^ 32) xs → slice_index xs i < 2 ^ 32
word_at_below xs i all = go (cases_lt i (length xs))
  where
    go : (i < length xs) ⊎ (length xs ≤ i) → slice_index xs i < 2 ^ 32
    go (inl l) = All-get_or (λ v. v < 2 ^ 32) xs i 0 l all
    go (inr m) = subst (λ n. n < 2 ^ 32) (sym (get_or-eq_default xs 0 m)) (lit< tt)

register-below : (registers : List ℕ) (r : ℕ) → All (λ v. v < 2 ^ 32) registers → register registers r < 2 ^ 32
unfolding register
register-below registers r is = go (r == 0)
  where
    go : (b : Bool) → (if b then 0 else slice_index registers (r - 1)) < 2 ^ 32
    go true = lit< tt
    go false = word_at_below registers (r - 1) is

module _ (s : State) (is : IsMachine s) (clocks : List ℕ) (below : All (λ clock. clock < 2 ^ 32) clocks) (log : Log) where
  bytes : HoldsBytes s
  bytes = record { cache = is.cache.bytes; memory = is.memory_bytes }

  small : IsSmall (action_in_m s)
  small = small-latch s.m is.m.1.1.1.0

  latched-in_range : InRange (latched s clocks log)
  latched-in_range = record {
    words =
        words_performed s.image (action_in_m s)
        (record (before_latches s (view s) clocks log) { registers = put_reg s.w.rd s.w.value (register s.registers) }) small
        (record {
          registers = put_below s.w.rd s.w.value (register s.registers) is.w.1.0 (λ q. register-below s.registers q is.registers.1);
          memory = view-below s bytes;
          count = is.issued;
          clocks = below;
        });
    pc = is.npc;
  }

  entries-small : All IsSmallItem (map item_of_entry (entries s.buffer))
  entries-small =
      All-map IsSmallItem item_of_entry (entries s.buffer)
      (All-filter (λ e. e.valid) (λ e. IsSmallItem (item_of_entry e)) s.buffer (λ k e l. entry-small (slice_index_or s.buffer k e) (is.buffer.1 k e l).1.1.1.0))

  path-small : All IsSmallItem (path s)
  path-small = go s.d.valid
    where
      d_small : IsSmallItem (item_of_latch s.image (action_in_m s) s.w (view s) s.d)
      d_small =
          latch-small s.image (action_in_m s) s.w (view s) s.d small
          (view-below s bytes) is.w.1.0 is.d.1.1.1.1.1.1.0 is.d.1.1.1.1.1.1.1.0 is.d.1.1.1.1.1.1.1.1.0

      go : (v : Bool) → All IsSmallItem (if v then item_of_latch s.image (action_in_m s) s.w (view s) s.d ∷ map item_of_entry (entries s.buffer)
          else map item_of_entry (entries s.buffer))
      go true = all-cons (item_of_latch s.image (action_in_m s) s.w (view s) s.d) (map item_of_entry (entries s.buffer)) d_small entries-small
      go false = entries-small

  pub flush-in_range : InRange (flush s clocks log)
  unfolding flush
  flush-in_range = path-in_range s.image (path s) (latched s clocks log) path-small latched-in_range
