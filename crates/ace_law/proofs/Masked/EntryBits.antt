-- Masked bits of an entry on path are spared.
use Rattle.std.proofs.Common.{◌≡◌, ℕ, suc, ◌+◌, ◌^◌, ◌≤◌, ◌<◌, Bool, true, false, List, [], ◌∷◌}
use Rattle.std.proofs.Common.{◌++◌, cond, map, length, take, drop, set, arith, refl, ap, sym, subst, ◌∙◌}
use Rattle.std.specs.List.{All}
use Rattle.std.specs.Prelude.{◌==◌, ◌&&◌, Option, Some, None, is_none, if◌then◌else◌}
use Rattle.std.proofs.lemmas.List.{set-get_or}
use Rattle.std.proofs.lemmas.List.Elements.{All-drop, All-take}
use Rattle.bit_field.proofs.LayoutLaws.{flipped-at}
use Rattle.bit_field.proofs.Slots.{used-set}
use Rattle.elf_load.specs.Image.{LoadedImage}
use Rattle.rv_table.specs.declared.action.Action.{Action}
use Rattle.rv_isa.specs.Effects.{operated}
use Rattle.rv_isa.specs.Instruction.{State as Arch, Log, completed, reg}
use Rattle.inst_buf.specs.Buffer.{entries, slot_of as fetched_slot}
use Rattle.inst_buf.specs.Entry.{Entry as Fetched, no_entry}
use Rattle.inst_buf.specs.EntryBits as ib
use Rattle.inst_buf.specs.declared.slots.SlotField.{SlotField}
use Rattle.inst_buf.specs.declared.slots.SlotField.TheVariants as slot_field
use Rattle.pipe_latch.specs.Latches.{DecodedLatch, ResultLatch}
use Rattle.cyc_machine.specs.Cycle.{action_in_m}
use Rattle.cyc_machine.specs.InFlight.{Item, completed_item, is_reached, item_of_latch}
use Rattle.cyc_machine.specs.Pipeline.{fetched, op_of_entry}
use Rattle.cyc_machine.specs.Run.{output_below}
use Rattle.cyc_machine.specs.State.{State}
use Rattle.need_pass.specs.Tables.{Needs}
use Rattle.flush_view.specs.Flush.{completed_path, flush, item_of_entry, latched, path, path_of}
use Rattle.flush_view.specs.Positions.{is_instruction, on_path}
use Rattle.flush_view.specs.RunFacts.{no_line}
use Rattle.flush_view.specs.Views.{view}
use Rattle.flush_view.proofs.Flush.Ranges.{entry-small}
use Rattle.flush_view.proofs.Run.OnPath.{reached-pc, reached-stop}
use Rattle.ace_law.specs.Agreements.{OperationAgrees}
use Rattle.ace_law.specs.Moments.{IsQuiet, IsTold, Moment, entries_on_path, executed, front, state, trace}
use Rattle.ace_law.specs.PipelineRules.{IsFetchedPart, IsIn, IsSlotOnPath}
use Rattle.ace_law.proofs.Alike.{Alike, count_of, spare}
use Rattle.ace_law.proofs.AlikeNext.{fetched-alike}
use Rattle.ace_law.proofs.Told.{state-image}
use Rattle.ace_law.proofs.Masked.Does.{does-alike}
use Rattle.ace_law.proofs.Masked.Known.{waiting-fetched}
use Rattle.ace_law.proofs.Masked.LatchBits.{none-accessed}
use Rattle.ace_law.proofs.Masked.Operations.{operation-does}
use Rattle.ace_law.proofs.Masked.Reaches.{Reaches, is-reached, on-path-before, reaches-front}
use Rattle.ace_law.proofs.Masked.Stands.{stands-latched}

-- ---- the path with one slot replaced

path-of-append : (image : LoadedImage) (m : Action) (w : ResultLatch) (memory : ℕ → ℕ) (d : DecodedLatch) (xs ys : List Fetched)
    → path_of image m w memory d (xs ++ ys) ≡ path_of image m w memory d xs ++ map item_of_entry ys
path-of-append image m w memory d xs ys = go d.valid
  where
    item : Item
    item = item_of_latch image m w memory d

    maps : (xs : List Fetched) → map item_of_entry (xs ++ ys) ≡ map item_of_entry xs ++ map item_of_entry ys
    maps [] = refl
    maps (x ∷ xs) = ap (λ (items : List Item). item_of_entry x ∷ items) (maps xs)

    go : (v : Bool) → (if v then item ∷ map item_of_entry (xs ++ ys) else map item_of_entry (xs ++ ys))
        ≡ (if v then item ∷ map item_of_entry xs else map item_of_entry xs) ++ map item_of_entry ys
    go true = ap (λ (items : List Item). item ∷ items) (maps xs)
    go false = maps xs

entries-set : (slots : List Fetched) (i : ℕ) (y : Fetched) → i < length slots → y.valid ≡ true
    → entries (set slots i y) ≡ entries (take i slots) ++ y ∷ entries (drop (suc i) slots)
entries-set slots i y l v =
    used-set (λ e. e.valid) slots i y l
    ∙ ap (λ (b : Bool). entries (take i slots) ++ cond b (y ∷ entries (drop (suc i) slots)) (entries (drop (suc i) slots))) v

-- the entries before slot i, the one in slot i, and those behind it
pub path-set : (a : Moment) (i : ℕ) (y : Fetched) → i < length (state a).buffer → y.valid ≡ true
    → path (record (state a) { buffer = set (state a).buffer i y })
    ≡ front a i ++ item_of_entry y ∷ map item_of_entry (entries (drop (suc i) (state a).buffer))
unfolding view
path-set a i y l v =
    ap (path_of (state a).image (action_in_m (state a)) (state a).w (view (state a)) (state a).d) (entries-set (state a).buffer i y l v)
    ∙ path-of-append (state a).image (action_in_m (state a)) (state a).w (view (state a)) (state a).d (entries (take i (state a).buffer))
    (y ∷ entries (drop (suc i) (state a).buffer))

-- ---- the flip of a part that was fetched

pub fetched-part : (e : Fetched) (k : ℕ) → IsIn IsFetchedPart (ib.field_of k) → ((ib.flipped e k).valid ≡ e.valid) × ((ib.flipped e k).pc ≡ e.pc)
fetched-part e k is = go (ib.field_of k) refl is
  where
    same : (f : SlotField) (i : ℕ) → IsFetchedPart f i → ((ib.flip_in e f i).valid ≡ e.valid) × ((ib.flip_in e f i).pc ≡ e.pc)
    same slot_field.Fault i is = (refl, refl)
    same slot_field.Word i is = (refl, refl)
    same _ i is = absurd is

    go : (o : Option (SlotField × ℕ)) → ib.field_of k ≡ o → IsIn IsFetchedPart o → ((ib.flipped e k).valid ≡ e.valid) × ((ib.flipped e k).pc ≡ e.pc)
    go None q is = absurd is
    go (Some place) q is =
        let flip : ib.flipped e k ≡ ib.flip_in e place.0 place.1 = flipped-at ib.layout e k place q in
        let fields = same place.0 place.1 is in
        (ap (λ (z : Fetched). z.valid) flip ∙ fields.0, ap (λ (z : Fetched). z.pc) flip ∙ fields.1)

-- ---- the flush

-- an item at the address that is reached, completed as its operation there
operated-item : (image : LoadedImage) (y : Fetched) (at : Arch) → y.pc ≡ at.pc
    → completed_item image (item_of_entry y) at ≡ operated image (op_of_entry y) at
operated-item image y at e =
    ap (λ (p : ℕ). completed image (op_of_entry y) p (reg at.registers (op_of_entry y).rs1) (reg at.registers (op_of_entry y).rs2) at) e

path-one : (image : LoadedImage) (item : Item) (items : List Item) (at after : Arch) → is_reached item at ≡ true
    → completed_item image item at ≡ after
    → completed_path image (item ∷ items) at ≡ completed_path image items after
unfolding completed_path
path-one image item items at after r e =
    ap (λ (b : Bool). if b then completed_path image items (completed_item image item at) else at) r ∙ ap (completed_path image items) e

All-last : (P : Fetched → Type 0) (xs ys : List Fetched) → All P (xs ++ ys) → All P ys
All-last P xs ys all = subst (All P) (drops xs) (All-drop P (length xs) (xs ++ ys) all)
  where
    drops : (xs : List Fetched) → drop (length xs) (xs ++ ys) ≡ ys
    drops [] = refl
    drops (x ∷ xs) = drops xs

All-first : (P : Fetched → Type 0) (xs ys : List Fetched) → All P (xs ++ ys) → All P xs
All-first P xs ys all = subst (All P) (takes xs) (All-take P (length xs) (xs ++ ys) all)
  where
    takes : (xs : List Fetched) → take (length xs) (xs ++ ys) ≡ xs
    takes [] = refl
    takes (x ∷ xs) = ap (λ (es : List Fetched). x ∷ es) (takes xs)

module _ (a : Moment) (table : Needs) (told : IsTold a.r a.run table) (below : a.t < a.r.cycles) (quiet : IsQuiet a) (i : ℕ) (y : Fetched)
    (inside : i < length (state a).buffer) (slot : IsSlotOnPath a i) (occupied : y.valid ≡ true) (place : y.pc ≡ (fetched_slot (state a).buffer i).pc)
    (small : y.word < 2 ^ 32) (agrees : OperationAgrees a (executed a + length (front a i)) (op_of_entry y)) where
  abbrev here : ℕ
  here = executed a + length (front a i)

  abbrev behind : List Fetched
  behind = entries (drop (suc i) (state a).buffer)

  -- the recorded path, slot i apart
  recorded-path : path (state a) ≡ front a i ++ item_of_entry (fetched_slot (state a).buffer i) ∷ map item_of_entry behind
  recorded-path =
      ap (λ (slots : List Fetched). path (record (state a) { buffer = slots })) (sym (set-get_or (state a).buffer i no_entry))
      ∙ path-set a i (fetched_slot (state a).buffer i) inside slot.0

  standing : (on_path (trace a) (executed a) (front a i) ≡ length (front a i))
      × (is_instruction (trace a) here (item_of_entry (fetched_slot (state a).buffer i)) ≡ true)
  standing =
      let l : length (front a i) < entries_on_path a = slot.1 in
      on-path-before (trace a) (front a i) (item_of_entry (fetched_slot (state a).buffer i)) (map item_of_entry behind) (executed a)
      (subst (λ (items : List Item). length (front a i) < on_path (trace a) (executed a) items) recorded-path l)

  is-next : is_instruction (trace a) here (item_of_entry y) ≡ true
  is-next = ap (λ (p : ℕ). is_none (trace a here).stop && p == (trace a here).pc) place ∙ standing.1

  abbrev AreFetched : List Fetched → Type 0
  AreFetched es = All (λ entry. entry ≡ fetched a.r.image entry.pc) es

  split : entries (state a).buffer ≡ entries (take i (state a).buffer) ++ (fetched_slot (state a).buffer i) ∷ behind
  split =
      ap (λ (slots : List Fetched). entries slots) (sym (set-get_or (state a).buffer i no_entry))
      ∙ entries-set (state a).buffer i (fetched_slot (state a).buffer i) inside slot.0

  all-fetched : AreFetched (entries (take i (state a).buffer) ++ (fetched_slot (state a).buffer i) ∷ behind)
  all-fetched = subst (λ (es : List Fetched). AreFetched es) split (waiting-fetched a table told below)

  before-fetched : AreFetched (entries (take i (state a).buffer))
  before-fetched = All-first (λ entry. entry ≡ fetched a.r.image entry.pc) (entries (take i (state a).buffer)) _ all-fetched

  behind-fetched : AreFetched behind
  behind-fetched =
      All-drop (λ entry. entry ≡ fetched a.r.image entry.pc) 1 (fetched_slot (state a).buffer i ∷ behind)
      (All-last (λ entry. entry ≡ fetched a.r.image entry.pc) (entries (take i (state a).buffer)) _ all-fetched)

  abbrev replaced : State
  replaced = record (state a) { buffer = set (state a).buffer i y }

  flush-is : (log : Log) → flush replaced spare log
      ≡ completed_path a.r.image (front a i ++ item_of_entry y ∷ map item_of_entry behind) (latched (state a) spare log)
  unfolding flush view
  flush-is log =
      ap (λ (items : List Item). completed_path (state a).image items (latched (state a) spare log)) (path-set a i y inside occupied)
      ∙ ap (λ (im : LoadedImage). completed_path im (front a i ++ item_of_entry y ∷ map item_of_entry behind) (latched (state a) spare log))
      (state-image a table told)

  -- the flush with it in place of the recorded one is alike
  pub replaced-alike : (log : Log) (budget : ℕ) → log.output ≡ output_below a.r.image a.r.shape a.t
      → count_of a + (length log.actions + 2) ≤ executed a + budget → Alike a no_line (flush replaced spare log) budget
  replaced-alike log budget output within =
      let reaches : Reaches a (front a i) (executed a) (latched (state a) spare log) budget =
      reaches-front a table told quiet budget below (entries (take i (state a).buffer)) (latched (state a) spare log) before-fetched
      (stands-latched a table told quiet below log budget output within) standing.0 in
      let from : executed a ≤ here = omega arith in
      let running = reached-stop (trace a here).stop _ is-next in
      let reached : is_reached (item_of_entry y) reaches.after ≡ true =
      is-reached a here budget reaches.after (item_of_entry y) reaches.stands ∙ is-next in
      let after : Arch = operated a.r.image (op_of_entry y) reaches.after in
      let item = entry-small y small in
      let does = operation-does a table told here budget reaches.after from running reaches.stands (op_of_entry y) item.imm agrees in
      let alike : Alike a no_line after budget = does-alike a table told (here + 1) after budget (omega arith) does in
      let all : Alike a no_line (completed_path a.r.image (map item_of_entry behind) after) budget =
      fetched-alike a table no_line behind after budget told quiet (none-accessed a) behind-fetched alike in
      let leads : flush replaced spare log ≡ completed_path a.r.image (map item_of_entry behind) after =
      flush-is log
      ∙ reaches.path (item_of_entry y ∷ map item_of_entry behind)
      ∙ path-one a.r.image (item_of_entry y) (map item_of_entry behind) reaches.after after reached
      (operated-item a.r.image y reaches.after (reached-pc (item_of_entry y) reaches.after reached)) in
      subst (λ (z : Arch). Alike a no_line z budget) (sym leads) all
