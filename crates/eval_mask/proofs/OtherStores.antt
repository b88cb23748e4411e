-- Other stores in place of EX/MEM's, where ID/EX doesn't load: all else that is left is the same.
use Rattle.std.proofs.Common.{◌≡◌, ◌↔◌, ℕ, ◌+◌, ◌*◌, ◌%◌, ◌^◌, ◌<◌, Bool, true, false, refl, sym, ◌∙◌, ap, subst, arith}
use Rattle.std.specs.Prelude.{◌==◌, ◌&&◌, ◌||◌, is_none, is_some, bit_xor, IsTrue, Option, Some, None, if◌then◌else◌}
use Rattle.std.proofs.lemmas.Nat.{one_shl}
use Rattle.avf_base.specs.declared.end.End.{End}
use Rattle.elf_load.specs.Image.{LoadedImage}
use Rattle.bit_field.specs.Layouts.{flip}
use Rattle.rv_table.specs.Effects.{is_load}
use Rattle.rv_table.specs.declared.action.Action.{Action}
use Rattle.rv_table.specs.declared.action.Action.TheVariants.{Exits, Loads, Nothing, Puts, Stores, Traps, Writes}
use Rattle.rv_table.specs.declared.operation.StoreKind.TheVariants.{Sw}
use Rattle.rv_isa.specs.Architecture.{ArchState, state_of}
use Rattle.rv_isa.specs.Instruction.{end_of}
use Rattle.pipe_latch.specs.LatchedActions.{action_by, action_of, kind_of}
use Rattle.pipe_latch.specs.Latches.{DecodedLatch, ExecutedLatch, ResultLatch}
use Rattle.pipe_latch.specs.declared.kinds.ExMemKind.{ExMemKind}
use Rattle.pipe_latch.specs.declared.kinds.ExMemKind.TheVariants.{WriteBack, Load, Store as StoreKindOf, Put, Exit, Trap}
use Rattle.need_pass.specs.Tables.{Needs}
use Rattle.eval_mask.specs.Aftermaths.{aftermath_of, change_of, doing_after, doing_of, is_completed, left_by, memory_after, no_change, state_after, store_by, stored_over}
use Rattle.eval_mask.specs.Agreement.{Agree}
use Rattle.eval_mask.specs.Cases.{AgreesWithOwn, IsCase}
use Rattle.eval_mask.specs.Compared.{SameBytes, SameStored}
use Rattle.eval_mask.specs.LatchMasks.{IsExecutedMasked}
use Rattle.eval_mask.specs.Stores.{left_storing, lone_store, store_asked}
use Rattle.eval_mask.specs.declared.cases.Case.{Case}
use Rattle.eval_mask.specs.declared.completing.Aftermath.{Aftermath}
use Rattle.eval_mask.specs.declared.completing.Change.{Change}
use Rattle.eval_mask.specs.declared.completing.Doing.{Doing}
use Rattle.eval_mask.specs.declared.completing.Store.{Store}
use Rattle.eval_mask.specs.declared.completing.Write.{Write}
use Rattle.eval_mask.proofs.Agreeing.{agree_by, agree_next}
use Rattle.eval_mask.proofs.Completed.{doing_told}
use Rattle.eval_mask.proofs.Differences.{all_bytes, same_all, same_stores}
use Rattle.eval_mask.proofs.Doings.{own_is}
use Rattle.eval_mask.proofs.Fields.{executed_inside, x_flipped, y_flipped}
use Rattle.eval_mask.proofs.Masked.{IsAskedOf, executed_exactly, masked_exactly}
use Rattle.eval_mask.proofs.OwnChange.{own_below, own_write, write_of_change}
use Rattle.eval_mask.proofs.WrittenValues.{by_reached, clock_by, stopped_if}

pub flip_shifted : (value k : ℕ) → k < 32 → bit_xor value (1 * 2 ^ k % 2 ^ 32) ≡ flip value k
flip_shifted value k l = ap (bit_xor value) (one_shl k 32 l)

-- ---- with another store

with_store : Aftermath → Option Store → Aftermath
with_store own store = record own { below = record own.below { store = store } }

pub store_exactly : (needs : Needs) (j : ℕ) (f memory : ℕ → ℕ) (own : Aftermath) (other : Option Store) (r : Bool)
    → (IsTrue r → SameStored needs j (memory_after (record own { below = record own.below { store = other } }) memory) (memory_after own memory) other own.below.store)
    → (SameBytes needs j (memory_after (record own { below = record own.below { store = other } }) memory) (memory_after own memory) → IsTrue r)
    → own.end ≡ None
    → IsTrue r ↔ Agree needs j (state_after (record own { below = record own.below { store = other } }) f memory) (state_after own f memory)
store_exactly needs j f memory own other r same all none =
    let left : Aftermath = record own { below = record own.below { store = other } } in (
      λ t.
          agree_by needs j f memory left own refl refl
          (λ n. record {
            pc = refl;
            written = record { same = λ q. record { same = λ over under. same_all 32 _ _ _ refl } };
            stored = all_bytes needs j memory left own (same t) (same_stores needs j _ _ own.above.store own.above.store refl);
          }),
      λ a. all ((agree_next needs j f memory left own a none).stored),
    )

-- ---- what a lone store tells

or_store : Option Store → Store
or_store (Some store) = store
or_store None = record { kind = Sw; address = 0; value = 0 }

action_with : Store → Action
action_with store = Stores store.kind store.address store.value

-- EX/MEM stores this, ID/EX doesn't load, and no cycle counter is read
record IsLone (case : Case) (store : Store) : Type 0 where
  stores : case.executed ≡ Stores store.kind store.address store.value
  unread : case.reads_clock ≡ false
  unloaded : is_load case.doing.action ≡ false

asked_is : (done : Action) (store : Store) → store_asked done ≡ Some store → done ≡ Stores store.kind store.address store.value
unfolding or_store action_with
asked_is (Stores kind x y) store e = ap (λ (s : Option Store). action_with (or_store s)) e
asked_is Nothing store e = absurd (grind arith)
asked_is (Writes rd value) store e = absurd (grind arith)
asked_is (Loads kind rd x) store e = absurd (grind arith)
asked_is (Puts value) store e = absurd (grind arith)
asked_is (Exits value) store e = absurd (grind arith)
asked_is (Traps cause) store e = absurd (grind arith)

lone_by : (clock load : Bool) (done : Action) (store : Store) → (if clock || load then None else store_asked done) ≡ Some store
    → (done ≡ Stores store.kind store.address store.value) × (clock ≡ false) × (load ≡ false)
lone_by true load done store e = absurd (grind arith)
lone_by false true done store e = absurd (grind arith)
lone_by false false done store e = (asked_is done store e, refl, refl)

lone_is : (case : Case) (store : Store) → lone_store case ≡ Some store → IsLone case store
lone_is case store e =
    let all = lone_by case.reads_clock (is_load case.doing.action) case.executed store e in
    record { stores = all.0; unread = all.1; unloaded = all.2 }

-- ---- the outcome with another store

unloaded : (image : LoadedImage) (done : Action) (memory other : ℕ → ℕ) → is_load done ≡ false → change_of image done memory ≡ change_of image done other
unfolding change_of
unloaded image (Loads kind rd x) memory other e = absurd (grind arith)
unloaded image (Stores kind x y) memory other e = refl
unloaded image Nothing memory other e = refl
unloaded image (Writes rd value) memory other e = refl
unloaded image (Puts value) memory other e = refl
unloaded image (Exits value) memory other e = refl
unloaded image (Traps cause) memory other e = refl

change_with : (image : LoadedImage) (own store : Store) (memory : ℕ → ℕ) (change : Change) → change ≡ change_of image (Stores own.kind own.address own.value) memory
    → (record change { store = store_by image (Stores store.kind store.address store.value) }) ≡ change_of image (Stores store.kind store.address store.value) memory
unfolding change_of
change_with image own store memory change e = rw e refl

left_with : (image : LoadedImage) (first : Write) (below other : Change) (doing : Doing) (memory : ℕ → ℕ) (own : Aftermath) → is_load doing.action ≡ false
    → own ≡ left_by image first below doing memory → (record own { below = other }) ≡ left_by image first other doing memory
unfolding left_by
left_with image first below other doing memory own free e =
    ap (λ (o : Aftermath). record o { below = other }) e
    ∙ ap (λ (above : Change). record { first = first; below = other; above = above; pc = doing.next; end = end_of doing.action })
    (unloaded image doing.action (stored_over below.store memory) (stored_over other.store memory) free)

no_write : (image : LoadedImage) (store : Store) (memory : ℕ → ℕ) → (change_of image (Stores store.kind store.address store.value) memory).write ≡ record { rd = 0; value = 0 }
unfolding change_of
no_write image store memory = refl

record IsRestored (arch : ArchState) (case : Case) (n : ExecutedLatch) (own store : Store) : Type 0 where
  lone : IsLone case own
  stores : action_of n ≡ Stores store.kind store.address store.value

ends_as : (m n : ExecutedLatch) (own store : Store) → action_of m ≡ Stores own.kind own.address own.value → action_of n ≡ Stores store.kind store.address store.value
    → end_of (action_of n) ≡ end_of (action_of m)
ends_as m n own store e f = ap end_of f ∙ sym (ap end_of e)

completed_as : (needs : Needs) (arch : ArchState) (w : ResultLatch) (m n : ExecutedLatch) (d : DecodedLatch) (case : Case) (own store : Store) → IsCase needs arch w m d case
    → IsRestored arch case n own store → is_completed n d case.npc ≡ case.reached
completed_as needs arch w m n d case own store is o =
    ap (λ (end : Option End). d.valid && (is_none end && d.pc == case.npc)) (ends_as m n own store (sym is.executed ∙ o.lone.stores) o.stores) ∙ sym is.reached

same_doing : (needs : Needs) (arch : ArchState) (w : ResultLatch) (m n : ExecutedLatch) (d : DecodedLatch) (case : Case) (own store : Store) → IsCase needs arch w m d case
    → IsRestored arch case n own store → doing_of arch.image w n d (state_of arch).memory case.issued ≡ case.doing
same_doing needs arch w m n d case own store is o =
    let image = arch.image in
    let memory = (state_of arch).memory in
    let none : Write = record { rd = 0; value = 0 } in
    let mine : none ≡ case.own.below.write =
    sym
    (ap (λ (c : Change). c.write) (own_below needs arch w m d case is ∙ ap (λ (done : Action). change_of image done memory) (sym is.executed ∙ o.lone.stores))
    ∙ no_write image own memory) in
    let theirs =
    write_of_change image (action_of n) memory (change_of image (Stores store.kind store.address store.value) memory)
    (ap (λ (done : Action). change_of image done memory) (sym o.stores)) in
    sym (doing_told image w n d memory none case.issued (sym (no_write image store memory) ∙ theirs))
    ∙ ap (λ (x : Write). doing_after image w d x case.issued) mine
    ∙ doing_told image w m d memory case.own.below.write case.issued (own_write needs arch w m d case is)
    ∙ sym is.doing

storing_is : (needs : Needs) (arch : ArchState) (w : ResultLatch) (m n : ExecutedLatch) (d : DecodedLatch) (case : Case) (own store : Store) → IsCase needs arch w m d case
    → IsRestored arch case n own store
    → left_storing arch.image case store ≡ aftermath_of arch.image w n d (state_of arch).memory case.npc case.issued
unfolding aftermath_of
storing_is needs arch w m n d case own store is o =
    let image = arch.image in
    let memory = (state_of arch).memory in
    let held : Write = record { rd = w.rd; value = w.value } in
    let other : Change = change_of image (Stores store.kind store.address store.value) memory in
    let change =
    change_with image own store memory case.own.below
    (own_below needs arch w m d case is ∙ ap (λ (done : Action). change_of image done memory) (sym is.executed ∙ o.lone.stores)) in
    let same : other ≡ change_of image (action_of n) memory = ap (λ (done : Action). change_of image done memory) (sym o.stores) in
    let completed = completed_as needs arch w m n d case own store is o in
    let theirs : Bool → Aftermath =
    λ t.
    if t
    then left_by image held (change_of image (action_of n) memory) (doing_of image w n d memory case.issued) memory
    else record { first = held; below = change_of image (action_of n) memory; above = no_change; pc = case.npc; end = end_of (action_of n) } in
    ap (λ (c : Change). record case.own { below = c }) change
    ∙ by_reached case.reached _
    (λ on.
    left_with image held _ other case.doing memory case.own o.lone.unloaded (own_is needs arch w m d case is on)
    ∙ ap (λ (x : Doing). left_by image held other x memory) (sym (same_doing needs arch w m n d case own store is o))
    ∙ ap (λ (c : Change). left_by image held c (doing_of image w n d memory case.issued) memory) same
    ∙ sym (ap theirs (completed ∙ on)))
    (λ off.
    stopped_if (is_completed m d case.npc) image held (change_of image (action_of m) memory) (doing_of image w m d memory case.issued) memory case.npc
    (end_of (action_of m)) case.own other (sym is.reached ∙ off) is.outcome
    ∙ ap (λ (c : Change). record { first = held; below = c; above = no_change; pc = case.npc; end = end_of (action_of m) }) same
    ∙ ap (λ (x : Option End). record { first = held; below = change_of image (action_of n) memory; above = no_change; pc = case.npc; end = x })
    (sym (ends_as m n own store (sym is.executed ∙ o.lone.stores) o.stores))
    ∙ sym (ap theirs (completed ∙ off)))

storing_asked : (needs : Needs) (arch : ArchState) (w : ResultLatch) (m n : ExecutedLatch) (d : DecodedLatch) (case : Case) (own store : Store) (r : Bool)
    → IsCase needs arch w m d case → IsRestored arch case n own store → IsTrue r ↔ AgreesWithOwn needs arch case (left_storing arch.image case store)
    → IsTrue r ↔ IsAskedOf needs arch case (record { w = w; m = m; d = d }) (record { w = w; m = n; d = d })
storing_asked needs arch w m n d case own store r is o h =
    masked_exactly needs case.first_after arch case.oldest.rd case.oldest.value case.npc case.issued (record { w = w; m = m; d = d })
    (record { w = w; m = n; d = d }) case.own r is.outcome
    (clock_by arch w m n d case.oldest.rd case.oldest.value case.npc case.issued (completed_as needs arch w m n d case own store is o ∙ is.reached)
    ∙ sym is.clock
    ∙ o.lone.unread)
    (subst (λ (x : Aftermath). IsTrue r ↔ AgreesWithOwn needs arch case x) (storing_is needs arch w m n d case own store is o) h)

-- ---- a bit of the address and of the value

place_of : Action → ℕ
place_of (Stores kind x y) = x
place_of _ = 0

data_of : Action → ℕ
data_of (Stores kind x y) = y
data_of _ = 0

with_place : ℕ → Action → Action
with_place u (Stores kind x y) = Stores kind u y
with_place u done = done

with_data : ℕ → Action → Action
with_data u (Stores kind x y) = Stores kind x u
with_data u done = done

-- what an EX/MEM that stores this does with another address, and with another value
record StoresOther (done placed given : Action) (m : ExecutedLatch) (store : Store) (u : ℕ) : Type 0 where
  placed-is : placed ≡ Stores store.kind u store.value
  given-is : given ≡ Stores store.kind store.address u
  address : store.address ≡ m.x
  value : store.value ≡ m.y

other_by : (occupied : Bool) (kind : ExMemKind) (m : ExecutedLatch) (store : Store) (u : ℕ)
    → (if occupied then action_by kind m else Nothing) ≡ Stores store.kind store.address store.value
    → StoresOther (if occupied then action_by kind m else Nothing) (if occupied then action_by kind (record m { x = u }) else Nothing)
    (if occupied then action_by kind (record m { y = u }) else Nothing) m store u
unfolding place_of data_of with_place with_data
other_by true (StoreKindOf kind) m store u e = record {
  placed-is = ap (with_place u) e;
  given-is = ap (with_data u) e;
  address = sym (ap place_of e);
  value = sym (ap data_of e);
}
other_by true WriteBack m store u e = absurd (grind arith)
other_by true (Load kind) m store u e = absurd (grind arith)
other_by true Put m store u e = absurd (grind arith)
other_by true Exit m store u e = absurd (grind arith)
other_by true Trap m store u e = absurd (grind arith)
other_by false kind m store u e = absurd (grind arith)

other_with : (m : ExecutedLatch) (store : Store) (u : ℕ) → action_of m ≡ Stores store.kind store.address store.value
    → StoresOther (action_of m) (action_of (record m { x = u })) (action_of (record m { y = u })) m store u
unfolding action_of
other_with m store u e = other_by m.valid (kind_of m.kind) m store u e

pub place_exactly : (needs : Needs) (arch : ArchState) (w : ResultLatch) (m : ExecutedLatch) (d : DecodedLatch) (case : Case) (store : Store) (i : ℕ) (r : Bool)
    → IsCase needs arch w m d case → lone_store case ≡ Some store → i < 32
    → IsTrue r ↔ AgreesWithOwn needs arch case (left_storing arch.image case (record store { address = flip store.address i }))
    → IsTrue r ↔ IsExecutedMasked needs arch (record { w = w; m = m; d = d }) case.oldest.value case.npc case.issued (11 + i)
place_exactly needs arch w m d case store i r is lone l h =
    let alone = lone_is case store lone in
    let other = other_with m store (flip m.x i) (sym is.executed ∙ alone.stores) in
    let stores : action_of (record m { x = flip m.x i }) ≡ Stores store.kind (flip store.address i) store.value =
    other.placed-is ∙ ap (λ (x : ℕ). Stores store.kind (flip x i) store.value) (sym other.address) in
    executed_exactly needs arch w m d case (11 + i) r is (executed_inside (11 + i) (omega arith))
    (subst (λ (n : ExecutedLatch). IsTrue r ↔ IsAskedOf needs arch case (record { w = w; m = m; d = d }) (record { w = w; m = n; d = d })) (x_flipped m i l)
    (storing_asked needs arch w m (record m { x = flip m.x i }) d case store (record store { address = flip store.address i }) r is
    (record { lone = alone; stores = stores }) h))

pub data_exactly : (needs : Needs) (arch : ArchState) (w : ResultLatch) (m : ExecutedLatch) (d : DecodedLatch) (case : Case) (store : Store) (i : ℕ) (r : Bool)
    → IsCase needs arch w m d case → lone_store case ≡ Some store → i < 32
    → IsTrue r ↔ AgreesWithOwn needs arch case (left_storing arch.image case (record store { value = flip store.value i }))
    → IsTrue r ↔ IsExecutedMasked needs arch (record { w = w; m = m; d = d }) case.oldest.value case.npc case.issued (43 + i)
data_exactly needs arch w m d case store i r is lone l h =
    let alone = lone_is case store lone in
    let other = other_with m store (flip m.y i) (sym is.executed ∙ alone.stores) in
    let stores : action_of (record m { y = flip m.y i }) ≡ Stores store.kind store.address (flip store.value i) =
    other.given-is ∙ ap (λ (y : ℕ). Stores store.kind store.address (flip y i)) (sym other.value) in
    executed_exactly needs arch w m d case (43 + i) r is (executed_inside (43 + i) (omega arith))
    (subst (λ (n : ExecutedLatch). IsTrue r ↔ IsAskedOf needs arch case (record { w = w; m = m; d = d }) (record { w = w; m = n; d = d })) (y_flipped m i l)
    (storing_asked needs arch w m (record m { y = flip m.y i }) d case store (record store { value = flip store.value i }) r is
    (record { lone = alone; stores = stores }) h))

pub none_where : (end : Option End) → is_some end ≡ false → end ≡ None
none_where None e = refl
none_where (Some x) e = absurd (grind arith)
