-- Bits of entries off path, and the valid bit and the address of those on path, are harmless in a quiet cycle.
use Rattle.std.proofs.Common.{◌≡◌, ◌+◌, ◌<◌, ◌++◌, ◌/◌, ◌%◌, ℕ, suc, Bool, true, false, List, ◌∷◌, length, map}
use Rattle.std.proofs.Common.{take, drop, arith, refl, ap, sym, ◌∙◌, inl, inr}
use Rattle.std.specs.Int.{bit_at}
use Rattle.std.specs.Prelude.{None, Some, Option, ◌≢◌, ◌&&◌, nat_lt, not, if◌then◌else◌}
use Rattle.std.proofs.lemmas.Bool.Decides.{nat_tests}
use Rattle.std.proofs.lemmas.List.{set-get_or}
use Rattle.bit_field.specs.Layouts.{flip, flip_by}
use Rattle.bit_field.specs.Shapes.{IsPlaceIn}
use Rattle.bit_field.specs.declared.places.Structure.{Structure}
use Rattle.bit_field.specs.declared.places.Structure.TheVariants.{Ib, IdEx}
use Rattle.bit_field.proofs.Bits.{bit_at-flip_same}
use Rattle.bit_field.proofs.Slots.{used-set}
use Rattle.pipe_latch.specs.DecodedBits as idex
use Rattle.pipe_latch.specs.Latches.{DecodedLatch}
use Rattle.pipe_latch.specs.declared.id_ex.IdExField.{IdExField}
use Rattle.pipe_latch.specs.declared.id_ex.IdExField.TheVariants as decoded_field
use Rattle.inst_buf.specs.Buffer.{entries, slot_of}
use Rattle.inst_buf.specs.Entry.{Entry, no_entry}
use Rattle.inst_buf.specs.EntryBits as ib
use Rattle.inst_buf.specs.declared.slots.SlotField.{SlotField}
use Rattle.inst_buf.specs.declared.slots.SlotField.TheVariants as slot_field
use Rattle.inst_buf.specs.declared.slots.TheConstants.{SLOT_BITS}
use Rattle.rv_isa.specs.Instruction.{State as Arch}
use Rattle.need_pass.specs.Tables.{Needs}
use Rattle.cyc_machine.specs.InFlight.{Item, item_of_latch}
use Rattle.cyc_machine.specs.Strikes.{flip_in}
use Rattle.flush_view.specs.Flush.{item_of_entry, path, path_of}
use Rattle.flush_view.specs.Positions.{is_instruction, on_path}
use Rattle.flush_view.specs.Views.{view}
use Rattle.run_record.specs.Verdict.{HasSame}
use Rattle.ace_law.specs.Moments.{IsQuiet, IsTold, Moment, decoded_is_on_path, executed, front, state, trace}
use Rattle.ace_law.specs.PipelineRules.{ComesNext, IsIdleDecoded, IsIdleFetched, IsIn, IsOnPathBit, IsPlaceOfDecoded, IsPlaceOfFetched, IsSlotOffPath}
use Rattle.ace_law.specs.PipelineRules.{IsSlotOnPath, IsWrongDecoded, IsWrongFetched, IsWrongPathBit, slot_flipped}
use Rattle.ace_law.proofs.Base.{action_at}
use Rattle.ace_law.proofs.PathItems.{first_true, same-place, instruction-pc, next-on_path, on_path-next, path-front}
use Rattle.ace_law.proofs.PathStrikes.{latch-same, slot-same}
use Rattle.ace_law.proofs.TimingRule.{flipped-machine}
use Rattle.ace_law.proofs.Told.{facts, state-machine}

-- ---- flipped numbers and flags

flip-other : (n j : ℕ) → flip n j ≡ n → ⊥
flip-other n j e =
    let same = ap (λ x. bit_at x j) e in
    let flipped = bit_at-flip_same n j in
    absurd (omega (arith, same, flipped))

-- ---- the path at a slot

abbrev slot_at : Moment → ℕ → Entry
slot_at a i = slot_of (state a).buffer i

abbrev behind : Moment → ℕ → List Item
behind a i = map item_of_entry (entries (drop (suc i) (state a).buffer))

entries-at : (slots : List Entry) (i : ℕ) → i < length slots → (slot_of slots i).valid ≡ true
    → entries slots ≡ entries (take i slots) ++ slot_of slots i ∷ entries (drop (suc i) slots)
entries-at slots i l v =
    ap entries (sym (set-get_or slots i no_entry)) ∙ used-set (λ e. e.valid) slots i (slot_of slots i) l
    ∙ ap (λ b. entries (take i slots)
    ++ (if b then slot_of slots i ∷ entries (drop (suc i) slots) else entries (drop (suc i) slots))) v

path-at : (a : Moment) (i : ℕ) → i < length (state a).buffer → (slot_at a i).valid ≡ true
    → path (state a) ≡ front a i ++ item_of_entry (slot_at a i) ∷ behind a i
path-at a i l v =
    ap (path_of (state a).image (action_at a) (state a).w (view (state a)) (state a).d) (entries-at (state a).buffer i l v)
    ∙ path-front (state a).image (action_at a) (state a).w (view (state a)) (state a).d (entries (take i (state a).buffer))
    (slot_at a i ∷ entries (drop (suc i) (state a).buffer))

-- ---- what becomes of a flipped slot

not_valid : (v w : Bool) → v ≡ true → w ≡ not v → w ≡ true → ⊥
not_valid true true a b c = absurd cc
not_valid true false a b c = absurd cc
not_valid false w a b c = absurd cc

module _ (a : Moment) (i bit : ℕ) (within : i < length (state a).buffer) where
  abbrev flipped : Entry
  flipped = slot_flipped a i bit

  abbrev by : Option (SlotField × ℕ) → Entry
  by place = flip_by (ib.flip_in (slot_at a i)) (slot_at a i) place

  -- off path
  off-path : IsSlotOffPath a i → flipped.pc ≡ (slot_at a i).pc → ComesNext a (front a i) (item_of_entry flipped) → ⊥
  off-path off e next =
      let there = next-on_path (trace a) (executed a) (front a i) (item_of_entry (slot_at a i)) (behind a i) next.0
      (sym (same-place (trace a) (executed a + length (front a i)) (item_of_entry flipped) (item_of_entry (slot_at a i)) e) ∙ next.1) in
      let same = ap (on_path (trace a) (executed a)) (path-at a i within off.0) in
      let most = off.1 in
      absurd (omega (arith, there, same, most))

  wrong : (place : Option (SlotField × ℕ)) → ib.field_of bit ≡ place → IsSlotOffPath a i → IsIn (IsWrongFetched a i bit) place
      → flipped.valid ≡ true → ComesNext a (front a i) (item_of_entry flipped) → ⊥
  wrong None e off h = absurd h
  wrong (Some (slot_field.Valid, j)) e off h = λ v next. not_valid (slot_at a i).valid flipped.valid off.0 (ap (λ p. (by p).valid) e) v
  wrong (Some (slot_field.Fault, j)) e off h = λ v next. off-path off (ap (λ p. (by p).pc) e) next
  wrong (Some (slot_field.Pc, j)) e off h = λ v next. h next
  wrong (Some (slot_field.Word, j)) e off h = λ v next. off-path off (ap (λ p. (by p).pc) e) next

  -- on path
  moved : IsSlotOnPath a i → (j : ℕ) → flipped.pc ≡ flip (slot_at a i).pc j → ComesNext a (front a i) (item_of_entry flipped) → ⊥
  moved on j e next =
      let same = ap (on_path (trace a) (executed a)) (path-at a i within on.0) in
      let below = on.1 in
      let there = on_path-next (trace a) (executed a) (front a i) (item_of_entry (slot_at a i)) (behind a i) (omega (arith, same, below)) in
      flip-other (slot_at a i).pc j
      (sym e ∙ instruction-pc (trace a) (executed a + length (front a i)) (item_of_entry flipped) next.1
      ∙ sym (instruction-pc (trace a) (executed a + length (front a i)) (item_of_entry (slot_at a i)) there))

  placed : (place : Option (SlotField × ℕ)) → ib.field_of bit ≡ place → IsSlotOnPath a i → IsIn IsPlaceOfFetched place
      → flipped.valid ≡ true → ComesNext a (front a i) (item_of_entry flipped) → ⊥
  placed None e on h = absurd h
  placed (Some (slot_field.Valid, j)) e on h = λ v next. not_valid (slot_at a i).valid flipped.valid on.0 (ap (λ p. (by p).valid) e) v
  placed (Some (slot_field.Fault, j)) e on h = absurd h
  placed (Some (slot_field.Pc, j)) e on h = λ v next. moved on j (ap (λ p. (by p).pc) e) next
  placed (Some (slot_field.Word, j)) e on h = absurd h

  idle : (place : Option (SlotField × ℕ)) → ib.field_of bit ≡ place → IsIn (IsIdleFetched a i bit) place
      → flipped.valid ≡ true → ComesNext a (front a i) (item_of_entry flipped) → ⊥
  idle None e h = absurd h
  idle (Some (slot_field.Valid, j)) e h = λ v next. h next
  idle (Some (slot_field.Fault, j)) e h = absurd h
  idle (Some (slot_field.Pc, j)) e h = absurd h
  idle (Some (slot_field.Word, j)) e h = absurd h

-- ---- what becomes of a flipped ID/EX

module _ (a : Moment) (bit : ℕ) where
  abbrev pub latch : DecodedLatch
  latch = (state a).d

  abbrev struck : DecodedLatch
  struck = idex.flipped latch bit

  abbrev struck_by : Option (IdExField × ℕ) → DecodedLatch
  struck_by place = flip_by (idex.flip_in latch) latch place

  abbrev pub held_by : DecodedLatch → Item
  held_by d = item_of_latch (state a).image (action_at a) (state a).w (view (state a)) d

  abbrev pub comes : DecodedLatch → Bool
  comes d = is_instruction (trace a) (executed a) (held_by d)

  path-latch : latch.valid ≡ true → path (state a) ≡ held_by latch ∷ map item_of_entry (entries (state a).buffer)
  path-latch v = ap (λ b. if b then held_by latch ∷ map item_of_entry (entries (state a).buffer) else map item_of_entry (entries (state a).buffer)) v

  latch-next : (items : List Item) → path (state a) ≡ items → decoded_is_on_path a ≡ (latch.valid && nat_lt 0 (on_path (trace a) (executed a) items))
  latch-next items e = ap (λ (xs : List Item). latch.valid && nat_lt 0 (on_path (trace a) (executed a) xs)) e

  -- it is on path where it is the next instruction
  pub comes-on_path : latch.valid ≡ true → comes latch ≡ decoded_is_on_path a
  unfolding on_path
  comes-on_path v =
      go (comes latch)
      ∙ sym (ap (λ b. b && nat_lt 0 (on_path (trace a) (executed a) (held_by latch ∷ map item_of_entry (entries (state a).buffer)))) v)
      ∙ sym (latch-next (held_by latch ∷ map item_of_entry (entries (state a).buffer)) (path-latch v))
    where
      go : (b : Bool) → b ≡ nat_lt 0 (if b then on_path (trace a) (executed a + 1) (map item_of_entry (entries (state a).buffer)) + 1 else 0)
      go true = grind (arith, nat_tests)
      go false = refl

  same-latch : struck.pc ≡ latch.pc → comes struck ≡ comes latch
  same-latch e = same-place (trace a) (executed a) (held_by struck) (held_by latch) e

  wrong-latch : (place : Option (IdExField × ℕ)) → idex.field_of bit ≡ place → latch.valid ≡ true → decoded_is_on_path a ≡ false
      → IsIn (IsWrongDecoded a bit) place → struck.valid ≡ true → comes struck ≡ true → ⊥
  unfolding on_path
  wrong-latch None e valid off h = absurd h
  wrong-latch (Some (decoded_field.Valid, j)) e valid off h = λ v next. not_valid latch.valid struck.valid valid (ap (λ p. (struck_by p).valid) e) v
  wrong-latch (Some (decoded_field.Pc, j)) e valid off h =
      λ v next. h (refl, ap (λ n. is_instruction (trace a) n (held_by struck)) (omega arith) ∙ next)
  wrong-latch (Some (decoded_field.Count, j)) e valid off h = absurd h
  wrong-latch (Some (f, j)) e valid off h = λ v next.
      let same = same-latch (ap (λ p. (struck_by p).pc) e) in let on = comes-on_path valid in absurd cc

  placed-latch : (place : Option (IdExField × ℕ)) → idex.field_of bit ≡ place → decoded_is_on_path a ≡ true → IsIn IsPlaceOfDecoded place
      → struck.valid ≡ true → comes struck ≡ true → ⊥
  placed-latch None e on h = absurd h
  placed-latch (Some (decoded_field.Valid, j)) e on h =
      λ v next. not_valid latch.valid struck.valid (first_true latch.valid _ on) (ap (λ p. (struck_by p).valid) e) v
  placed-latch (Some (decoded_field.Pc, j)) e on h = λ v next.
      flip-other latch.pc j
      (sym (ap (λ p. (struck_by p).pc) e) ∙ instruction-pc (trace a) (executed a) (held_by struck) next
      ∙ sym (instruction-pc (trace a) (executed a) (held_by latch) (comes-on_path (first_true latch.valid _ on) ∙ on)))
  placed-latch (Some (f, j)) e on h = absurd h

  idle-latch : (place : Option (IdExField × ℕ)) → idex.field_of bit ≡ place → (state a).npc ≡ (trace a (executed a)).pc → latch.pc ≢ (state a).npc
      → IsIn IsIdleDecoded place → struck.valid ≡ true → comes struck ≡ true → ⊥
  idle-latch None e npc other h = absurd h
  idle-latch (Some (decoded_field.Valid, j)) e npc other h = λ v next.
      other (sym (ap (λ p. (struck_by p).pc) e) ∙ instruction-pc (trace a) (executed a) (held_by struck) next ∙ sym npc)
  idle-latch (Some (f, j)) e npc other h = absurd h

-- ---- the rules

module _ (a : Moment) (table : Needs) (told : IsTold a.r a.run table) (below : a.t < a.r.cycles) (quiet : IsQuiet a) where
  within-buffer : (k : ℕ) → IsPlaceIn a.r.shape (record { structure = Ib; bit = k }) → k / SLOT_BITS < length (state a).buffer
  within-buffer k place = let four = (state-machine a table told below).buffer.0 in omega (arith, place, four)

  slot-struck : (k : ℕ) → IsPlaceIn a.r.shape (record { structure = Ib; bit = k })
      → ((slot_flipped a (k / SLOT_BITS) (k % SLOT_BITS)).valid ≡ true
      → ComesNext a (front a (k / SLOT_BITS)) (item_of_entry (slot_flipped a (k / SLOT_BITS) (k % SLOT_BITS))) → ⊥)
      → HasSame a.r a.t (flip_in Ib (state a) k)
  slot-struck k place miss =
      slot-same a table told below quiet (k / SLOT_BITS) (slot_flipped a (k / SLOT_BITS) (k % SLOT_BITS)) (within-buffer k place)
      (flipped-machine a table told below Ib k place) miss

  latch-struck : (k : ℕ) → IsPlaceIn a.r.shape (record { structure = IdEx; bit = k })
      → ((struck a k).valid ≡ true → comes a k (struck a k) ≡ true → ⊥) → HasSame a.r a.t (flip_in IdEx (state a) k)
  latch-struck k place miss = latch-same a table told below quiet (struck a k) (flipped-machine a table told below IdEx k place) miss

  wrong-by : (s : Structure) (k : ℕ) → IsPlaceIn a.r.shape (record { structure = s; bit = k }) → IsWrongPathBit a s k
      → HasSame a.r a.t (flip_in s (state a) k)
  wrong-by Ib k place bit =
      slot-struck k place
      (wrong a (k / SLOT_BITS) (k % SLOT_BITS) (within-buffer k place) (ib.field_of (k % SLOT_BITS)) refl bit.0 bit.1)
  wrong-by IdEx k place bit = latch-struck k place (wrong-latch a k (idex.field_of k) refl bit.0 bit.1 bit.2)
  wrong-by s k place bit = absurd bit

  on-path-by : (s : Structure) (k : ℕ) → IsPlaceIn a.r.shape (record { structure = s; bit = k }) → IsOnPathBit a s k
      → HasSame a.r a.t (flip_in s (state a) k)
  on-path-by Ib k place (inl on) =
      slot-struck k place (placed a (k / SLOT_BITS) (k % SLOT_BITS) (within-buffer k place) (ib.field_of (k % SLOT_BITS)) refl on.0 on.1)
  on-path-by Ib k place (inr free) =
      slot-struck k place (idle a (k / SLOT_BITS) (k % SLOT_BITS) (within-buffer k place) (ib.field_of (k % SLOT_BITS)) refl free.1)
  on-path-by IdEx k place (inl on) = latch-struck k place (placed-latch a k (idex.field_of k) refl on.0 on.1)
  on-path-by IdEx k place (inr empty) =
      latch-struck k place
      (idle-latch a k (idex.field_of k) refl (ap (λ (x : Arch). x.pc) (facts a table told below).position) empty.1 empty.2)
  on-path-by s k place bit = absurd bit

pub wrong-path-same : (a : Moment) (table : Needs) (s : Structure) (k : ℕ) → IsTold a.r a.run table → a.t < a.r.cycles
    → IsPlaceIn a.r.shape (record { structure = s; bit = k }) → IsQuiet a → IsWrongPathBit a s k → HasSame a.r a.t (flip_in s (state a) k)
wrong-path-same a table s k told below place quiet bit = wrong-by a table told below quiet s k place bit

pub on-path-same : (a : Moment) (table : Needs) (s : Structure) (k : ℕ) → IsTold a.r a.run table → a.t < a.r.cycles
    → IsPlaceIn a.r.shape (record { structure = s; bit = k }) → IsQuiet a → IsOnPathBit a s k → HasSame a.r a.t (flip_in s (state a) k)
on-path-same a table s k told below place quiet bit = on-path-by a table told below quiet s k place bit
