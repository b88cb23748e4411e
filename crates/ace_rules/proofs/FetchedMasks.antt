-- The masked bits of an entry on path.
use Rattle.std.proofs.Common.{◌≡◌, ◌<◌, ◌+◌, ◌==◌, ℕ, suc, Bool, true, List, map, length, drop, Decides, arith, refl, ap, sym, subst, ◌∙◌}
use Rattle.std.specs.Int.{bit_at}
use Rattle.std.specs.Prelude.{Option, Some, None}
use Rattle.std.proofs.lemmas.Bool.Decides.{nat_tests}
use Rattle.std.proofs.lemmas.List.Elements.{All-get_or}
use Rattle.std.proofs.lemmas.Nat.Bits.{bit_at_ones}
use Rattle.bit_field.specs.Layouts.{flip}
use Rattle.elf_load.specs.Image.{fetch}
use Rattle.rv_table.specs.declared.op.Op.{Op}
use Rattle.inst_buf.specs.Buffer.{entries, slot_of}
use Rattle.inst_buf.specs.Entry.{Entry, no_entry}
use Rattle.inst_buf.specs.EntryBits as entry
use Rattle.inst_buf.specs.declared.buffer.TheConstants.{SLOTS}
use Rattle.inst_buf.specs.declared.slots.SlotField.TheVariants.{Fault, Word}
use Rattle.cyc_machine.specs.InFlight.{Item}
use Rattle.cyc_machine.specs.Pipeline.{entry_of_word, fetched, op_of_entry}
use Rattle.need_pass.specs.Tables.{Needs}
use Rattle.flush_view.specs.Flush.{item_of_entry}
use Rattle.flush_view.specs.Positions.{is_instruction, on_path}
use Rattle.flush_view.proofs.Run.OnPath.{reached-pc, reached-stop}
use Rattle.ace_law.specs.Agreements.{OperationAgrees}
use Rattle.ace_law.specs.Moments.{IsQuiet, Moment, executed, front, state, trace}
use Rattle.ace_law.specs.PipelineRules.{IsSlotOnPath}
use Rattle.ace_law.proofs.Alike.{count_of}
use Rattle.ace_law.proofs.Told.{running-below}
use Rattle.ace_law.proofs.Masked.FetchFaults.{fault-differs, fault-same, word-differs}
use Rattle.ace_law.proofs.Masked.Known.{waiting-fetched}
use Rattle.ace_law.proofs.Masked.Reaches.{on-path-before}
use Rattle.ace_law.proofs.Masked.WordMasks.{word-iff}
use Rattle.ace_rules.specs.Notes.{IsKnown, IsWordMaskOf}
use Rattle.ace_rules.specs.declared.note.Note.{Note}
use Rattle.ace_rules.proofs.FetchedPlaces.{in-order, path-split, waiting-below, waiting-is}
use Rattle.ace_rules.proofs.FrontSlots.{entry-in}
use Rattle.ace_rules.proofs.LatchClasses.{mask-decides}

module _ (a : Moment) (table : Needs) (note : Note) (quiet : Bool) (known : IsKnown a table note quiet) (i : ℕ) (few : i < SLOTS)
    (on : IsSlotOnPath a i) where
  abbrev slot : Entry
  slot = slot_of (state a).buffer i

  -- the number of its instruction
  abbrev here : ℕ
  here = executed a + length (front a i)

  is-here : is_instruction (trace a) here (item_of_entry slot) ≡ true
  is-here =
      (on-path-before (trace a) (front a i) (item_of_entry slot) (map item_of_entry (entries (drop (suc i) (state a).buffer))) (executed a)
      (subst (λ (items : List Item). length (front a i) < on_path (trace a) (executed a) items) (path-split a table note quiet known i few on.0)
      on.1)).1

  running : (trace a here).stop ≡ None
  running = reached-stop (trace a here).stop _ is-here

  address : slot.pc ≡ (trace a here).pc
  address = reached-pc (item_of_entry slot) (trace a here) is-here

  pub here-below : here < count_of a
  here-below = running-below a table known.told here running

  -- it holds what is fetched at that address
  is-fetched : (o : Option ℕ) → fetch a.r.image (trace a here).pc ≡ o → slot ≡ entry_of_word slot.pc o
  is-fetched o e =
      let inside : i < length (entries (state a).buffer) =
      (let l = waiting-below a table note quiet known i (waiting-is a table note quiet known i ∙ on.0) in
      let count = known.noted.waiting in omega (arith, l, count)) in
      let same : slot ≡ slot_of (entries (state a).buffer) i = entry-in (state a).buffer (in-order a table note quiet known) i inside in
      subst (λ (x : Entry). x ≡ fetched a.r.image x.pc) (sym same)
      (All-get_or (λ (x : Entry). x ≡ fetched a.r.image x.pc) (entries (state a).buffer) i no_entry inside
      (waiting-fetched a table known.told known.below))
      ∙ ap (entry_of_word slot.pc) (ap (fetch a.r.image) address ∙ e)

  struck-op : (o : Option ℕ) → fetch a.r.image (trace a here).pc ≡ o → (change : Entry → Entry)
      → op_of_entry (change slot) ≡ op_of_entry (change (entry_of_word slot.pc o))
  struck-op o e change = ap (λ (x : Entry). op_of_entry (change x)) (is-fetched o e)

  -- a bit of its word
  pub word-decides : IsQuiet a → (j mask : ℕ) → j < 32 → IsWordMaskOf a table here mask
      → Decides (bit_at mask j == 1) (OperationAgrees a here (op_of_entry (entry.flip_in slot Word j)))
  word-decides silent j mask l m = go (fetch a.r.image (trace a here).pc) refl
    where
      go : (o : Option ℕ) → fetch a.r.image (trace a here).pc ≡ o
          → Decides (bit_at mask j == 1) (OperationAgrees a here (op_of_entry (entry.flip_in slot Word j)))
      go (Some word) e =
          let exact = m.exact word e in
          subst (λ (op : Op). Decides (bit_at mask j == 1) (OperationAgrees a here op))
          (sym (struck-op (Some word) e (λ (x : Entry). entry.flip_in x Word j)))
          (mask-decides mask j (exact.bits j l)
          (word-iff a table known.told silent m.arch here word (omega arith) running m.image m.stands e (flip word j)))
      go None e =
          let set : bit_at mask j ≡ 1 = ap (λ (n : ℕ). bit_at n j) (m.all e) ∙ bit_at_ones 32 j l in
          let code = ap (λ (op : Op). op.code) (struck-op None e (λ (x : Entry). entry.flip_in x Word j)) in
          let agrees = fault-same a here (op_of_entry (entry.flip_in slot Word j)) e code in
          ((λ h. agrees), (λ h. grind (arith, nat_tests)))

  -- its fault bit is never masked
  pub fault-never : (j : ℕ) → OperationAgrees a here (op_of_entry (entry.flip_in slot Fault j)) → ⊥
  fault-never j agrees = go (fetch a.r.image (trace a here).pc) refl
    where
      go : (o : Option ℕ) → fetch a.r.image (trace a here).pc ≡ o → ⊥
      go (Some word) e =
          let code = ap (λ (op : Op). op.code) (struck-op (Some word) e (λ (x : Entry). entry.flip_in x Fault j)) in
          fault-differs a here word (op_of_entry (entry.flip_in slot Fault j)) e code agrees
      go None e =
          word-differs a here 0 e
          (subst (λ (op : Op). OperationAgrees a here op) (struck-op None e (λ (x : Entry). entry.flip_in x Fault j)) agrees)
