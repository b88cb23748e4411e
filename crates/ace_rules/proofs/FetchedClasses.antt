-- The classes of the bits of the instruction buffer.
use Rattle.std.proofs.Common.{◌≡◌, ◌⊎◌, inl, inr, ◌<◌, ◌≤◌, ◌+◌, ◌/◌, ◌%◌, ◌==◌, ◌&&◌, not, ℕ, Bool, true, false, List, length, Decides, arith, refl}
use Rattle.std.proofs.Common.{ap, sym, subst, ◌∙◌}
use Rattle.std.specs.Prelude.{Option, Some, slice_get}
use Rattle.std.proofs.lemmas.Bool.Decides.{nat_tests, Decides-and, Decides-at, Decides-like, Decides-not, Decides-or}
use Rattle.std.proofs.lemmas.Option.{slice_get-get_or}
use Rattle.bit_field.proofs.LayoutLaws.{flipped-at}
use Rattle.bit_field.proofs.Located.{located_within}
use Rattle.bit_field.specs.declared.places.Structure.TheVariants.{Ib}
use Rattle.bit_field.specs.declared.shapes.TheConstants.{IB_BITS}
use Rattle.inst_buf.specs.Buffer.{slot_of}
use Rattle.inst_buf.specs.Entry.{Entry}
use Rattle.inst_buf.specs.EntryBits as entry
use Rattle.inst_buf.specs.declared.buffer.TheConstants.{SLOTS}
use Rattle.inst_buf.specs.declared.slots.SlotField.{SlotField}
use Rattle.inst_buf.specs.declared.slots.SlotField.TheVariants.{Valid, Fault, Pc, Word}
use Rattle.inst_buf.specs.declared.slots.TheConstants.{SLOT_BITS}
use Rattle.cyc_machine.specs.Pipeline.{op_of_entry}
use Rattle.need_pass.specs.Tables.{Needs}
use Rattle.flush_view.specs.Flush.{item_of_entry, path}
use Rattle.flush_view.specs.Positions.{on_path}
use Rattle.ace_law.specs.Agreements.{OperationAgrees}
use Rattle.ace_law.specs.Classes.{IsClass}
use Rattle.ace_law.specs.Moments.{IsQuiet, Moment, executed, front, state, trace}
use Rattle.ace_law.specs.PipelineRules.{ComesNext, IsFetchedPart, IsIdleFetched, IsIn, IsPlaceOfFetched, IsSlotOffPath, IsSlotOnPath, IsUnusedFetched}
use Rattle.ace_law.specs.PipelineRules.{IsWrongFetched, slot_flipped}
use Rattle.ace_rules.specs.FetchedTests.{fetched_tests, has_bit, is_masked, is_masked_in, is_off_path, is_place, is_slot_valid, is_waiting, is_wrong}
use Rattle.ace_rules.specs.FetchedTests.{is_zero_next, number_of_slot}
use Rattle.ace_rules.specs.FirstRules.{AreTests, class_by, no_rule}
use Rattle.ace_rules.specs.Notes.{AreWordMasks, IsKnown}
use Rattle.ace_rules.specs.PipelineTests.{becomes_next, is_next}
use Rattle.ace_rules.specs.declared.note.Note.{Note}
use Rattle.ace_rules.proofs.FetchedMasks.{fault-never, here-below, word-decides}
use Rattle.ace_rules.proofs.FetchedPlaces.{after-decides, front-path, in-order, missed-is, number-of-front, off-path-decides, off-path-front}
use Rattle.ace_rules.proofs.FetchedPlaces.{on-path-decides, path-number, waiting-is}
use Rattle.ace_rules.proofs.FirstRuleLaws.{class-by, never}
use Rattle.ace_rules.proofs.FrontSlots.{free-behind}
use Rattle.ace_rules.proofs.NextEntries.{becomes-is}
use Rattle.ace_rules.proofs.NotedTests.{false-decides, in-decides, then-and}

-- ---- fields

width-small : (f : SlotField) → entry.width f ≤ 32
width-small Valid = omega arith
width-small Fault = omega arith
width-small Pc = omega arith
width-small Word = omega arith

pub slot-place-small : (k : ℕ) (place : SlotField × ℕ) → entry.field_of k ≡ Some place → place.1 < 32
slot-place-small k place at =
    let within = located_within entry.width entry.layout.fields k place at in
    let small = width-small place.0 in
    omega (arith, within, small)

unused-decides : (f : SlotField) (j : ℕ) → Decides (not (is_slot_valid f)) (IsUnusedFetched f j)
unused-decides Valid j = never (λ h. h)
unused-decides _ j = ((λ e. tt), (λ h. refl))

same-then : (b x y : Bool) → (b ≡ true → x ≡ y) → (b && x) ≡ (b && y)
same-then true x y e = e refl
same-then false x y e = refl

module _ (a : Moment) (table : Needs) (note : Note) (words : List ℕ) (quiet : Bool) (known : IsKnown a table note quiet)
    (masks : AreWordMasks a table words) (i : ℕ) (few : i < SLOTS) (b : ℕ) (place : SlotField × ℕ) (at : entry.field_of b ≡ Some place) where
  abbrev slot : Entry
  slot = slot_of (state a).buffer i

  abbrev struck : Entry
  struck = slot_flipped a i b

  -- the slot with bit j of field f flipped
  abbrev IsStruck : SlotField → ℕ → Type 0
  IsStruck f j = struck ≡ entry.flip_in slot f j

  struck-is : IsStruck place.0 place.1
  struck-is = flipped-at entry.layout slot b place at

  free-decides : Decides (not (is_waiting note i)) (slot.valid ≡ false)
  free-decides = false-decides (is_waiting note i) slot.valid (waiting-is a table note quiet known i)

  -- ---- an entry on a wrong path

  address-decides : (j : ℕ) → IsSlotOffPath a i → IsStruck Pc j
      → Decides (number_of_slot note i == note.on_path && becomes_next note j) (ComesNext a (front a i) (item_of_entry struck))
  address-decides j off flips =
      Decides-at (number_of_slot note i == note.on_path && becomes_next note j) (number_of_slot note i == note.on_path && is_next note struck.pc)
      (same-then (number_of_slot note i == note.on_path) (becomes_next note j) (is_next note struck.pc) (λ e. same e))
      (after-decides a table note quiet known (front a i) (item_of_entry struck) (number_of_slot note i)
      (off-path-front a table note quiet known i few off) number)
    where
      number : length (front a i) ≡ number_of_slot note i
      number = number-of-front a table note quiet known i off.0

      same : (number_of_slot note i == note.on_path) ≡ true → becomes_next note j ≡ is_next note struck.pc
      same e =
          let equal : number_of_slot note i ≡ note.on_path = grind (arith, nat_tests) in
          becomes-is a table note known.noted (item_of_entry slot) j
          (missed-is a table note quiet known i few off.0 (number ∙ equal ∙ known.noted.on_path))
          ∙ ap (is_next note) (sym (ap (λ (x : Entry). x.pc) flips))

  wrong-field : (f : SlotField) (j : ℕ) → IsSlotOffPath a i → IsStruck f j → Decides (is_wrong note i f j) (IsWrongFetched a i b f j)
  unfolding is_wrong
  wrong-field Pc j off flips = Decides-not _ (address-decides j off flips)
  wrong-field _ j off flips = ((λ e. tt), (λ h. refl))

  -- ---- a free slot

  waiting-most : slot.valid ≡ false → note.waiting ≤ i
  unfolding is_waiting
  waiting-most free = let w = waiting-is a table note quiet known i in grind (arith, nat_tests)

  zero-decides : (j : ℕ) → slot.valid ≡ false → IsStruck Valid j → Decides (is_zero_next note) (ComesNext a (front a i) (item_of_entry struck))
  unfolding is_zero_next
  zero-decides j free flips =
      subst (λ (pc : ℕ).
      Decides (number_of_slot note note.waiting == note.on_path && is_next note pc) (ComesNext a (front a i) (item_of_entry struck)))
      zero
      (after-decides a table note quiet known (front a i) (item_of_entry struck) (number_of_slot note note.waiting)
      (ap (on_path (trace a) (executed a)) all) (ap length all ∙ path-number a table note quiet known))
    where
      behind : note.waiting ≤ i
      behind = waiting-most free

      all : front a i ≡ path (state a)
      all = front-path a table note quiet known i behind

      zero : struck.pc ≡ 0
      zero =
          ap (λ (x : Entry). x.pc) flips
          ∙ ap (λ (x : Entry). x.pc)
          (free-behind (state a).buffer (in-order a table note quiet known) i (let count = known.noted.waiting in omega (arith, behind, count)))

  -- ---- where it stands

  IsPlaceAt : Option (SlotField × ℕ) → Type 0
  IsPlaceAt o = (IsSlotOnPath a i × IsIn IsPlaceOfFetched o) ⊎ ((slot.valid ≡ false) × IsIn (IsIdleFetched a i b) o)

  place-field : (f : SlotField) (j : ℕ) → IsStruck f j → Decides (is_place note i f) (IsPlaceAt (Some (f, j)))
  unfolding is_place IsPlaceAt
  place-field Valid j flips =
      Decides-or _ _ (Decides-like _ (λ h. (h, tt)) (λ h. h.0) (on-path-decides a table note quiet known i))
      (then-and _ _ free-decides (λ free. Decides-not _ (zero-decides j free flips)))
  place-field Pc j flips =
      Decides-like _ (λ h. inl (h, tt)) (λ h. elim h [ inl p ↦ p.0 | inr p ↦ absurd p.1 ]) (on-path-decides a table note quiet known i)
  place-field _ j flips = never (λ h. elim h [ inl p ↦ p.1 | inr p ↦ p.1 ])

  -- ---- masked bits

  AreMaskedAt : Option (SlotField × ℕ) → Type 0
  AreMaskedAt o =
      IsSlotOnPath a i × IsIn IsFetchedPart o × OperationAgrees a (executed a + length (front a i)) (op_of_entry struck)

  word-in : IsQuiet a → (j : ℕ) → j < 32 → IsSlotOnPath a i
      → Decides (is_masked_in words (note.executed + number_of_slot note i) j)
      (OperationAgrees a (executed a + length (front a i)) (op_of_entry (entry.flip_in slot Word j)))
  unfolding is_masked_in
  word-in silent j l on =
      let here = here-below a table note quiet known i few on in
      let count = masks.instructions in
      let number : note.executed + number_of_slot note i ≡ executed a + length (front a i) =
      ap (λ (n : ℕ). n + number_of_slot note i) known.noted.left
      ∙ ap (λ (n : ℕ). executed a + n) (sym (number-of-front a table note quiet known i on.0)) in
      let mask = slice_get-get_or words (executed a + length (front a i)) 0 (omega (arith, here, count)) in
      subst (λ (o : Option ℕ). Decides (has_bit o j) (OperationAgrees a (executed a + length (front a i)) (op_of_entry (entry.flip_in slot Word j))))
      (sym (ap (λ (n : ℕ). slice_get words n) number ∙ mask))
      (word-decides a table note quiet known i few on silent j _ l (masks.each (executed a + length (front a i)) _ mask))

  masked-field : IsQuiet a → (f : SlotField) (j : ℕ) → j < 32 → IsStruck f j → Decides (is_masked note words i f j) (AreMaskedAt (Some (f, j)))
  unfolding is_masked AreMaskedAt
  masked-field silent Word j l flips =
      Decides-like _ (λ h. (h.0, tt, h.1)) (λ h. (h.0, h.2))
      (then-and _ _ (on-path-decides a table note quiet known i)
      (λ on.
      subst (λ (x : Entry). Decides (is_masked_in words (note.executed + number_of_slot note i) j)
      (OperationAgrees a (executed a + length (front a i)) (op_of_entry x)))
      (sym flips) (word-in silent j l on)))
  masked-field silent Fault j l flips =
      never (λ h. fault-never a table note quiet known i few h.0 j
      (subst (λ (x : Entry). OperationAgrees a (executed a + length (front a i)) (op_of_entry x)) flips h.2))
  masked-field silent _ j l flips = never (λ h. h.1)

  -- ---- all rules

  pub unused-in : Decides (not (is_waiting note i) && not (is_slot_valid place.0)) ((slot.valid ≡ false) × IsIn IsUnusedFetched (entry.field_of b))
  unused-in =
      Decides-and _ _ free-decides
      (in-decides IsUnusedFetched (not (is_slot_valid place.0)) (entry.field_of b) place at (unused-decides place.0 place.1))

  pub wrong-in : Decides (is_off_path note i && is_wrong note i place.0 place.1) (IsSlotOffPath a i × IsIn (IsWrongFetched a i b) (entry.field_of b))
  wrong-in =
      then-and _ _ (off-path-decides a table note quiet known i)
      (λ off.
      in-decides (IsWrongFetched a i b) (is_wrong note i place.0 place.1) (entry.field_of b) place at
      (wrong-field place.0 place.1 off struck-is))

  pub place-in : Decides (is_place note i place.0)
      ((IsSlotOnPath a i × IsIn IsPlaceOfFetched (entry.field_of b)) ⊎ ((slot.valid ≡ false) × IsIn (IsIdleFetched a i b) (entry.field_of b)))
  unfolding IsPlaceAt
  place-in = subst (λ (o : Option (SlotField × ℕ)). Decides (is_place note i place.0) (IsPlaceAt o)) (sym at) (place-field place.0 place.1 struck-is)

  pub masked-in : IsQuiet a → Decides (is_masked note words i place.0 place.1)
      (IsSlotOnPath a i × IsIn IsFetchedPart (entry.field_of b) × OperationAgrees a (executed a + length (front a i)) (op_of_entry struck))
  unfolding AreMaskedAt
  masked-in silent =
      subst (λ (o : Option (SlotField × ℕ)). Decides (is_masked note words i place.0 place.1) (AreMaskedAt o)) (sym at)
      (masked-field silent place.0 place.1 (slot-place-small b place at) struck-is)

module _ (a : Moment) (table : Needs) (note : Note) (words : List ℕ) (quiet : Bool) (known : IsKnown a table note quiet)
    (masks : AreWordMasks a table words) (k : ℕ) (place : SlotField × ℕ) (at : entry.field_of (k % SLOT_BITS) ≡ Some place) (l : k < IB_BITS) where
  few : k / SLOT_BITS < SLOTS
  few = omega arith

  fetched-are : AreTests a (record { structure = Ib; bit = k }) (fetched_tests note words quiet (k / SLOT_BITS) place.0 place.1)
  unfolding fetched_tests no_rule
  fetched-are = record {
    timing = never (λ h. h.1);
    empty_place = unused-in a table note words quiet known masks (k / SLOT_BITS) few (k % SLOT_BITS) place at;
    wrong_path = Decides-and quiet _ known.silent (wrong-in a table note words quiet known masks (k / SLOT_BITS) few (k % SLOT_BITS) place at);
    on_path = Decides-and quiet _ known.silent (place-in a table note words quiet known masks (k / SLOT_BITS) few (k % SLOT_BITS) place at);
    masked = then-and quiet _ known.silent (masked-in a table note words quiet known masks (k / SLOT_BITS) few (k % SLOT_BITS) place at);
    dead_register = never (λ h. h.1);
    dead_data = never (λ h. h.1);
    store_redirection = never (λ h. h.1);
    clean_data = never (λ h. h);
    clean_line = never (λ h. h.1);
    unaccessed_line = never (λ h. h.1);
    clean_tag = never (λ h. h);
    no_trap_cause = never (λ h. h);
  }

  pub fetched_class : IsClass (class_by (fetched_tests note words quiet (k / SLOT_BITS) place.0 place.1)) a (record { structure = Ib; bit = k })
  fetched_class = class-by a _ _ fetched-are
