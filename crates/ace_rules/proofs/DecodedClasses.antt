-- The classes of the bits of ID/EX.
use Rattle.std.proofs.Common.{◌≡◌, ◌≢◌, ◌⊎◌, inl, inr, ◌<◌, ◌≤◌, ◌-◌, ◌+◌, ◌==◌, ◌&&◌, not, ℕ, Bool, true, false, List, [], ◌∷◌, map, Decides}
use Rattle.std.proofs.Common.{if◌then◌else◌, arith, refl, ap, sym, subst, ◌∙◌}
use Rattle.std.specs.Int.{bit_at}
use Rattle.std.specs.Prelude.{Option, Some, nat_lt, slice_get}
use Rattle.std.proofs.lemmas.Bool.Decides.{nat_tests, Decides-and, Decides-at, Decides-eqb, Decides-like, Decides-not, Decides-or}
use Rattle.bit_field.specs.Layouts.{flip}
use Rattle.bit_field.proofs.LayoutLaws.{flipped-at}
use Rattle.bit_field.proofs.Located.{located_within}
use Rattle.bit_field.specs.declared.places.Structure.TheVariants.{IdEx}
use Rattle.bit_field.specs.declared.shapes.TheConstants.{ID_EX_BITS}
use Rattle.pipe_latch.specs.DecodedBits as idex
use Rattle.pipe_latch.specs.Latches.{DecodedLatch}
use Rattle.pipe_latch.specs.declared.id_ex.IdExField.{IdExField}
use Rattle.pipe_latch.specs.declared.id_ex.IdExField.TheVariants as of_decoded
use Rattle.inst_buf.specs.Buffer.{entries}
use Rattle.cyc_machine.specs.Cycle.{action_in_m}
use Rattle.cyc_machine.specs.InFlight.{Item, item_of_latch}
use Rattle.cyc_machine.specs.Pipeline.{register}
use Rattle.need_pass.specs.Tables.{Needs}
use Rattle.flush_view.specs.Flush.{item_of_entry, path}
use Rattle.flush_view.specs.Positions.{on_path}
use Rattle.flush_view.specs.Views.{view}
use Rattle.ace_law.specs.Classes.{IsClass}
use Rattle.ace_law.specs.Moments.{Moment, decoded_is_on_path, entries_on_path, state}
use Rattle.ace_law.specs.PipelineRules.{ComesNext, IsCount, IsIdleDecoded, IsIn, IsMaskedBit, IsOnPathBit, IsPlaceOfDecoded, IsUnusedDecoded}
use Rattle.ace_law.specs.PipelineRules.{IsWrongDecoded, IsWrongPathBit}
use Rattle.ace_law.proofs.Masked.LatchMasks.{decoded-iff}
use Rattle.ace_rules.specs.FirstRules.{AreTests, class_by, no_rule}
use Rattle.ace_rules.specs.Notes.{IsKnown, IsMaskOf}
use Rattle.ace_rules.specs.PipelineTests.{becomes_next, decoded_tests, is_count, is_masked_decoded, is_next, is_place_of_decoded, is_unused_decoded}
use Rattle.ace_rules.specs.PipelineTests.{is_wrong_decoded}
use Rattle.ace_rules.specs.declared.note.Note.{Note}
use Rattle.ace_rules.proofs.FirstRuleLaws.{class-by, never}
use Rattle.ace_rules.proofs.LatchClasses.{mask-decides}
use Rattle.ace_rules.proofs.NextEntries.{becomes-is, comes-decides}
use Rattle.ace_rules.proofs.NotedTests.{and-then, false-decides, in-decides, true-decides}

-- ---- fields

width-small : (f : IdExField) → idex.width f ≤ 32
width-small of_decoded.Valid = omega arith
width-small of_decoded.Pc = omega arith
width-small of_decoded.Op = omega arith
width-small of_decoded.Rd = omega arith
width-small of_decoded.Rs1 = omega arith
width-small of_decoded.Rs2 = omega arith
width-small of_decoded.A = omega arith
width-small of_decoded.B = omega arith
width-small of_decoded.Imm = omega arith
width-small of_decoded.Count = omega arith

pub place-small : (k : ℕ) (place : IdExField × ℕ) → idex.field_of k ≡ Some place → place.1 < 32
place-small k place at =
    let within = located_within idex.width idex.layout.fields k place at in
    let small = width-small place.0 in
    omega (arith, within, small)

count-decides : (f : IdExField) (j : ℕ) → Decides (is_count f) (IsCount f j)
count-decides of_decoded.Count j = ((λ e. tt), (λ h. refl))
count-decides _ j = never (λ h. h)

unused-decides : (f : IdExField) (j : ℕ) → Decides (is_unused_decoded f) (IsUnusedDecoded f j)
unused-decides of_decoded.Valid j = never (λ h. h)
unused-decides of_decoded.Count j = never (λ h. h)
unused-decides _ j = ((λ e. tt), (λ h. refl))

-- where the first entry isn't on path, none is
none-on-path : (v : Bool) (n : ℕ) → (v && nat_lt 0 n) ≡ false → v ≡ true → n ≡ 0
none-on-path true n e h = grind (arith, nat_tests)
none-on-path false n e h = absurd cc

module _ (a : Moment) (table : Needs) (note : Note) (quiet : Bool) (known : IsKnown a table note quiet) where
  masks : IsMaskOf a table note.masks
  masks = known.noted.masks

  decoded-masked : (k : ℕ) → k < ID_EX_BITS → Decides (is_masked_decoded note k) (IsMaskedBit a IdEx k)
  unfolding is_masked_decoded
  decoded-masked k l = go (nat_lt k 128) refl
    where
      go : (b : Bool) → nat_lt k 128 ≡ b
          → Decides (if b then bit_at note.masks.idex_low k == 1 else bit_at note.masks.idex_high (k - 128) == 1) (IsMaskedBit a IdEx k)
      go true e = mask-decides note.masks.idex_low k (masks.exact.idex_low.bits k (grind (arith, nat_tests)))
          (decoded-iff a table known.told known.below masks.arch (register (state a).registers (state a).w.rd) masks.image masks.stands refl k)
      go false e =
          let least : 128 ≤ k = grind (arith, nat_tests) in
          subst (λ (i : ℕ). Decides (bit_at note.masks.idex_high (k - 128) == 1) (IsMaskedBit a IdEx i)) (omega (arith, least))
          (mask-decides note.masks.idex_high (k - 128) (masks.exact.idex_high.bits (k - 128) (omega (arith, least, l)))
          (decoded-iff a table known.told known.below masks.arch (register (state a).registers (state a).w.rd) masks.image masks.stands refl
          (128 + (k - 128))))

  -- ---- an ID/EX on a wrong path

  abbrev held : Item
  held = item_of_latch (state a).image (action_in_m (state a)) (state a).w (view (state a)) (state a).d

  abbrev waiting : List Item
  waiting = map item_of_entry (entries (state a).buffer)

  first-in : (state a).d.valid ≡ true → slice_get (path (state a)) 0 ≡ Some held
  first-in v = ap (λ (b : Bool). slice_get (if b then held ∷ waiting else waiting) 0) v

  module _ (k : ℕ) (place : IdExField × ℕ) (at : idex.field_of k ≡ Some place) where
    abbrev struck : Item
    struck = item_of_latch (state a).image (action_in_m (state a)) (state a).w (view (state a)) (idex.flipped (state a).d k)

    address-decides : (j : ℕ) → (idex.flipped (state a).d k).pc ≡ flip (state a).d.pc j → (state a).d.valid ≡ true → decoded_is_on_path a ≡ false
        → Decides (becomes_next note j) (ComesNext a [] struck)
    unfolding on_path
    address-decides j pc v off =
        let none : entries_on_path a ≡ 0 = none-on-path (state a).d.valid (entries_on_path a) off v in
        Decides-at (becomes_next note j) (is_next note struck.pc)
        (becomes-is a table note known.noted held j (ap (slice_get (path (state a))) none ∙ first-in v) ∙ ap (is_next note) (sym pc))
        (comes-decides a table note known.noted [] struck (sym none) (sym none))

    wrong-field : (f : IdExField) (j : ℕ) → (state a).d.valid ≡ true → decoded_is_on_path a ≡ false
        → idex.flipped (state a).d k ≡ idex.flip_in (state a).d f j → Decides (is_wrong_decoded note f j) (IsWrongDecoded a k f j)
    unfolding is_wrong_decoded
    wrong-field of_decoded.Pc j v off flip = Decides-not _ (address-decides j (ap (λ (d : DecodedLatch). d.pc) flip) v off)
    wrong-field of_decoded.Count j v off flip = never (λ h. h)
    wrong-field _ j v off flip = ((λ e. tt), (λ h. refl))

    wrong-decides : Decides (note.decoded && (not note.decoded_on_path && is_wrong_decoded note place.0 place.1)) (IsWrongPathBit a IdEx k)
    wrong-decides =
        and-then _ _ _ (true-decides note.decoded (state a).d.valid known.noted.decoded)
        (false-decides note.decoded_on_path (decoded_is_on_path a) known.noted.decoded_on_path)
        (λ v off.
        in-decides (IsWrongDecoded a k) _ (idex.field_of k) place at
        (wrong-field place.0 place.1 v off (flipped-at idex.layout (state a).d k place at)))

    -- ---- an ID/EX on path, and an empty one

    place-decides : Decides (is_place_of_decoded note place.0) (IsOnPathBit a IdEx k)
    unfolding is_place_of_decoded
    place-decides =
        subst (λ (o : Option (IdExField × ℕ)). Decides (is_place_of_decoded note place.0) (IsPlaceAt o)) (sym at) (go place.0 place.1)
      where
        IsPlaceAt : Option (IdExField × ℕ) → Type 0
        IsPlaceAt o =
            ((decoded_is_on_path a ≡ true) × IsIn IsPlaceOfDecoded o)
            ⊎ (((state a).d.valid ≡ false) × ((state a).d.pc ≢ (state a).npc) × IsIn IsIdleDecoded o)

        on : Decides note.decoded_on_path (decoded_is_on_path a ≡ true)
        on = true-decides note.decoded_on_path (decoded_is_on_path a) known.noted.decoded_on_path

        apart : Decides (not note.decoded_next) ((state a).d.pc ≢ (state a).npc)
        apart =
            Decides-not _ (Decides-at note.decoded_next ((state a).d.pc == (state a).npc) known.noted.decoded_next
            (Decides-eqb (state a).d.pc (state a).npc))

        go : (f : IdExField) (j : ℕ) → Decides (is_place_of_decoded note f) (IsPlaceAt (Some (f, j)))
        go of_decoded.Valid j =
            Decides-or _ _ (Decides-like _ (λ h. (h, tt)) (λ h. h.0) on)
            (Decides-like _ (λ h. (h.0, h.1, tt)) (λ h. (h.0, h.1))
            (Decides-and _ _ (false-decides note.decoded (state a).d.valid known.noted.decoded) apart))
        go of_decoded.Pc j = Decides-like _ (λ h. inl (h, tt)) (λ h. elim h [ inl p ↦ p.0 | inr p ↦ absurd p.2 ]) on
        go _ j = never (λ h. elim h [ inl p ↦ p.1 | inr p ↦ p.2 ])

    decoded-are : k < ID_EX_BITS → AreTests a (record { structure = IdEx; bit = k }) (decoded_tests note quiet k place.0 place.1)
    unfolding decoded_tests no_rule
    decoded-are l = record {
      timing = Decides-and quiet _ known.silent (in-decides IsCount _ (idex.field_of k) place at (count-decides place.0 place.1));
      empty_place =
          Decides-and _ _ (false-decides note.decoded (state a).d.valid known.noted.decoded)
          (in-decides IsUnusedDecoded _ (idex.field_of k) place at (unused-decides place.0 place.1));
      wrong_path = Decides-and quiet _ known.silent wrong-decides;
      on_path = Decides-and quiet _ known.silent place-decides;
      masked = Decides-and quiet _ known.silent (decoded-masked k l);
      dead_register = never (λ h. h.1);
      dead_data = never (λ h. h.1);
      store_redirection = never (λ h. h.1);
      clean_data = never (λ h. h);
      clean_line = never (λ h. h.1);
      unaccessed_line = never (λ h. h.1);
      clean_tag = never (λ h. h);
      no_trap_cause = never (λ h. h);
    }

    pub decoded_class : k < ID_EX_BITS → IsClass (class_by (decoded_tests note quiet k place.0 place.1)) a (record { structure = IdEx; bit = k })
    decoded_class l = class-by a _ _ (decoded-are l)
