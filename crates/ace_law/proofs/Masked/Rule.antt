-- The rule of masked bits: they are spared, and so harmless in a quiet cycle.
use Rattle.std.proofs.Common.{ℕ, ◌<◌, length, arith, sym, subst, ◌∙◌}
use Rattle.std.specs.Prelude.{◌/◌, ◌%◌}
use Rattle.std.proofs.lemmas.List.Elements.{All-get_or}
use Rattle.bit_field.specs.Shapes.{IsPlaceIn}
use Rattle.bit_field.specs.declared.places.Structure.{Structure}
use Rattle.bit_field.specs.declared.places.Structure.TheVariants.{ExMem, Ib, IdEx, MemWb}
use Rattle.bit_field.specs.declared.shapes.Shape.{Shape}
use Rattle.inst_buf.specs.Buffer.{slot_of as fetched_slot}
use Rattle.inst_buf.specs.Entry.{no_entry}
use Rattle.inst_buf.specs.EntryBits as ib
use Rattle.inst_buf.specs.declared.slots.TheConstants.{SLOT_BITS}
use Rattle.inst_buf.proofs.SlotLaws.{laws as slot-laws}
use Rattle.cyc_machine.specs.Facts.{IsMachine}
use Rattle.cyc_machine.specs.Strikes.{flip_in}
use Rattle.cyc_machine.proofs.Sizes.Flipped.{flip-keeps}
use Rattle.cyc_machine.proofs.Sizes.Lasting.{machine-steady}
use Rattle.need_pass.specs.Tables.{Needs}
use Rattle.flush_view.specs.RunFacts.{no_line}
use Rattle.run_record.specs.Verdict.{HasSame}
use Rattle.ace_law.specs.Moments.{IsQuiet, IsTold, Moment, state}
use Rattle.ace_law.specs.PipelineRules.{IsMaskedBit, slot_flipped}
use Rattle.ace_law.proofs.Spared.{IsSpared}
use Rattle.ace_law.proofs.SparedSame.{spared-same}
use Rattle.ace_law.proofs.Told.{facts, state-image, state-machine, state-shape}
use Rattle.ace_law.proofs.Masked.EntryBits.{fetched-part, replaced-alike}
use Rattle.ace_law.proofs.Masked.LatchBits.{decoded-spared, executed-spared, none-accessed, result-spared}

module _ (a : Moment) (table : Needs) (told : IsTold a.r a.run table) (below : a.t < a.r.cycles) (quiet : IsQuiet a) where
  entry-spared : (k : ℕ) → IsPlaceIn (state a).cache.shape (record { structure = Ib; bit = k }) → IsMaskedBit a Ib k
      → IsSpared a no_line (flip_in Ib (state a) k)
  entry-spared k place masked =
      let machine : IsMachine (state a) = state-machine a table told below in
      let slots = machine.buffer.0 in
      let inside : k / SLOT_BITS < length (state a).buffer = omega arith in
      let bit : k % SLOT_BITS < 64 = omega arith in
      let fits : ib.IsFit (fetched_slot (state a).buffer (k / SLOT_BITS)) =
      All-get_or ib.IsFit (state a).buffer (k / SLOT_BITS) no_entry inside machine.buffer.1 in
      let still : ib.IsFit (slot_flipped a (k / SLOT_BITS) (k % SLOT_BITS)) =
      slot-laws.fit_stays (fetched_slot (state a).buffer (k / SLOT_BITS)) (k % SLOT_BITS) fits bit in
      let part = fetched-part (fetched_slot (state a).buffer (k / SLOT_BITS)) (k % SLOT_BITS) masked.1 in
      record {
        alone = none-accessed a;
        image = state-image a table told;
        steady = machine-steady (flip_in Ib (state a) k) (flip-keeps Ib (state a) k machine place);
        coherent = let follows = facts a table told below in follows.coherent;
        alike = λ log budget output avoids within.
            replaced-alike a table told below quiet (k / SLOT_BITS) (slot_flipped a (k / SLOT_BITS) (k % SLOT_BITS)) inside masked.0
            (part.0 ∙ masked.0.0) part.1 still.1.1.1.0 masked.2 log budget output within;
      }

  masked-spared : (s : Structure) (k : ℕ) → IsPlaceIn (state a).cache.shape (record { structure = s; bit = k }) → IsMaskedBit a s k
      → IsSpared a no_line (flip_in s (state a) k)
  masked-spared Ib k place masked = entry-spared k place masked
  masked-spared IdEx k place masked = decoded-spared a table told below quiet k place masked.1 masked.2
  masked-spared ExMem k place masked = executed-spared a table told below quiet k place masked.1
  masked-spared MemWb k place masked = result-spared a table told below quiet k place masked
  masked-spared _ k place masked = absurd masked

pub masked-same : (a : Moment) (table : Needs) (s : Structure) (k : ℕ) → IsTold a.r a.run table → a.t < a.r.cycles
    → IsPlaceIn a.r.shape (record { structure = s; bit = k }) → IsQuiet a → IsMaskedBit a s k → HasSame a.r a.t (flip_in s (state a) k)
masked-same a table s k told below place quiet masked =
    let inside : IsPlaceIn (state a).cache.shape (record { structure = s; bit = k }) =
    subst (λ (shape : Shape). IsPlaceIn shape (record { structure = s; bit = k })) (sym (state-shape a table told)) place in
    spared-same a table no_line (flip_in s (state a) k) told below quiet (masked-spared a table told below quiet s k inside masked)
