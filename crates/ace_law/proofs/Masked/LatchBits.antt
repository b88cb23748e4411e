-- Masked bits of ID/EX, EX/MEM and MEM/WB are spared.
use Rattle.std.proofs.Common.{◌≡◌, ℕ, ◌<◌, Bool, true, false, map, refl, ap, sym, subst, ◌∙◌}
use Rattle.std.specs.Prelude.{Option, Some, None, if◌then◌else◌}
use Rattle.bit_field.specs.Shapes.{IsPlaceIn}
use Rattle.bit_field.specs.declared.places.Structure.TheVariants.{ExMem, IdEx, MemWb}
use Rattle.bit_field.proofs.LayoutLaws.{flipped-at}
use Rattle.elf_load.specs.Image.{LoadedImage}
use Rattle.rv_isa.specs.Instruction.{State as Arch, Log}
use Rattle.inst_buf.specs.Buffer.{entries}
use Rattle.pipe_latch.specs.DecodedBits as idex
use Rattle.pipe_latch.specs.Latches.{DecodedLatch}
use Rattle.pipe_latch.specs.declared.id_ex.IdExField.{IdExField}
use Rattle.pipe_latch.specs.declared.id_ex.IdExField.TheVariants as decoded_field
use Rattle.cyc_machine.specs.Facts.{IsMachine}
use Rattle.cyc_machine.specs.Strikes.{flip_in}
use Rattle.cyc_machine.proofs.Sizes.Flipped.{flip-keeps}
use Rattle.cyc_machine.proofs.Sizes.Lasting.{machine-steady}
use Rattle.eval_mask.specs.LatchMasks.{Latches}
use Rattle.need_pass.specs.Tables.{Needs}
use Rattle.flush_view.specs.Flush.{completed_path, flush, item_of_entry}
use Rattle.flush_view.specs.FlushInputs.{is_latch_missed, outcome_of}
use Rattle.flush_view.specs.RunFacts.{no_line}
use Rattle.flush_view.specs.Views.{view}
use Rattle.flush_view.proofs.Flush.Outcome.{flush-outcome}
use Rattle.ace_law.specs.Agreements.{OutcomeAgrees}
use Rattle.ace_law.specs.Moments.{IsQuiet, IsTold, Moment, decoded, state}
use Rattle.ace_law.specs.PipelineRules.{IsDecodedPart, IsIn}
use Rattle.ace_law.proofs.Alike.{Alike, IsLeftAlone, spare}
use Rattle.ace_law.proofs.Spared.{IsSpared}
use Rattle.ace_law.proofs.AlikeNext.{fetched-alike}
use Rattle.ace_law.proofs.Told.{facts, state-image, state-machine}
use Rattle.ace_law.proofs.Masked.Does.{does-alike}
use Rattle.ace_law.proofs.Masked.Known.{waiting-fetched}
use Rattle.ace_law.proofs.Masked.Latches.{decoded-from, latches_of}
use Rattle.ace_law.proofs.Masked.Outcomes.{outcome-does, with_latches}

-- no instruction accesses a line of the empty set
pub none-accessed : (a : Moment) → IsLeftAlone a no_line
none-accessed a line h = absurd cc

module _ (a : Moment) (table : Needs) (told : IsTold a.r a.run table) (below : a.t < a.r.cycles) (quiet : IsQuiet a) where
  -- what the entries of the buffer leave behind a state that is alike
  behind : (l : Latches) (log : Log) (budget : ℕ) (image : LoadedImage) → image ≡ a.r.image
      → Alike a no_line (outcome_of (with_latches (state a) l) spare log) budget
      → Alike a no_line (completed_path image (map item_of_entry (entries (state a).buffer)) (outcome_of (with_latches (state a) l) spare log)) budget
  behind l log budget image e alike =
      subst (λ (im : LoadedImage). Alike a no_line (completed_path im (map item_of_entry (entries (state a).buffer))
      (outcome_of (with_latches (state a) l) spare log)) budget) (sym e)
      (fetched-alike a table no_line (entries (state a).buffer) (outcome_of (with_latches (state a) l) spare log) budget told quiet (none-accessed a)
      (waiting-fetched a table told below) alike)

  flush-alike : (l : Latches) (log : Log) (budget : ℕ) → Alike a no_line (outcome_of (with_latches (state a) l) spare log) budget
      → Alike a no_line (flush (with_latches (state a) l) spare log) budget
  flush-alike l log budget alike =
      subst (λ (z : Arch). Alike a no_line z budget) (sym (flush-outcome (with_latches (state a) l) spare log))
      (go (is_latch_missed (with_latches (state a) l) spare log) (behind l log budget (state a).image (state-image a table told) alike))
    where
      go : (b : Bool)
          → Alike a no_line (completed_path (state a).image (map item_of_entry (entries (state a).buffer))
          (outcome_of (with_latches (state a) l) spare log)) budget
          → Alike a no_line (if b then outcome_of (with_latches (state a) l) spare log
          else completed_path (state a).image (map item_of_entry (entries (state a).buffer)) (outcome_of (with_latches (state a) l) spare log)) budget
      go true rest = alike
      go false rest = rest

  -- struck latches, ID/EX being occupied as it was, at the address where it was
  pub latches-spared : (l : Latches) → l.d.valid ≡ (state a).d.valid → l.d.pc ≡ (state a).d.pc → IsMachine (with_latches (state a) l)
      → OutcomeAgrees a (with_latches (state a) l) → IsSpared a no_line (with_latches (state a) l)
  unfolding view
  latches-spared l valid pc machine agrees = record {
    alone = none-accessed a;
    image = state-image a table told;
    steady = machine-steady (with_latches (state a) l) machine;
    coherent = let follows = facts a table told below in follows.coherent;
    alike = λ log budget output avoids within.
        flush-alike l log budget
        (does-alike a table told (decoded a) (outcome_of (with_latches (state a) l) spare log) budget (decoded-from a table told below)
        (outcome-does a table told below quiet l valid pc machine agrees log budget output within));
  }

  -- a flip of a field of ID/EX that doesn't say where or when
  decoded-part : (d : DecodedLatch) (k : ℕ) → IsIn IsDecodedPart (idex.field_of k)
      → ((idex.flipped d k).valid ≡ d.valid) × ((idex.flipped d k).pc ≡ d.pc)
  decoded-part d k is = go (idex.field_of k) refl is
    where
      same : (f : IdExField) (i : ℕ) → IsDecodedPart f i → ((idex.flip_in d f i).valid ≡ d.valid) × ((idex.flip_in d f i).pc ≡ d.pc)
      same decoded_field.Valid i is = absurd is
      same decoded_field.Pc i is = absurd is
      same _ i is = (refl, refl)

      go : (o : Option (IdExField × ℕ)) → idex.field_of k ≡ o → IsIn IsDecodedPart o
          → ((idex.flipped d k).valid ≡ d.valid) × ((idex.flipped d k).pc ≡ d.pc)
      go None e is = absurd is
      go (Some place) e is =
          let flip : idex.flipped d k ≡ idex.flip_in d place.0 place.1 = flipped-at idex.layout d k place e in
          let fields = same place.0 place.1 is in
          (ap (λ (z : DecodedLatch). z.valid) flip ∙ fields.0, ap (λ (z : DecodedLatch). z.pc) flip ∙ fields.1)

  pub decoded-spared : (k : ℕ) → IsPlaceIn (state a).cache.shape (record { structure = IdEx; bit = k }) → IsIn IsDecodedPart (idex.field_of k)
      → OutcomeAgrees a (flip_in IdEx (state a) k) → IsSpared a no_line (flip_in IdEx (state a) k)
  decoded-spared k place is agrees =
      let same = decoded-part (state a).d k is in
      latches-spared (latches_of (flip_in IdEx (state a) k)) same.0 same.1
      (flip-keeps IdEx (state a) k (state-machine a table told below) place) agrees

  pub executed-spared : (k : ℕ) → IsPlaceIn (state a).cache.shape (record { structure = ExMem; bit = k })
      → OutcomeAgrees a (flip_in ExMem (state a) k)
      → IsSpared a no_line (flip_in ExMem (state a) k)
  executed-spared k place agrees =
      latches-spared (latches_of (flip_in ExMem (state a) k)) refl refl (flip-keeps ExMem (state a) k (state-machine a table told below) place) agrees

  pub result-spared : (k : ℕ) → IsPlaceIn (state a).cache.shape (record { structure = MemWb; bit = k }) → OutcomeAgrees a (flip_in MemWb (state a) k)
      → IsSpared a no_line (flip_in MemWb (state a) k)
  result-spared k place agrees =
      latches-spared (latches_of (flip_in MemWb (state a) k)) refl refl (flip-keeps MemWb (state a) k (state-machine a table told below) place) agrees
