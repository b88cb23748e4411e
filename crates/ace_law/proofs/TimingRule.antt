-- A bit that only changes what is predicted, or when something is done, is harmless in a quiet cycle.
use Rattle.std.proofs.Common.{◌≡◌, ◌<◌, ℕ, refl, subst, sym, ◌∙◌}
use Rattle.std.specs.Prelude.{None, Option, Some}
use Rattle.bit_field.specs.Layouts.{flip_by}
use Rattle.bit_field.specs.Shapes.{IsPlaceIn, bits_in}
use Rattle.bit_field.specs.declared.places.Structure.{Structure}
use Rattle.bit_field.specs.declared.places.Structure.TheVariants.{Pc, Bht, Btb, IdEx, Port, CLru}
use Rattle.bit_field.specs.declared.shapes.Shape.{Shape}
use Rattle.pipe_latch.specs.DecodedBits as idex
use Rattle.pipe_latch.specs.declared.id_ex.IdExField.{IdExField}
use Rattle.pipe_latch.specs.declared.id_ex.IdExField.TheVariants as decoded_field
use Rattle.need_pass.specs.Tables.{Needs}
use Rattle.cyc_machine.specs.Facts.{IsMachine}
use Rattle.cyc_machine.specs.State.{State}
use Rattle.cyc_machine.specs.Strikes.{flip_in}
use Rattle.cyc_machine.proofs.Sizes.Flipped.{flip-keeps}
use Rattle.cyc_machine.proofs.Sizes.Lasting.{machine-steady}
use Rattle.flush_view.specs.RunFacts.{no_line}
use Rattle.flush_view.specs.Struck.{MeansSame}
use Rattle.flush_view.proofs.Struck.States.{struck-laws}
use Rattle.run_record.specs.Verdict.{HasSame}
use Rattle.ace_law.specs.Moments.{IsQuiet, IsTold, Moment, state}
use Rattle.ace_law.specs.PipelineRules.{IsCount, IsIn, IsTimingBit}
use Rattle.ace_law.proofs.Alike.{IsLeftAlone}
use Rattle.ace_law.proofs.SparedPaths.{means-spared}
use Rattle.ace_law.proofs.SparedSame.{spared-same}
use Rattle.ace_law.proofs.Told.{facts, state-image, state-machine, state-shape}

-- nothing is in no line
pub none-alone : (a : Moment) → IsLeftAlone a no_line
none-alone a line h = absurd cc

-- the count of ID/EX isn't read by the flush
count-flipped : (s : State) (place : Option (IdExField × ℕ)) → IsIn IsCount place
    → MeansSame s (record s { d = flip_by (idex.flip_in s.d) s.d place })
count-flipped s None h = absurd h
count-flipped s (Some (decoded_field.Count, j)) h = struck-laws.unread s s.pc s.tables s.port _ s.cache.nodes
count-flipped s (Some (f, j)) h = absurd h

module _ (a : Moment) (table : Needs) (told : IsTold a.r a.run table) (below : a.t < a.r.cycles) where
  -- a strike in range leaves a machine
  pub flipped-machine : (s : Structure) (k : ℕ) → IsPlaceIn a.r.shape (record { structure = s; bit = k }) → IsMachine (flip_in s (state a) k)
  flipped-machine s k place =
      flip-keeps s (state a) k (state-machine a table told below)
      (subst (λ (shape : Shape). k < bits_in s shape) (sym (state-shape a table told)) place)

  module _ (quiet : IsQuiet a) where
    same-by : (u : State) → u.image ≡ (state a).image → IsMachine u → MeansSame (state a) u → HasSame a.r a.t u
    same-by u image machine means =
        spared-same a table no_line u told below quiet
        (means-spared a table told below no_line quiet (none-alone a) u (image ∙ state-image a table told) (machine-steady u machine)
        (facts a table told below).coherent means)

    means-timed : (s : Structure) (k : ℕ) → IsTimingBit a s k → MeansSame (state a) (flip_in s (state a) k)
    means-timed Pc k bit = struck-laws.unread (state a) _ (state a).tables (state a).port (state a).d.count (state a).cache.nodes
    means-timed Bht k bit = struck-laws.unread (state a) (state a).pc _ (state a).port (state a).d.count (state a).cache.nodes
    means-timed Btb k bit = struck-laws.unread (state a) (state a).pc _ (state a).port (state a).d.count (state a).cache.nodes
    means-timed Port k bit = struck-laws.unread (state a) (state a).pc (state a).tables _ (state a).d.count (state a).cache.nodes
    means-timed CLru k bit = struck-laws.unread (state a) (state a).pc (state a).tables (state a).port (state a).d.count _
    means-timed IdEx k bit = count-flipped (state a) (idex.field_of k) bit
    means-timed s k bit = absurd bit

image-timed : (s : Structure) (k : ℕ) (x : State) → (flip_in s x k).image ≡ x.image
image-timed Pc k x = refl
image-timed _ k x = refl

pub timing-same : (a : Moment) (table : Needs) (s : Structure) (k : ℕ) → IsTold a.r a.run table → a.t < a.r.cycles
    → IsPlaceIn a.r.shape (record { structure = s; bit = k }) → IsQuiet a → IsTimingBit a s k → HasSame a.r a.t (flip_in s (state a) k)
timing-same a table s k told below place quiet bit =
    same-by a table told below quiet (flip_in s (state a) k) (image-timed s k (state a)) (flipped-machine a table told below s k place)
    (means-timed a table told below quiet s k bit)
