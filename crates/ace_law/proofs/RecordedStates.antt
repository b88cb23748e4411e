-- Coherence of a recorded state, and strikes of its bits.
use Rattle.std.proofs.Common.{◌<◌, ℕ, sym, subst}
use Rattle.bit_field.specs.Shapes.{IsPlaceIn}
use Rattle.bit_field.specs.declared.places.Structure.{Structure}
use Rattle.cyc_machine.specs.Facts.{IsMachine}
use Rattle.cyc_machine.specs.Strikes.{flip_in}
use Rattle.cyc_machine.proofs.Sizes.Flipped.{flip-keeps}
use Rattle.need_pass.specs.Tables.{Needs}
use Rattle.flush_view.specs.Coherence.{IsCoherent}
use Rattle.flush_view.specs.RunFacts.{no_line}
use Rattle.ace_law.specs.Moments.{IsTold, Moment, state}
use Rattle.ace_law.proofs.Told.{facts, state-machine, state-shape}

module _ (a : Moment) (table : Needs) (told : IsTold a.r a.run table) where
  pub coherent-is : a.t < a.r.cycles → IsCoherent no_line (state a)
  coherent-is below = (facts a table told below).coherent

  -- a bit of the recorded shape is one of the state's, and its flip leaves a state of a machine
  pub bit-in : (s : Structure) (k : ℕ) → IsPlaceIn a.r.shape (record { structure = s; bit = k })
      → IsPlaceIn (state a).cache.shape (record { structure = s; bit = k })
  bit-in s k place = subst (λ shape. IsPlaceIn shape (record { structure = s; bit = k })) (sym (state-shape a table told)) place

  pub flip-machine : (s : Structure) (k : ℕ) → a.t < a.r.cycles → IsPlaceIn a.r.shape (record { structure = s; bit = k })
      → IsMachine (flip_in s (state a) k)
  flip-machine s k below place = flip-keeps s (state a) k (state-machine a table told below) (bit-in s k place)
