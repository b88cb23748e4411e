use Rattle.bit_field.proofs.Located.{IsSearched}
use Rattle.strike_campaign.specs.Places.{width_in}
use Rattle.strike_campaign.proofs.places.place_in.Given as goal

abbrev pub invariant-loop-s : goal.invariant-loop-s
invariant-loop-s l = IsSearched (width_in l.shape) l.structures l.index l.s-index l.bit
