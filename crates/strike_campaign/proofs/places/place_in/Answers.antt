use Rattle.std.proofs.Common.{◌≡◌, get_or, subst}
use Rattle.std.specs.Prelude.{Some}
use Rattle.std.proofs.lemmas.List.{get_or_default}
use Rattle.bit_field.specs.Layouts.{located}
use Rattle.bit_field.specs.declared.places.Structure.TheVariants.{Pc}
use Rattle.bit_field.proofs.Located.{search-found, search-on}
use Rattle.strike_campaign.specs.Places.{width_in}
use Rattle.strike_campaign.proofs.places.place_in.Goals as goal

pub returns-then-bit-bits : goal.returns-then-bit-bits
returns-then-bit-bits c =
    let xs = c.args.structures.now in
    let s = get_or xs c.loop-s.s-index Pc in
    let is : s ≡ get_or xs c.loop-s.s-index s = get_or_default xs c.loop-s.s-index Pc s c.loop-s-test.true in
    subst (λ fields. located (width_in c.args.shape.now) fields c.args.index ≡ Some (s, c.loop-s.bit)) c.requires.order
    (search-found (width_in c.args.shape.now) xs c.args.index c.loop-s.s-index c.loop-s.bit s c.loop-s-test.true is c.loop-s.invariant
    (rw (← c.bits_in-bits.ensures) c.if-bit-bits.true))

pub loop-s-preserved : goal.loop-s-preserved
loop-s-preserved c =
    let xs = c.args.structures.now in
    let s = get_or xs c.loop-s.s-index Pc in
    let is : s ≡ get_or xs c.loop-s.s-index s = get_or_default xs c.loop-s.s-index Pc s c.loop-s-test.true in
    rw c.bits_in-bits.ensures
    (search-on (width_in c.args.shape.now) xs c.args.index c.loop-s.s-index c.loop-s.bit s c.loop-s-test.true is c.loop-s.invariant
    (rw (← c.bits_in-bits.ensures) c.if-bit-bits.false))
