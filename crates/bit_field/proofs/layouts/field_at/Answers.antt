use Rattle.std.proofs.Common.{refl}
use Rattle.bit_field.proofs.Located.{search-ends, search-found, search-on}
use Rattle.bit_field.proofs.layouts.field_at.Goals as goal

pub loop-field-init : goal.loop-field-init
loop-field-init g c = record { same = refl; within = c.requires }

pub returns-then-place-width-clause-field : goal.returns-then-place-width-clause-field
returns-then-place-width-clause-field g c =
    search-found _ _ _ _ _ _ c.loop-field-test.true c.field-item.is c.loop-field.invariant (rw (← c.width-width.ensures.width) c.if-place-width.true)

pub loop-field-preserved : goal.loop-field-preserved
loop-field-preserved g c =
    rw c.width-width.ensures.width
    (search-on _ _ _ _ _ _ c.loop-field-test.true c.field-item.is c.loop-field.invariant (rw (← c.width-width.ensures.width) c.if-place-width.false))

pub unreachable-requires : goal.unreachable-requires
unreachable-requires g c = search-ends _ _ _ _ _ c.loop-field-test.false c.loop-field.invariant
