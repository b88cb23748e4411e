use Rattle.bit_field.proofs.Located.{IsSearched}
use Rattle.bit_field.proofs.layouts.field_at.Given as goal

abbrev pub invariant-loop-field : goal.invariant-loop-field
invariant-loop-field g l = IsSearched g.F.Field.width_of l.fields l.bit l.field-index l.place
