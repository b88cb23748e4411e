use Rattle.std.proofs.Common.{◌/◌, ◌%◌, arith, refl, subst, sym}
use Rattle.bit_field.specs.declared.places.Structure.TheVariants.{Sb}
use Rattle.ace_law.specs.Classes.{IsClass}
use Rattle.ace_rules.proofs.PendingClass.{pending-class}
use Rattle.ace_rules.proofs.Unneeded.{retired_counted}
use Rattle.ace_rules.proofs.pending.pending_class.Goals as goal

pub class_in-requires-clause-instruction : goal.class_in-requires-clause-instruction
class_in-requires-clause-instruction c = retired_counted c.args.needs.now c.args.note.now c.args.quiet c.requires.some

pub returns : goal.returns
returns c a known same =
    let bit = c.requires.bit in
    let within = c.field_at-field.ensures.within in
    let most = c.field_at-field.ensures.most in
    subst (λ class. IsClass class a (record { structure = Sb; bit = c.args.bit })) (sym c.class_in.ensures)
    (pending-class c.args.image.now a c.args.needs.now c.args.note.now c.args.quiet known same (c.args.bit / 66) (omega (arith, bit))
    c.args.bit (c.args.bit % 66) refl refl c.field_at-field.result.0 c.field_at-field.result.1 c.field_at-field.ensures.field
    (omega arith) (omega (arith, within, most)))
