use Rattle.std.proofs.Common.{ap, subst, sym, ◌∙◌}
use Rattle.bit_field.specs.declared.places.Structure.TheVariants.{CValid}
use Rattle.bit_field.specs.Shapes.{IsShape}
use Rattle.slot_history.specs.declared.changes.Held.{Held}
use Rattle.ace_law.specs.Classes.{IsClass}
use Rattle.ace_rules.specs.Asked as asked
use Rattle.ace_rules.proofs.LineClass.{valid-class-at}
use Rattle.ace_rules.proofs.lines.valid_class.Goals as goal

pub returns : goal.returns
returns c a table known tables =
    subst (λ class. IsClass class a (record { structure = CValid; bit = c.args.slot }))
    (sym (c.valid_class_of.ensures
    ∙ ap (λ (held : Held). asked.valid_class c.args.tags.now c.args.note.now c.args.quiet c.args.shape.now c.args.slot held) c.held.ensures))
    (valid-class-at a table c.args.note.now c.args.quiet known c.args.shape.now c.args.tags.now
    c.args.slots.now c.args.cycle tables c.args.slot c.requires.slot)

pub valid_class_of-requires : goal.valid_class_of-requires
valid_class_of-requires c = subst IsShape (sym c.requires.some.tables.shape) c.requires.some.known.told.recorded.fits
