use Rattle.std.proofs.Common.{ap, subst, sym, ◌∙◌}
use Rattle.bit_field.specs.declared.places.Structure.TheVariants.{CDirty}
use Rattle.slot_history.specs.declared.changes.Held.{Held}
use Rattle.ace_law.specs.Classes.{IsClass}
use Rattle.ace_rules.specs.Asked as asked
use Rattle.ace_rules.proofs.LineClass.{dirty-class-at}
use Rattle.ace_rules.proofs.lines.dirty_class.Goals as goal

pub returns : goal.returns
returns c a table known tables =
    subst (λ class. IsClass class a (record { structure = CDirty; bit = c.args.slot }))
    (sym (c.dirty_class_of.ensures ∙ ap (λ (held : Held). asked.dirty_class c.args.tags.now c.args.note.now c.args.quiet held) c.held.ensures))
    (dirty-class-at a table c.args.note.now c.args.quiet known c.args.shape.now c.args.tags.now
    c.args.slots.now c.args.cycle tables c.args.slot c.requires.slot)
