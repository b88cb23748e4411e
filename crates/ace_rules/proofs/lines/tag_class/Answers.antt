use Rattle.std.proofs.Common.{◌/◌, ◌%◌, ℕ, ap, subst, sym, ◌∙◌}
use Rattle.bit_field.specs.declared.places.Structure.TheVariants.{CTag}
use Rattle.bit_field.specs.Shapes.{IsShape}
use Rattle.slot_history.specs.Histories.{held_in}
use Rattle.slot_history.specs.declared.changes.Held.{Held}
use Rattle.ace_law.specs.Classes.{IsClass}
use Rattle.ace_rules.specs.Asked as asked
use Rattle.ace_rules.specs.Asked.{IsLineHeld}
use Rattle.ace_rules.proofs.HeldLines.{some-line}
use Rattle.ace_rules.proofs.TagClass.{tag-class-at}
use Rattle.ace_rules.proofs.lines.tag_class.Goals as goal

pub tag_class_of-requires-clause-line : goal.tag_class_of-requires-clause-line
tag_class_of-requires-clause-line c =
    subst IsLineHeld (sym (c.held.ensures ∙ ap (λ (w : ℕ). held_in c.args.slots.now (c.args.bit / w) c.args.cycle) c.tag_bits-width.ensures))
    (some-line c.args.note.now c.args.quiet c.args.shape.now c.args.tags.now c.args.slots.now c.args.cycle c.requires.some c.args.bit c.requires.bit)

pub returns : goal.returns
returns c a table known tables =
    subst (λ class. IsClass class a (record { structure = CTag; bit = c.args.bit }))
    (sym (c.tag_class_of.ensures
    ∙ ap (λ (held : Held). asked.tag_class c.args.tags.now c.args.note.now c.args.quiet c.args.shape.now c.args.cycle
    (c.args.bit / c.tag_bits-width.result)
    (c.args.bit % c.tag_bits-width.result) held) c.held.ensures
    ∙ ap (λ (w : ℕ). asked.tag_class c.args.tags.now c.args.note.now c.args.quiet c.args.shape.now c.args.cycle (c.args.bit / w) (c.args.bit % w)
    (held_in c.args.slots.now (c.args.bit / w) c.args.cycle)) c.tag_bits-width.ensures))
    (tag-class-at a table c.args.note.now c.args.quiet known c.args.shape.now c.args.tags.now
    c.args.slots.now c.args.cycle tables c.args.bit c.requires.bit)

pub tag_bits-width-requires : goal.tag_bits-width-requires
tag_bits-width-requires c = subst IsShape (sym c.requires.some.tables.shape) c.requires.some.known.told.recorded.fits

pub tag_class_of-requires-clause-shape : goal.tag_class_of-requires-clause-shape
tag_class_of-requires-clause-shape c = subst IsShape (sym c.requires.some.tables.shape) c.requires.some.known.told.recorded.fits
