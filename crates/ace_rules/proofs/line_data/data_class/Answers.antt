use Rattle.std.proofs.Common.{arith, refl, subst, sym}
use Rattle.bit_field.specs.declared.places.Structure.TheVariants.{CData}
use Rattle.ace_law.specs.Classes.{IsClass}
use Rattle.ace_rules.specs.Notes.{moment}
use Rattle.ace_rules.proofs.LineDataClass.{data-class, lines-below, next-fits, notes-counted}
use Rattle.ace_rules.proofs.line_data.data_class.Goals as goal

pub class_of-requires-clause-instructions : goal.class_of-requires-clause-instructions
class_of-requires-clause-instructions c =
    notes-counted c.requires.some.story c.args.needs.now c.args.notes.now c.args.quiet c.args.shape.now c.args.life.now c.args.slots.now
    c.requires.some.tables

pub class_of-requires-clause-lines : goal.class_of-requires-clause-lines
class_of-requires-clause-lines c t below =
    let bit = c.requires.bit in
    let count = c.requires.some.tables.cycles in
    lines-below c.requires.some.story c.args.needs.now c.args.notes.now c.args.quiet c.args.shape.now c.args.life.now c.args.slots.now
    c.requires.some.tables c.args.bit (omega (arith, bit)) t (omega (arith, count, below))

pub class_of-requires-clause-next : goal.class_of-requires-clause-next
class_of-requires-clause-next c =
    let bit = c.requires.bit in
    next-fits c.requires.some.story c.args.needs.now c.args.notes.now c.args.quiet c.args.shape.now c.args.life.now c.args.slots.now
    c.requires.some.tables c.args.bit (omega (arith, bit)) c.args.cycle

pub returns : goal.returns
returns c story tables =
    let bit = c.requires.bit in
    let cycle = c.requires.cycle in
    let count = tables.cycles in
    subst (λ class. IsClass class (moment story c.args.cycle) (record { structure = CData; bit = c.args.bit })) (sym c.class_of.ensures)
    (data-class story c.args.needs.now c.args.notes.now c.args.quiet c.args.shape.now c.args.life.now c.args.slots.now tables c.args.bit
    (omega (arith, bit)) c.args.cycle (omega
    (arith, cycle, count)) c.held-held.result c.held-held.ensures _ refl)
