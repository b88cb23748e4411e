use Rattle.std.proofs.Common.{arith, refl, subst, sym, ◌∙◌}
use Rattle.event_log.specs.declared.next.Next.{Next}
use Rattle.ace_rules.specs.LineData.{IsNextBelow}
use Rattle.ace_rules.proofs.ByteStays.{byte-line, byte-low, byte-next, clean-is, dirty-is, vacant-is}
use Rattle.ace_rules.proofs.LineDataClass.{notes-counted}
use Rattle.ace_rules.proofs.line_bytes.byte_stay.Goals as goal

pub clean_stay-requires-clause-instructions : goal.clean_stay-requires-clause-instructions
clean_stay-requires-clause-instructions c =
    notes-counted c.requires.some.story c.args.needs.now c.args.notes.now c.args.quiet c.args.shape.now c.args.life.now c.args.slots.now
    c.requires.some.tables

pub clean_stay-requires-clause-lines : goal.clean_stay-requires-clause-lines
clean_stay-requires-clause-lines c =
    byte-line c.requires.some.story c.args.needs.now c.args.notes.now c.args.quiet c.args.shape.now c.args.life.now c.args.slots.now
    c.requires.some.tables c.args.byte c.requires.byte

pub clean_stay-requires-clause-next : goal.clean_stay-requires-clause-next
clean_stay-requires-clause-next c =
    subst (λ (next : Next). IsNextBelow 4294967295 next) (sym c.next_at-next.ensures)
    (byte-next c.requires.some.story c.args.needs.now c.args.notes.now c.args.quiet c.args.shape.now c.args.life.now c.args.slots.now
    c.requires.some.tables c.args.byte c.requires.byte c.args.cycle)

pub overflow_mul-address : goal.overflow_mul-address
overflow_mul-address c =
    let low =
    byte-low c.requires.some.story c.args.needs.now c.args.notes.now c.args.quiet c.args.shape.now c.args.life.now c.args.slots.now
    c.requires.some.tables c.args.byte c.requires.byte c.args.cycle c.in-Dirty.line c.requires.cycle (sym c.held.ensures ∙ c.in-Dirty.is) in
    omega (arith, low)

pub overflow_add-address : goal.overflow_add-address
overflow_add-address c =
    let low =
    byte-low c.requires.some.story c.args.needs.now c.args.notes.now c.args.quiet c.args.shape.now c.args.life.now c.args.slots.now
    c.requires.some.tables c.args.byte c.requires.byte c.args.cycle c.in-Dirty.line c.requires.cycle (sym c.held.ensures ∙ c.in-Dirty.is) in
    omega (arith, low)

pub dirty_stay-requires-clause-instruction : goal.dirty_stay-requires-clause-instruction
dirty_stay-requires-clause-instruction c =
    notes-counted c.requires.some.story c.args.needs.now c.args.notes.now c.args.quiet c.args.shape.now c.args.life.now c.args.slots.now
    c.requires.some.tables c.args.cycle c.args.note.now c.requires.note

pub returns-in-Vacant : goal.returns-in-Vacant
returns-in-Vacant c =
    vacant-is c.args.needs.now c.args.notes.now c.args.note.now c.args.quiet c.args.life.now c.args.slots.now _ _ c.args.cycle _ c.vacant_stay.result _
    (sym c.held.ensures ∙ c.in-Vacant.is) c.vacant_stay.ensures.classes
    (let l = c.vacant_stay.ensures.stays in let e = c.next_change-change.ensures.value in omega (arith, l, e))

pub returns-in-Clean : goal.returns-in-Clean
returns-in-Clean c =
    clean-is c.args.needs.now c.args.notes.now c.args.note.now c.args.quiet c.args.life.now c.args.slots.now _ _ c.args.cycle _ c.clean_stay.result _
    c.in-Clean.field-0 (sym c.held.ensures ∙ c.in-Clean.is) c.next_at-next.result c.next_at-next.ensures c.clean_stay.ensures.classes
    (let (l, after) = c.clean_stay.ensures.stays in let e = c.next_change-change.ensures.value in (omega (arith, l, e), after))

pub returns-in-Dirty : goal.returns-in-Dirty
returns-in-Dirty c =
    dirty-is c.args.needs.now c.args.notes.now c.args.note.now c.args.quiet c.args.life.now c.args.slots.now _ _ c.args.cycle _ c.dirty_stay.result _
    c.in-Dirty.line (sym c.held.ensures ∙ c.in-Dirty.is) c.requires.note refl c.dirty_stay.ensures.classes
    (let l = c.dirty_stay.ensures.change in let e = c.next_change-change.ensures.value in omega (arith, l, e)) c.dirty_stay.ensures.stays
