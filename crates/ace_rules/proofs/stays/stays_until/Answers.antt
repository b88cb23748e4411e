use Rattle.std.proofs.Common.{◌≡◌, ◌/◌, ◌<◌, ℕ, ap, arith, subst, sym, ◌∙◌}
use Rattle.bit_field.specs.Shapes.{IsPlaceIn, bits_in, tag_bits}
use Rattle.bit_field.specs.declared.places.Place.{Place}
use Rattle.bit_field.specs.declared.places.Structure.{Structure}
use Rattle.bit_field.specs.declared.places.Structure.TheVariants.{Pc, Bht, Btb, Port, CData, CLru, CTag}
use Rattle.bit_field.specs.declared.shapes.Shape.{Shape}
use Rattle.run_record.specs.Run.{RecordedRun}
use Rattle.slot_history.specs.Histories.{held_in}
use Rattle.wb_cache.proofs.Sizes.{tag_slot}
use Rattle.ace_rules.specs.Asked.{IsLineHeld}
use Rattle.ace_rules.specs.Notes.{Story}
use Rattle.ace_rules.proofs.KeptFacts.{kept-counted, kept-line, kept-order, kept-shape}
use Rattle.ace_rules.proofs.Staying.{data-at, dirty-at, tag-at, timing-at, valid-at}
use Rattle.ace_rules.proofs.stays.stays_until.Goals as goal

running : (r : RecordedRun) (story : Story) (cycle : ℕ) → story.r ≡ r → cycle < r.cycles → cycle < story.r.cycles
running r story cycle is below = subst (λ (r : RecordedRun). cycle < r.cycles) (sym is) below

in-shape : (r : RecordedRun) (story : Story) (place : Place) → story.r ≡ r → IsPlaceIn r.shape place → IsPlaceIn story.r.shape place
in-shape r story place is h = subst (λ (r : RecordedRun). IsPlaceIn r.shape place) (sym is) h

bit-in : (shape : Shape) (p : Place) (s : Structure) → p.structure ≡ s → IsPlaceIn shape p → p.bit < bits_in s shape
bit-in shape p s e h = subst (λ (s : Structure). p.bit < bits_in s shape) e h

pub data_stays-requires-clause-order : goal.data_stays-requires-clause-order
data_stays-requires-clause-order c =
    kept-order c.args.recorded.now c.args.needs.now c.args.notes.now c.args.first_quiet c.args.life.now c.args.tags.now c.args.slots.now
    c.requires.kept

pub tag_stays-requires-clause-order : goal.tag_stays-requires-clause-order
tag_stays-requires-clause-order c =
    kept-order c.args.recorded.now c.args.needs.now c.args.notes.now c.args.first_quiet c.args.life.now c.args.tags.now c.args.slots.now
    c.requires.kept

pub valid_stays-requires-clause-order : goal.valid_stays-requires-clause-order
valid_stays-requires-clause-order c =
    kept-order c.args.recorded.now c.args.needs.now c.args.notes.now c.args.first_quiet c.args.life.now c.args.tags.now c.args.slots.now
    c.requires.kept

pub dirty_stays-requires-clause-order : goal.dirty_stays-requires-clause-order
dirty_stays-requires-clause-order c =
    kept-order c.args.recorded.now c.args.needs.now c.args.notes.now c.args.first_quiet c.args.life.now c.args.tags.now c.args.slots.now
    c.requires.kept

pub data_stays-requires-clause-instruction : goal.data_stays-requires-clause-instruction
data_stays-requires-clause-instruction c =
    kept-counted c.args.recorded.now c.args.needs.now c.args.notes.now c.args.first_quiet c.args.life.now c.args.tags.now c.args.slots.now
    c.requires.kept c.args.cycle c.note_at-note.result.now c.requires.cycle c.note_at-note.ensures

pub data_stays-requires-clause-line : goal.data_stays-requires-clause-line
data_stays-requires-clause-line c =
    let bit = bit-in c.args.recorded.now.shape c.args.place.now CData c.in-CData.is c.requires.place in
    kept-line c.args.recorded.now c.args.needs.now c.args.notes.now c.args.first_quiet c.args.life.now c.args.tags.now c.args.slots.now
    c.requires.kept (c.args.place.now.bit / 128) c.args.cycle (omega (arith, bit)) c.requires.cycle

pub tag_stays-requires-clause-line : goal.tag_stays-requires-clause-line
tag_stays-requires-clause-line c =
    let bit = bit-in c.args.recorded.now.shape c.args.place.now CTag c.in-CTag.is c.requires.place in
    let fits = kept-shape c.args.recorded.now c.args.needs.now c.args.notes.now c.args.first_quiet c.args.life.now c.args.tags.now c.args.slots.now
    c.requires.kept in
    subst (λ (shape : Shape). IsLineHeld (held_in c.args.slots.now (c.args.place.now.bit / tag_bits shape) c.args.cycle)) (sym c.shape-shape.ensures)
    (kept-line c.args.recorded.now c.args.needs.now c.args.notes.now c.args.first_quiet c.args.life.now c.args.tags.now c.args.slots.now
    c.requires.kept (c.args.place.now.bit / tag_bits c.args.recorded.now.shape) c.args.cycle
    (tag_slot c.args.recorded.now.shape c.args.place.now.bit fits bit) c.requires.cycle)

pub returns-in-Pc : goal.returns-in-Pc
returns-in-Pc c story words is kept =
    timing-at story c.args.needs.now c.args.notes.now words c.args.first_quiet c.args.life.now c.args.tags.now c.args.slots.now kept c.args.cycle (running
    c.args.recorded.now story c.args.cycle is c.requires.cycle)
    c.args.place.now Pc c.quiet_until.result c.in-Pc.is tt c.quiet_until.ensures

pub returns-in-Bht : goal.returns-in-Bht
returns-in-Bht c story words is kept =
    timing-at story c.args.needs.now c.args.notes.now words c.args.first_quiet c.args.life.now c.args.tags.now c.args.slots.now kept c.args.cycle (running
    c.args.recorded.now story c.args.cycle is c.requires.cycle)
    c.args.place.now Bht c.quiet_until-in-Bht.result c.in-Bht.is tt c.quiet_until-in-Bht.ensures

pub returns-in-Btb : goal.returns-in-Btb
returns-in-Btb c story words is kept =
    timing-at story c.args.needs.now c.args.notes.now words c.args.first_quiet c.args.life.now c.args.tags.now c.args.slots.now kept c.args.cycle (running
    c.args.recorded.now story c.args.cycle is c.requires.cycle)
    c.args.place.now Btb c.quiet_until-in-Btb.result c.in-Btb.is tt c.quiet_until-in-Btb.ensures

pub returns-in-Port : goal.returns-in-Port
returns-in-Port c story words is kept =
    timing-at story c.args.needs.now c.args.notes.now words c.args.first_quiet c.args.life.now c.args.tags.now c.args.slots.now kept c.args.cycle (running
    c.args.recorded.now story c.args.cycle is c.requires.cycle)
    c.args.place.now Port c.quiet_until-in-Port.result c.in-Port.is tt c.quiet_until-in-Port.ensures

pub returns-in-CLru : goal.returns-in-CLru
returns-in-CLru c story words is kept =
    timing-at story c.args.needs.now c.args.notes.now words c.args.first_quiet c.args.life.now c.args.tags.now c.args.slots.now kept c.args.cycle (running
    c.args.recorded.now story c.args.cycle is c.requires.cycle)
    c.args.place.now CLru c.quiet_until-in-CLru.result c.in-CLru.is tt c.quiet_until-in-CLru.ensures

pub returns-in-CData : goal.returns-in-CData
returns-in-CData c story words is kept =
    data-at story c.args.needs.now c.args.notes.now words c.args.first_quiet c.args.life.now c.args.tags.now c.args.slots.now kept c.args.cycle
    (running c.args.recorded.now story c.args.cycle is c.requires.cycle)
    c.args.place.now c.data_stays.result c.note_at-note.result.now c.note_at-note.ensures c.in-CData.is
    (in-shape c.args.recorded.now story c.args.place.now is c.requires.place) c.data_stays.ensures

pub returns-in-CTag : goal.returns-in-CTag
returns-in-CTag c story words is kept =
    tag-at story c.args.needs.now c.args.notes.now words c.args.first_quiet c.args.life.now c.args.tags.now c.args.slots.now kept c.args.cycle
    (running c.args.recorded.now story c.args.cycle is c.requires.cycle)
    c.args.place.now c.tag_stays.result c.note_at-note.result.now c.note_at-note.ensures c.shape-shape.result
    (c.shape-shape.ensures ∙ ap (λ (r : RecordedRun). r.shape) (sym is)) c.in-CTag.is
    (in-shape c.args.recorded.now story c.args.place.now is c.requires.place) c.tag_stays.ensures

pub returns-in-CValid : goal.returns-in-CValid
returns-in-CValid c story words is kept =
    valid-at story c.args.needs.now c.args.notes.now words c.args.first_quiet c.args.life.now c.args.tags.now c.args.slots.now kept c.args.cycle
    (running c.args.recorded.now story c.args.cycle is c.requires.cycle)
    c.args.place.now c.valid_stays.result c.note_at-note.result.now c.note_at-note.ensures c.shape-shape.result
    (c.shape-shape.ensures ∙ ap (λ (r : RecordedRun). r.shape) (sym is)) c.in-CValid.is
    (in-shape c.args.recorded.now story c.args.place.now is c.requires.place) c.valid_stays.ensures

pub returns-in-CDirty : goal.returns-in-CDirty
returns-in-CDirty c story words is kept =
    dirty-at story c.args.needs.now c.args.notes.now words c.args.first_quiet c.args.life.now c.args.tags.now c.args.slots.now kept c.args.cycle
    (running c.args.recorded.now story c.args.cycle is c.requires.cycle)
    c.args.place.now c.dirty_stays.result c.note_at-note.result.now c.note_at-note.ensures c.in-CDirty.is
    (in-shape c.args.recorded.now story c.args.place.now is c.requires.place) c.dirty_stays.ensures
