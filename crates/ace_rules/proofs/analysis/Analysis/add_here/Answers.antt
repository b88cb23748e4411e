use Rattle.std.proofs.Common.{refl}
use Rattle.bit_field.specs.declared.places.Structure.TheVariants.{ExMem, Ib, IdEx, MemWb, Rf, Sb}
use Rattle.bit_field.specs.declared.shapes.TheConstants.{EX_MEM_BITS, IB_BITS, ID_EX_BITS, MEM_WB_BITS, RF_BITS, SB_BITS}
use Rattle.ace_rules.specs.Notes.{moment}
use Rattle.ace_rules.specs.Walks.{story_of}
use Rattle.ace_rules.proofs.CycleTallies.{added-still, below-end, known-note, some-note, still-known, still-masks}
use Rattle.ace_rules.proofs.analysis.Analysis.add_here.Goals as goal

pub add_registers-requires-clause-some : goal.add_registers-requires-clause-some
add_registers-requires-clause-some c =
    let x = c.self.inside in
    let story = story_of x.recorded x.trace in
    some-note story c.args.self.now c.self.view_is x.needs x.notes.items c.deref-notes.result.now x.words.items x.quiet x.life x.tags
    x.slots c.self.invariant c.args.cycle c.requires.cycle c.note_at-note.result.now c.deref-notes.ensures.value c.note_at-note.ensures

pub add_pending-requires-clause-some : goal.add_pending-requires-clause-some
add_pending-requires-clause-some c =
    let x = c.self.inside in
    let story = story_of x.recorded x.trace in
    record {
      a = moment story c.args.cycle;
      known = known-note story c.args.self.now c.self.view_is x.needs x.notes.items c.deref-notes.result.now x.words.items x.quiet x.life x.tags
          x.slots c.self.invariant c.args.cycle c.requires.cycle c.note_at-note.result.now c.deref-notes.ensures.value c.note_at-note.ensures;
      same = c.image.ensures;
    }

pub returns-in-IdEx-clause-added : goal.returns-in-IdEx-clause-added
returns-in-IdEx-clause-added c = λ t l below.
    let x = c.self.inside in
    let story = story_of x.recorded x.trace in
    added-still story c.args.self.now c.self.view_is x.needs x.notes.items c.deref-notes.result.now x.words.items x.quiet x.life x.tags
    x.slots c.self.invariant c.args.cycle c.requires.cycle c.note_at-note.result.now c.deref-notes.ensures.value c.note_at-note.ensures
    t (below-end c.args.self.now story c.self.view_is x.needs x.notes.items c.deref-notes.result.now c.deref-notes.ensures.value x.words.items x.quiet x.life x.tags
    x.slots c.self.invariant t c.still_until-until.result below c.still_until-until.ensures.within) (c.still_until-until.ensures.note t l below) (c.still_until-until.ensures.quiet t l below) IdEx c.args.structure
    c.in-IdEx.is ID_EX_BITS refl c.args.row.now c.add_decoded.new.row (c.add_decoded.ensures (moment story t) x.needs (still-known story c.args.self.now c.self.view_is x.needs x.notes.items c.deref-notes.result.now x.words.items x.quiet x.life x.tags
    x.slots c.self.invariant c.args.cycle c.requires.cycle c.note_at-note.result.now c.deref-notes.ensures.value c.note_at-note.ensures
    t (below-end c.args.self.now story c.self.view_is x.needs x.notes.items c.deref-notes.result.now c.deref-notes.ensures.value x.words.items x.quiet x.life x.tags
    x.slots c.self.invariant t c.still_until-until.result below c.still_until-until.ensures.within) (c.still_until-until.ensures.note t l below) (c.still_until-until.ensures.quiet t l below)))

pub returns-in-ExMem-clause-added : goal.returns-in-ExMem-clause-added
returns-in-ExMem-clause-added c = λ t l below.
    let x = c.self.inside in
    let story = story_of x.recorded x.trace in
    added-still story c.args.self.now c.self.view_is x.needs x.notes.items c.deref-notes.result.now x.words.items x.quiet x.life x.tags
    x.slots c.self.invariant c.args.cycle c.requires.cycle c.note_at-note.result.now c.deref-notes.ensures.value c.note_at-note.ensures
    t (below-end c.args.self.now story c.self.view_is x.needs x.notes.items c.deref-notes.result.now c.deref-notes.ensures.value x.words.items x.quiet x.life x.tags
    x.slots c.self.invariant t c.still_until-until.result below c.still_until-until.ensures.within) (c.still_until-until.ensures.note t l below) (c.still_until-until.ensures.quiet t l below) ExMem c.args.structure
    c.in-ExMem.is EX_MEM_BITS refl c.args.row.now c.add_executed.new.row (c.add_executed.ensures (moment story t) x.needs (still-known story c.args.self.now c.self.view_is x.needs x.notes.items c.deref-notes.result.now x.words.items x.quiet x.life x.tags
    x.slots c.self.invariant c.args.cycle c.requires.cycle c.note_at-note.result.now c.deref-notes.ensures.value c.note_at-note.ensures
    t (below-end c.args.self.now story c.self.view_is x.needs x.notes.items c.deref-notes.result.now c.deref-notes.ensures.value x.words.items x.quiet x.life x.tags
    x.slots c.self.invariant t c.still_until-until.result below c.still_until-until.ensures.within) (c.still_until-until.ensures.note t l below) (c.still_until-until.ensures.quiet t l below)))

pub returns-in-MemWb-clause-added : goal.returns-in-MemWb-clause-added
returns-in-MemWb-clause-added c = λ t l below.
    let x = c.self.inside in
    let story = story_of x.recorded x.trace in
    added-still story c.args.self.now c.self.view_is x.needs x.notes.items c.deref-notes.result.now x.words.items x.quiet x.life x.tags
    x.slots c.self.invariant c.args.cycle c.requires.cycle c.note_at-note.result.now c.deref-notes.ensures.value c.note_at-note.ensures
    t (below-end c.args.self.now story c.self.view_is x.needs x.notes.items c.deref-notes.result.now c.deref-notes.ensures.value x.words.items x.quiet x.life x.tags
    x.slots c.self.invariant t c.still_until-until.result below c.still_until-until.ensures.within) (c.still_until-until.ensures.note t l below) (c.still_until-until.ensures.quiet t l below) MemWb c.args.structure
    c.in-MemWb.is MEM_WB_BITS refl c.args.row.now c.add_result.new.row (c.add_result.ensures (moment story t) x.needs (still-known story c.args.self.now c.self.view_is x.needs x.notes.items c.deref-notes.result.now x.words.items x.quiet x.life x.tags
    x.slots c.self.invariant c.args.cycle c.requires.cycle c.note_at-note.result.now c.deref-notes.ensures.value c.note_at-note.ensures
    t (below-end c.args.self.now story c.self.view_is x.needs x.notes.items c.deref-notes.result.now c.deref-notes.ensures.value x.words.items x.quiet x.life x.tags
    x.slots c.self.invariant t c.still_until-until.result below c.still_until-until.ensures.within) (c.still_until-until.ensures.note t l below) (c.still_until-until.ensures.quiet t l below)))

pub returns-in-Rf-clause-added : goal.returns-in-Rf-clause-added
returns-in-Rf-clause-added c = λ t l below.
    let x = c.self.inside in
    let story = story_of x.recorded x.trace in
    added-still story c.args.self.now c.self.view_is x.needs x.notes.items c.deref-notes.result.now x.words.items x.quiet x.life x.tags
    x.slots c.self.invariant c.args.cycle c.requires.cycle c.note_at-note.result.now c.deref-notes.ensures.value c.note_at-note.ensures
    t (below-end c.args.self.now story c.self.view_is x.needs x.notes.items c.deref-notes.result.now c.deref-notes.ensures.value x.words.items x.quiet x.life x.tags
    x.slots c.self.invariant t c.still_until-until.result below c.still_until-until.ensures.within) (c.still_until-until.ensures.note t l below) (c.still_until-until.ensures.quiet t l below) Rf c.args.structure
    c.in-Rf.is RF_BITS refl c.args.row.now c.add_registers.new.row (c.add_registers.ensures (moment story t) (still-known story c.args.self.now c.self.view_is x.needs x.notes.items c.deref-notes.result.now x.words.items x.quiet x.life x.tags
    x.slots c.self.invariant c.args.cycle c.requires.cycle c.note_at-note.result.now c.deref-notes.ensures.value c.note_at-note.ensures
    t (below-end c.args.self.now story c.self.view_is x.needs x.notes.items c.deref-notes.result.now c.deref-notes.ensures.value x.words.items x.quiet x.life x.tags
    x.slots c.self.invariant t c.still_until-until.result below c.still_until-until.ensures.within) (c.still_until-until.ensures.note t l below) (c.still_until-until.ensures.quiet t l below)))

pub returns-in-Ib-clause-added : goal.returns-in-Ib-clause-added
returns-in-Ib-clause-added c = λ t l below.
    let x = c.self.inside in
    let story = story_of x.recorded x.trace in
    added-still story c.args.self.now c.self.view_is x.needs x.notes.items c.deref-notes.result.now x.words.items x.quiet x.life x.tags
    x.slots c.self.invariant c.args.cycle c.requires.cycle c.note_at-note.result.now c.deref-notes.ensures.value c.note_at-note.ensures
    t (below-end c.args.self.now story c.self.view_is x.needs x.notes.items c.deref-notes.result.now c.deref-notes.ensures.value x.words.items x.quiet x.life x.tags
    x.slots c.self.invariant t c.still_until-until.result below c.still_until-until.ensures.within) (c.still_until-until.ensures.note t l below) (c.still_until-until.ensures.quiet t l below) Ib c.args.structure
    c.in-Ib.is IB_BITS refl c.args.row.now c.add_fetched.new.row (c.add_fetched.ensures (moment story t) x.needs (still-known story c.args.self.now c.self.view_is x.needs x.notes.items c.deref-notes.result.now x.words.items x.quiet x.life x.tags
    x.slots c.self.invariant c.args.cycle c.requires.cycle c.note_at-note.result.now c.deref-notes.ensures.value c.note_at-note.ensures
    t (below-end c.args.self.now story c.self.view_is x.needs x.notes.items c.deref-notes.result.now c.deref-notes.ensures.value x.words.items x.quiet x.life x.tags
    x.slots c.self.invariant t c.still_until-until.result below c.still_until-until.ensures.within) (c.still_until-until.ensures.note t l below) (c.still_until-until.ensures.quiet t l below)) (still-masks story c.args.self.now c.self.view_is x.needs x.notes.items c.deref-notes.result.now x.words.items x.quiet x.life x.tags
    x.slots c.self.invariant c.args.cycle c.requires.cycle c.note_at-note.result.now c.deref-notes.ensures.value c.note_at-note.ensures
    t (below-end c.args.self.now story c.self.view_is x.needs x.notes.items c.deref-notes.result.now c.deref-notes.ensures.value x.words.items x.quiet x.life x.tags
    x.slots c.self.invariant t c.still_until-until.result below c.still_until-until.ensures.within) (c.still_until-until.ensures.note t l below) (c.still_until-until.ensures.quiet t l below) c.deref-words.result.now c.deref-words.ensures.value))

pub returns-in-Sb-clause-added : goal.returns-in-Sb-clause-added
returns-in-Sb-clause-added c = λ t l below.
    let x = c.self.inside in
    let story = story_of x.recorded x.trace in
    added-still story c.args.self.now c.self.view_is x.needs x.notes.items c.deref-notes.result.now x.words.items x.quiet x.life x.tags
    x.slots c.self.invariant c.args.cycle c.requires.cycle c.note_at-note.result.now c.deref-notes.ensures.value c.note_at-note.ensures
    t (below-end c.args.self.now story c.self.view_is x.needs x.notes.items c.deref-notes.result.now c.deref-notes.ensures.value x.words.items x.quiet x.life x.tags
    x.slots c.self.invariant t c.still_until-until.result below c.still_until-until.ensures.within) (c.still_until-until.ensures.note t l below) (c.still_until-until.ensures.quiet t l below) Sb c.args.structure
    c.in-Sb.is SB_BITS refl c.args.row.now c.add_pending.new.row (c.add_pending.ensures (moment story t) (still-known story c.args.self.now c.self.view_is x.needs x.notes.items c.deref-notes.result.now x.words.items x.quiet x.life x.tags
    x.slots c.self.invariant c.args.cycle c.requires.cycle c.note_at-note.result.now c.deref-notes.ensures.value c.note_at-note.ensures
    t (below-end c.args.self.now story c.self.view_is x.needs x.notes.items c.deref-notes.result.now c.deref-notes.ensures.value x.words.items x.quiet x.life x.tags
    x.slots c.self.invariant t c.still_until-until.result below c.still_until-until.ensures.within) (c.still_until-until.ensures.note t l below) (c.still_until-until.ensures.quiet t l below)) c.image.ensures)
