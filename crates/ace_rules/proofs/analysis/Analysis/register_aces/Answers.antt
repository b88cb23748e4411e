use Rattle.std.proofs.Common.{◌+◌, ◌*◌, nat_le, subst, arith}
use Rattle.bit_field.specs.declared.places.Structure.TheVariants.{Rf}
use Rattle.ace_rules.specs.AceGroups.{AreAces}
use Rattle.ace_rules.specs.Notes.{Story}
use Rattle.ace_rules.specs.Walks.{story_of}
use Rattle.ace_rules.proofs.CycleTallies.{known-note, some-note}
use Rattle.ace_rules.proofs.GroupAces.{register-aces}
use Rattle.ace_rules.proofs.RegisterClasses.{decoded_counted}
use Rattle.ace_rules.proofs.analysis.Analysis.register_aces.Goals as goal

pub aces_of_register-requires-clause-instruction : goal.aces_of_register-requires-clause-instruction
aces_of_register-requires-clause-instruction c =
    let x = c.self.inside in
    decoded_counted x.needs c.note_at-note.result.now (nat_le x.quiet c.args.cycle)
    (some-note (story_of x.recorded x.trace) c.args.self.now c.self.view_is x.needs x.notes.items c.deref.result.now x.words.items x.quiet x.life
    x.tags x.slots c.self.invariant c.args.cycle c.requires.cycle c.note_at-note.result.now c.deref.ensures.value c.note_at-note.ensures)

pub returns-clause-aces : goal.returns-clause-aces
returns-clause-aces c =
    let x = c.self.inside in
    subst (λ (s : Story). AreAces s Rf (32 * c.args.group) 32 c.args.cycle (record { bits = c.aces_of_register.result; until = c.args.cycle + 1 }))
    c.self.view_is
    (register-aces (story_of x.recorded x.trace) x.needs c.note_at-note.result.now (nat_le x.quiet c.args.cycle) c.args.group _ c.aces_of_register.result
    c.args.cycle (omega arith) c.requires.group
    (known-note (story_of x.recorded x.trace) c.args.self.now c.self.view_is x.needs x.notes.items c.deref.result.now x.words.items x.quiet x.life
    x.tags x.slots c.self.invariant c.args.cycle c.requires.cycle c.note_at-note.result.now c.deref.ensures.value c.note_at-note.ensures)
    c.aces_of_register.ensures)
