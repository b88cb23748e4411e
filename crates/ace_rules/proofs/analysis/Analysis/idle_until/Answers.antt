use Rattle.std.proofs.Common.{List, arith, refl, sym, subst}
use Rattle.ace_rules.specs.Analyses.{IsAnalysis}
use Rattle.ace_rules.specs.Notes.{Story}
use Rattle.ace_rules.specs.Stays.{Stays}
use Rattle.ace_rules.specs.Walks.{story_of}
use Rattle.ace_rules.specs.declared.note.Note.{Note}
use Rattle.ace_rules.proofs.analysis.Analysis.idle_until.Goals as goal

pub stays_until-until-requires-clause-kept : goal.stays_until-until-requires-clause-kept
stays_until-until-requires-clause-kept c =
    record {
      story = story_of c.self.inside.recorded c.self.inside.trace;
      words = c.self.inside.words.items;
      record_is = refl;
      kept =
          subst (λ (notes : List Note). IsAnalysis (story_of c.self.inside.recorded c.self.inside.trace) c.self.inside.needs notes
          c.self.inside.words.items c.self.inside.quiet c.self.inside.life c.self.inside.tags c.self.inside.slots)
          (sym c.deref.ensures.value) c.self.invariant;
    }

pub returns-clause-stays : goal.returns-clause-stays
returns-clause-stays c =
    let kept = subst (λ (notes : List Note). IsAnalysis (story_of c.self.inside.recorded c.self.inside.trace) c.self.inside.needs notes
    c.self.inside.words.items c.self.inside.quiet c.self.inside.life c.self.inside.tags c.self.inside.slots)
    (sym c.deref.ensures.value) c.self.invariant in
    subst (λ (s : Story). Stays s c.args.place.now c.args.cycle c.min.result) c.self.view_is
    (λ class t later below within h.
    c.stays_until-until.ensures (story_of c.self.inside.recorded c.self.inside.trace) c.self.inside.words.items refl kept class t later
    (omega (arith, later, below, c.min.ensures, c.max.ensures)) within h)
