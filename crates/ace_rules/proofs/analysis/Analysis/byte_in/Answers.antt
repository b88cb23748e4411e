use Rattle.std.proofs.Common.{◌≤◌, ◌<◌, ◌+◌, ◌*◌, List, [], ◌∷◌, arith, refl, sym, subst}
use Rattle.bit_field.specs.Shapes.{slots as slot_count}
use Rattle.bit_field.specs.declared.places.Structure.TheVariants.{CData}
use Rattle.ace_rules.specs.Analyses.{IsAnalysis}
use Rattle.ace_rules.specs.Notes.{Story, moment}
use Rattle.ace_rules.specs.RuleMasks.{first_of}
use Rattle.ace_rules.specs.Tallies.{HasClass}
use Rattle.ace_rules.specs.Walks.{story_of}
use Rattle.ace_rules.specs.declared.note.Note.{Note}
use Rattle.ace_rules.proofs.ByteStays.{byte-kept}
use Rattle.ace_rules.proofs.KeptFacts.{in-order}
use Rattle.ace_rules.proofs.KnownMoments.{some-data}
use Rattle.ace_rules.proofs.analysis.Analysis.byte_in.Goals as goal

pub byte_stay-until-requires-clause-order : goal.byte_stay-until-requires-clause-order
byte_stay-until-requires-clause-order c =
    let x = c.self.inside in
    let kept = subst (λ (notes : List Note). IsAnalysis (story_of x.recorded x.trace) x.needs notes x.words.items x.quiet x.life x.tags x.slots)
    (sym c.deref-notes.ensures.value) c.self.invariant in
    in-order (story_of x.recorded x.trace) x.needs c.deref-notes.result.now x.words.items x.quiet x.life x.tags x.slots kept

pub byte_stay-until-requires-clause-some : goal.byte_stay-until-requires-clause-some
byte_stay-until-requires-clause-some c =
    let x = c.self.inside in
    let kept = subst (λ (notes : List Note). IsAnalysis (story_of x.recorded x.trace) x.needs notes x.words.items x.quiet x.life x.tags x.slots)
    (sym c.deref-notes.ensures.value) c.self.invariant in
    some-data (story_of x.recorded x.trace) x.needs c.deref-notes.result.now x.words.items x.quiet x.life x.tags x.slots kept
    (story_of x.recorded x.trace).r refl c.shape-shape.result c.shape-shape.ensures

pub returns-clause-stays : goal.returns-clause-stays
returns-clause-stays c = λ k t few l below.
    let x = c.self.inside in
    let kept = subst (λ (notes : List Note). IsAnalysis (story_of x.recorded x.trace) x.needs notes x.words.items x.quiet x.life x.tags x.slots)
    (sym c.deref-notes.ensures.value) c.self.invariant in
    let within : t < x.recorded.cycles = omega (arith, below, c.min.ensures, c.cycles.ensures) in
    let byte : 8 * c.args.byte + 8 ≤ slot_count x.recorded.shape * 128 =
    subst (λ (s : Story). 8 * c.args.byte + 8 ≤ slot_count s.r.shape * 128) (sym c.self.view_is) c.requires.byte in
    subst (λ (s : Story). HasClass (moment s t) CData (8 * c.args.byte + k) (first_of (c.byte_stay-until.result.found ∷ []) k)) c.self.view_is
    (byte-kept (story_of x.recorded x.trace) x.needs c.deref-notes.result.now x.words.items x.quiet x.life x.tags x.slots kept c.args.cycle
    (omega (arith, l, within)) c.note_at-note.result.now c.note_at-note.ensures c.args.byte (omega (arith, byte)) c.byte_stay-until.result
    c.byte_stay-until.ensures k few t l (λ late. omega (arith, late, below, c.min.ensures, c.max.ensures)) within)
