use Rattle.std.proofs.Common.{◌<◌, subst, sym}
use Rattle.bit_field.specs.Shapes.{IsPlaceIn}
use Rattle.ace_class.specs.declared.class.Class.TheVariants.{UnAce}
use Rattle.run_record.specs.Verdict.{HasSame, flipped}
use Rattle.ace_law.specs.Classes.{IsClass}
use Rattle.ace_rules.specs.Notes.{Story, moment}
use Rattle.ace_rules.specs.Walks.{story_of}
use Rattle.ace_rules.proofs.analysis.Analysis.is_harmless.Goals as goal

pub returns : goal.returns
returns c place cycle rule in_shape running class =
    let story : Story = story_of c.self.inside.recorded c.self.inside.trace in
    let below = subst (λ (s : Story). cycle < s.r.cycles) (sym c.self.view_is) running in
    let fits = subst (λ (s : Story). IsPlaceIn s.r.shape place) (sym c.self.view_is) in_shape in
    let judged = subst (λ (s : Story). IsClass (UnAce rule) (moment s cycle) place) (sym c.self.view_is) class in
    subst (λ (s : Story). HasSame s.r cycle (flipped s.r cycle place)) c.self.view_is
    (c.un_ace_law.ensures (moment story cycle) c.self.inside.needs place rule c.self.invariant.told below fits judged.0)
