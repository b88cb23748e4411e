use Rattle.std.proofs.Common.{[], ◌∷◌}
use Rattle.ace_rules.specs.RuleMasks.{first_of}
use Rattle.ace_rules.proofs.analysis.Analysis.byte_aces.Goals as goal

pub returns-clause-aces : goal.returns-clause-aces
returns-clause-aces c = record {
  classes = λ k. first_of (c.byte_in-until.result.found ∷ []) k;
  are = c.byte_in-until.ensures.stays;
  count = c.aces_beside.ensures;
}
