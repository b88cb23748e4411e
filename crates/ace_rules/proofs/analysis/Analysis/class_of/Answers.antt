use Rattle.std.proofs.Common.{subst}
use Rattle.ace_class.specs.declared.class.Class.{Class}
use Rattle.ace_law.specs.Classes.{IsClass}
use Rattle.ace_rules.specs.Notes.{moment}
use Rattle.ace_rules.proofs.analysis.Analysis.class_of.Goals as goal

pub returns-clause-harmless : goal.returns-clause-harmless
returns-clause-harmless c rule is =
    c.is_harmless.ensures c.args.place.now c.args.cycle rule c.requires.place c.requires.cycle
    (subst (λ (class : Class). IsClass class (moment c.args.self.now c.args.cycle) c.args.place.now) is c.class_in.ensures)
