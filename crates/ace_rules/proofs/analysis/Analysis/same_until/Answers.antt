use Rattle.std.proofs.Common.{arith, subst, sym, ◌∙◌}
use Rattle.ace_class.specs.declared.class.Class.{Class}
use Rattle.ace_law.specs.Classes.{IsClass}
use Rattle.ace_rules.specs.Notes.{moment}
use Rattle.ace_class.proofs.Numbers.{same_class}
use Rattle.ace_rules.proofs.Intervals.{joined}
use Rattle.ace_rules.proofs.analysis.Analysis.same_until.Goals as goal

pub loop-until-preserved : goal.loop-until-preserved
loop-until-preserved c =
    let within = c.idle_until-until-in-loop-until.ensures.within in
    let after = c.idle_until-until-in-loop-until.ensures.after in
    let before = c.loop-until.invariant.0 in (
      omega (arith, after, before),
      within,
      joined c.args.self.now c.args.place.now c.class_of-class.result c.args.cycle c.loop-until.until c.idle_until-until-in-loop-until.result
          c.loop-until.invariant.2
          (subst (λ (class : Class). IsClass class (moment c.args.self.now c.loop-until.until) c.args.place.now)
          (same_class c.class_of.result c.class_of-class.result (sym c.number.ensures ∙ c.if-number.false ∙ c.number-in-loop-until.ensures))
          c.class_of.ensures.class)
          c.idle_until-until-in-loop-until.ensures.stays within,
    )
