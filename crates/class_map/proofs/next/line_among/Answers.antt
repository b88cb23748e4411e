use Rattle.std.specs.Prelude.{option_map}
use Rattle.class_map.proofs.Searched.{next_at, none_at}
use Rattle.class_map.proofs.next.line_among.Goals as goal

pub returns-in-Some : goal.returns-in-Some
returns-in-Some c =
    next_at c.args.a.now (option_map (λ line. line.now) c.args.before) c.args.among.now c.loop-structure.structure-index _ c.in-Some.line c.requires.all
    c.loop-structure-test.true c.loop-structure.invariant c.in-Some.ensures

pub loop-structure-preserved : goal.loop-structure-preserved
loop-structure-preserved c =
    none_at c.args.a.now (option_map (λ line. line.now) c.args.before) c.args.among.now c.loop-structure.structure-index _ c.requires.all c.loop-structure-test.true
    c.loop-structure.invariant c.in_default.ensures
