use Rattle.std.proofs.Common.{subst, arith}
use Rattle.class_map.specs.Judging.{IsFit}
use Rattle.class_map.proofs.Reaches.{sensible-further}
use Rattle.class_map.proofs.judge.judge.Goals as goal

pub pass-requires-clause-further : goal.pass-requires-clause-further
pass-requires-clause-further c =
    sensible-further c.recorded-recorded.result.now.shape c.recorded-recorded.result.now.cycles c.args.progress.now.before c.in-Ok-Some.line
    c.is_record.ensures.record.fits (omega (arith, c.is_record.ensures.short))
    (subst (IsFit c.recorded-recorded.result.now c.args.progress.now) c.in-Ok-Some.field-0-is c.in-Ok-Some.ensures.fit)
