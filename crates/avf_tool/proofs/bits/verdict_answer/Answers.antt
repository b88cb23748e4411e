use Rattle.avf_tool.proofs.Flips.{verdict_answered}
use Rattle.avf_tool.proofs.bits.verdict_answer.Goals as goal

pub returns : goal.returns
returns g c =
    verdict_answered c.args.run.now c.args.place.now c.args.cycle c.replay-verdict.result c.verdict_bytes.result c.is_harmless.ensures
    c.requires.place c.requires.cycle c.replay-verdict.ensures.verdict c.verdict_bytes.ensures
