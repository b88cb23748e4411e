use Rattle.run_record.specs.Verdict.{flipped}
use Rattle.strike_campaign.proofs.Tallied.{same-verdict}
use Rattle.strike_campaign.proofs.striking.judge.Goals as goal

pub returns-clause-harmless : goal.returns-clause-harmless
returns-clause-harmless g c rule e =
    let r = c.args.a.now.r in
    let t = c.args.strike.cycle in
    let u = flipped r t c.args.strike.place in
    let is = rw c.recorded-recorded.ensures at c.replay-verdict.ensures.verdict in
    same-verdict r t u c.replay-verdict.result (c.verdict_law.ensures r t u) is (c.class_of-class.ensures.harmless rule e)
