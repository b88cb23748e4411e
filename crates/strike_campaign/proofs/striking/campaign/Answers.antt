use Rattle.std.proofs.Common.{◌≡◌, ◌+◌, ◌*◌, ◌≤◌, arith, subst}
use Rattle.run_record.specs.Verdict.{bound}
use Rattle.strike_campaign.specs.Campaigns.{IsCampaign}
use Rattle.strike_campaign.proofs.Tallied.{campaign-first, campaign-on, steps-on, steps-within}
use Rattle.strike_campaign.proofs.Words.{is_outcome, words-first, words-on}
use Rattle.strike_campaign.proofs.striking.campaign.Goals as goal

pub loop-k-init : goal.loop-k-init
loop-k-init g c = record {
  words = words-first c.args.seed c.seed_from_u64-words.result c.seed_from_u64-words.ensures;
  cells = rw c.none-cells.ensures (campaign-first c.args.a.now c.args.seed);
  steps = omega arith;
}

pub add-requires : goal.add-requires
add-requires g c = let all = c.loop-k.invariant.cells.all in omega arith

pub returns-in_err-outcome-clause-steps : goal.returns-in_err-outcome-clause-steps
returns-in_err-outcome-clause-steps g c =
    let r = c.args.a.now.r in
    steps-within c.loop-k._k c.args.strikes (bound r r.cycles) c.args.steps.now c.loop-k.steps c.judge.new.steps c.loop-k-test.true
    c.loop-k.invariant.steps c.judge.ensures.steps

pub loop-k-preserved : goal.loop-k-preserved
loop-k-preserved g c =
    let story = c.args.a.now in
    let k = c.loop-k._k in
    let r = story.r in
    let is =
    is_outcome story c.args.seed k c.loop-k.words c.draw_strike-strike.result c.in_ok-outcome.outcome c.loop-k.invariant.words
    (rw c.recorded.ensures at c.draw_strike-strike.ensures.strike) c.in_ok-outcome.ensures.strike c.in_ok-outcome.ensures.judged in
    record {
      words = words-on c.args.seed k c.loop-k.words c.draw_strike-strike.new.words c.loop-k.invariant.words c.draw_strike-strike.ensures.rest;
      cells = campaign-on story c.args.seed k c.loop-k.cells c.add.new.self c.in_ok-outcome.outcome c.add.ensures c.loop-k.invariant.cells is
          c.in_ok-outcome.ensures.harmless;
      steps = steps-on k (bound r r.cycles) c.args.steps.now c.loop-k.steps c.judge.new.steps c.loop-k.invariant.steps c.judge.ensures.steps;
    }

pub returns-clause-cells : goal.returns-clause-cells
returns-clause-cells g c =
    let e : c.loop-k._k ≡ c.args.strikes = omega arith in
    subst (λ n. IsCampaign c.args.a.now c.args.seed n c.loop-k.cells) e c.loop-k.invariant.cells

pub returns-clause-steps : goal.returns-clause-steps
returns-clause-steps g c =
    let r = c.args.a.now.r in
    let e : c.loop-k._k ≡ c.args.strikes = omega arith in
    subst (λ n. c.loop-k.steps ≤ c.args.steps.now + n * bound r r.cycles) e c.loop-k.invariant.steps
