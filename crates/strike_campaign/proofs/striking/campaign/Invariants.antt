use Rattle.std.proofs.Common.{◌≡◌, ◌+◌, ◌*◌, ◌≤◌}
use Rattle.run_record.specs.Verdict.{bound}
use Rattle.strike_campaign.specs.Campaigns.{IsCampaign}
use Rattle.strike_campaign.specs.Strikes.{generator}
use Rattle.strike_campaign.proofs.striking.campaign.Given as goal

abbrev pub invariant-loop-k : goal.invariant-loop-k
invariant-loop-k g l = record {
  words : l.words ≡ generator l.seed (2 * l._k);
  cells : IsCampaign l.a l.seed l._k l.cells;
  steps : l.steps ≤ l.fn.steps + l._k * bound l.a.r l.a.r.cycles;
}
