use Rattle.std.proofs.Common.{◌≡◌, length, arith, ap, ◌∙◌}
use Rattle.std.specs.Prelude.{slice_get}
use Rattle.ace_rules.proofs.words.leave.Goals as goal

pub commit-requires : goal.commit-requires
commit-requires g c =
    let same : length c.args.words.now.items ≡ c.len-i.result = omega (arith, c.len-i.ensures, c.args.words.now.ok.0) in
    c.requires.commits c.entry.result.now (ap (slice_get c.args.trace.now.entries) same ∙ c.entry.ensures.entry)
