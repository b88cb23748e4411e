use Rattle.ace_rules.proofs.RegisterAces.{aces-counted}
use Rattle.ace_rules.proofs.ace_groups.aces_of_register.Goals as goal

pub returns : goal.returns
returns c =
    aces-counted c.args.needs.now c.args.note.now c.args.quiet c.args.r c.ace_mask.result c.requires.above c.ace_mask.type_inv c.ace_mask.ensures
