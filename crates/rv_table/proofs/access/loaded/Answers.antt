use Rattle.std.proofs.Common.{ap, ◌∙◌}
use Rattle.rv_table.specs.Accesses.{extended_half, loaded}
use Rattle.rv_table.proofs.Loads.{half_in_word}
use Rattle.rv_table.proofs.access.loaded.Goals as goal

pub returns-in-Lh : goal.returns-in-Lh
unfolding loaded
returns-in-Lh c = rw c.in-Lh.is (c.signed_half.ensures ∙ ap extended_half (half_in_word c.args.address c.args.word))

pub returns-in-Lhu : goal.returns-in-Lhu
unfolding loaded
returns-in-Lhu c = rw c.in-Lhu.is (half_in_word c.args.address c.args.word)
