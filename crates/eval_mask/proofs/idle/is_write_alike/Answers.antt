use Rattle.eval_mask.proofs.Unneeded.{idle_write}
use Rattle.eval_mask.proofs.idle.is_write_alike.Goals as goal

pub returns : goal.returns
returns c =
    idle_write c.args.needs.now c.args.arch.now c.args.case.now c.args.doing.now c.keeps_register.result c.requires.idle c.requires.goes c.requires.given
    (rw (c.written_register.ensures, c.given.ensures) at c.keeps_register.ensures)
