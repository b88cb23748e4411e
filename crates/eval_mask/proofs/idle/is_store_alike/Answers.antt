use Rattle.eval_mask.proofs.Unneeded.{idle_store}
use Rattle.eval_mask.proofs.idle.is_store_alike.Goals as goal

pub returns : goal.returns
returns c =
    idle_store c.args.needs.now c.args.arch.now c.args.case.now c.args.doing.now c.keeps_bytes.result c.requires.idle c.requires.goes c.requires.store
    (rw (c.store_by-store.ensures, c.image.ensures) at c.keeps_bytes.ensures)
