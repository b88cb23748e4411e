use Rattle.img_gen.proofs.Fitting.{fits_finish, fits_start}
use Rattle.img_gen.proofs.generator.text_part.Goals as goal

pub put_ops-requires : goal.put_ops-requires
put_ops-requires c = rw c.start.ensures fits_start

pub put_ops-requires-2 : goal.put_ops-requires-2
put_ops-requires-2 c = rw c.finish.ensures (fits_finish c.args.size c.requires)
