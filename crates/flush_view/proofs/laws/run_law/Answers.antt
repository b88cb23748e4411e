use Rattle.flush_view.proofs.Run.RunLaw.{run-law}
use Rattle.flush_view.proofs.laws.run_law.Goals as goal

pub returns : goal.returns
returns c = run-law c.args.image.now c.args.shape.now c.is_image.ensures c.requires
