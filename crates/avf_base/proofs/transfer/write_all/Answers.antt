use Rattle.std.proofs.Common.{arith, length-drop}
use Rattle.std.proofs.lemmas.List.{take_all}
use Rattle.avf_base.proofs.Growing.{Grows-on}
use Rattle.avf_base.proofs.transfer.write_all.Goals as goal

pub loop-at-preserved : goal.loop-at-preserved
loop-at-preserved g c = (
  grind (arith, length-drop),
  omega (arith, c.in_ok-at.ensures.cause.later),
  Grows-on _ _ _ _ _ _ _ c.loop-at.invariant.2 c.in_ok-at.ensures.taken (take_all _ _ (grind (arith, length-drop))),
)
