use Rattle.std.specs.Prelude.{Err}
use Rattle.avf_tool.proofs.Retold.{retold}
use Rattle.avf_tool.proofs.top.end.Goals as goal

pub returns-in-Err-clause-ends : goal.returns-in-Err-clause-ends
returns-in-Err-clause-ends g c =
    (Err c.refuse.result, retold _ _ _ _ _ _ c.refuse.ensures.told c.in-Err.ensures.serves, (c.status.ensures, c.refuse.ensures.line))
