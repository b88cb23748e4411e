use Rattle.std.proofs.Common.{refl}
use Rattle.avf_tool.proofs.Serving.{fault_serves, refusal_serves, text_serves}
use Rattle.avf_tool.proofs.Work.{worked}
use Rattle.avf_tool.proofs.top.serve.Goals as goal

pub returns-in_err-text-clause-serves : goal.returns-in_err-text-clause-serves
returns-in_err-text-clause-serves g c =
    refusal_serves _ _ _ _ _ c.in-Some.ensures.is c.in_err-text.field-0.0 c.from_residual.result c.from_residual.ensures.1 c.in_err-text.ensures.answer refl

pub returns-in-Ok-clause-serves : goal.returns-in-Ok-clause-serves
returns-in-Ok-clause-serves g c =
    text_serves _ _ _ _ _ c.in-Some.ensures.is c.in_ok-text.text.items c.in_ok-text.ensures.answer (rw (← c.deref.ensures.value) c.in-Ok.ensures.ok)

pub returns-clause-serves : goal.returns-clause-serves
returns-clause-serves g c =
    fault_serves _ _ _ _ _ c.in-Some.ensures.is c.in_ok-text.text.items c.in_ok-text.ensures.answer c.in-Err.ensures.cause.failed
    (rw (← c.deref.ensures.value) c.in-Err.ensures.err)

pub returns-in_err-text-clause-work : goal.returns-in_err-text-clause-work
returns-in_err-text-clause-work g c = worked _ _ _ _ _ c.in-Some.ensures.is c.in_err-text.ensures.work

pub returns-in-Ok-clause-work : goal.returns-in-Ok-clause-work
returns-in-Ok-clause-work g c = worked _ _ _ _ _ c.in-Some.ensures.is c.in_ok-text.ensures.work

pub returns-clause-work : goal.returns-clause-work
returns-clause-work g c = worked _ _ _ _ _ c.in-Some.ensures.is c.in_ok-text.ensures.work
