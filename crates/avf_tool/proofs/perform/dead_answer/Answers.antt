use Rattle.avf_tool.proofs.Deadness.{dead_told}
use Rattle.avf_tool.proofs.Traces.{traced}
use Rattle.avf_tool.proofs.perform.dead_answer.Goals as goal

pub returns-clause-text : goal.returns-clause-text
returns-clause-text g c =
    dead_told c.args.run.now c.in_ok-trace.trace c.dead_of.result (traced c.args.run.now c.in_ok-trace.trace c.requires c.in_ok-trace.ensures.traced) c.dead_of.ensures
