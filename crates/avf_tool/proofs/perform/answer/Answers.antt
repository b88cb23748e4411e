use Rattle.avf_tool.specs.Answers.{task_answer}
use Rattle.avf_tool.proofs.Chains.{told}
use Rattle.avf_tool.proofs.perform.answer.Goals as goal

pub returns-clause-text : goal.returns-clause-text
returns-clause-text g c =
    told c.args.command.now.shape c.args.contents.now c.in_ok-image.image c.args.command.now.budget c.in_ok-recorded.recorded
    (task_answer c.args.command.now.task) c.task_answer.result
    c.requires.size c.in_ok-image.ensures.loaded c.in_ok-recorded.ensures.ran.within c.task_answer.ensures.text
