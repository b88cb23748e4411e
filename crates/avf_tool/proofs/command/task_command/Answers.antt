use Rattle.std.proofs.Common.{arith}
use Rattle.avf_tool.proofs.ShortWords.{too_few}
use Rattle.avf_tool.proofs.command.task_command.Goals as goal

pub returns-in_default-clause-is : goal.returns-in_default-clause-is
returns-in_default-clause-is c = too_few c.args.shape c.args.name.now c.args.words.now (omega (arith, c.in_default.len_below))
