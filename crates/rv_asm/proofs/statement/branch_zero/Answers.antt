use Rattle.rv_asm.proofs.Sound.{sound_branch}
use Rattle.rv_asm.proofs.statement.branch_zero.Goals as goal

pub returns-in-Some-Some-clause-sound : goal.returns-in-Some-Some-clause-sound
returns-in-Some-Some-clause-sound c = rw c.of_registers.ensures (sound_branch c.args.code c.in-Some-Some.rs c.requires c.in-Some-Some.ensures.below)
