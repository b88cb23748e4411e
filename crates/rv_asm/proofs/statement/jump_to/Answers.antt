use Rattle.rv_asm.proofs.Sound.{sound_jal}
use Rattle.rv_asm.proofs.statement.jump_to.Goals as goal

pub returns-clause-sound : goal.returns-clause-sound
returns-clause-sound c = rw c.of_registers.ensures (sound_jal c.args.rd c.requires)
