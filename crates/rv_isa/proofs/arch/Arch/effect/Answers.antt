use Rattle.rv_isa.proofs.Steps.{effect_can_commit, effect_is_step}
use Rattle.rv_isa.proofs.arch.Arch.effect.Goals as goal

pub returns-clause-step : goal.returns-clause-step
returns-clause-step g c = rw c.effect_of.ensures (effect_is_step _ _ _)

pub returns-clause-can_commit : goal.returns-clause-can_commit
returns-clause-can_commit g c = rw c.effect_of.ensures (effect_can_commit _ _ _ c.requires.rd)
