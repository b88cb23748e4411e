use Rattle.cyc_machine.proofs.RegisterLaws.{counter_laws}
use Rattle.cyc_machine.proofs.registers.ProgramCounterStruck.laws.Goals as goal

pub returns : goal.returns
returns c = counter_laws
