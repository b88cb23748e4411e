use Rattle.cyc_machine.proofs.RegisterLaws.{file_laws}
use Rattle.cyc_machine.proofs.registers.RegisterFileStruck.laws.Goals as goal

pub returns : goal.returns
returns c = file_laws
