use Rattle.cyc_machine.proofs.PortLaws.{laws}
use Rattle.cyc_machine.proofs.port.PortLatchStruck.laws.Goals as goal

pub returns : goal.returns
returns c = laws
