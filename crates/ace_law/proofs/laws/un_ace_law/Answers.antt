use Rattle.ace_law.proofs.UnAce.{un-ace-is-harmless}
use Rattle.ace_law.proofs.laws.un_ace_law.Goals as goal

pub returns : goal.returns
returns c = un-ace-is-harmless
