use Rattle.clean_lines.proofs.Law.{clean-law}
use Rattle.clean_lines.proofs.laws.clean_lines_law.Goals as goal

pub returns : goal.returns
returns c = clean-law
