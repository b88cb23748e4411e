use Rattle.rv_table.proofs.TableLaws.{law}
use Rattle.rv_table.proofs.row.table_law.Goals as goal

pub returns : goal.returns
returns c = law
