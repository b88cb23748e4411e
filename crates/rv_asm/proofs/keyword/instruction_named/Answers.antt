use Rattle.rv_table.specs.Rows.{shown}
use Rattle.rv_asm.proofs.KeywordTable.{row_known}
use Rattle.rv_asm.proofs.keyword.instruction_named.Goals as goal

pub returns-else-eq-clause-known : goal.returns-else-eq-clause-known
returns-else-eq-clause-known c = row_known c.args.word.now (shown c.in_ok-row.row.now) c.in_ok-row.ensures
