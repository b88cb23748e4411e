use Rattle.std.proofs.Common.{◌∙◌, ap}
use Rattle.std.specs.Prelude.{find, option_map}
use Rattle.rv_table.specs.Rows.{is_named, row_named, shown}
use Rattle.rv_table.proofs.RowLookups.{find-shown}
use Rattle.rv_table.proofs.row.row_named.Goals as goal

pub returns : goal.returns
unfolding row_named
returns c =
    ap (option_map shown) c.first_named.ensures
    ∙ find-shown (is_named c.args.name.now) c.all_rows.result.now
    ∙ ap (find (is_named c.args.name.now)) c.all_rows.ensures
