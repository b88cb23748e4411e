use Rattle.run_rows.proofs.run_log_rows.worked_rows_are_recorded.Given as goal

abbrev pub ghosts-check_all : goal.ghosts-check_all
ghosts-check_all g a = record { name = a.blank.name; parts = a.blank.parts }
