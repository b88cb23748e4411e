use Rattle.program_rows.proofs.running.worked_rows_run.Given as goal

abbrev pub ghosts-check_all : goal.ghosts-check_all
ghosts-check_all g a = record { name = a.blank.name; parts = a.blank.parts }
