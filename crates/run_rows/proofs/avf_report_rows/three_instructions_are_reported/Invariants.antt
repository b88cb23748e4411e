use Rattle.run_rows.proofs.avf_report_rows.three_instructions_are_reported.Given as goal

abbrev pub ghosts-check_all : goal.ghosts-check_all
ghosts-check_all g a = record { name = a.blank.name; parts = a.blank.parts }
