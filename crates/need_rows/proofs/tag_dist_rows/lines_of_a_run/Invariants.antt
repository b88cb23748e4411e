use Rattle.need_rows.proofs.tag_dist_rows.lines_of_a_run.Given as goal

abbrev pub ghosts-check_run : goal.ghosts-check_run
ghosts-check_run g a = record { name = a.blank.name; parts = a.blank.parts }
