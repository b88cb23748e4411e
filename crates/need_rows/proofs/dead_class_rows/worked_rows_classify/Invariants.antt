use Rattle.need_rows.proofs.dead_class_rows.worked_rows_classify.Given as goal

abbrev pub ghosts-check_all : goal.ghosts-check_all
ghosts-check_all g a = record { name = a.blank.name; parts = a.blank.parts }
