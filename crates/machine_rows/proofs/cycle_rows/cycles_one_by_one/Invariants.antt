use Rattle.machine_rows.proofs.cycle_rows.cycles_one_by_one.Given as goal

abbrev pub ghosts-check_cycles : goal.ghosts-check_cycles
ghosts-check_cycles g a = record { name = a.blank.name; parts = a.blank.parts }
