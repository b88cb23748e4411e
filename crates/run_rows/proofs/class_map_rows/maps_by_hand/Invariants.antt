use Rattle.run_rows.proofs.class_map_rows.maps_by_hand.Given as goal

abbrev pub ghosts-check_all-L-Ledger : goal.ghosts-check_all-L-Ledger
ghosts-check_all-L-Ledger g a = record { name = a.first.name; parts = a.first.parts }

abbrev pub ghosts-check_all-M-Ledger : goal.ghosts-check_all-M-Ledger
ghosts-check_all-M-Ledger g a = record { name = a.second.name; parts = a.second.parts }
