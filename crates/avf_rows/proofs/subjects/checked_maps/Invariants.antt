use Rattle.avf_rows.proofs.subjects.checked_maps.Given as goal

abbrev pub ghosts-hold-L-Ledger : goal.ghosts-hold-L-Ledger
ghosts-hold-L-Ledger g a = record { name = a.one.name; parts = a.one.parts }

abbrev pub ghosts-hold-M-Ledger : goal.ghosts-hold-M-Ledger
ghosts-hold-M-Ledger g a = record { name = a.other.name; parts = a.other.parts }
