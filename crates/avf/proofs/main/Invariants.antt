use Rattle.avf.proofs.main.Given as goal

abbrev pub ghosts-run-L-Ledger : goal.ghosts-run-L-Ledger
ghosts-run-L-Ledger a = record { name = a.one.name; parts = a.one.parts }

abbrev pub ghosts-run-M-Ledger : goal.ghosts-run-M-Ledger
ghosts-run-M-Ledger a = record { name = a.other.name; parts = a.other.parts }
