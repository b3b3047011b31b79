use Rattle.worker_hall.proofs.hall.serve.Given as goal

abbrev pub ghosts-serve_as-N-Doorway : goal.ghosts-serve_as-N-Doorway
ghosts-serve_as-N-Doorway g a = record { door = a.front.listener.ghost_name; given = g.L.Listener.given a.front.listener.now; faults = g.L.Listener.faults a.front.listener.now; most = a.connections }

abbrev pub ghosts-serve_as-N-Ledger : goal.ghosts-serve_as-N-Ledger
ghosts-serve_as-N-Ledger g a = record { name = a.blank.name; parts = a.blank.parts }
