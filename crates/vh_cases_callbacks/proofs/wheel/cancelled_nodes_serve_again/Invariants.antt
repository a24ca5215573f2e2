use Rattle.vh_cases_callbacks.proofs.wheel.cancelled_nodes_serve_again.Given as goal

abbrev pub ghosts-cancelled : goal.ghosts-cancelled
ghosts-cancelled g a = record { name = a.blank.name; parts = a.blank.parts }
