use Rattle.vh_cases_callbacks.proofs.wheel.nodes_are_taken_in_time.Given as goal

abbrev pub ghosts-taken : goal.ghosts-taken
ghosts-taken g a = record { name = a.blank.name; parts = a.blank.parts }
