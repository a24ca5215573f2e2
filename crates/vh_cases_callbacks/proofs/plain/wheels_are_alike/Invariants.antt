use Rattle.vh_cases_callbacks.proofs.plain.wheels_are_alike.Given as goal

abbrev pub ghosts-calls_alike : goal.ghosts-calls_alike
ghosts-calls_alike g a = record { name = a.blank.name; parts = a.blank.parts }
