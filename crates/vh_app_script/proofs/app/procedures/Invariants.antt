-- What is read from the start on is what is read from here on.
use Rattle.std.proofs.Common.{◌≡◌, length}
use Rattle.vh_parse_grammar.specs.Reading.{read}
use Rattle.vh_app_script.specs.Grammar.{grammar, more_procedures}
use Rattle.vh_app_script.specs.Views.{terminals, env_seen, procs_seen}
use Rattle.vh_app_script.proofs.app.procedures.Given as goal

abbrev pub invariant-procedures : goal.invariant-procedures
invariant-procedures l =
    read grammar l.levels (more_procedures (env_seen l.env) (procs_seen l.initial.procs)) (terminals l.initial.rest)
    ≡ read grammar l.levels (more_procedures (env_seen l.env) (procs_seen l.procs)) (terminals l.rest)

abbrev pub decreases-procedures : goal.decreases-procedures
decreases-procedures l = length l.rest
