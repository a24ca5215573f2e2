-- What is read from the start on is what is read from here on.
use Rattle.std.proofs.Common.{◌≡◌, length}
use Rattle.vh_base.specs.Lists.{names_seen}
use Rattle.vh_parse_grammar.specs.Reading.{read}
use Rattle.vh_app_script.specs.Grammar.{grammar, further_names}
use Rattle.vh_app_script.specs.Views.{terminals}
use Rattle.vh_app_script.proofs.app.further_names.Given as goal

abbrev pub invariant-names : goal.invariant-names
invariant-names l =
    read grammar l.levels (further_names l.rules (names_seen l.fn.names.keys)) (terminals l.fn.at)
    ≡ read grammar l.levels (further_names l.rules (names_seen l.names.keys)) (terminals l.rest)

abbrev pub decreases-names : goal.decreases-names
decreases-names l = length l.rest
