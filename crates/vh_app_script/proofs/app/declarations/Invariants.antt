-- What is read from the start on is what is read from here on.
use Rattle.std.proofs.Common.{◌≡◌, length}
use Rattle.vh_base.specs.Lists.{names_seen}
use Rattle.vh_parse_grammar.specs.Reading.{read}
use Rattle.vh_app_script.specs.Grammar.{grammar, declarations}
use Rattle.vh_app_script.specs.Views.{terminals}
use Rattle.vh_app_script.proofs.app.declarations.Given as goal

abbrev pub invariant-declarations : goal.invariant-declarations
invariant-declarations l =
    read grammar l.levels (declarations l.rules (names_seen l.fn.names.keys)) (terminals l.fn.at)
    ≡ read grammar l.levels (declarations l.rules (names_seen l.names.keys)) (terminals l.rest)

abbrev pub decreases-declarations : goal.decreases-declarations
decreases-declarations l = length l.rest
