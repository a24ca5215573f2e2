-- What has been read stands in front of what is left.
use Rattle.std.proofs.Common.{◌≡◌, length}
use Rattle.vh_parse_grammar.specs.Omissions.{joined_noted}
use Rattle.vh_parse_syntax.specs.Items.{source}
use Rattle.vh_parse_expr.specs.Views.{read_from}
use Rattle.vh_parse_items.specs.Views.{modules_seen}
use Rattle.vh_parse_items.proofs.module.modules.Given as goal

abbrev pub invariant-all : goal.invariant-all
invariant-all l = read_from l.depth source l.initial.rest ≡ joined_noted (modules_seen l.all) (read_from l.depth source l.rest)

abbrev pub decreases-all : goal.decreases-all
decreases-all l = length l.rest.tokens.now
