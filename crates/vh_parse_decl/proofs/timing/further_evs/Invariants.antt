-- What has been read stands in front of what is left.
use Rattle.std.proofs.Common.{◌≡◌, length, map}
use Rattle.vh_parse_grammar.specs.Omissions.{joined_noted}
use Rattle.vh_ast.specs.Views.{ev_tree}
use Rattle.vh_parse_expr.specs.Views.{read_from}
use Rattle.vh_parse_decl.specs.Pieces.{more_evs}
use Rattle.vh_parse_decl.proofs.timing.further_evs.Given as goal

abbrev pub invariant-all : goal.invariant-all
invariant-all l = joined_noted (map ev_tree l.initial.all) (read_from l.depth more_evs l.initial.rest) ≡ joined_noted (map ev_tree l.all) (read_from l.depth more_evs l.rest)

abbrev pub decreases-all : goal.decreases-all
decreases-all l = length l.rest.tokens.now
