-- What has been read stands in front of what is left.
use Rattle.std.proofs.Common.{◌≡◌, length, map}
use Rattle.vh_parse_grammar.specs.Omissions.{joined_noted}
use Rattle.vh_parse_syntax.specs.Parts.{comma_more}
use Rattle.vh_parse_expr.specs.Views.{read_from}
use Rattle.vh_parse_decl.proofs.lists.further.Given as goal

abbrev pub invariant-all : goal.invariant-all
invariant-all g l = joined_noted (map g.T.Listed.view l.initial.all) (read_from l.depth (comma_more (g.T.Listed.part l.form)) l.initial.rest) ≡ joined_noted (map g.T.Listed.view l.all) (read_from l.depth (comma_more (g.T.Listed.part l.form)) l.rest)

abbrev pub decreases-all : goal.decreases-all
decreases-all g l = length l.rest.tokens.now
