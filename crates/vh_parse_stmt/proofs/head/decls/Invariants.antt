-- What has been read stands in front of what is left.
use Rattle.std.proofs.Common.{◌≡◌, length, map}
use Rattle.vh_parse_grammar.specs.Omissions.{joined_noted}
use Rattle.vh_ast.specs.Views.{decl_tree}
use Rattle.vh_parse_expr.specs.Views.{read_from}
use Rattle.vh_parse_stmt.specs.Pieces.{decls}
use Rattle.vh_parse_stmt.proofs.head.decls.Given as goal

abbrev pub invariant-all : goal.invariant-all
invariant-all l = read_from l.depth decls l.initial.rest ≡ joined_noted (map decl_tree l.all) (read_from l.depth decls l.rest)

abbrev pub decreases-all : goal.decreases-all
decreases-all l = length l.rest.tokens.now
