-- Depth falls first, and then what a statement is made of. What a loop has read stands in front of what
-- is left.
use Rattle.std.proofs.Common.{◌≡◌, length, ◌+◌, ◌*◌}
use Rattle.vh_parse_grammar.specs.Omissions.{joined_noted}
use Rattle.vh_parse_syntax.specs.Statements.{stmts}
use Rattle.vh_parse_expr.specs.Views.{read_from}
use Rattle.vh_parse_stmt.specs.Pieces.{more_citems}
use Rattle.vh_parse_stmt.specs.Views.{stmts_seen, citems_seen}
use Rattle.vh_parse_stmt.proofs.stmt.+statement.Given as goal

abbrev pub decreases-inner_statement : goal.decreases-inner_statement
decreases-inner_statement l = 8 * l.depth

abbrev pub decreases-delay_stmt : goal.decreases-delay_stmt
decreases-delay_stmt l = 8 * l.depth + 1

abbrev pub decreases-event_stmt : goal.decreases-event_stmt
decreases-event_stmt l = 8 * l.depth + 1

abbrev pub decreases-wait_stmt : goal.decreases-wait_stmt
decreases-wait_stmt l = 8 * l.depth + 1

abbrev pub decreases-otherwise : goal.decreases-otherwise
decreases-otherwise l = 8 * l.depth + 1

abbrev pub decreases-if_stmt : goal.decreases-if_stmt
decreases-if_stmt l = 8 * l.depth + 2

abbrev pub decreases-default_item : goal.decreases-default_item
decreases-default_item l = 8 * l.depth + 1

abbrev pub decreases-listed_item : goal.decreases-listed_item
decreases-listed_item l = 8 * l.depth + 1

abbrev pub decreases-values_item : goal.decreases-values_item
decreases-values_item l = 8 * l.depth + 2

abbrev pub decreases-citem : goal.decreases-citem
decreases-citem l = 8 * l.depth + 3

abbrev pub decreases-citems : goal.decreases-citems
decreases-citems l = 8 * l.depth + 4

abbrev pub decreases-listed_case : goal.decreases-listed_case
decreases-listed_case l = 8 * l.depth + 5

abbrev pub decreases-case_stmt : goal.decreases-case_stmt
decreases-case_stmt l = 8 * l.depth + 6

abbrev pub decreases-for_stmt : goal.decreases-for_stmt
decreases-for_stmt l = 8 * l.depth + 1

abbrev pub decreases-loop_stmt : goal.decreases-loop_stmt
decreases-loop_stmt l = 8 * l.depth + 1

abbrev pub decreases-forever_stmt : goal.decreases-forever_stmt
decreases-forever_stmt l = 8 * l.depth + 1

abbrev pub decreases-stmts : goal.decreases-stmts
decreases-stmts l = 8 * l.depth + 1

abbrev pub decreases-block : goal.decreases-block
decreases-block l = 8 * l.depth + 2

abbrev pub decreases-control : goal.decreases-control
decreases-control l = 8 * l.depth + 3

abbrev pub decreases-statement : goal.decreases-statement
decreases-statement l = 8 * l.depth + 7

abbrev pub invariant-citems-all : goal.invariant-citems-all
invariant-citems-all l = joined_noted (citems_seen l.initial.all) (read_from l.depth (more_citems l.inside) l.initial.rest) ≡ joined_noted (citems_seen l.all) (read_from l.depth (more_citems l.inside) l.rest)

abbrev pub decreases-citems-all : goal.decreases-citems-all
decreases-citems-all l = length l.rest.tokens.now

abbrev pub invariant-stmts-all : goal.invariant-stmts-all
invariant-stmts-all l = read_from l.depth (stmts l.inside) l.initial.rest ≡ joined_noted (stmts_seen l.all) (read_from l.depth (stmts l.inside) l.rest)

abbrev pub decreases-stmts-all : goal.decreases-stmts-all
decreases-stmts-all l = length l.rest.tokens.now
