-- Depth falls first, and then what a construct is made of. What a loop has read stands in front of
-- what is left.
use Rattle.std.proofs.Common.{◌≡◌, ℕ, length, ◌+◌, ◌*◌}
use Rattle.vh_parse_grammar.specs.Reading.{got}
use Rattle.vh_parse_grammar.specs.Omissions.{joined_noted}
use Rattle.vh_ast.specs.Views.{expr_tree}
use Rattle.vh_parse_syntax.specs.Expressions.{chain_tail}
use Rattle.vh_parse_syntax.specs.Parts.{comma_more}
use Rattle.vh_parse_expr.specs.declared.expr.Enclosure.{Enclosure}
use Rattle.vh_parse_expr.specs.declared.expr.Enclosure.TheVariants as enclosure
use Rattle.vh_parse_expr.specs.Pieces.{expr_at, steps_of, links_part}
use Rattle.vh_parse_expr.specs.Views.{tokens_seen, read_from, exprs_seen, links_seen, path_tree}
use Rattle.vh_parse_expr.proofs.expr.+expression.Given as goal

-- An expression inside another one is a level deeper.
abbrev weight : Enclosure → ℕ
weight enclosure.Inner = 1
weight enclosure.Outermost = 120

abbrev pub decreases-inner : goal.decreases-inner
decreases-inner l = 256 * l.depth

abbrev pub decreases-inner_operand : goal.decreases-inner_operand
decreases-inner_operand l = 256 * l.depth

abbrev pub decreases-expression_at : goal.decreases-expression_at
decreases-expression_at l = 256 * l.depth + weight l.enclosure

abbrev pub decreases-behind : goal.decreases-behind
decreases-behind l = 256 * l.depth + (weight l.enclosure + 1)

abbrev pub decreases-esel_end : goal.decreases-esel_end
decreases-esel_end l = 256 * l.depth + (weight l.enclosure + 2)

abbrev pub decreases-esel : goal.decreases-esel
decreases-esel l = 256 * l.depth + (weight l.enclosure + 3)

abbrev pub decreases-index_bracket : goal.decreases-index_bracket
decreases-index_bracket l = 256 * l.depth + (weight l.enclosure + 1)

abbrev pub decreases-esel_bracket : goal.decreases-esel_bracket
decreases-esel_bracket l = 256 * l.depth + (weight l.enclosure + 4)

abbrev pub decreases-plain_turn : goal.decreases-plain_turn
decreases-plain_turn l = 256 * l.depth + (weight l.enclosure + 5)

abbrev pub decreases-indexed_turn : goal.decreases-indexed_turn
decreases-indexed_turn l = 256 * l.depth + (weight l.enclosure + 5)

abbrev pub decreases-path_turn : goal.decreases-path_turn
decreases-path_turn l = 256 * l.depth + (weight l.enclosure + 6)

abbrev pub decreases-path_rest : goal.decreases-path_rest
decreases-path_rest l = 256 * l.depth + (weight l.enclosure + 7)

abbrev pub decreases-path : goal.decreases-path
decreases-path l = 256 * l.depth + (weight l.enclosure + 8)

abbrev pub decreases-more : goal.decreases-more
decreases-more l = 256 * l.depth + (weight l.enclosure + 2)

abbrev pub decreases-list : goal.decreases-list
decreases-list l = 256 * l.depth + (weight l.enclosure + 3)

abbrev pub decreases-arguments : goal.decreases-arguments
decreases-arguments l = 256 * l.depth + 5

abbrev pub decreases-name_in : goal.decreases-name_in
decreases-name_in l = 256 * l.depth + 10

abbrev pub decreases-name_end : goal.decreases-name_end
decreases-name_end l = 256 * l.depth + 6

abbrev pub decreases-by_name : goal.decreases-by_name
decreases-by_name l = 256 * l.depth + 11

abbrev pub decreases-system_end : goal.decreases-system_end
decreases-system_end l = 256 * l.depth + 6

abbrev pub decreases-by_system : goal.decreases-by_system
decreases-by_system l = 256 * l.depth + 7

abbrev pub decreases-parens : goal.decreases-parens
decreases-parens l = 256 * l.depth + 1

abbrev pub decreases-repeated : goal.decreases-repeated
decreases-repeated l = 256 * l.depth + 5

abbrev pub decreases-braces_end : goal.decreases-braces_end
decreases-braces_end l = 256 * l.depth + 6

abbrev pub decreases-braces : goal.decreases-braces
decreases-braces l = 256 * l.depth + 7

abbrev pub decreases-prim : goal.decreases-prim
decreases-prim l = 256 * l.depth + 12

abbrev pub decreases-unary : goal.decreases-unary
decreases-unary l = 256 * l.depth + 1

abbrev pub decreases-operand : goal.decreases-operand
decreases-operand l = 256 * l.depth + 13

abbrev pub decreases-link : goal.decreases-link
decreases-link l = 256 * l.depth + (8 * l.level + 15)

abbrev pub decreases-chain : goal.decreases-chain
decreases-chain l = 256 * l.depth + (8 * l.level + 14)

abbrev pub decreases-choice : goal.decreases-choice
decreases-choice l = 256 * l.depth + 4

abbrev pub decreases-branches : goal.decreases-branches
decreases-branches l = 256 * l.depth + 3

abbrev pub decreases-outermost : goal.decreases-outermost
decreases-outermost l = 256 * l.depth + 110

abbrev pub invariant-path_rest-path : goal.invariant-path_rest-path
invariant-path_rest-path l = read_from l.depth (steps_of (expr_at l.enclosure l.calls) l.sel (path_tree l.initial.path)) l.initial.rest ≡ read_from l.depth (steps_of (expr_at l.enclosure l.calls) l.sel (path_tree l.path)) l.rest

abbrev pub decreases-path_rest-path : goal.decreases-path_rest-path
decreases-path_rest-path l = length l.rest.tokens.now

abbrev pub invariant-more-all : goal.invariant-more-all
invariant-more-all l = joined_noted (exprs_seen l.initial.all) (read_from l.depth (comma_more (expr_at l.enclosure l.calls)) l.initial.rest) ≡ joined_noted (exprs_seen l.all) (read_from l.depth (comma_more (expr_at l.enclosure l.calls)) l.rest)

abbrev pub decreases-more-all : goal.decreases-more-all
decreases-more-all l = length l.rest.tokens.now

abbrev pub invariant-chain-levels : goal.invariant-chain-levels
invariant-chain-levels l = read_from l.depth (chain_tail l.below l.calls (expr_tree l.initial.head)) l.initial.rest ≡ got (expr_tree l.head, l.rest.omission) (tokens_seen l.rest.tokens.now)

abbrev pub invariant-chain-links : goal.invariant-chain-links
invariant-chain-links l = read_from l.depth (links_part l.below l.calls) l.initial.rest ≡ joined_noted (links_seen l.links) (read_from l.depth (links_part l.below l.calls) l.rest)

abbrev pub decreases-chain-links : goal.decreases-chain-links
decreases-chain-links l = length l.rest.tokens.now
