-- Parts of the table that have no name there, for the functions that read them.
use Rattle.std.specs.Prelude.{ℕ, Bool, true, not, ◌&&◌, is_some, List}
use Rattle.vh_base.specs.declared.place.Place.{Place}
use Rattle.vh_parse_grammar.specs.Part.{tok, seq, bind, act, alt, rep, iter, barred, after, before}
use Rattle.vh_parse_grammar.specs.Nest.{Row, row_opened, row_item, row_next, row_closed}
use Rattle.vh_ast.specs.declared.operator.Binary.{Binary}
use Rattle.vh_ast.specs.Expressions.{ExprTree}
use Rattle.vh_parse_syntax.specs.declared.lexeme.Lexeme.TheVariants as lexeme
use Rattle.vh_parse_syntax.specs.Tokens.{is, operator_at}
use Rattle.vh_parse_syntax.specs.Parts.{G, the, at_the, inner_expr, comma_list}
use Rattle.vh_parse_syntax.specs.Names.{Path, Target, is_closed, target_of, path_goes, path_turn, path, row_goes, row_turn}
use Rattle.vh_parse_syntax.specs.Expressions.{any_operand, chain_tail, expression}
use Rattle.vh_parse_expr.specs.declared.expr.Enclosure.{Enclosure}
use Rattle.vh_parse_expr.specs.declared.expr.Enclosure.TheVariants as enclosure

-- An expression, as it stands: in another one it is a level deeper (own).
abbrev pub expr_at : Enclosure → Bool → G ExprTree
expr_at enclosure.Inner calls = inner_expr calls
expr_at enclosure.Outermost calls = expression calls

-- What goes on with a path, again and again (IEEE 1364-2005, 12.5).
abbrev pub steps_of : G ExprTree → Bool → Path → G Path
steps_of x sel p = iter (λ u t. path_goes sel u.last t) (λ u. path_turn x sel u.last u) p

-- A name in an expression, which a "(" behind it shows to be a call (IEEE 1364-2005, A.8.2).
abbrev pub barred_path : Bool → G Path
barred_path calls =
    barred (λ p t. not calls && (not (is_closed p.last) && is lexeme.LeftParen t))
    (path (inner_expr calls) true)

-- What stands behind the count of a replication (IEEE 1364-2005, 5.1.14).
abbrev pub repeated_part : Bool → G (List ExprTree)
repeated_part calls =
    after (the lexeme.LeftBrace)
    (before (comma_list (inner_expr calls)) (seq (the lexeme.RightBrace) (the lexeme.RightBrace)))

-- The branches of a choice (IEEE 1364-2005, 5.1.13).
abbrev pub branches_part : Bool → G (ExprTree × ExprTree)
branches_part calls =
    after (the lexeme.Question) (seq (inner_expr calls) (after (the lexeme.Colon) (inner_expr calls)))

-- The part in a bracket, where that stands (IEEE 1364-2005, 5.2).
abbrev pub bracket : {A : Type 0} → G A → G (Place × A)
bracket part = seq (at_the lexeme.LeftBracket) (before part (the lexeme.RightBracket))

-- An operator of the level with the chain behind it, and any number of these (IEEE 1364-2005,
-- 5.1.2).
abbrev pub link_part : ℕ → Bool → G (Binary × ExprTree)
link_part level calls =
    seq (tok (operator_at level)) (bind (any_operand calls) (chain_tail level calls))

abbrev pub links_part : ℕ → Bool → G (List (Binary × ExprTree))
links_part level calls = rep (λ t. is_some (operator_at level t)) (link_part level calls)

-- What comes next in a row of targets where one has to come, and where none has and so many braces
-- and one more are open (IEEE 1364-2005, A.8.5).
abbrev pub wanted_turn : Bool → Row Target → G (Row Target)
wanted_turn calls r =
    alt (is lexeme.LeftBrace) (act (λ _. row_opened r) (the lexeme.LeftBrace))
    (act (row_item r) (act target_of (path (expression calls) true)))

abbrev pub behind_turn : ℕ → Row Target → G (Row Target)
behind_turn count r =
    alt (is lexeme.Comma) (act (λ _. row_next r) (the lexeme.Comma))
    (act (λ _. row_closed count r) (the lexeme.RightBrace))

-- What goes on with a row of targets, again and again (IEEE 1364-2005, A.8.5).
abbrev pub rows_of : Bool → Row Target → G (Row Target)
rows_of calls r =
    iter (λ u t. row_goes u.wants u.depth t) (λ u. row_turn (expression calls) u.wants u.depth u) r
