-- Expressions.
--   prim = NUMBER | STRING | name [ sel ] | name "(" expr { "," expr } ")"
--        | SYS [ "(" expr { "," expr } ")" ]
--        | "(" expr ")" | "{" expr { "," expr } "}" | "{" expr "{" expr { "," expr } "}" "}"
-- and by falling precedence the unary operators, eleven levels of binary ones, which group to the
-- left, and `?:`, which groups to the right. `calls` says whether calls may stand there; where they
-- don't they are left out.
use Rattle.std.specs.Prelude.{ℕ, zero, suc, Bool, true, false, not, ◌&&◌, is_some, List, [], ◌∷◌, Option, Some, None}
use Rattle.vh_base.specs.declared.place.Place.{Place}
use Rattle.vh_parse_grammar.specs.Part.{done, tok, seq, bind, act, alt, rep, unless, barred, opt, two, after, before}
use Rattle.vh_ast.specs.declared.token.Id.{Id}
use Rattle.vh_lex.specs.declared.token.Number.{Number}
use Rattle.vh_ast.specs.Expressions.{ExprTree, expr, number, text, system, paren, concat, repeat, exprs, unary_at, chained, chosen, named_at, called}
use Rattle.vh_parse_syntax.specs.declared.lexeme.Lexeme.TheVariants as lexeme
use Rattle.vh_parse_syntax.specs.Tokens.{is, is_name, is_system, is_text, is_number, in_rows, unary_rows, operator_at, shows_call, calls_in}
use Rattle.vh_parse_syntax.specs.Parts.{G, the, at_the, placed_row, a_system, a_text, a_number, inner_expr, inner_operand, comma_list, comma_more}
use Rattle.vh_parse_syntax.specs.Names.{Path, whole_name, name_before, sel_of, is_closed, path}

-- Trees of literals, where they stand (IEEE 1364-2005, 3.5 and 3.6).
abbrev pub number_expr : Place × Number → ExprTree
number_expr n = expr n.0 (number n.1)

abbrev pub text_expr : Place × List ℕ → ExprTree
text_expr s = expr s.0 (text s.1)

-- A system function, where its name stands, with its arguments or none (IEEE 1364-2005, 17).
abbrev pub system_expr : Id → Option (List ExprTree) → ExprTree
system_expr id None = expr id.place (system id (exprs []))
system_expr id (Some arguments) = expr id.place (system id (exprs arguments))

-- Brackets and braces, where they stand (IEEE 1364-2005, A.8.1 and A.8.4).
abbrev pub paren_expr : Place → ExprTree → ExprTree
paren_expr place e = expr place (paren e)

abbrev pub concat_expr : Place → ExprTree → List ExprTree → ExprTree
concat_expr place first more = expr place (concat (exprs (first ∷ more)))

abbrev pub repeat_expr : Place → ExprTree → List ExprTree → ExprTree
repeat_expr place count parts = expr place (repeat count (exprs parts))

-- A name with its select, and a call of a name (IEEE 1364-2005, 5.2 and 10.4.4).
abbrev pub named_expr : Path → ExprTree
named_expr p = named_at (name_before p) (sel_of p.last)

abbrev pub called_expr : Path → List ExprTree → ExprTree
called_expr p arguments = called (whole_name p) arguments

-- One of two expressions by a test, or the test alone (IEEE 1364-2005, 5.1.13).
abbrev pub choice_of : ExprTree → Option (ExprTree × ExprTree) → ExprTree
choice_of test None = test
choice_of test (Some branches) = chosen test branches.0 branches.1

-- expr { "," expr } ")" (IEEE 1364-2005, A.8.2)
unfoldable pub arguments : Bool → G (List ExprTree)
arguments calls = before (comma_list (inner_expr calls)) (the lexeme.RightParen)

-- What follows a name: the arguments of a call, where it has no select (IEEE 1364-2005, 10.4.4)
unfoldable pub name_end : Bool → Bool → Path → G ExprTree
name_end true calls p = done (named_expr p)
name_end false calls p =
    alt (is lexeme.LeftParen) (act (called_expr p) (after (the lexeme.LeftParen) (arguments calls)))
    (done (named_expr p))

-- name [ sel ] | name "(" expr { "," expr } ")": the "(" shows the call (IEEE 1364-2005, A.8.4)
unfoldable pub by_name : Bool → G ExprTree
by_name calls =
    bind (barred (λ p t. not calls && (not (is_closed p.last) && is lexeme.LeftParen t))
    (path (inner_expr calls) true))
    (λ p. name_end (is_closed p.last) calls p)

-- [ "(" expr { "," expr } ")" ], behind a system name (IEEE 1364-2005, A.8.2)
unfoldable pub system_end : Bool → Id → G ExprTree
system_end calls id =
    act (system_expr id) (opt (is lexeme.LeftParen)
    (after (the lexeme.LeftParen) (arguments (calls_in calls id))))

-- SYS [ "(" expr { "," expr } ")" ]: the name shows the call (IEEE 1364-2005, A.8.2)
unfoldable pub by_system : Bool → G ExprTree
by_system calls = unless (shows_call calls) (bind a_system (system_end calls))

-- "(" expr ")" (IEEE 1364-2005, A.8.4)
unfoldable pub parens : Bool → G ExprTree
parens calls =
    two paren_expr (at_the lexeme.LeftParen) (before (inner_expr calls) (the lexeme.RightParen))

-- What follows the first expression in braces (IEEE 1364-2005, A.8.1)
unfoldable pub braces_end : Bool → Place → ExprTree → G ExprTree
braces_end calls place e =
    alt (is lexeme.LeftBrace)
    (act (repeat_expr place e) (after (the lexeme.LeftBrace)
    (before (comma_list (inner_expr calls)) (seq (the lexeme.RightBrace) (the lexeme.RightBrace)))))
    (act (concat_expr place e) (before (comma_more (inner_expr calls)) (the lexeme.RightBrace)))

-- "{" expr { "," expr } "}" | "{" expr "{" expr { "," expr } "}" "}" (IEEE 1364-2005, A.8.1)
unfoldable pub braces : Bool → G ExprTree
braces calls =
    bind (at_the lexeme.LeftBrace) (λ place. bind (inner_expr calls) (braces_end calls place))

-- prim (IEEE 1364-2005, A.8.4)
unfoldable pub prim : Bool → G ExprTree
prim calls =
    alt is_number (act number_expr a_number)
    (alt is_text (act text_expr a_text)
    (alt is_name (by_name calls)
    (alt is_system (by_system calls)
    (alt (is lexeme.LeftParen) (parens calls) (braces calls)))))

-- An operand: a prim, or a unary operator and its operand (IEEE 1364-2005, A.8.3 and 5.1.2)
unfoldable pub unary_operand : Bool → G ExprTree
unary_operand calls = two (λ o e. unary_at o.0 o.1 e) (placed_row unary_rows) (inner_operand calls)

unfoldable pub any_operand : Bool → G ExprTree
any_operand calls = alt (in_rows unary_rows) (unary_operand calls) (prim calls)

-- A chain of the level: a chain of the level below, and any number of operators of the level with
-- such chains behind them; the lowest chain is an operand. `chain_tail` is what goes on behind its
-- first operand (IEEE 1364-2005, 5.1.2).
unfoldable pub chain_tail : ℕ → Bool → ExprTree → G ExprTree
chain_tail zero calls first = done first
chain_tail (suc level) calls first =
    bind (chain_tail level calls first)
    (λ e. act (chained e) (rep (λ t. is_some (operator_at level t))
    (seq (tok (operator_at level)) (bind (any_operand calls) (chain_tail level calls)))))

-- [ "?" expr ":" expr ] (IEEE 1364-2005, 5.1.13)
unfoldable pub choice_tail : Bool → ExprTree → G ExprTree
choice_tail calls test =
    act (choice_of test) (opt (is lexeme.Question)
    (after (the lexeme.Question) (seq (inner_expr calls)
    (after (the lexeme.Colon) (inner_expr calls)))))

-- What follows the first operand of an expression: eleven levels of binary operators, and a choice
-- (own)
unfoldable pub expression_tail : Bool → ExprTree → G ExprTree
expression_tail calls first = bind (chain_tail 11 calls first) (choice_tail calls)

-- An expression (IEEE 1364-2005, A.8.3)
unfoldable pub expression : Bool → G ExprTree
expression calls = bind (any_operand calls) (expression_tail calls)
