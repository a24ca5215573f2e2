-- The productions that are nested, their trees, and small parts of which the others are made.
use Rattle.std.specs.Prelude.{ℕ, Bool, List, None}
use Rattle.vh_base.specs.declared.place.Place.{Place}
use Rattle.vh_parse_grammar.specs.Part.{Part, tok, only, rep, nested, unless, after, before, listed}
use Rattle.vh_ast.specs.declared.token.Id.{Id}
use Rattle.vh_lex.specs.declared.token.Number.{Number}
use Rattle.vh_ast.specs.Expressions.{ExprTree}
use Rattle.vh_ast.specs.Statements.{StmtTree}
use Rattle.vh_ast.specs.Items.{GblockTree}
use Rattle.vh_parse_syntax.specs.declared.lexeme.Lexeme.{Lexeme}
use Rattle.vh_parse_syntax.specs.declared.lexeme.Lexeme.TheVariants as lexeme
use Rattle.vh_parse_syntax.specs.Tokens.{Token, is, row_at, name_of, system_of, text_of, number_of, with_place, place_if, id_with, shows_call}

-- The productions that are nested: an expression inside another one and an operand of a unary
-- operator, each with whether calls may stand in it; a statement, with whether it stands in a
-- function; a block of items (own).
pub data Name : Type 0 where
  expr : Bool → Name
  operand : Bool → Name
  stmt : Bool → Name
  gblock : Name

-- The trees of each (own).
abbrev pub tree_of : Name → Type 0
tree_of (expr calls) = ExprTree
tree_of (operand calls) = ExprTree
tree_of (stmt inside) = StmtTree
tree_of gblock = GblockTree

-- A part of the grammar (own).
abbrev pub G : Type 0 → Type 1
G A = Part Token tree_of A

-- The sign (own).
abbrev pub the : Lexeme → G (Unit {0})
the s = only (is s)

-- The sign, where it stands (own).
abbrev pub at_the : Lexeme → G Place
at_the s = tok (λ t. place_if (is s t) t.place)

-- A token of the rows, with what its row says; and where it stands (own).
abbrev pub row_in : {A : Type 0} → List (Lexeme × A) → G A
row_in rows = tok (row_at rows)

abbrev pub placed_row : {A : Type 0} → List (Lexeme × A) → G (Place × A)
placed_row rows = tok (λ t. with_place (row_at rows t) t.place)

-- ID, SYS, STRING and NUMBER (own).
abbrev pub an_id : G Id
an_id = tok (λ t. id_with (name_of t.kind) t.place)

abbrev pub a_system : G Id
a_system = tok (λ t. id_with (system_of t.kind) t.place)

abbrev pub a_text : G (Place × List ℕ)
a_text = tok (λ t. with_place (text_of t.kind) t.place)

abbrev pub a_number : G (Place × Number)
a_number = tok (λ t. with_place (number_of t.kind) t.place)

-- Nothing: whatever comes next is refused (own).
abbrev pub nothing : {A : Type 0} → G A
nothing = tok (λ t. None)

-- An expression inside another one, and the operand of a unary operator (own).
abbrev pub inner_expr : Bool → G ExprTree
inner_expr calls = unless (shows_call calls) (nested (expr calls))

abbrev pub inner_operand : Bool → G ExprTree
inner_operand calls = unless (shows_call calls) (nested (operand calls))

-- The part, and further ones behind commas (own).
abbrev pub comma_list : {A : Type 0} → G A → G (List A)
comma_list part = listed (is lexeme.Comma) (the lexeme.Comma) part

-- Further ones alone (own).
abbrev pub comma_more : {A : Type 0} → G A → G (List A)
comma_more part = rep (is lexeme.Comma) (after (the lexeme.Comma) part)

-- The part in parentheses (own).
abbrev pub in_parens : {A : Type 0} → G A → G A
in_parens part = after (the lexeme.LeftParen) (before part (the lexeme.RightParen))

-- The part and a ";" (own).
abbrev pub ended : {A : Type 0} → G A → G A
ended part = before part (the lexeme.Semicolon)
