-- The conditions of expressions.
use Rattle.std.proofs.Common.{◌≡◌, ℕ, zero, suc, Bool, true, false, ◌||◌, ◌&&◌, is_some, Option, Some, None, refl, ap, ap₂, sym, ◌∙◌}
use Rattle.std.proofs.Math.Bool.{or-false}
use Rattle.vh_base.specs.declared.place.Place.{Place}
use Rattle.vh_parse_grammar.specs.Part.{seq, bind, tok}
use Rattle.vh_parse_grammar.specs.Conditions.{eats, Advances}
use Rattle.vh_parse_grammar.specs.Firsts.{decided, behind, without_token, first}
use Rattle.vh_parse_grammar.specs.Choices.{Heeds}
use Rattle.vh_ast.specs.declared.token.Id.{Id}
use Rattle.vh_ast.specs.Expressions.{ExprTree}
use Rattle.vh_ast.specs.declared.operator.Binary.{Binary}
use Rattle.vh_parse_syntax.specs.declared.lexeme.Lexeme.TheVariants as lexeme
use Rattle.vh_parse_syntax.specs.Tokens.{Token, Terminal, opening, fixed, name, system, text, number, row_at, binary_rows, operator_at, begins_expression}
use Rattle.vh_parse_syntax.specs.Parts.{G, inner_expr}
use Rattle.vh_parse_syntax.specs.Names.{Path, path, is_closed}
use Rattle.vh_parse_syntax.specs.Expressions.{arguments, name_end, by_name, system_end, by_system, parens, braces_end, braces, prim, unary_operand, any_operand, chain_tail, choice_tail, expression_tail, expression}
use Rattle.vh_parse_syntax.specs.Grammar.{begins}
use Rattle.vh_parse_syntax.specs.Conditions.{at, skip}
use Rattle.vh_parse_syntax.specs.Levels.{below, apart}
use Rattle.vh_parse_syntax.specs.NameConditions.{path_advances, path_heeds}

-- Each production takes a token.
pub operand_eats : (calls : Bool) → eats (any_operand calls) ≡ true
unfolding any_operand unary_operand prim by_name path by_system parens braces
operand_eats calls = refl

pub expression_eats : (calls : Bool) → eats (expression calls) ≡ true
unfolding expression any_operand unary_operand prim by_name path by_system parens braces
expression_eats calls = refl

-- Each turn of a repetition takes a token.
arguments_advance : (calls : Bool) → Advances (arguments calls)
unfolding arguments
arguments_advance calls = ((tt, (refl, (tt, tt))), tt)

name_end_advances : (closed calls : Bool) (p : Path) → Advances (name_end closed calls p)
unfolding name_end
name_end_advances true calls p = tt
name_end_advances false calls p = ((tt, arguments_advance calls), tt)

by_name_advances : (calls : Bool) → Advances (by_name calls)
unfolding by_name
by_name_advances calls = (path_advances (inner_expr calls) tt true, λ p. name_end_advances (is_closed p.last) calls p)

by_system_advances : (calls : Bool) → Advances (by_system calls)
unfolding by_system system_end
by_system_advances calls = (tt, λ id. ((tt, arguments_advance _), tt))

braces_end_advances : (calls : Bool) (place : Place) (e : ExprTree) → Advances (braces_end calls place e)
unfolding braces_end
braces_end_advances calls place e = ((tt, ((tt, (refl, (tt, tt))), (tt, tt))), ((refl, (tt, tt)), tt))

pub operand_advances : (calls : Bool) → Advances (any_operand calls)
unfolding any_operand unary_operand prim parens braces
operand_advances calls = ((tt, tt), (tt, (tt, (by_name_advances calls, (by_system_advances calls, ((tt, (tt, tt)), (tt, λ place. (tt, λ e. braces_end_advances calls place e))))))))

pub chain_advances : (level : ℕ) (calls : Bool) (e : ExprTree) → Advances (chain_tail level calls e)
unfolding chain_tail
chain_advances zero calls e = tt
chain_advances (suc level) calls e = (chain_advances level calls e, λ a. (refl, (tt, (operand_advances calls, λ b. chain_advances level calls b))))

choice_advances : (calls : Bool) (e : ExprTree) → Advances (choice_tail calls e)
unfolding choice_tail
choice_advances calls e = ((tt, (tt, (tt, tt))), tt)

pub expression_advances : (calls : Bool) → Advances (expression calls)
unfolding expression expression_tail
expression_advances calls = (operand_advances calls, λ a. (chain_advances 11 calls a, λ e. choice_advances calls e))

-- Each choice is made right at each token.
pub none_of_expression : (calls : Bool) → without_token (expression calls) ≡ None
unfolding expression any_operand prim braces
none_of_expression calls = refl

pub first_of_expression : (calls : Bool) (kind : Terminal) (place : Place) → begins_expression (at kind place) ≡ first begins (expression calls) (at kind place)
unfolding expression any_operand unary_operand prim by_name path by_system parens braces
first_of_expression calls (opening s) place = refl
first_of_expression calls (fixed lexeme.Plus) place = refl
first_of_expression calls (fixed s) place = refl
first_of_expression calls (name b) place = refl
first_of_expression calls (system b) place = refl
first_of_expression calls (text b) place = refl
first_of_expression calls (number v z) place = refl

arguments_heed : (calls : Bool) (kind : Terminal) (place : Place) → Heeds begins (arguments calls) (at kind place)
unfolding arguments
arguments_heed calls (opening s) place = (refl, (refl, tt, (refl, (refl, tt, tt))), tt)
arguments_heed calls (fixed lexeme.Comma) place = (refl, (refl, tt, (refl, (refl, tt, tt))), tt)
arguments_heed calls (fixed s) place = (refl, (refl, tt, (refl, (refl, tt, tt))), tt)
arguments_heed calls (name b) place = (refl, (refl, tt, (refl, (refl, tt, tt))), tt)
arguments_heed calls (system b) place = (refl, (refl, tt, (refl, (refl, tt, tt))), tt)
arguments_heed calls (text b) place = (refl, (refl, tt, (refl, (refl, tt, tt))), tt)
arguments_heed calls (number v z) place = (refl, (refl, tt, (refl, (refl, tt, tt))), tt)

name_end_heeds : (closed calls : Bool) (p : Path) (kind : Terminal) (place : Place) → Heeds begins (name_end closed calls p) (at kind place)
unfolding name_end
name_end_heeds true calls p kind place = tt
name_end_heeds false calls p (opening s) place = (refl, refl, (refl, tt, arguments_heed calls (opening s) place), tt)
name_end_heeds false calls p (fixed lexeme.LeftParen) place = (refl, refl, (refl, tt, arguments_heed calls (fixed lexeme.LeftParen) place), tt)
name_end_heeds false calls p (fixed s) place = (refl, refl, (refl, tt, arguments_heed calls (fixed s) place), tt)
name_end_heeds false calls p (name b) place = (refl, refl, (refl, tt, arguments_heed calls (name b) place), tt)
name_end_heeds false calls p (system b) place = (refl, refl, (refl, tt, arguments_heed calls (system b) place), tt)
name_end_heeds false calls p (text b) place = (refl, refl, (refl, tt, arguments_heed calls (text b) place), tt)
name_end_heeds false calls p (number v z) place = (refl, refl, (refl, tt, arguments_heed calls (number v z) place), tt)

by_name_heeds : (calls : Bool) (t : Token) → Heeds begins (by_name calls) t
unfolding by_name path
by_name_heeds calls t = (refl, path_heeds (inner_expr calls) refl true t tt, λ p. name_end_heeds (is_closed p.last) calls p t.kind t.place)

system_end_heeds : (calls : Bool) (id : Id) (kind : Terminal) (place : Place) → Heeds begins (system_end calls id) (at kind place)
unfolding system_end
system_end_heeds calls id (opening s) place = (refl, refl, (refl, tt, arguments_heed _ (opening s) place), tt)
system_end_heeds calls id (fixed lexeme.LeftParen) place = (refl, refl, (refl, tt, arguments_heed _ (fixed lexeme.LeftParen) place), tt)
system_end_heeds calls id (fixed s) place = (refl, refl, (refl, tt, arguments_heed _ (fixed s) place), tt)
system_end_heeds calls id (name b) place = (refl, refl, (refl, tt, arguments_heed _ (name b) place), tt)
system_end_heeds calls id (system b) place = (refl, refl, (refl, tt, arguments_heed _ (system b) place), tt)
system_end_heeds calls id (text b) place = (refl, refl, (refl, tt, arguments_heed _ (text b) place), tt)
system_end_heeds calls id (number v z) place = (refl, refl, (refl, tt, arguments_heed _ (number v z) place), tt)

by_system_heeds : (calls : Bool) (t : Token) → Heeds begins (by_system calls) t
unfolding by_system
by_system_heeds calls t = (refl, tt, λ id. system_end_heeds calls id t.kind t.place)

braces_end_heeds : (calls : Bool) (p : Place) (e : ExprTree) (kind : Terminal) (place : Place) → Heeds begins (braces_end calls p e) (at kind place)
unfolding braces_end
braces_end_heeds calls p e (opening s) place = (refl, refl, (refl, tt, (refl, (refl, tt, (refl, (refl, tt, tt))), (refl, tt, tt))), (refl, (refl, (refl, tt, tt)), tt))
braces_end_heeds calls p e (fixed lexeme.LeftBrace) place = (refl, refl, (refl, tt, (refl, (refl, tt, (refl, (refl, tt, tt))), (refl, tt, tt))), (refl, (refl, (refl, tt, tt)), tt))
braces_end_heeds calls p e (fixed s) place = (refl, refl, (refl, tt, (refl, (refl, tt, (refl, (refl, tt, tt))), (refl, tt, tt))), (refl, (refl, (refl, tt, tt)), tt))
braces_end_heeds calls p e (name b) place = (refl, refl, (refl, tt, (refl, (refl, tt, (refl, (refl, tt, tt))), (refl, tt, tt))), (refl, (refl, (refl, tt, tt)), tt))
braces_end_heeds calls p e (system b) place = (refl, refl, (refl, tt, (refl, (refl, tt, (refl, (refl, tt, tt))), (refl, tt, tt))), (refl, (refl, (refl, tt, tt)), tt))
braces_end_heeds calls p e (text b) place = (refl, refl, (refl, tt, (refl, (refl, tt, (refl, (refl, tt, tt))), (refl, tt, tt))), (refl, (refl, (refl, tt, tt)), tt))
braces_end_heeds calls p e (number v z) place = (refl, refl, (refl, tt, (refl, (refl, tt, (refl, (refl, tt, tt))), (refl, tt, tt))), (refl, (refl, (refl, tt, tt)), tt))

braces_heed : (calls : Bool) (t : Token) → Heeds begins (braces calls) t
unfolding braces
braces_heed calls t = (refl, tt, λ p. (refl, tt, λ e. braces_end_heeds calls p e t.kind t.place))

prim_heeds : (calls : Bool) (kind : Terminal) (place : Place) → Heeds begins (prim calls) (at kind place)
unfolding prim by_name path by_system parens braces
prim_heeds calls (opening s) place = (refl, refl, tt, (refl, refl, tt, (refl, refl, by_name_heeds calls (at (opening s) place), (refl, refl, by_system_heeds calls (at (opening s) place), (refl, refl, (refl, tt, (refl, tt, tt)), braces_heed calls (at (opening s) place))))))
prim_heeds calls (fixed lexeme.LeftParen) place = (refl, refl, tt, (refl, refl, tt, (refl, refl, by_name_heeds calls (at (fixed lexeme.LeftParen) place), (refl, refl, by_system_heeds calls (at (fixed lexeme.LeftParen) place), (refl, refl, (refl, tt, (refl, tt, tt)), braces_heed calls (at (fixed lexeme.LeftParen) place))))))
prim_heeds calls (fixed s) place = (refl, refl, tt, (refl, refl, tt, (refl, refl, by_name_heeds calls (at (fixed s) place), (refl, refl, by_system_heeds calls (at (fixed s) place), (refl, refl, (refl, tt, (refl, tt, tt)), braces_heed calls (at (fixed s) place))))))
prim_heeds calls (name b) place = (refl, refl, tt, (refl, refl, tt, (refl, refl, by_name_heeds calls (at (name b) place), (refl, refl, by_system_heeds calls (at (name b) place), (refl, refl, (refl, tt, (refl, tt, tt)), braces_heed calls (at (name b) place))))))
prim_heeds calls (system b) place = (refl, refl, tt, (refl, refl, tt, (refl, refl, by_name_heeds calls (at (system b) place), (refl, refl, by_system_heeds calls (at (system b) place), (refl, refl, (refl, tt, (refl, tt, tt)), braces_heed calls (at (system b) place))))))
prim_heeds calls (text b) place = (refl, refl, tt, (refl, refl, tt, (refl, refl, by_name_heeds calls (at (text b) place), (refl, refl, by_system_heeds calls (at (text b) place), (refl, refl, (refl, tt, (refl, tt, tt)), braces_heed calls (at (text b) place))))))
prim_heeds calls (number v z) place = (refl, refl, tt, (refl, refl, tt, (refl, refl, by_name_heeds calls (at (number v z) place), (refl, refl, by_system_heeds calls (at (number v z) place), (refl, refl, (refl, tt, (refl, tt, tt)), braces_heed calls (at (number v z) place))))))

pub operand_heeds : (calls : Bool) (kind : Terminal) (place : Place) → Heeds begins (any_operand calls) (at kind place)
unfolding any_operand unary_operand prim by_name path by_system parens braces
operand_heeds calls (opening s) place = (refl, refl, (refl, tt, tt), prim_heeds calls (opening s) place)
operand_heeds calls (fixed lexeme.Plus) place = (refl, refl, (refl, tt, tt), prim_heeds calls (fixed lexeme.Plus) place)
operand_heeds calls (fixed s) place = (refl, refl, (refl, tt, tt), prim_heeds calls (fixed s) place)
operand_heeds calls (name b) place = (refl, refl, (refl, tt, tt), prim_heeds calls (name b) place)
operand_heeds calls (system b) place = (refl, refl, (refl, tt, tt), prim_heeds calls (system b) place)
operand_heeds calls (text b) place = (refl, refl, (refl, tt, tt), prim_heeds calls (text b) place)
operand_heeds calls (number v z) place = (refl, refl, (refl, tt, tt), prim_heeds calls (number v z) place)

-- What goes on behind an operand: operators of the levels below, and no two levels have one operator.
chain_none : (level : ℕ) (calls : Bool) (e : ExprTree) → without_token (chain_tail level calls e) ≡ Some e
unfolding chain_tail
chain_none zero calls e = refl
chain_none (suc level) calls e = ap (λ o. decided o (λ a. Some a)) (chain_none level calls e)

none_of_operand : (calls : Bool) → without_token (any_operand calls) ≡ None
unfolding any_operand prim braces
none_of_operand calls = refl

chain_first : (level : ℕ) (calls : Bool) (e : ExprTree) (t : Token) → first begins (chain_tail level calls e) t ≡ below level (row_at binary_rows t)
unfolding chain_tail
chain_first zero calls e t = refl
chain_first (suc level) calls e t =
    ap₂ (λ (x y : Bool). x || y) (chain_first level calls e t)
    (ap (λ (o : Option ExprTree). behind o (λ _. is_some (operator_at level t) || false)) (chain_none level calls e) ∙ or-false (is_some (operator_at level t)))

abbrev link : ℕ → Bool → G (Binary × ExprTree)
link level calls = seq (tok (operator_at level)) (bind (any_operand calls) (chain_tail level calls))

link_heeds : (level : ℕ) (calls : Bool) (t : Token) → Heeds begins (any_operand calls) t → ((e : ExprTree) → Heeds begins (chain_tail level calls e) t) → Heeds begins (link level calls) t
link_heeds level calls t h g = (refl, tt, (skip (without_token (any_operand calls)) (λ a. first begins (chain_tail level calls a) t) (first begins (any_operand calls) t) (none_of_operand calls), h, g))

chain_heeds : (level : ℕ) (calls : Bool) (e : ExprTree) (t : Token) → Heeds begins (any_operand calls) t → Heeds begins (chain_tail level calls e) t
unfolding chain_tail
chain_heeds zero calls e t h = tt
chain_heeds (suc level) calls e t h = (
  ap₂ (λ (x y : Bool). x && y)
      (ap (λ (o : Option ExprTree). behind o (λ _. is_some (operator_at level t) || false)) (chain_none level calls e) ∙ or-false (is_some (operator_at level t)))
      (chain_first level calls e t) ∙ apart level (row_at binary_rows t),
  chain_heeds level calls e t h,
  λ a. (sym (or-false (is_some (operator_at level t))), link_heeds level calls t h (λ b. chain_heeds level calls b t h)),
)

choice_apart : (calls : Bool) (e : ExprTree) (kind : Terminal) (place : Place) → (first begins (choice_tail calls e) (at kind place) && below 11 (row_at binary_rows (at kind place))) ≡ false
unfolding choice_tail
choice_apart calls e (opening s) place = refl
choice_apart calls e (fixed lexeme.Question) place = refl
choice_apart calls e (fixed s) place = refl
choice_apart calls e (name b) place = refl
choice_apart calls e (system b) place = refl
choice_apart calls e (text b) place = refl
choice_apart calls e (number v z) place = refl

choice_heeds : (calls : Bool) (e : ExprTree) (kind : Terminal) (place : Place) → Heeds begins (choice_tail calls e) (at kind place)
unfolding choice_tail
choice_heeds calls e (opening s) place = (refl, refl, (refl, tt, (refl, tt, (refl, tt, tt))), tt)
choice_heeds calls e (fixed lexeme.Question) place = (refl, refl, (refl, tt, (refl, tt, (refl, tt, tt))), tt)
choice_heeds calls e (fixed s) place = (refl, refl, (refl, tt, (refl, tt, (refl, tt, tt))), tt)
choice_heeds calls e (name b) place = (refl, refl, (refl, tt, (refl, tt, (refl, tt, tt))), tt)
choice_heeds calls e (system b) place = (refl, refl, (refl, tt, (refl, tt, (refl, tt, tt))), tt)
choice_heeds calls e (text b) place = (refl, refl, (refl, tt, (refl, tt, (refl, tt, tt))), tt)
choice_heeds calls e (number v z) place = (refl, refl, (refl, tt, (refl, tt, (refl, tt, tt))), tt)

tail_heeds : (calls : Bool) (e : ExprTree) (t : Token) → Heeds begins (expression_tail calls e) t
unfolding expression_tail
tail_heeds calls e t = (
  ap₂ (λ (x y : Bool). x && y) (ap (λ (o : Option ExprTree). behind o (λ a. first begins (choice_tail calls a) t)) (chain_none 11 calls e)) (chain_first 11 calls e t)
      ∙ choice_apart calls e t.kind t.place,
  chain_heeds 11 calls e t (operand_heeds calls t.kind t.place),
  λ a. choice_heeds calls a t.kind t.place,
)

pub expression_heeds : (calls : Bool) (t : Token) → Heeds begins (expression calls) t
unfolding expression
expression_heeds calls t = (
  skip (without_token (any_operand calls)) (λ a. first begins (expression_tail calls a) t) (first begins (any_operand calls) t) (none_of_operand calls),
  operand_heeds calls t.kind t.place,
  λ a. tail_heeds calls a t,
)
