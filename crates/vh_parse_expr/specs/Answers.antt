-- What is answered for tokens: a tree, or a fault with its place.
use Rattle.std.specs.Prelude.{◌≡◌, ◌≤◌, ◌-◌, ℕ, suc, Bool, List, length, drop, map, slice_get, Option, Some, None, Result, Ok, Err}
use Rattle.vh_base.specs.declared.place.Place.{Place}
use Rattle.vh_base.specs.declared.faults.DesignFault.{DesignFault}
use Rattle.vh_base.specs.declared.faults.DesignFault.TheVariants.{S1, S2, S3}
use Rattle.vh_parse_grammar.specs.declared.stop.Stop.{Stop}
use Rattle.vh_parse_grammar.specs.declared.stop.Stop.TheVariants as stops
use Rattle.vh_parse_grammar.specs.Reading.{Fault, lost, deep, left_out, Out, got, stop}
use Rattle.vh_parse_grammar.specs.Says.{Stops}
use Rattle.vh_parse_grammar.specs.Table.{production}
use Rattle.vh_ast.specs.declared.expr.Expr.{Expr}
use Rattle.vh_ast.specs.Expressions.{ExprTree}
use Rattle.vh_ast.specs.Views.{expr_tree}
use Rattle.vh_lex.specs.declared.token.Token as lexed
use Rattle.vh_parse_syntax.specs.Tokens.{Token, token_seen}
use Rattle.vh_parse_syntax.specs.Parts.{expr}
use Rattle.vh_parse_syntax.specs.Table.{syntax_table}
use Rattle.vh_parse_expr.specs.declared.fault.ParseFault.{ParseFault}
use Rattle.vh_parse_expr.specs.declared.fault.ParseFault.TheVariants as faults

-- The place of a token, or the one after the last (own).
abbrev pub place_or : Option lexed.Token → Place → Place
place_or None after = after
place_or (Some t) after = t.place

-- The place with so many tokens left: that of a token, or the one after the last (own).
abbrev pub place_at : List lexed.Token → ℕ → Place → Place
place_at ts left after = place_or (slice_get ts (length ts - left)) after

-- Why a parser of the tokens stopped, as it is answered (own).
abbrev pub fault_at : List lexed.Token → Stop → Place → ParseFault
fault_at ts (stops.Lost left) after = faults.Refused S1 (place_at ts left after)
fault_at ts (stops.Deep left) after = faults.Refused S2 (place_at ts left after)
fault_at ts (stops.LeftOut left) after = faults.Refused S3 (place_at ts left after)
fault_at ts stops.Memory after = faults.NoMemory

-- What the table answers for the tokens of an expression, with so many levels left below it: the
-- laws of reading are about this (IEEE 1364-2005, A.8.3).
abbrev pub expression_answer : ℕ → Bool → List Token → Out Token ExprTree
expression_answer levels calls ts = (production syntax_table (expr calls)).answer (suc levels) ts

-- It is what a reading answers: a tree, seen without pointers, with so many tokens left; or why and
-- where it stops (own).
abbrev pub Answered : Out Token ExprTree → Result (Expr × ℕ) Stop → Type 0
Answered answer (Ok e) = (rest : List Token) × (answer ≡ got (expr_tree e.0) rest) × (length rest ≡ e.1)
Answered answer (Err why) = Stops answer why

-- The faults of the grammar: a token that could not stand there, or a missing one, is S1, a token
-- past the last level S2, and what is left out S3 (own).
abbrev pub grammar_fault : Fault → DesignFault
grammar_fault lost = S1
grammar_fault deep = S2
grammar_fault left_out = S3

-- An answer for the tokens, with its place: a tree and the tokens behind it, or a fault (own).
abbrev pub placed : {A : Type 0} → List lexed.Token → Place → Out Token A → Result (A × List Token) (DesignFault × Place)
placed ts after (got a rest) = Ok (a, rest)
placed ts after (stop fault left) = Err (grammar_fault fault, place_at ts left after)

-- It is what a parser of the tokens from a number on answers: the tree and the number of the token
-- behind it; a fault and its place; or that no memory was left, which says nothing of the tokens
-- (own).
abbrev pub IsParsed : List lexed.Token → ℕ → Place → Out Token ExprTree → Result (Expr × ℕ) ParseFault → Type 0
IsParsed all from after answer (Ok e) =
    (placed (drop from all) after answer ≡ Ok (expr_tree e.0, map token_seen (drop e.1 all)))
    × (from ≤ e.1) × (e.1 ≤ length all)
IsParsed all from after answer (Err (faults.Refused fault place)) =
    placed (drop from all) after answer ≡ Err (fault, place)
IsParsed all from after answer (Err faults.NoMemory) = Unit {0}
