-- Names and targets of the code, and words that are refused.
use Rattle.std.specs.Prelude.{slice_get, remove}
use Rattle.std.proofs.Common.{◌≡◌, ◌≤◌, ◌↔◌, IsTrue, ℕ, zero, suc, Bool, false, List, [], ◌∷◌, ◌++◌, length, map, get_or, refl, ap, sym, ◌∙◌, subst, Option, Some, None, arith}
use Rattle.std.proofs.lemmas.List.{map-append}
use Rattle.vh_parse_grammar.specs.declared.stop.Stop.{Stop}
use Rattle.vh_parse_grammar.specs.declared.stop.Stop.TheVariants as stops
use Rattle.vh_parse_grammar.specs.Reading.{Fault, lost, next_is}
use Rattle.vh_parse_grammar.specs.Omissions.{taken_from, noting_token, refusal, refused, omission_at}
use Rattle.vh_parse_grammar.specs.Says.{Stops}
use Rattle.vh_ast.specs.declared.name.Step.{Step}
use Rattle.vh_ast.specs.declared.expr.Expr.{Expr}
use Rattle.vh_ast.specs.declared.target.LvPart.{LvPart}
use Rattle.vh_ast.specs.declared.target.LvPart.TheVariants as lv
use Rattle.vh_ast.specs.Statements as S
use Rattle.vh_ast.specs.Statements.{LvPartTree, LvTree}
use Rattle.vh_base.specs.declared.place.Place.{Place}
use Rattle.vh_ast.specs.Expressions.{name, steps}
use Rattle.vh_ast.specs.Views.{expr_tree, name_tree, sel_tree, index_by, lv_part_tree}
use Rattle.vh_lex.specs.declared.token.Token as lexed
use Rattle.vh_parse_syntax.specs.Tokens.{Token, token_seen}
use Rattle.vh_parse_syntax.specs.Names.{name_by, lv_part, lv_of}
use Rattle.vh_parse_expr.specs.Views.{step_tree, tokens_seen, pieces_seen}

-- A name of its first step and those behind it
pub name_tree-steps : (earlier all : List (Step Expr)) (last first : Step Expr) (more : List (Step Expr)) → (IsTrue false ↔ (earlier ≡ [])) → all ≡ earlier ++ last ∷ [] → slice_get all 0 ≡ Some first → more ≡ remove all 0 →
    name_tree (record { first = first; more = more }) ≡ name_by (map step_tree earlier) last.id (index_by expr_tree last.index)
name_tree-steps [] all last first more empty e f m = absurd (none (empty.1 refl))
  where
    none : IsTrue false → ⊥
    none h = cc
name_tree-steps (s ∷ earlier) all last first more empty e f m = rw (m, sym first-is, e) (ap (λ l. name s.id (index_by expr_tree s.index) (steps l)) (map-append step_tree earlier (last ∷ [])))
  where
    first-is : s ≡ first
    first-is = let g : slice_get (s ∷ (earlier ++ last ∷ [])) 0 ≡ Some first = rw e at f in cc

-- A refusal is one, whatever was to be read
stops_any : (A B : Type 0) (fault : Fault) (left omission : ℕ) (s : Stop) → Stops (refusal {T = Token} {A = A} fault left omission) s → Stops (refusal {T = Token} {A = B} fault left omission) s
stops_any A B fault left zero (stops.Lost n) e = cc
stops_any A B fault left zero (stops.Deep n) e = cc
stops_any A B fault left zero (stops.LeftOut n) e = cc
stops_any A B fault left zero stops.Memory e = tt
stops_any A B fault left (suc omission) (stops.Lost n) e = cc
stops_any A B fault left (suc omission) (stops.Deep n) e = cc
stops_any A B fault left (suc omission) (stops.LeftOut n) e = cc
stops_any A B fault left (suc omission) stops.Memory e = tt

-- A word that doesn't mean it is refused
pub stops_at : {A : Type 0} (word : Token → Bool) (meaning : Token → Option A) (all : List lexed.Token) (w : lexed.Token) (omission : ℕ) (s : Stop) → 1 ≤ length all → w ≡ get_or all 0 w → None ≡ meaning (token_seen w) →
    Stops (refused {A = Unit {0}} word lost (tokens_seen all) omission) s → Stops (noting_token word meaning (tokens_seen all) omission) s
stops_at word meaning [] w omission s h is none e = absurd (omega arith)
stops_at {A} word meaning (u ∷ all) w omission s h is none e =
    let n : None ≡ meaning (token_seen u) = none ∙ ap (λ x. meaning (token_seen x)) is in
    subst (λ (o : Option A). Stops (taken_from word o (token_seen u) (tokens_seen all) omission) s) n
    (stops_any (Unit {0}) (A × ℕ) lost (length (tokens_seen (u ∷ all))) (omission_at (tokens_seen (u ∷ all)) (next_is word (tokens_seen (u ∷ all))) omission) s e)

-- What stands in a row of targets
lv_parts-pieces : (parts : List LvPart) → map lv_part_tree parts ≡ map lv_part (pieces_seen parts)
lv_parts-pieces [] = refl
lv_parts-pieces (lv.Open ∷ parts) = ap (λ l. S.opened ∷ l) (lv_parts-pieces parts)
lv_parts-pieces (lv.Name n s ∷ parts) = ap (λ l. S.target (name_tree n) (sel_tree s) ∷ l) (lv_parts-pieces parts)
lv_parts-pieces (lv.Close ∷ parts) = ap (λ l. S.closed ∷ l) (lv_parts-pieces parts)

abbrev row_tree_of : Place → List LvPartTree → LvTree
row_tree_of place parts = record { place = place; parts = parts }

pub lv_tree-pieces : (place : Place) (parts : List LvPart) → row_tree_of place (map lv_part_tree parts) ≡ lv_of place (pieces_seen parts)
lv_tree-pieces place parts = ap (λ l. row_tree_of place l) (lv_parts-pieces parts)
