-- What is answered for the tokens of an expression.
use Rattle.std.proofs.Common.{◌≡◌, ◌≤◌, ◌+◌, ◌-◌, ℕ, suc, Bool, List, ◌++◌, length, map, drop, refl, sym, ap, ◌∙◌, subst, Ok, arith, length-append}
use Rattle.std.proofs.lemmas.List.{length-map, length-drop, drop_at, drop-drop, drop-map}
use Rattle.vh_base.specs.declared.place.Place.{Place}
use Rattle.vh_parse_grammar.specs.declared.stop.Stop.TheVariants as stops
use Rattle.vh_parse_grammar.specs.Reading.{got}
use Rattle.vh_parse_grammar.specs.Sentences.{ReadsAt}
use Rattle.vh_parse_grammar.specs.Laws.{LawsOfProductions}
use Rattle.vh_parse_grammar.proofs.Outcomes.{reader-tree}
use Rattle.vh_ast.specs.declared.expr.Expr.{Expr}
use Rattle.vh_ast.specs.Expressions.{ExprTree}
use Rattle.vh_ast.specs.Views.{expr_tree}
use Rattle.vh_lex.specs.declared.token.Token as lexed
use Rattle.vh_parse_syntax.specs.Tokens.{Token, token_seen}
use Rattle.vh_parse_syntax.specs.Parts.{expr}
use Rattle.vh_parse_syntax.specs.Grammar.{grammar}
use Rattle.vh_parse_syntax.specs.Table.{syntax_table, eating, advancing}
use Rattle.vh_parse_expr.specs.Answers.{placed, expression_answer, Answered, IsParsed}
use Rattle.vh_parse_expr.proofs.ReadingLemmas.{Ends, ends-reader}

-- What is left are the last tokens, which their number tells
left-over : (all : List lexed.Token) (from : ℕ) (earlier rest : List Token) → from ≤ length all → map token_seen (drop from all) ≡ earlier ++ rest →
    (rest ≡ map token_seen (drop (length all - length rest) all)) × (from ≤ length all - length rest) × (length rest ≤ length all)
left-over all from earlier rest h e =
    let n : length earlier + length rest ≡ length all - from = omega (arith, length-append earlier rest, ap length e, length-map (drop from all) token_seen, length-drop from all) in
    let d : length all - length rest ≡ from + length earlier = omega arith in
    (rw d (sym (drop_at earlier rest (length earlier) refl) ∙ ap (λ l. drop (length earlier) l) (sym e) ∙ drop-map token_seen (length earlier) (drop from all) ∙ ap (λ l. map token_seen l) (drop-drop (length earlier) from all)), omega arith, omega arith)

-- The tokens of an expression are spelled so
pub spelled : (levels : ℕ) (calls : Bool) (ts rest : List Token) (a : ExprTree) → LawsOfProductions syntax_table → expression_answer levels calls ts ≡ got a rest → ReadsAt grammar (suc levels) (expr calls) a ts rest
spelled levels calls ts rest a laws e = (((laws (expr calls)).answers.tree (suc levels) a ts rest).0 e).0

-- A tree with the number of the token behind it, and what its tokens are
abbrev pub IsRead : ℕ → Bool → List lexed.Token → ℕ → Place → Expr × ℕ → List Token → Type 0
IsRead levels calls all from after e ts =
    IsParsed all from after (expression_answer levels calls ts) (Ok (e.0, length all - e.1))
    × ReadsAt grammar (suc levels) (expr calls) (expr_tree e.0) ts (map token_seen (drop (length all - e.1) all))
    × (e.1 ≤ length all)

parsed_from : (levels : ℕ) (calls : Bool) (all : List lexed.Token) (from : ℕ) (after : Place) (ts rest : List Token) (e : Expr × ℕ) → LawsOfProductions syntax_table → from ≤ length all → ts ≡ map token_seen (drop from all) →
    expression_answer levels calls ts ≡ got (expr_tree e.0) rest → length rest ≡ e.1 → IsRead levels calls all from after e ts
parsed_from levels calls all from after ts rest e laws h same told count =
    let reads : ReadsAt grammar (suc levels) (expr calls) (expr_tree e.0) ts rest = spelled levels calls ts rest (expr_tree e.0) laws told in
    let ends : Ends ts (got (expr_tree e.0) rest) = subst (λ o. Ends ts o) (reader-tree grammar eating advancing (suc levels) (expr calls) (expr_tree e.0) ts rest reads) (ends-reader grammar (suc levels) (expr calls) ts) in
    let over : (rest ≡ map token_seen (drop (length all - length rest) all)) × (from ≤ length all - length rest) × (length rest ≤ length all) = left-over all from ends.0 rest h (sym same ∙ ends.1) in
    let is : rest ≡ map token_seen (drop (length all - e.1) all) = subst (λ n. rest ≡ map token_seen (drop (length all - n) all)) count over.0 in (
      (ap (λ o. placed (drop from all) after o) told ∙ ap (λ l. Ok (expr_tree e.0, l)) is, subst (λ n. from ≤ length all - n) count over.1, omega arith),
      subst (λ l. ReadsAt grammar (suc levels) (expr calls) (expr_tree e.0) ts l) is reads,
      subst (λ n. n ≤ length all) count over.2,
    )

pub parsed : (levels : ℕ) (calls : Bool) (all : List lexed.Token) (from : ℕ) (after : Place) (seen : List Token) (e : Expr × ℕ) → LawsOfProductions syntax_table → from ≤ length all → seen ≡ map token_seen (drop from all) →
    Answered (expression_answer levels calls seen) (Ok e) → IsRead levels calls all from after e (map token_seen (drop from all))
parsed levels calls all from after seen e laws h same answer =
    subst (λ ts. IsRead levels calls all from after e ts) same (parsed_from levels calls all from after seen answer.0 e laws h same answer.1 answer.2)
