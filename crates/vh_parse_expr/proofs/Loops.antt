-- A turn of each loop of the parser.
use Rattle.std.proofs.Common.{◌≡◌, ◌≢◌, ◌⊎◌, inl, inr, ℕ, zero, suc, ◌<◌, ◌≤◌, eqb, Bool, true, false, List, [], ◌∷◌, ◌++◌, length, is_some, refl, ap, subst, ◌∙◌, arith}
use Rattle.std.proofs.lemmas.Bool.Decides.{eqb_tells}
use Rattle.std.proofs.lemmas.List.{length-map, append-nil}
use Rattle.vh_parse_grammar.specs.declared.stop.Stop.{Stop}
use Rattle.vh_parse_grammar.specs.declared.stop.Stop.TheVariants as stops
use Rattle.vh_parse_grammar.specs.Part.{act, after}
use Rattle.vh_parse_grammar.specs.Conditions.{Advances}
use Rattle.vh_parse_grammar.specs.Nest.{Row}
use Rattle.vh_parse_grammar.specs.Reading.{Fault, lost, deep, left_out, Out, got, stop, then_, next_is}
use Rattle.vh_parse_grammar.specs.Says.{Stops}
use Rattle.vh_parse_grammar.specs.Omissions.{noted, joined_noted}
use Rattle.vh_parse_grammar.proofs.OmissionTurns.{noted_less, noted_end, joined_noted_turn, iter_noted_turn}
use Rattle.vh_ast.specs.declared.operator.Binary.{Binary}
use Rattle.vh_ast.specs.Expressions.{ExprTree, chained}
use Rattle.vh_parse_syntax.specs.declared.lexeme.Lexeme.TheVariants as lexeme
use Rattle.vh_lex.specs.declared.token.Token as lexed
use Rattle.vh_parse_syntax.specs.Tokens.{Token, token_seen, is, is_unused, operator_at}
use Rattle.vh_parse_syntax.specs.Parts.{the, comma_more}
use Rattle.vh_parse_syntax.specs.Names.{Path, Target, path_goes, path_turn, row_goes, row_turn}
use Rattle.vh_parse_syntax.specs.Expressions.{chain_tail, expression}
use Rattle.vh_parse_syntax.specs.Grammar.{grammar}
use Rattle.vh_parse_syntax.specs.NameConditions.{path_turn_advances, row_turn_advances}
use Rattle.vh_parse_syntax.specs.ExpressionConditions.{operand_advances, chain_advances, expression_advances}
use Rattle.vh_parse_syntax.specs.Table.{eating, advancing}
use Rattle.vh_parse_expr.specs.declared.expr.Enclosure.{Enclosure}
use Rattle.vh_parse_expr.specs.declared.expr.Enclosure.TheVariants as enclosure
use Rattle.vh_parse_expr.specs.Pieces.{expr_at, steps_of, link_part, links_part, rows_of}
use Rattle.vh_parse_expr.specs.Views.{tokens_seen}

-- With the tokens before the code
pub fewer : (us vs : List lexed.Token) → length (tokens_seen vs) < length (tokens_seen us) → length vs < length us
fewer us vs l = omega (arith, length-map us token_seen, length-map vs token_seen)

-- Each repetition in an expression takes a token
pub expr_at_advances : (s : Enclosure) (calls : Bool) → Advances (expr_at s calls)
expr_at_advances enclosure.Inner calls = tt
expr_at_advances enclosure.Outermost calls = expression_advances calls

link_advances : (level : ℕ) (calls : Bool) → Advances (link_part level calls)
link_advances level calls = (tt, (operand_advances calls, λ e. chain_advances level calls e))

-- A path goes on by a step
pub path_goes_on : (s : Enclosure) (calls : Bool) (depth : ℕ) (sel : Bool) (p q : Path) (ts mid : List Token) (m k : ℕ) → next_is (path_goes sel p.last) ts ≡ true →
    noted is_unused grammar depth (path_turn (expr_at s calls) sel p.last p) ts m ≡ got (q, k) mid →
    noted is_unused grammar depth (steps_of (expr_at s calls) sel p) ts m ≡ noted is_unused grammar depth (steps_of (expr_at s calls) sel q) mid k
path_goes_on s calls depth sel p q ts mid m k c r =
    iter_noted_turn is_unused grammar eating advancing depth (λ u t. path_goes sel u.last t) (λ u. path_turn (expr_at s calls) sel u.last u)
    (λ u. path_turn_advances (expr_at s calls) (expr_at_advances s calls) sel u.last u) p ts m q k mid c r

pub path_less : (s : Enclosure) (calls : Bool) (depth : ℕ) (sel : Bool) (p : Path) (q : Path × ℕ) (ts mid : List Token) (m : ℕ) →
    noted is_unused grammar depth (path_turn (expr_at s calls) sel p.last p) ts m ≡ got q mid → length mid < length ts
path_less s calls depth sel p q ts mid m r =
    noted_less is_unused grammar eating advancing depth (path_turn (expr_at s calls) sel p.last p)
    (path_turn_advances (expr_at s calls) (expr_at_advances s calls) sel p.last p).1 (path_turn_advances (expr_at s calls) (expr_at_advances s calls) sel p.last p).0 ts m q mid r

-- A list goes on by an expression
pub exprs_go_on : (s : Enclosure) (calls : Bool) (depth : ℕ) (earlier : List ExprTree) (e : ExprTree) (ts mid : List Token) (m k : ℕ) → next_is (is lexeme.Comma) ts ≡ true →
    noted is_unused grammar depth (after (the lexeme.Comma) (expr_at s calls)) ts m ≡ got (e, k) mid →
    joined_noted earlier (noted is_unused grammar depth (comma_more (expr_at s calls)) ts m) ≡ joined_noted (earlier ++ e ∷ []) (noted is_unused grammar depth (comma_more (expr_at s calls)) mid k)
exprs_go_on s calls depth earlier e ts mid m k c r =
    joined_noted_turn is_unused grammar eating advancing depth (is lexeme.Comma) (after (the lexeme.Comma) (expr_at s calls)) (tt, expr_at_advances s calls) refl earlier ts m e k mid c r

pub expr_less : (s : Enclosure) (calls : Bool) (depth : ℕ) (e : ExprTree × ℕ) (ts mid : List Token) (m : ℕ) →
    noted is_unused grammar depth (after (the lexeme.Comma) (expr_at s calls)) ts m ≡ got e mid → length mid < length ts
expr_less s calls depth e ts mid m r = noted_less is_unused grammar eating advancing depth (after (the lexeme.Comma) (expr_at s calls)) (tt, expr_at_advances s calls) refl ts m e mid r

-- A chain goes on by an operator and what stands behind it
pub links_go_on : (depth level : ℕ) (calls : Bool) (earlier : List (Binary × ExprTree)) (l : Binary × ExprTree) (ts mid : List Token) (m k : ℕ) → next_is (λ t. is_some (operator_at level t)) ts ≡ true →
    noted is_unused grammar depth (link_part level calls) ts m ≡ got (l, k) mid →
    joined_noted earlier (noted is_unused grammar depth (links_part level calls) ts m) ≡ joined_noted (earlier ++ l ∷ []) (noted is_unused grammar depth (links_part level calls) mid k)
links_go_on depth level calls earlier l ts mid m k c r =
    joined_noted_turn is_unused grammar eating advancing depth (λ t. is_some (operator_at level t)) (link_part level calls) (link_advances level calls) refl earlier ts m l k mid c r

pub link_less : (depth level : ℕ) (calls : Bool) (l : (Binary × ExprTree) × ℕ) (ts mid : List Token) (m : ℕ) →
    noted is_unused grammar depth (link_part level calls) ts m ≡ got l mid → length mid < length ts
link_less depth level calls l ts mid m r = noted_less is_unused grammar eating advancing depth (link_part level calls) (link_advances level calls) refl ts m l mid r

-- The chain of a level is one of the level below with the operators of the level behind it
pub chain_ends : (depth level : ℕ) (calls : Bool) (e a : ExprTree) (ts mid rest : List Token) (m k omission : ℕ) (earlier : List (Binary × ExprTree)) →
    noted is_unused grammar depth (chain_tail level calls e) ts m ≡ got (a, k) mid →
    noted is_unused grammar depth (links_part level calls) mid k ≡ joined_noted earlier (noted is_unused grammar depth (links_part level calls) rest omission) →
    next_is (λ t. is_some (operator_at level t)) rest ≡ false →
    noted is_unused grammar depth (chain_tail (suc level) calls e) ts m ≡ got (chained a earlier, omission) rest
unfolding chain_tail
chain_ends depth level calls e a ts mid rest m k omission earlier below links none =
    let chains : ExprTree × ℕ → List Token → Out Token (ExprTree × ℕ) = λ x r. noted is_unused grammar depth (act (chained x.0) (links_part level calls)) r x.1 in
    let puts : List (Binary × ExprTree) × ℕ → List Token → Out Token (ExprTree × ℕ) = λ x r. got (chained a x.0, x.1) r in
    let end : noted is_unused grammar depth (links_part level calls) rest omission ≡ got ([], omission) rest = noted_end is_unused grammar eating advancing depth (λ t. is_some (operator_at level t)) (link_part level calls) rest omission none in
    ap (λ o. then_ o chains) below
    ∙ ap (λ o. then_ o puts) (links ∙ ap (λ o. joined_noted earlier o) end)
    ∙ ap (λ l. got (chained a l, omission) rest) (append-nil earlier)

-- Where a chain of a level stops, all chains above it do
stops-above : (depth low level : ℕ) (calls : Bool) (e : ExprTree) (ts : List Token) (m : ℕ) (fault : Fault) (left : ℕ) → low ≤ level →
    noted is_unused grammar depth (chain_tail low calls e) ts m ≡ stop fault left → noted is_unused grammar depth (chain_tail level calls e) ts m ≡ stop fault left
unfolding chain_tail
stops-above depth low zero calls e ts m fault left h r = let same : low ≡ zero = omega arith in subst (λ k. noted is_unused grammar depth (chain_tail k calls e) ts m ≡ stop fault left) same r
stops-above depth low (suc level) calls e ts m fault left h r = decide (eqb_tells low (suc level)) (λ below. stops-above depth low level calls e ts m fault left below r)
  where
    decide : ((eqb low (suc level) ≡ true) × (low ≡ suc level)) ⊎ ((eqb low (suc level) ≡ false) × (low ≢ suc level)) → (low ≤ level → noted is_unused grammar depth (chain_tail level calls e) ts m ≡ stop fault left) →
        noted is_unused grammar depth (chain_tail (suc level) calls e) ts m ≡ stop fault left
    decide (inl same) before = subst (λ k. noted is_unused grammar depth (chain_tail k calls e) ts m ≡ stop fault left) same.1 r
    decide (inr other) before =
        let chains : ExprTree × ℕ → List Token → Out Token (ExprTree × ℕ) = λ x r. noted is_unused grammar depth (act (chained x.0) (links_part level calls)) r x.1 in
        let differ : low ≢ suc level = other.1 in
        ap (λ o. then_ o chains) (before (omega arith))

turn-stops : (depth level : ℕ) (calls : Bool) (ts : List Token) (m : ℕ) (fault : Fault) (left : ℕ) → next_is (λ t. is_some (operator_at level t)) ts ≡ true →
    noted is_unused grammar depth (link_part level calls) ts m ≡ stop fault left → noted is_unused grammar depth (links_part level calls) ts m ≡ stop fault left
turn-stops depth level calls [] m fault left c r = cc
turn-stops depth level calls (t ∷ ts) m fault left c r = rw (c, r) refl

chain-fault : (depth low level : ℕ) (calls : Bool) (e a : ExprTree) (ts mid rest : List Token) (m k omission : ℕ) (earlier : List (Binary × ExprTree)) (fault : Fault) (left : ℕ) → low < level →
    noted is_unused grammar depth (chain_tail low calls e) ts m ≡ got (a, k) mid →
    noted is_unused grammar depth (links_part low calls) mid k ≡ joined_noted earlier (noted is_unused grammar depth (links_part low calls) rest omission) →
    next_is (λ t. is_some (operator_at low t)) rest ≡ true →
    noted is_unused grammar depth (link_part low calls) rest omission ≡ stop fault left → noted is_unused grammar depth (chain_tail level calls e) ts m ≡ stop fault left
unfolding chain_tail
chain-fault depth low level calls e a ts mid rest m k omission earlier fault left h below links next r =
    let chains : ExprTree × ℕ → List Token → Out Token (ExprTree × ℕ) = λ x r. noted is_unused grammar depth (act (chained x.0) (links_part low calls)) r x.1 in
    let puts : List (Binary × ExprTree) × ℕ → List Token → Out Token (ExprTree × ℕ) = λ x r. got (chained a x.0, x.1) r in
    let one : noted is_unused grammar depth (chain_tail (suc low) calls e) ts m ≡ stop fault left =
    ap (λ o. then_ o chains) below ∙ ap (λ o. then_ o puts) (links ∙ ap (λ o. joined_noted earlier o) (turn-stops depth low calls rest omission fault left next r)) in
    stops-above depth (suc low) level calls e ts m fault left (omega arith) one

-- Where an operator with what stands behind it is refused, so is the chain
pub chain_stops : (depth low level : ℕ) (calls : Bool) (e a : ExprTree) (ts mid rest : List Token) (m k omission : ℕ) (earlier : List (Binary × ExprTree)) (why : Stop) → low < level →
    noted is_unused grammar depth (chain_tail low calls e) ts m ≡ got (a, k) mid →
    noted is_unused grammar depth (links_part low calls) mid k ≡ joined_noted earlier (noted is_unused grammar depth (links_part low calls) rest omission) →
    next_is (λ t. is_some (operator_at low t)) rest ≡ true →
    Stops (noted is_unused grammar depth (link_part low calls) rest omission) why → Stops (noted is_unused grammar depth (chain_tail level calls e) ts m) why
chain_stops depth low level calls e a ts mid rest m k omission earlier (stops.Lost left) h below links next r = chain-fault depth low level calls e a ts mid rest m k omission earlier lost left h below links next r
chain_stops depth low level calls e a ts mid rest m k omission earlier (stops.Deep left) h below links next r = chain-fault depth low level calls e a ts mid rest m k omission earlier deep left h below links next r
chain_stops depth low level calls e a ts mid rest m k omission earlier (stops.LeftOut left) h below links next r = chain-fault depth low level calls e a ts mid rest m k omission earlier left_out left h below links next r
chain_stops depth low level calls e a ts mid rest m k omission earlier stops.Memory h below links next r = tt

-- A row of targets goes on by a turn
pub row_goes_on : (calls : Bool) (depth : ℕ) (r u : Row Target) (ts mid : List Token) (m k : ℕ) → next_is (row_goes r.wants r.depth) ts ≡ true →
    noted is_unused grammar depth (row_turn (expression calls) r.wants r.depth r) ts m ≡ got (u, k) mid →
    noted is_unused grammar depth (rows_of calls r) ts m ≡ noted is_unused grammar depth (rows_of calls u) mid k
row_goes_on calls depth r u ts mid m k c e =
    iter_noted_turn is_unused grammar eating advancing depth (λ v t. row_goes v.wants v.depth t) (λ v. row_turn (expression calls) v.wants v.depth v)
    (λ v. row_turn_advances (expression calls) (expression_advances calls) v.wants v.depth v) r ts m u k mid c e

pub row_less : (calls : Bool) (depth : ℕ) (r : Row Target) (u : Row Target × ℕ) (ts mid : List Token) (m : ℕ) →
    noted is_unused grammar depth (row_turn (expression calls) r.wants r.depth r) ts m ≡ got u mid → length mid < length ts
row_less calls depth r u ts mid m e =
    noted_less is_unused grammar eating advancing depth (row_turn (expression calls) r.wants r.depth r)
    (row_turn_advances (expression calls) (expression_advances calls) r.wants r.depth r).1 (row_turn_advances (expression calls) (expression_advances calls) r.wants r.depth r).0 ts m u mid e
