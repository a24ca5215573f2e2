-- A turn of each loop of the parser.
use Rattle.std.proofs.Common.{◌≡◌, ℕ, ◌<◌, true, false, List, [], ◌∷◌, ◌++◌, length, refl}
use Rattle.vh_parse_grammar.specs.Part.{only, after}
use Rattle.vh_parse_grammar.specs.Conditions.{Advances}
use Rattle.vh_parse_grammar.specs.Reading.{got, next_is}
use Rattle.vh_parse_grammar.specs.Omissions.{noted, joined_noted}
use Rattle.vh_parse_grammar.proofs.OmissionTurns.{noted_less, joined_noted_turn}
use Rattle.vh_ast.specs.Statements.{EvTree}
use Rattle.vh_parse_syntax.specs.declared.lexeme.Lexeme.TheVariants as lexeme
use Rattle.vh_parse_syntax.specs.Tokens.{Token, is, is_unused}
use Rattle.vh_parse_syntax.specs.Parts.{G, the, comma_more}
use Rattle.vh_parse_syntax.specs.Statements.{is_or, ev}
use Rattle.vh_parse_syntax.specs.Grammar.{grammar}
use Rattle.vh_parse_syntax.specs.ExpressionConditions.{expression_advances}
use Rattle.vh_parse_syntax.specs.Table.{eating, advancing}
use Rattle.vh_parse_decl.specs.Pieces.{more_evs}

-- A list goes on by one behind a comma
pub item_goes_on : {A : Type 0} (part : G A) → Advances part → (depth : ℕ) (front : List A) (a : A) (ts mid : List Token) (m k : ℕ) → next_is (is lexeme.Comma) ts ≡ true →
    noted is_unused grammar depth (after (the lexeme.Comma) part) ts m ≡ got (a, k) mid →
    joined_noted front (noted is_unused grammar depth (comma_more part) ts m) ≡ joined_noted (front ++ a ∷ []) (noted is_unused grammar depth (comma_more part) mid k)
item_goes_on part v depth front a ts mid m k c r =
    joined_noted_turn is_unused grammar eating advancing depth (is lexeme.Comma) (after (the lexeme.Comma) part) (tt, v) refl front ts m a k mid c r

pub item_less : {A : Type 0} (part : G A) → Advances part → (depth : ℕ) (a : A × ℕ) (ts mid : List Token) (m : ℕ) →
    noted is_unused grammar depth (after (the lexeme.Comma) part) ts m ≡ got a mid → length mid < length ts
item_less part v depth a ts mid m r = noted_less is_unused grammar eating advancing depth (after (the lexeme.Comma) part) (tt, v) refl ts m a mid r

-- event expressions go on by one
ev_advances : Advances ev
unfolding ev
ev_advances = ((tt, (expression_advances false)), (expression_advances false))

pub evs_go_on : (depth : ℕ) (front : List EvTree) (e : EvTree) (ts mid : List Token) (m k : ℕ) → next_is is_or ts ≡ true →
    noted is_unused grammar depth (after (only is_or) ev) ts m ≡ got (e, k) mid →
    joined_noted front (noted is_unused grammar depth more_evs ts m) ≡ joined_noted (front ++ e ∷ []) (noted is_unused grammar depth more_evs mid k)
evs_go_on depth front e ts mid m k c r =
    joined_noted_turn is_unused grammar eating advancing depth is_or (after (only is_or) ev) (tt, ev_advances) refl front ts m e k mid c r

pub ev_less : (depth : ℕ) (e : EvTree × ℕ) (ts mid : List Token) (m : ℕ) →
    noted is_unused grammar depth (after (only is_or) ev) ts m ≡ got e mid → length mid < length ts
ev_less depth e ts mid m r = noted_less is_unused grammar eating advancing depth (after (only is_or) ev) (tt, ev_advances) refl ts m e mid r
