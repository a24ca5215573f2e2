-- A turn of each loop of the parser.
use Rattle.std.proofs.Common.{◌≡◌, ℕ, zero, suc, ◌<◌, true, List, [], ◌∷◌, ◌++◌, length, refl}
use Rattle.vh_parse_grammar.specs.Conditions.{eats, Advances}
use Rattle.vh_parse_grammar.specs.Reading.{got, next_is}
use Rattle.vh_parse_grammar.specs.Omissions.{noted, joined_noted}
use Rattle.vh_parse_grammar.proofs.OmissionTurns.{noted_less, joined_noted_turn, iter_noted_turn}
use Rattle.vh_ast.specs.Items.{ModuleTree}
use Rattle.vh_parse_syntax.specs.Tokens.{Token, is_module, is_unused}
use Rattle.vh_parse_syntax.specs.Declarations.{reg_decl, integer_decl, time_decl, decl}
use Rattle.vh_parse_syntax.specs.Items.{Region, port_head, port_item, net_item, decl_item, event_item, genvar_item, parameter_item, assign_item, gate_item, instance_item, process_item, task_item, function_item, for_item, if_item, item, region_word, region_turn, region_goes, within_turn, within_goes, first_word, one_item, a_gblock, a_module, source}
use Rattle.vh_parse_syntax.specs.Grammar.{grammar}
use Rattle.vh_parse_syntax.specs.ItemConditions.{gblock_advances, source_advances}
use Rattle.vh_parse_syntax.specs.Table.{eating, advancing}
use Rattle.vh_parse_items.specs.Pieces.{all_items, within}

-- items go on by one, or by a word of a region
item_advances : Advances item
unfolding a_gblock one_item first_word
item_advances = gblock_advances.1.0.0.1

turn_advances : (depth : ℕ) (r : Region) → (eats (region_turn depth r) ≡ true) × Advances (region_turn depth r)
unfolding region_word item port_item port_head net_item decl_item decl reg_decl integer_decl time_decl event_item genvar_item parameter_item assign_item gate_item instance_item process_item task_item function_item for_item if_item
turn_advances zero r = (refl, ((tt, item_advances), tt))
turn_advances (suc depth) r = (refl, ((tt, (tt, item_advances)), tt))

pub items_go_on : (depth : ℕ) (r u : Region) (ts mid : List Token) (m k : ℕ) → next_is (region_goes r.depth) ts ≡ true →
    noted is_unused grammar depth (region_turn r.depth r) ts m ≡ got (u, k) mid →
    noted is_unused grammar depth (all_items r) ts m ≡ noted is_unused grammar depth (all_items u) mid k
items_go_on depth r u ts mid m k c e =
    iter_noted_turn is_unused grammar eating advancing depth (λ v t. region_goes v.depth t) (λ v. region_turn v.depth v) (λ v. turn_advances v.depth v) r ts m u k mid c e

pub item_less : (depth : ℕ) (r : Region) (u : Region × ℕ) (ts mid : List Token) (m : ℕ) → noted is_unused grammar depth (region_turn r.depth r) ts m ≡ got u mid → length mid < length ts
item_less depth r u ts mid m e = noted_less is_unused grammar eating advancing depth (region_turn r.depth r) (turn_advances r.depth r).1 (turn_advances r.depth r).0 ts m u mid e

-- The same up to the end of a region
within_advances : (depth : ℕ) (r : Region) → (eats (within_turn depth r) ≡ true) × Advances (within_turn depth r)
unfolding within_turn
within_advances zero r = (refl, tt)
within_advances (suc depth) r = turn_advances (suc depth) r

pub within_go_on : (depth : ℕ) (r u : Region) (ts mid : List Token) (m k : ℕ) → next_is (within_goes r.depth) ts ≡ true →
    noted is_unused grammar depth (within_turn r.depth r) ts m ≡ got (u, k) mid →
    noted is_unused grammar depth (within r) ts m ≡ noted is_unused grammar depth (within u) mid k
within_go_on depth r u ts mid m k c e =
    iter_noted_turn is_unused grammar eating advancing depth (λ v t. within_goes v.depth t) (λ v. within_turn v.depth v) (λ v. within_advances v.depth v) r ts m u k mid c e

pub within_less : (depth : ℕ) (r : Region) (u : Region × ℕ) (ts mid : List Token) (m : ℕ) → noted is_unused grammar depth (within_turn r.depth r) ts m ≡ got u mid → length mid < length ts
within_less depth r u ts mid m e = noted_less is_unused grammar eating advancing depth (within_turn r.depth r) (within_advances r.depth r).1 (within_advances r.depth r).0 ts m u mid e

-- modules go on by one
module_advances : (eats a_module ≡ true) × Advances a_module
unfolding source
module_advances = source_advances

pub modules_go_on : (depth : ℕ) (front : List ModuleTree) (a : ModuleTree) (ts mid : List Token) (m k : ℕ) → next_is is_module ts ≡ true →
    noted is_unused grammar depth a_module ts m ≡ got (a, k) mid →
    joined_noted front (noted is_unused grammar depth source ts m) ≡ joined_noted (front ++ a ∷ []) (noted is_unused grammar depth source mid k)
unfolding source
modules_go_on depth front a ts mid m k c r =
    joined_noted_turn is_unused grammar eating advancing depth is_module a_module module_advances.1 module_advances.0 front ts m a k mid c r

pub module_less : (depth : ℕ) (a : ModuleTree × ℕ) (ts mid : List Token) (m : ℕ) → noted is_unused grammar depth a_module ts m ≡ got a mid → length mid < length ts
module_less depth a ts mid m r = noted_less is_unused grammar eating advancing depth a_module module_advances.1 module_advances.0 ts m a mid r
