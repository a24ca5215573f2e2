-- The conditions of items, modules and sources.
use Rattle.std.proofs.Common.{◌≡◌, ℕ, zero, suc, Bool, true, false, ◌&&◌, refl, ap}
use Rattle.vh_base.specs.declared.place.Place.{Place}
use Rattle.vh_parse_grammar.specs.Conditions.{eats, Advances}
use Rattle.vh_parse_grammar.specs.Firsts.{behind, without_token, first}
use Rattle.vh_parse_grammar.specs.Choices.{Heeds}
use Rattle.vh_parse_syntax.specs.declared.lexeme.Lexeme.TheVariants as lexeme
use Rattle.vh_parse_syntax.specs.Tokens.{Token, Terminal, opening, fixed, name, system, text, number, is}
use Rattle.vh_parse_syntax.specs.Names.{path, lv, braced}
use Rattle.vh_parse_syntax.specs.Expressions.{by_name, by_system, parens, braces, prim, unary_operand, any_operand, expression}
use Rattle.vh_parse_syntax.specs.Grammar.{begins}
use Rattle.vh_parse_syntax.specs.Conditions.{at}
use Rattle.vh_parse_syntax.specs.ExpressionConditions.{expression_advances, expression_heeds}
use Rattle.vh_parse_syntax.specs.Declarations.{a_range, a_type, assigned, a_net, reg_decl, integer_decl, time_decl, decl}
use Rattle.vh_parse_syntax.specs.Statements.{set, statement, empty_stmt, by_name_stmt, by_brace_stmt, delay_stmt, delay, event_stmt, wait_stmt, if_stmt, case_stmt, for_stmt, loop_stmt, forever_stmt, begin_stmt, fork_stmt, trigger_stmt, disable_stmt, force_stmt, release_stmt, system_stmt}
use Rattle.vh_parse_syntax.specs.Items.{PortHead, Declared, Delayed, TargHead, Targs, Region, delayed_goes, port_head, pdecl, next_port, next_ports, ports, par, port_ids, port_item, next_delayed, more_delayed, delayed_nets, all_nets, net_item, decl_item, event_item, genvar_item, parameter_item, assign_item, gate, gate_item, conn_by_name, conn, conns, inst, instance_item, process_item, targ_head, targ_ids, targ, targ_id, targ_one, next_targ, next_targs, targs, local, routine, task_item, result_type, function_item, generate_head, for_item, other_gblock, if_item, item, region_word, region_turn, region_goes, region_end, items, within_goes, within_turn, region_rest, first_word, one_item_rest, one_item, item_block, a_gblock, pars, port_list, a_module, source}
use Rattle.vh_parse_syntax.specs.DeclarationConditions.{type_advances, type_heeds, assigned_advances, assigned_heeds, net_advances, net_heeds, decl_advances, decl_heeds}
use Rattle.vh_parse_syntax.specs.StatementConditions.{delay_advances, delay_heeds, set_advances, set_heeds}

-- Each production takes a token.
pub gblock_eats : eats a_gblock ≡ true
unfolding a_gblock item_block one_item first_word item port_item port_head net_item decl_item decl reg_decl integer_decl time_decl event_item genvar_item parameter_item assign_item gate_item instance_item process_item task_item function_item for_item if_item
gblock_eats = refl

-- Each turn of a repetition takes a token.
head_advances : Advances port_head
unfolding port_head
head_advances = (tt, ((tt, tt), type_advances))

pdecl_advances : Advances pdecl
unfolding pdecl
pdecl_advances = (head_advances, λ h. (tt, tt))

next_port_advances : (d : Declared) → (eats (next_port d) ≡ true) × Advances (next_port d)
unfolding next_port
next_port_advances d = (refl, (tt, (pdecl_advances, (tt, tt))))

ports_advances : Advances ports
unfolding ports next_ports
ports_advances = ((tt, (refl, (tt, tt))), (pdecl_advances, λ p d. next_port_advances d))

par_advances : Advances par
unfolding par
par_advances = ((tt, (type_advances, assigned_advances)), assigned_advances)

port_item_advances : Advances port_item
unfolding port_item port_ids
port_item_advances = (head_advances, λ h. (((tt, tt), (refl, (tt, (tt, tt)))), tt))

next_delayed_advances : (valued : Bool) (d : Delayed) → (eats (next_delayed valued d) ≡ true) × Advances (next_delayed valued d)
unfolding next_delayed
next_delayed_advances true d = (refl, (tt, net_advances))
next_delayed_advances false d = (refl, tt)

delayed_advances : Advances delayed_nets
unfolding delayed_nets more_delayed
delayed_advances = ((delay_advances, net_advances), λ r u. next_delayed_advances u.valued u)

net_item_advances : Advances net_item
unfolding net_item all_nets
net_item_advances = (tt, (type_advances, (((delayed_advances, (refl, (tt, net_advances))), (net_advances, (refl, (tt, net_advances)))), tt)))

parameter_advances : Advances parameter_item
unfolding parameter_item
parameter_advances = (tt, (type_advances, ((assigned_advances, (refl, (tt, assigned_advances))), tt)))

assign_advances : Advances assign_item
unfolding assign_item
assign_advances = (tt, ((delay_advances, tt), ((set_advances true, (refl, (tt, set_advances true))), tt)))

gate_advances : Advances gate
unfolding gate
gate_advances = ((tt, (tt, (((expression_advances true), (refl, (tt, (expression_advances true)))), tt))), (tt, (((expression_advances true), (refl, (tt, (expression_advances true)))), tt)))

gates_advance : Advances gate_item
unfolding gate_item
gates_advance = (tt, ((delay_advances, tt), ((gate_advances, (refl, (tt, gate_advances))), tt)))

conn_advances : Advances conn
unfolding conn conn_by_name
conn_advances = ((tt, (tt, (tt, (((expression_advances true), tt), tt)))), ((expression_advances true), tt))

conns_advances : Advances conns
unfolding conns
conns_advances = (conn_advances, (refl, (tt, conn_advances)))

inst_advances : Advances inst
unfolding inst
inst_advances = (tt, (tt, ((conns_advances, tt), tt)))

instance_advances : Advances instance_item
unfolding instance_item
instance_advances = (tt, (((tt, (tt, (conns_advances, tt))), tt), ((inst_advances, (refl, (tt, inst_advances))), tt)))

targ_head_advances : Advances targ_head
unfolding targ_head
targ_head_advances = (tt, ((tt, tt), type_advances))

targ_advances : Advances targ
unfolding targ targ_ids
targ_advances = (targ_head_advances, λ h. ((tt, tt), (refl, (tt, (tt, tt)))))

targ_one_advances : Advances targ_one
unfolding targ_one targ_id
targ_one_advances = (targ_head_advances, λ h. (tt, tt))

next_targ_advances : (s : Targs) → (eats (next_targ s) ≡ true) × Advances (next_targ s)
unfolding next_targ
next_targ_advances s = (refl, (tt, (targ_one_advances, (tt, tt))))

targs_advances : Advances targs
unfolding targs next_targs
targs_advances = (targ_one_advances, λ t s. next_targ_advances s)

local_advances : (eats local ≡ true) × Advances local
unfolding local targ targ_head decl reg_decl integer_decl time_decl
local_advances = (refl, ((targ_advances, tt), decl_advances))

routine_advances : (inside : Bool) → Advances (routine inside)
unfolding routine
routine_advances inside = (tt, ((((tt, (targs_advances, tt)), tt), tt), (local_advances, tt)))

function_advances : Advances function_item
unfolding function_item result_type
function_advances = (tt, (((tt, (tt, (type_advances, tt))), routine_advances true), tt))

for_advances : Advances for_item
unfolding for_item generate_head
for_advances = (tt, ((tt, ((assigned_advances, (tt, ((expression_advances true), (tt, assigned_advances)))), tt)), tt))

if_advances : Advances if_item
unfolding if_item other_gblock
if_advances = (tt, ((tt, ((expression_advances true), tt)), (tt, ((tt, tt), tt))))

item_advances : Advances item
unfolding item decl_item event_item genvar_item process_item task_item
item_advances = (
  port_item_advances,
  (
    net_item_advances,
    (
      decl_advances,
      (
        (tt, ((tt, (refl, (tt, tt))), tt)),
        (
          (tt, ((tt, (refl, (tt, tt))), tt)),
          (
            parameter_advances,
            (
              assign_advances,
              (
                gates_advance,
                (
                  instance_advances,
                  (
                    (tt, tt),
                    (
                      (tt, (routine_advances false, tt)),
                      (function_advances, (for_advances, if_advances)),
                    ),
                  ),
                ),
              ),
            ),
          ),
        ),
      ),
    ),
  ),
)

word_advances : (depth : ℕ) (r : Region) → (eats (region_turn depth r) ≡ true) × Advances (region_turn depth r)
unfolding region_word item port_item port_head net_item decl_item decl reg_decl integer_decl time_decl event_item genvar_item parameter_item assign_item gate_item instance_item process_item task_item function_item for_item if_item
word_advances zero r = (refl, ((tt, item_advances), tt))
word_advances (suc depth) r = (refl, ((tt, (tt, item_advances)), tt))

region_end_advances : (depth : ℕ) (r : Region) → Advances (region_end depth r)
unfolding region_end
region_end_advances zero r = tt
region_end_advances (suc depth) r = tt

items_advance : Advances items
unfolding items
items_advance = ((λ u. word_advances u.depth u), λ u. region_end_advances u.depth u)

within_advances : (depth : ℕ) (r : Region) → (eats (within_turn depth r) ≡ true) × Advances (within_turn depth r)
unfolding within_turn
within_advances zero r = (refl, tt)
within_advances (suc depth) r = word_advances (suc depth) r

pub gblock_advances : Advances a_gblock
unfolding a_gblock item_block one_item one_item_rest first_word region_rest
gblock_advances =
    ((tt, ((((tt, tt), tt), items_advance), tt)), (((tt, item_advances), tt), λ w. ((λ u. within_advances u.depth u), λ u. region_end_advances u.depth u)))

pub source_advances : Advances source
unfolding source a_module pars port_list
source_advances = (
  refl,
  (
    tt,
    (
      tt,
      (
        ((tt, (tt, ((par_advances, (refl, (tt, par_advances))), tt))), tt),
        ((((tt, ((ports_advances, tt), tt)), tt), tt), (items_advance, tt)),
      ),
    ),
  ),
)

-- Each choice is made right at each token.
head_heeds : (kind : Terminal) (place : Place) → Heeds begins port_head (at kind place)
unfolding port_head a_type a_range
head_heeds (opening s) place = (refl, tt, (refl, (refl, refl, tt, tt), type_heeds (opening s) place))
head_heeds (fixed lexeme.Wire) place = (refl, tt, (refl, (refl, refl, tt, tt), type_heeds (fixed lexeme.Wire) place))
head_heeds (fixed s) place = (refl, tt, (refl, (refl, refl, tt, tt), type_heeds (fixed s) place))
head_heeds (name b) place = (refl, tt, (refl, (refl, refl, tt, tt), type_heeds (name b) place))
head_heeds (system b) place = (refl, tt, (refl, (refl, refl, tt, tt), type_heeds (system b) place))
head_heeds (text b) place = (refl, tt, (refl, (refl, refl, tt, tt), type_heeds (text b) place))
head_heeds (number v z) place = (refl, tt, (refl, (refl, refl, tt, tt), type_heeds (number v z) place))

pdecl_heeds : (t : Token) → Heeds begins pdecl t
unfolding pdecl port_head
pdecl_heeds t = (refl, head_heeds t.kind t.place, λ h. (refl, tt, tt))

next_port_heeds : (d : Declared) (kind : Terminal) (place : Place) → (is lexeme.Comma (at kind place) ≡ first begins (next_port d) (at kind place)) × Heeds begins (next_port d) (at kind place)
unfolding next_port pdecl port_head
next_port_heeds d (opening s) place = (refl, (refl, tt, (refl, refl, pdecl_heeds (at (opening s) place), (refl, tt, tt))))
next_port_heeds d (fixed lexeme.Comma) place = (refl, (refl, tt, (refl, refl, pdecl_heeds (at (fixed lexeme.Comma) place), (refl, tt, tt))))
next_port_heeds d (fixed s) place = (refl, (refl, tt, (refl, refl, pdecl_heeds (at (fixed s) place), (refl, tt, tt))))
next_port_heeds d (name b) place = (refl, (refl, tt, (refl, refl, pdecl_heeds (at (name b) place), (refl, tt, tt))))
next_port_heeds d (system b) place = (refl, (refl, tt, (refl, refl, pdecl_heeds (at (system b) place), (refl, tt, tt))))
next_port_heeds d (text b) place = (refl, (refl, tt, (refl, refl, pdecl_heeds (at (text b) place), (refl, tt, tt))))
next_port_heeds d (number v z) place = (refl, (refl, tt, (refl, refl, pdecl_heeds (at (number v z) place), (refl, tt, tt))))

ports_heed : (kind : Terminal) (place : Place) → Heeds begins ports (at kind place)
unfolding ports next_ports pdecl port_head
ports_heed (opening s) place = (refl, refl, (refl, tt, (refl, (refl, tt, tt))), (refl, pdecl_heeds (at (opening s) place), λ p d. next_port_heeds d (opening s) place))
ports_heed (fixed lexeme.Comma) place = (refl, refl, (refl, tt, (refl, (refl, tt, tt))), (refl, pdecl_heeds (at (fixed lexeme.Comma) place), λ p d. next_port_heeds d (fixed lexeme.Comma) place))
ports_heed (fixed s) place = (refl, refl, (refl, tt, (refl, (refl, tt, tt))), (refl, pdecl_heeds (at (fixed s) place), λ p d. next_port_heeds d (fixed s) place))
ports_heed (name b) place = (refl, refl, (refl, tt, (refl, (refl, tt, tt))), (refl, pdecl_heeds (at (name b) place), λ p d. next_port_heeds d (name b) place))
ports_heed (system b) place = (refl, refl, (refl, tt, (refl, (refl, tt, tt))), (refl, pdecl_heeds (at (system b) place), λ p d. next_port_heeds d (system b) place))
ports_heed (text b) place = (refl, refl, (refl, tt, (refl, (refl, tt, tt))), (refl, pdecl_heeds (at (text b) place), λ p d. next_port_heeds d (text b) place))
ports_heed (number v z) place = (refl, refl, (refl, tt, (refl, (refl, tt, tt))), (refl, pdecl_heeds (at (number v z) place), λ p d. next_port_heeds d (number v z) place))

par_apart : (kind : Terminal) (place : Place) → (behind (without_token a_type) (λ _. first begins assigned (at kind place)) && first begins a_type (at kind place)) ≡ false
unfolding a_type a_range assigned
par_apart (opening s) place = refl
par_apart (fixed lexeme.Signed) place = refl
par_apart (fixed s) place = refl
par_apart (name b) place = refl
par_apart (system b) place = refl
par_apart (text b) place = refl
par_apart (number v z) place = refl

par_heeds : (kind : Terminal) (place : Place) → Heeds begins par (at kind place)
unfolding par assigned
par_heeds (opening s) place = (refl, refl, (refl, tt, (par_apart (opening s) place, type_heeds (opening s) place, assigned_heeds (at (opening s) place))), assigned_heeds (at (opening s) place))
par_heeds (fixed lexeme.Parameter) place = (refl, refl, (refl, tt, (par_apart (fixed lexeme.Parameter) place, type_heeds (fixed lexeme.Parameter) place, assigned_heeds (at (fixed lexeme.Parameter) place))), assigned_heeds (at (fixed lexeme.Parameter) place))
par_heeds (fixed s) place = (refl, refl, (refl, tt, (par_apart (fixed s) place, type_heeds (fixed s) place, assigned_heeds (at (fixed s) place))), assigned_heeds (at (fixed s) place))
par_heeds (name b) place = (refl, refl, (refl, tt, (par_apart (name b) place, type_heeds (name b) place, assigned_heeds (at (name b) place))), assigned_heeds (at (name b) place))
par_heeds (system b) place = (refl, refl, (refl, tt, (par_apart (system b) place, type_heeds (system b) place, assigned_heeds (at (system b) place))), assigned_heeds (at (system b) place))
par_heeds (text b) place = (refl, refl, (refl, tt, (par_apart (text b) place, type_heeds (text b) place, assigned_heeds (at (text b) place))), assigned_heeds (at (text b) place))
par_heeds (number v z) place = (refl, refl, (refl, tt, (par_apart (number v z) place, type_heeds (number v z) place, assigned_heeds (at (number v z) place))), assigned_heeds (at (number v z) place))

port_ids_heed : (h : PortHead) (kind : Terminal) (place : Place) → Heeds begins (port_ids h) (at kind place)
unfolding port_ids
port_ids_heed h (opening s) place = (refl, (refl, (refl, tt, tt), (refl, (refl, tt, (refl, tt, tt)))), tt)
port_ids_heed h (fixed lexeme.Comma) place = (refl, (refl, (refl, tt, tt), (refl, (refl, tt, (refl, tt, tt)))), tt)
port_ids_heed h (fixed s) place = (refl, (refl, (refl, tt, tt), (refl, (refl, tt, (refl, tt, tt)))), tt)
port_ids_heed h (name b) place = (refl, (refl, (refl, tt, tt), (refl, (refl, tt, (refl, tt, tt)))), tt)
port_ids_heed h (system b) place = (refl, (refl, (refl, tt, tt), (refl, (refl, tt, (refl, tt, tt)))), tt)
port_ids_heed h (text b) place = (refl, (refl, (refl, tt, tt), (refl, (refl, tt, (refl, tt, tt)))), tt)
port_ids_heed h (number v z) place = (refl, (refl, (refl, tt, tt), (refl, (refl, tt, (refl, tt, tt)))), tt)

port_item_heeds : (t : Token) → Heeds begins port_item t
unfolding port_item port_head
port_item_heeds t = (refl, head_heeds t.kind t.place, λ h. port_ids_heed h t.kind t.place)

next_delayed_heeds : (valued : Bool) (d : Delayed) (kind : Terminal) (place : Place) → (delayed_goes valued (at kind place) ≡ first begins (next_delayed valued d) (at kind place)) × Heeds begins (next_delayed valued d) (at kind place)
unfolding next_delayed
next_delayed_heeds true d (opening s) place = (refl, (refl, tt, net_heeds (at (opening s) place)))
next_delayed_heeds true d (fixed lexeme.Comma) place = (refl, (refl, tt, net_heeds (at (fixed lexeme.Comma) place)))
next_delayed_heeds true d (fixed s) place = (refl, (refl, tt, net_heeds (at (fixed s) place)))
next_delayed_heeds true d (name b) place = (refl, (refl, tt, net_heeds (at (name b) place)))
next_delayed_heeds true d (system b) place = (refl, (refl, tt, net_heeds (at (system b) place)))
next_delayed_heeds true d (text b) place = (refl, (refl, tt, net_heeds (at (text b) place)))
next_delayed_heeds true d (number v z) place = (refl, (refl, tt, net_heeds (at (number v z) place)))
next_delayed_heeds false d kind place = (refl, tt)

delayed_heeds : (t : Token) → Heeds begins delayed_nets t
unfolding delayed_nets more_delayed delay a_net
delayed_heeds t = (refl, (refl, delay_heeds t, net_heeds t), λ r u. next_delayed_heeds u.valued u t.kind t.place)

all_nets_heed : (kind : Terminal) (place : Place) → Heeds begins all_nets (at kind place)
unfolding all_nets delayed_nets delay a_net
all_nets_heed (opening s) place = (refl, refl, (refl, delayed_heeds (at (opening s) place), (refl, (refl, tt, net_heeds (at (opening s) place)))), (refl, net_heeds (at (opening s) place), (refl, (refl, tt, net_heeds (at (opening s) place)))))
all_nets_heed (fixed lexeme.Hash) place = (refl, refl, (refl, delayed_heeds (at (fixed lexeme.Hash) place), (refl, (refl, tt, net_heeds (at (fixed lexeme.Hash) place)))), (refl, net_heeds (at (fixed lexeme.Hash) place), (refl, (refl, tt, net_heeds (at (fixed lexeme.Hash) place)))))
all_nets_heed (fixed s) place = (refl, refl, (refl, delayed_heeds (at (fixed s) place), (refl, (refl, tt, net_heeds (at (fixed s) place)))), (refl, net_heeds (at (fixed s) place), (refl, (refl, tt, net_heeds (at (fixed s) place)))))
all_nets_heed (name b) place = (refl, refl, (refl, delayed_heeds (at (name b) place), (refl, (refl, tt, net_heeds (at (name b) place)))), (refl, net_heeds (at (name b) place), (refl, (refl, tt, net_heeds (at (name b) place)))))
all_nets_heed (system b) place = (refl, refl, (refl, delayed_heeds (at (system b) place), (refl, (refl, tt, net_heeds (at (system b) place)))), (refl, net_heeds (at (system b) place), (refl, (refl, tt, net_heeds (at (system b) place)))))
all_nets_heed (text b) place = (refl, refl, (refl, delayed_heeds (at (text b) place), (refl, (refl, tt, net_heeds (at (text b) place)))), (refl, net_heeds (at (text b) place), (refl, (refl, tt, net_heeds (at (text b) place)))))
all_nets_heed (number v z) place = (refl, refl, (refl, delayed_heeds (at (number v z) place), (refl, (refl, tt, net_heeds (at (number v z) place)))), (refl, net_heeds (at (number v z) place), (refl, (refl, tt, net_heeds (at (number v z) place)))))

net_item_heeds : (kind : Terminal) (place : Place) → Heeds begins net_item (at kind place)
unfolding net_item all_nets delayed_nets delay a_net a_type a_range
net_item_heeds (opening s) place = (refl, tt, (refl, type_heeds (opening s) place, (refl, all_nets_heed (opening s) place, tt)))
net_item_heeds (fixed lexeme.Hash) place = (refl, tt, (refl, type_heeds (fixed lexeme.Hash) place, (refl, all_nets_heed (fixed lexeme.Hash) place, tt)))
net_item_heeds (fixed s) place = (refl, tt, (refl, type_heeds (fixed s) place, (refl, all_nets_heed (fixed s) place, tt)))
net_item_heeds (name b) place = (refl, tt, (refl, type_heeds (name b) place, (refl, all_nets_heed (name b) place, tt)))
net_item_heeds (system b) place = (refl, tt, (refl, type_heeds (system b) place, (refl, all_nets_heed (system b) place, tt)))
net_item_heeds (text b) place = (refl, tt, (refl, type_heeds (text b) place, (refl, all_nets_heed (text b) place, tt)))
net_item_heeds (number v z) place = (refl, tt, (refl, type_heeds (number v z) place, (refl, all_nets_heed (number v z) place, tt)))

decl_item_heeds : (t : Token) → Heeds begins decl_item t
unfolding decl_item
decl_item_heeds t = decl_heeds t.kind t.place

event_item_heeds : (kind : Terminal) (place : Place) → Heeds begins event_item (at kind place)
unfolding event_item
event_item_heeds (opening s) place = (refl, tt, (refl, (refl, tt, (refl, (refl, tt, tt))), tt))
event_item_heeds (fixed lexeme.Comma) place = (refl, tt, (refl, (refl, tt, (refl, (refl, tt, tt))), tt))
event_item_heeds (fixed s) place = (refl, tt, (refl, (refl, tt, (refl, (refl, tt, tt))), tt))
event_item_heeds (name b) place = (refl, tt, (refl, (refl, tt, (refl, (refl, tt, tt))), tt))
event_item_heeds (system b) place = (refl, tt, (refl, (refl, tt, (refl, (refl, tt, tt))), tt))
event_item_heeds (text b) place = (refl, tt, (refl, (refl, tt, (refl, (refl, tt, tt))), tt))
event_item_heeds (number v z) place = (refl, tt, (refl, (refl, tt, (refl, (refl, tt, tt))), tt))

genvar_item_heeds : (kind : Terminal) (place : Place) → Heeds begins genvar_item (at kind place)
unfolding genvar_item
genvar_item_heeds (opening s) place = (refl, tt, (refl, (refl, tt, (refl, (refl, tt, tt))), tt))
genvar_item_heeds (fixed lexeme.Comma) place = (refl, tt, (refl, (refl, tt, (refl, (refl, tt, tt))), tt))
genvar_item_heeds (fixed s) place = (refl, tt, (refl, (refl, tt, (refl, (refl, tt, tt))), tt))
genvar_item_heeds (name b) place = (refl, tt, (refl, (refl, tt, (refl, (refl, tt, tt))), tt))
genvar_item_heeds (system b) place = (refl, tt, (refl, (refl, tt, (refl, (refl, tt, tt))), tt))
genvar_item_heeds (text b) place = (refl, tt, (refl, (refl, tt, (refl, (refl, tt, tt))), tt))
genvar_item_heeds (number v z) place = (refl, tt, (refl, (refl, tt, (refl, (refl, tt, tt))), tt))

parameter_heeds : (kind : Terminal) (place : Place) → Heeds begins parameter_item (at kind place)
unfolding parameter_item a_type a_range assigned
parameter_heeds (opening s) place = (refl, tt, (refl, type_heeds (opening s) place, (refl, (refl, assigned_heeds (at (opening s) place), (refl, (refl, tt, assigned_heeds (at (opening s) place)))), tt)))
parameter_heeds (fixed lexeme.Comma) place = (refl, tt, (refl, type_heeds (fixed lexeme.Comma) place, (refl, (refl, assigned_heeds (at (fixed lexeme.Comma) place), (refl, (refl, tt, assigned_heeds (at (fixed lexeme.Comma) place)))), tt)))
parameter_heeds (fixed s) place = (refl, tt, (refl, type_heeds (fixed s) place, (refl, (refl, assigned_heeds (at (fixed s) place), (refl, (refl, tt, assigned_heeds (at (fixed s) place)))), tt)))
parameter_heeds (name b) place = (refl, tt, (refl, type_heeds (name b) place, (refl, (refl, assigned_heeds (at (name b) place), (refl, (refl, tt, assigned_heeds (at (name b) place)))), tt)))
parameter_heeds (system b) place = (refl, tt, (refl, type_heeds (system b) place, (refl, (refl, assigned_heeds (at (system b) place), (refl, (refl, tt, assigned_heeds (at (system b) place)))), tt)))
parameter_heeds (text b) place = (refl, tt, (refl, type_heeds (text b) place, (refl, (refl, assigned_heeds (at (text b) place), (refl, (refl, tt, assigned_heeds (at (text b) place)))), tt)))
parameter_heeds (number v z) place = (refl, tt, (refl, type_heeds (number v z) place, (refl, (refl, assigned_heeds (at (number v z) place), (refl, (refl, tt, assigned_heeds (at (number v z) place)))), tt)))

assign_heeds : (kind : Terminal) (place : Place) → Heeds begins assign_item (at kind place)
unfolding assign_item delay set lv braced path
assign_heeds (opening s) place = (refl, tt, (refl, (refl, refl, delay_heeds (at (opening s) place), tt), (refl, (refl, set_heeds true (at (opening s) place), (refl, (refl, tt, set_heeds true (at (opening s) place)))), tt)))
assign_heeds (fixed lexeme.Hash) place = (refl, tt, (refl, (refl, refl, delay_heeds (at (fixed lexeme.Hash) place), tt), (refl, (refl, set_heeds true (at (fixed lexeme.Hash) place), (refl, (refl, tt, set_heeds true (at (fixed lexeme.Hash) place)))), tt)))
assign_heeds (fixed s) place = (refl, tt, (refl, (refl, refl, delay_heeds (at (fixed s) place), tt), (refl, (refl, set_heeds true (at (fixed s) place), (refl, (refl, tt, set_heeds true (at (fixed s) place)))), tt)))
assign_heeds (name b) place = (refl, tt, (refl, (refl, refl, delay_heeds (at (name b) place), tt), (refl, (refl, set_heeds true (at (name b) place), (refl, (refl, tt, set_heeds true (at (name b) place)))), tt)))
assign_heeds (system b) place = (refl, tt, (refl, (refl, refl, delay_heeds (at (system b) place), tt), (refl, (refl, set_heeds true (at (system b) place), (refl, (refl, tt, set_heeds true (at (system b) place)))), tt)))
assign_heeds (text b) place = (refl, tt, (refl, (refl, refl, delay_heeds (at (text b) place), tt), (refl, (refl, set_heeds true (at (text b) place), (refl, (refl, tt, set_heeds true (at (text b) place)))), tt)))
assign_heeds (number v z) place = (refl, tt, (refl, (refl, refl, delay_heeds (at (number v z) place), tt), (refl, (refl, set_heeds true (at (number v z) place), (refl, (refl, tt, set_heeds true (at (number v z) place)))), tt)))

gate_heeds : (kind : Terminal) (place : Place) → Heeds begins gate (at kind place)
unfolding gate expression any_operand prim braces
gate_heeds (opening s) place = (refl, refl, (refl, tt, (refl, tt, (refl, (refl, (expression_heeds true (at (opening s) place)), (refl, (refl, tt, (expression_heeds true (at (opening s) place))))), tt))), (refl, tt, (refl, (refl, (expression_heeds true (at (opening s) place)), (refl, (refl, tt, (expression_heeds true (at (opening s) place))))), tt)))
gate_heeds (fixed lexeme.LeftParen) place = (refl, refl, (refl, tt, (refl, tt, (refl, (refl, (expression_heeds true (at (fixed lexeme.LeftParen) place)), (refl, (refl, tt, (expression_heeds true (at (fixed lexeme.LeftParen) place))))), tt))), (refl, tt, (refl, (refl, (expression_heeds true (at (fixed lexeme.LeftParen) place)), (refl, (refl, tt, (expression_heeds true (at (fixed lexeme.LeftParen) place))))), tt)))
gate_heeds (fixed s) place = (refl, refl, (refl, tt, (refl, tt, (refl, (refl, (expression_heeds true (at (fixed s) place)), (refl, (refl, tt, (expression_heeds true (at (fixed s) place))))), tt))), (refl, tt, (refl, (refl, (expression_heeds true (at (fixed s) place)), (refl, (refl, tt, (expression_heeds true (at (fixed s) place))))), tt)))
gate_heeds (name b) place = (refl, refl, (refl, tt, (refl, tt, (refl, (refl, (expression_heeds true (at (name b) place)), (refl, (refl, tt, (expression_heeds true (at (name b) place))))), tt))), (refl, tt, (refl, (refl, (expression_heeds true (at (name b) place)), (refl, (refl, tt, (expression_heeds true (at (name b) place))))), tt)))
gate_heeds (system b) place = (refl, refl, (refl, tt, (refl, tt, (refl, (refl, (expression_heeds true (at (system b) place)), (refl, (refl, tt, (expression_heeds true (at (system b) place))))), tt))), (refl, tt, (refl, (refl, (expression_heeds true (at (system b) place)), (refl, (refl, tt, (expression_heeds true (at (system b) place))))), tt)))
gate_heeds (text b) place = (refl, refl, (refl, tt, (refl, tt, (refl, (refl, (expression_heeds true (at (text b) place)), (refl, (refl, tt, (expression_heeds true (at (text b) place))))), tt))), (refl, tt, (refl, (refl, (expression_heeds true (at (text b) place)), (refl, (refl, tt, (expression_heeds true (at (text b) place))))), tt)))
gate_heeds (number v z) place = (refl, refl, (refl, tt, (refl, tt, (refl, (refl, (expression_heeds true (at (number v z) place)), (refl, (refl, tt, (expression_heeds true (at (number v z) place))))), tt))), (refl, tt, (refl, (refl, (expression_heeds true (at (number v z) place)), (refl, (refl, tt, (expression_heeds true (at (number v z) place))))), tt)))

gates_heed : (kind : Terminal) (place : Place) → Heeds begins gate_item (at kind place)
unfolding gate_item delay gate
gates_heed (opening s) place = (refl, tt, (refl, (refl, refl, delay_heeds (at (opening s) place), tt), (refl, (refl, gate_heeds (opening s) place, (refl, (refl, tt, gate_heeds (opening s) place))), tt)))
gates_heed (fixed lexeme.Hash) place = (refl, tt, (refl, (refl, refl, delay_heeds (at (fixed lexeme.Hash) place), tt), (refl, (refl, gate_heeds (fixed lexeme.Hash) place, (refl, (refl, tt, gate_heeds (fixed lexeme.Hash) place))), tt)))
gates_heed (fixed s) place = (refl, tt, (refl, (refl, refl, delay_heeds (at (fixed s) place), tt), (refl, (refl, gate_heeds (fixed s) place, (refl, (refl, tt, gate_heeds (fixed s) place))), tt)))
gates_heed (name b) place = (refl, tt, (refl, (refl, refl, delay_heeds (at (name b) place), tt), (refl, (refl, gate_heeds (name b) place, (refl, (refl, tt, gate_heeds (name b) place))), tt)))
gates_heed (system b) place = (refl, tt, (refl, (refl, refl, delay_heeds (at (system b) place), tt), (refl, (refl, gate_heeds (system b) place, (refl, (refl, tt, gate_heeds (system b) place))), tt)))
gates_heed (text b) place = (refl, tt, (refl, (refl, refl, delay_heeds (at (text b) place), tt), (refl, (refl, gate_heeds (text b) place, (refl, (refl, tt, gate_heeds (text b) place))), tt)))
gates_heed (number v z) place = (refl, tt, (refl, (refl, refl, delay_heeds (at (number v z) place), tt), (refl, (refl, gate_heeds (number v z) place, (refl, (refl, tt, gate_heeds (number v z) place))), tt)))

conn_heeds : (kind : Terminal) (place : Place) → Heeds begins conn (at kind place)
unfolding conn conn_by_name expression any_operand unary_operand prim by_name path by_system parens braces
conn_heeds (opening s) place = (refl, refl, (refl, tt, (refl, tt, (refl, tt, (refl, (refl, refl, (expression_heeds true (at (opening s) place)), tt), tt)))), (refl, refl, (expression_heeds true (at (opening s) place)), tt))
conn_heeds (fixed lexeme.Dot) place = (refl, refl, (refl, tt, (refl, tt, (refl, tt, (refl, (refl, refl, (expression_heeds true (at (fixed lexeme.Dot) place)), tt), tt)))), (refl, refl, (expression_heeds true (at (fixed lexeme.Dot) place)), tt))
conn_heeds (fixed s) place = (refl, refl, (refl, tt, (refl, tt, (refl, tt, (refl, (refl, refl, (expression_heeds true (at (fixed s) place)), tt), tt)))), (refl, refl, (expression_heeds true (at (fixed s) place)), tt))
conn_heeds (name b) place = (refl, refl, (refl, tt, (refl, tt, (refl, tt, (refl, (refl, refl, (expression_heeds true (at (name b) place)), tt), tt)))), (refl, refl, (expression_heeds true (at (name b) place)), tt))
conn_heeds (system b) place = (refl, refl, (refl, tt, (refl, tt, (refl, tt, (refl, (refl, refl, (expression_heeds true (at (system b) place)), tt), tt)))), (refl, refl, (expression_heeds true (at (system b) place)), tt))
conn_heeds (text b) place = (refl, refl, (refl, tt, (refl, tt, (refl, tt, (refl, (refl, refl, (expression_heeds true (at (text b) place)), tt), tt)))), (refl, refl, (expression_heeds true (at (text b) place)), tt))
conn_heeds (number v z) place = (refl, refl, (refl, tt, (refl, tt, (refl, tt, (refl, (refl, refl, (expression_heeds true (at (number v z) place)), tt), tt)))), (refl, refl, (expression_heeds true (at (number v z) place)), tt))

conns_heed : (kind : Terminal) (place : Place) → Heeds begins conns (at kind place)
unfolding conns conn conn_by_name expression any_operand unary_operand prim by_name path by_system parens braces
conns_heed (opening s) place = (refl, conn_heeds (opening s) place, (refl, (refl, tt, conn_heeds (opening s) place)))
conns_heed (fixed lexeme.Dot) place = (refl, conn_heeds (fixed lexeme.Dot) place, (refl, (refl, tt, conn_heeds (fixed lexeme.Dot) place)))
conns_heed (fixed s) place = (refl, conn_heeds (fixed s) place, (refl, (refl, tt, conn_heeds (fixed s) place)))
conns_heed (name b) place = (refl, conn_heeds (name b) place, (refl, (refl, tt, conn_heeds (name b) place)))
conns_heed (system b) place = (refl, conn_heeds (system b) place, (refl, (refl, tt, conn_heeds (system b) place)))
conns_heed (text b) place = (refl, conn_heeds (text b) place, (refl, (refl, tt, conn_heeds (text b) place)))
conns_heed (number v z) place = (refl, conn_heeds (number v z) place, (refl, (refl, tt, conn_heeds (number v z) place)))

inst_heeds : (kind : Terminal) (place : Place) → Heeds begins inst (at kind place)
unfolding inst conns conn conn_by_name expression any_operand unary_operand prim by_name path by_system parens braces
inst_heeds (opening s) place = (refl, tt, (refl, tt, (refl, (refl, refl, conns_heed (opening s) place, tt), tt)))
inst_heeds (fixed lexeme.Dot) place = (refl, tt, (refl, tt, (refl, (refl, refl, conns_heed (fixed lexeme.Dot) place, tt), tt)))
inst_heeds (fixed s) place = (refl, tt, (refl, tt, (refl, (refl, refl, conns_heed (fixed s) place, tt), tt)))
inst_heeds (name b) place = (refl, tt, (refl, tt, (refl, (refl, refl, conns_heed (name b) place, tt), tt)))
inst_heeds (system b) place = (refl, tt, (refl, tt, (refl, (refl, refl, conns_heed (system b) place, tt), tt)))
inst_heeds (text b) place = (refl, tt, (refl, tt, (refl, (refl, refl, conns_heed (text b) place, tt), tt)))
inst_heeds (number v z) place = (refl, tt, (refl, tt, (refl, (refl, refl, conns_heed (number v z) place, tt), tt)))

instance_heeds : (kind : Terminal) (place : Place) → Heeds begins instance_item (at kind place)
unfolding instance_item conns conn conn_by_name inst expression any_operand unary_operand prim by_name path by_system parens braces
instance_heeds (opening s) place = (refl, tt, (refl, (refl, refl, (refl, tt, (refl, tt, (refl, conns_heed (opening s) place, tt))), tt), (refl, (refl, inst_heeds (opening s) place, (refl, (refl, tt, inst_heeds (opening s) place))), tt)))
instance_heeds (fixed lexeme.Dot) place = (refl, tt, (refl, (refl, refl, (refl, tt, (refl, tt, (refl, conns_heed (fixed lexeme.Dot) place, tt))), tt), (refl, (refl, inst_heeds (fixed lexeme.Dot) place, (refl, (refl, tt, inst_heeds (fixed lexeme.Dot) place))), tt)))
instance_heeds (fixed s) place = (refl, tt, (refl, (refl, refl, (refl, tt, (refl, tt, (refl, conns_heed (fixed s) place, tt))), tt), (refl, (refl, inst_heeds (fixed s) place, (refl, (refl, tt, inst_heeds (fixed s) place))), tt)))
instance_heeds (name b) place = (refl, tt, (refl, (refl, refl, (refl, tt, (refl, tt, (refl, conns_heed (name b) place, tt))), tt), (refl, (refl, inst_heeds (name b) place, (refl, (refl, tt, inst_heeds (name b) place))), tt)))
instance_heeds (system b) place = (refl, tt, (refl, (refl, refl, (refl, tt, (refl, tt, (refl, conns_heed (system b) place, tt))), tt), (refl, (refl, inst_heeds (system b) place, (refl, (refl, tt, inst_heeds (system b) place))), tt)))
instance_heeds (text b) place = (refl, tt, (refl, (refl, refl, (refl, tt, (refl, tt, (refl, conns_heed (text b) place, tt))), tt), (refl, (refl, inst_heeds (text b) place, (refl, (refl, tt, inst_heeds (text b) place))), tt)))
instance_heeds (number v z) place = (refl, tt, (refl, (refl, refl, (refl, tt, (refl, tt, (refl, conns_heed (number v z) place, tt))), tt), (refl, (refl, inst_heeds (number v z) place, (refl, (refl, tt, inst_heeds (number v z) place))), tt)))

process_heeds : (t : Token) → Heeds begins process_item t
unfolding process_item
process_heeds t = (refl, tt, tt)

targ_head_heeds : (kind : Terminal) (place : Place) → Heeds begins targ_head (at kind place)
unfolding targ_head a_type a_range
targ_head_heeds (opening s) place = (refl, tt, (refl, (refl, refl, tt, tt), type_heeds (opening s) place))
targ_head_heeds (fixed lexeme.Reg) place = (refl, tt, (refl, (refl, refl, tt, tt), type_heeds (fixed lexeme.Reg) place))
targ_head_heeds (fixed s) place = (refl, tt, (refl, (refl, refl, tt, tt), type_heeds (fixed s) place))
targ_head_heeds (name b) place = (refl, tt, (refl, (refl, refl, tt, tt), type_heeds (name b) place))
targ_head_heeds (system b) place = (refl, tt, (refl, (refl, refl, tt, tt), type_heeds (system b) place))
targ_head_heeds (text b) place = (refl, tt, (refl, (refl, refl, tt, tt), type_heeds (text b) place))
targ_head_heeds (number v z) place = (refl, tt, (refl, (refl, refl, tt, tt), type_heeds (number v z) place))

targ_ids_heed : (h : TargHead) (kind : Terminal) (place : Place) → Heeds begins (targ_ids h) (at kind place)
unfolding targ_ids
targ_ids_heed h (opening s) place = (refl, (refl, tt, tt), (refl, (refl, tt, (refl, tt, tt))))
targ_ids_heed h (fixed lexeme.Comma) place = (refl, (refl, tt, tt), (refl, (refl, tt, (refl, tt, tt))))
targ_ids_heed h (fixed s) place = (refl, (refl, tt, tt), (refl, (refl, tt, (refl, tt, tt))))
targ_ids_heed h (name b) place = (refl, (refl, tt, tt), (refl, (refl, tt, (refl, tt, tt))))
targ_ids_heed h (system b) place = (refl, (refl, tt, tt), (refl, (refl, tt, (refl, tt, tt))))
targ_ids_heed h (text b) place = (refl, (refl, tt, tt), (refl, (refl, tt, (refl, tt, tt))))
targ_ids_heed h (number v z) place = (refl, (refl, tt, tt), (refl, (refl, tt, (refl, tt, tt))))

targ_heeds : (t : Token) → Heeds begins targ t
unfolding targ targ_head
targ_heeds t = (refl, targ_head_heeds t.kind t.place, λ h. targ_ids_heed h t.kind t.place)

targ_one_heeds : (t : Token) → Heeds begins targ_one t
unfolding targ_one targ_id targ_head
targ_one_heeds t = (refl, targ_head_heeds t.kind t.place, λ h. (refl, tt, tt))

next_targ_heeds : (u : Targs) (kind : Terminal) (place : Place) → (is lexeme.Comma (at kind place) ≡ first begins (next_targ u) (at kind place)) × Heeds begins (next_targ u) (at kind place)
unfolding next_targ targ_one targ_head
next_targ_heeds u (opening s) place = (refl, (refl, tt, (refl, refl, targ_one_heeds (at (opening s) place), (refl, tt, tt))))
next_targ_heeds u (fixed lexeme.Comma) place = (refl, (refl, tt, (refl, refl, targ_one_heeds (at (fixed lexeme.Comma) place), (refl, tt, tt))))
next_targ_heeds u (fixed s) place = (refl, (refl, tt, (refl, refl, targ_one_heeds (at (fixed s) place), (refl, tt, tt))))
next_targ_heeds u (name b) place = (refl, (refl, tt, (refl, refl, targ_one_heeds (at (name b) place), (refl, tt, tt))))
next_targ_heeds u (system b) place = (refl, (refl, tt, (refl, refl, targ_one_heeds (at (system b) place), (refl, tt, tt))))
next_targ_heeds u (text b) place = (refl, (refl, tt, (refl, refl, targ_one_heeds (at (text b) place), (refl, tt, tt))))
next_targ_heeds u (number v z) place = (refl, (refl, tt, (refl, refl, targ_one_heeds (at (number v z) place), (refl, tt, tt))))

targs_heed : (t : Token) → Heeds begins targs t
unfolding targs next_targs targ_one targ_head
targs_heed t = (refl, targ_one_heeds t, λ u s. next_targ_heeds s t.kind t.place)

local_heeds : (kind : Terminal) (place : Place) → Heeds begins local (at kind place)
unfolding local targ targ_head decl reg_decl integer_decl time_decl
local_heeds (opening s) place = (refl, refl, (refl, targ_heeds (at (opening s) place), tt), decl_heeds (opening s) place)
local_heeds (fixed lexeme.Input) place = (refl, refl, (refl, targ_heeds (at (fixed lexeme.Input) place), tt), decl_heeds (fixed lexeme.Input) place)
local_heeds (fixed s) place = (refl, refl, (refl, targ_heeds (at (fixed s) place), tt), decl_heeds (fixed s) place)
local_heeds (name b) place = (refl, refl, (refl, targ_heeds (at (name b) place), tt), decl_heeds (name b) place)
local_heeds (system b) place = (refl, refl, (refl, targ_heeds (at (system b) place), tt), decl_heeds (system b) place)
local_heeds (text b) place = (refl, refl, (refl, targ_heeds (at (text b) place), tt), decl_heeds (text b) place)
local_heeds (number v z) place = (refl, refl, (refl, targ_heeds (at (number v z) place), tt), decl_heeds (number v z) place)

routine_heeds : (inside : Bool) (kind : Terminal) (place : Place) → Heeds begins (routine inside) (at kind place)
unfolding routine targs targ_one targ_head local targ decl reg_decl integer_decl time_decl statement empty_stmt by_name_stmt path by_brace_stmt braced delay_stmt delay event_stmt wait_stmt if_stmt case_stmt for_stmt loop_stmt forever_stmt begin_stmt fork_stmt trigger_stmt disable_stmt force_stmt release_stmt system_stmt
routine_heeds inside (opening s) place = (refl, tt, (refl, (refl, (refl, refl, (refl, tt, (refl, targs_heed (at (opening s) place), tt)), tt), tt), (refl, (refl, local_heeds (opening s) place), tt)))
routine_heeds inside (fixed lexeme.Input) place = (refl, tt, (refl, (refl, (refl, refl, (refl, tt, (refl, targs_heed (at (fixed lexeme.Input) place), tt)), tt), tt), (refl, (refl, local_heeds (fixed lexeme.Input) place), tt)))
routine_heeds inside (fixed s) place = (refl, tt, (refl, (refl, (refl, refl, (refl, tt, (refl, targs_heed (at (fixed s) place), tt)), tt), tt), (refl, (refl, local_heeds (fixed s) place), tt)))
routine_heeds inside (name b) place = (refl, tt, (refl, (refl, (refl, refl, (refl, tt, (refl, targs_heed (at (name b) place), tt)), tt), tt), (refl, (refl, local_heeds (name b) place), tt)))
routine_heeds inside (system b) place = (refl, tt, (refl, (refl, (refl, refl, (refl, tt, (refl, targs_heed (at (system b) place), tt)), tt), tt), (refl, (refl, local_heeds (system b) place), tt)))
routine_heeds inside (text b) place = (refl, tt, (refl, (refl, (refl, refl, (refl, tt, (refl, targs_heed (at (text b) place), tt)), tt), tt), (refl, (refl, local_heeds (text b) place), tt)))
routine_heeds inside (number v z) place = (refl, tt, (refl, (refl, (refl, refl, (refl, tt, (refl, targs_heed (at (number v z) place), tt)), tt), tt), (refl, (refl, local_heeds (number v z) place), tt)))

task_heeds : (t : Token) → Heeds begins task_item t
unfolding task_item routine
task_heeds t = (refl, tt, (refl, routine_heeds false t.kind t.place, tt))

result_heeds : (kind : Terminal) (place : Place) → Heeds begins result_type (at kind place)
unfolding result_type a_type a_range
result_heeds (opening s) place = (refl, refl, tt, (refl, refl, tt, (refl, refl, type_heeds (opening s) place, tt)))
result_heeds (fixed lexeme.Signed) place = (refl, refl, tt, (refl, refl, tt, (refl, refl, type_heeds (fixed lexeme.Signed) place, tt)))
result_heeds (fixed s) place = (refl, refl, tt, (refl, refl, tt, (refl, refl, type_heeds (fixed s) place, tt)))
result_heeds (name b) place = (refl, refl, tt, (refl, refl, tt, (refl, refl, type_heeds (name b) place, tt)))
result_heeds (system b) place = (refl, refl, tt, (refl, refl, tt, (refl, refl, type_heeds (system b) place, tt)))
result_heeds (text b) place = (refl, refl, tt, (refl, refl, tt, (refl, refl, type_heeds (text b) place, tt)))
result_heeds (number v z) place = (refl, refl, tt, (refl, refl, tt, (refl, refl, type_heeds (number v z) place, tt)))

function_heeds : (kind : Terminal) (place : Place) → Heeds begins function_item (at kind place)
unfolding function_item result_type a_type a_range routine
function_heeds (opening s) place = (refl, tt, (refl, (refl, result_heeds (opening s) place, routine_heeds true (opening s) place), tt))
function_heeds (fixed lexeme.Signed) place = (refl, tt, (refl, (refl, result_heeds (fixed lexeme.Signed) place, routine_heeds true (fixed lexeme.Signed) place), tt))
function_heeds (fixed s) place = (refl, tt, (refl, (refl, result_heeds (fixed s) place, routine_heeds true (fixed s) place), tt))
function_heeds (name b) place = (refl, tt, (refl, (refl, result_heeds (name b) place, routine_heeds true (name b) place), tt))
function_heeds (system b) place = (refl, tt, (refl, (refl, result_heeds (system b) place, routine_heeds true (system b) place), tt))
function_heeds (text b) place = (refl, tt, (refl, (refl, result_heeds (text b) place, routine_heeds true (text b) place), tt))
function_heeds (number v z) place = (refl, tt, (refl, (refl, result_heeds (number v z) place, routine_heeds true (number v z) place), tt))

generate_head_heeds : (t : Token) → Heeds begins generate_head t
unfolding generate_head assigned expression any_operand prim braces
generate_head_heeds t = (refl, assigned_heeds t, (refl, tt, (refl, (expression_heeds true t), (refl, tt, assigned_heeds t))))

for_heeds : (t : Token) → Heeds begins for_item t
unfolding for_item generate_head assigned
for_heeds t = (refl, tt, (refl, (refl, tt, (refl, generate_head_heeds t, tt)), tt))

other_gblock_heeds : (kind : Terminal) (place : Place) → Heeds begins other_gblock (at kind place)
unfolding other_gblock
other_gblock_heeds (opening s) place = (refl, refl, (refl, tt, tt), tt)
other_gblock_heeds (fixed lexeme.Else) place = (refl, refl, (refl, tt, tt), tt)
other_gblock_heeds (fixed s) place = (refl, refl, (refl, tt, tt), tt)
other_gblock_heeds (name b) place = (refl, refl, (refl, tt, tt), tt)
other_gblock_heeds (system b) place = (refl, refl, (refl, tt, tt), tt)
other_gblock_heeds (text b) place = (refl, refl, (refl, tt, tt), tt)
other_gblock_heeds (number v z) place = (refl, refl, (refl, tt, tt), tt)

if_heeds : (t : Token) → Heeds begins if_item t
unfolding if_item expression any_operand prim braces
if_heeds t = (refl, tt, (refl, (refl, tt, (refl, (expression_heeds true t), tt)), (refl, tt, other_gblock_heeds t.kind t.place)))

item_heeds : (kind : Terminal) (place : Place) → Heeds begins item (at kind place)
unfolding item port_item port_head net_item decl_item decl reg_decl integer_decl time_decl event_item genvar_item parameter_item assign_item gate_item instance_item process_item task_item function_item for_item if_item
item_heeds (opening s) place = (refl, refl, port_item_heeds (at (opening s) place), (refl, refl, net_item_heeds (opening s) place, (refl, refl, decl_item_heeds (at (opening s) place), (refl, refl, event_item_heeds (opening s) place, (refl, refl, genvar_item_heeds (opening s) place, (refl, refl, parameter_heeds (opening s) place, (refl, refl, assign_heeds (opening s) place, (refl, refl, gates_heed (opening s) place, (refl, refl, instance_heeds (opening s) place, (refl, refl, process_heeds (at (opening s) place), (refl, refl, task_heeds (at (opening s) place), (refl, refl, function_heeds (opening s) place, (refl, refl, for_heeds (at (opening s) place), if_heeds (at (opening s) place))))))))))))))
item_heeds (fixed lexeme.If) place = (refl, refl, port_item_heeds (at (fixed lexeme.If) place), (refl, refl, net_item_heeds (fixed lexeme.If) place, (refl, refl, decl_item_heeds (at (fixed lexeme.If) place), (refl, refl, event_item_heeds (fixed lexeme.If) place, (refl, refl, genvar_item_heeds (fixed lexeme.If) place, (refl, refl, parameter_heeds (fixed lexeme.If) place, (refl, refl, assign_heeds (fixed lexeme.If) place, (refl, refl, gates_heed (fixed lexeme.If) place, (refl, refl, instance_heeds (fixed lexeme.If) place, (refl, refl, process_heeds (at (fixed lexeme.If) place), (refl, refl, task_heeds (at (fixed lexeme.If) place), (refl, refl, function_heeds (fixed lexeme.If) place, (refl, refl, for_heeds (at (fixed lexeme.If) place), if_heeds (at (fixed lexeme.If) place))))))))))))))
item_heeds (fixed s) place = (refl, refl, port_item_heeds (at (fixed s) place), (refl, refl, net_item_heeds (fixed s) place, (refl, refl, decl_item_heeds (at (fixed s) place), (refl, refl, event_item_heeds (fixed s) place, (refl, refl, genvar_item_heeds (fixed s) place, (refl, refl, parameter_heeds (fixed s) place, (refl, refl, assign_heeds (fixed s) place, (refl, refl, gates_heed (fixed s) place, (refl, refl, instance_heeds (fixed s) place, (refl, refl, process_heeds (at (fixed s) place), (refl, refl, task_heeds (at (fixed s) place), (refl, refl, function_heeds (fixed s) place, (refl, refl, for_heeds (at (fixed s) place), if_heeds (at (fixed s) place))))))))))))))
item_heeds (name b) place = (refl, refl, port_item_heeds (at (name b) place), (refl, refl, net_item_heeds (name b) place, (refl, refl, decl_item_heeds (at (name b) place), (refl, refl, event_item_heeds (name b) place, (refl, refl, genvar_item_heeds (name b) place, (refl, refl, parameter_heeds (name b) place, (refl, refl, assign_heeds (name b) place, (refl, refl, gates_heed (name b) place, (refl, refl, instance_heeds (name b) place, (refl, refl, process_heeds (at (name b) place), (refl, refl, task_heeds (at (name b) place), (refl, refl, function_heeds (name b) place, (refl, refl, for_heeds (at (name b) place), if_heeds (at (name b) place))))))))))))))
item_heeds (system b) place = (refl, refl, port_item_heeds (at (system b) place), (refl, refl, net_item_heeds (system b) place, (refl, refl, decl_item_heeds (at (system b) place), (refl, refl, event_item_heeds (system b) place, (refl, refl, genvar_item_heeds (system b) place, (refl, refl, parameter_heeds (system b) place, (refl, refl, assign_heeds (system b) place, (refl, refl, gates_heed (system b) place, (refl, refl, instance_heeds (system b) place, (refl, refl, process_heeds (at (system b) place), (refl, refl, task_heeds (at (system b) place), (refl, refl, function_heeds (system b) place, (refl, refl, for_heeds (at (system b) place), if_heeds (at (system b) place))))))))))))))
item_heeds (text b) place = (refl, refl, port_item_heeds (at (text b) place), (refl, refl, net_item_heeds (text b) place, (refl, refl, decl_item_heeds (at (text b) place), (refl, refl, event_item_heeds (text b) place, (refl, refl, genvar_item_heeds (text b) place, (refl, refl, parameter_heeds (text b) place, (refl, refl, assign_heeds (text b) place, (refl, refl, gates_heed (text b) place, (refl, refl, instance_heeds (text b) place, (refl, refl, process_heeds (at (text b) place), (refl, refl, task_heeds (at (text b) place), (refl, refl, function_heeds (text b) place, (refl, refl, for_heeds (at (text b) place), if_heeds (at (text b) place))))))))))))))
item_heeds (number v z) place = (refl, refl, port_item_heeds (at (number v z) place), (refl, refl, net_item_heeds (number v z) place, (refl, refl, decl_item_heeds (at (number v z) place), (refl, refl, event_item_heeds (number v z) place, (refl, refl, genvar_item_heeds (number v z) place, (refl, refl, parameter_heeds (number v z) place, (refl, refl, assign_heeds (number v z) place, (refl, refl, gates_heed (number v z) place, (refl, refl, instance_heeds (number v z) place, (refl, refl, process_heeds (at (number v z) place), (refl, refl, task_heeds (at (number v z) place), (refl, refl, function_heeds (number v z) place, (refl, refl, for_heeds (at (number v z) place), if_heeds (at (number v z) place))))))))))))))

word_heeds : (depth : ℕ) (r : Region) (kind : Terminal) (place : Place) → (region_goes depth (at kind place) ≡ first begins (region_turn depth r) (at kind place)) × Heeds begins (region_turn depth r) (at kind place)
unfolding region_word item port_item port_head net_item decl_item decl reg_decl integer_decl time_decl event_item genvar_item parameter_item assign_item gate_item instance_item process_item task_item function_item for_item if_item
word_heeds zero r (opening s) place = (refl, (refl, (refl, refl, tt, item_heeds (opening s) place), tt))
word_heeds zero r (fixed lexeme.If) place = (refl, (refl, (refl, refl, tt, item_heeds (fixed lexeme.If) place), tt))
word_heeds zero r (fixed s) place = (refl, (refl, (refl, refl, tt, item_heeds (fixed s) place), tt))
word_heeds zero r (name b) place = (refl, (refl, (refl, refl, tt, item_heeds (name b) place), tt))
word_heeds zero r (system b) place = (refl, (refl, (refl, refl, tt, item_heeds (system b) place), tt))
word_heeds zero r (text b) place = (refl, (refl, (refl, refl, tt, item_heeds (text b) place), tt))
word_heeds zero r (number v z) place = (refl, (refl, (refl, refl, tt, item_heeds (number v z) place), tt))
word_heeds (suc depth) r (opening s) place = (refl, (refl, (refl, refl, tt, (refl, refl, tt, item_heeds (opening s) place)), tt))
word_heeds (suc depth) r (fixed lexeme.If) place = (refl, (refl, (refl, refl, tt, (refl, refl, tt, item_heeds (fixed lexeme.If) place)), tt))
word_heeds (suc depth) r (fixed s) place = (refl, (refl, (refl, refl, tt, (refl, refl, tt, item_heeds (fixed s) place)), tt))
word_heeds (suc depth) r (name b) place = (refl, (refl, (refl, refl, tt, (refl, refl, tt, item_heeds (name b) place)), tt))
word_heeds (suc depth) r (system b) place = (refl, (refl, (refl, refl, tt, (refl, refl, tt, item_heeds (system b) place)), tt))
word_heeds (suc depth) r (text b) place = (refl, (refl, (refl, refl, tt, (refl, refl, tt, item_heeds (text b) place)), tt))
word_heeds (suc depth) r (number v z) place = (refl, (refl, (refl, refl, tt, (refl, refl, tt, item_heeds (number v z) place)), tt))

region_end_heeds : (depth : ℕ) (r : Region) (t : Token) → Heeds begins (region_end depth r) t
unfolding region_end
region_end_heeds zero r t = tt
region_end_heeds (suc depth) r t = tt

region_end_first : (depth : ℕ) (r : Region) (t : Token) → first begins (region_end depth r) t ≡ false
unfolding region_end
region_end_first zero r t = refl
region_end_first (suc depth) r t = refl

items_heed : (t : Token) → Heeds begins items t
unfolding items region_end
items_heed t = (refl, (λ u. word_heeds u.depth u t.kind t.place), λ u. region_end_heeds u.depth u t)

within_heeds : (depth : ℕ) (r : Region) (kind : Terminal) (place : Place) → (within_goes depth (at kind place) ≡ first begins (within_turn depth r) (at kind place)) × Heeds begins (within_turn depth r) (at kind place)
unfolding within_turn
within_heeds zero r kind place = (refl, tt)
within_heeds (suc depth) r kind place = word_heeds (suc depth) r kind place

region_rest_heeds : (r : Region) (t : Token) → Heeds begins (region_rest r) t
unfolding region_rest
region_rest_heeds r t = (
  ap (λ (b : Bool). b && first begins (within_turn r.depth r) t) (region_end_first r.depth r t),
  (λ u. within_heeds u.depth u t.kind t.place),
  λ u. region_end_heeds u.depth u t,
)

first_word_heeds : (kind : Terminal) (place : Place) → Heeds begins first_word (at kind place)
unfolding first_word item port_item port_head net_item decl_item decl reg_decl integer_decl time_decl event_item genvar_item parameter_item assign_item gate_item instance_item process_item task_item function_item for_item if_item
first_word_heeds (opening s) place = (refl, refl, tt, item_heeds (opening s) place)
first_word_heeds (fixed lexeme.If) place = (refl, refl, tt, item_heeds (fixed lexeme.If) place)
first_word_heeds (fixed s) place = (refl, refl, tt, item_heeds (fixed s) place)
first_word_heeds (name b) place = (refl, refl, tt, item_heeds (name b) place)
first_word_heeds (system b) place = (refl, refl, tt, item_heeds (system b) place)
first_word_heeds (text b) place = (refl, refl, tt, item_heeds (text b) place)
first_word_heeds (number v z) place = (refl, refl, tt, item_heeds (number v z) place)

one_item_heeds : (t : Token) → Heeds begins one_item t
unfolding one_item one_item_rest first_word item port_item port_head net_item decl_item decl reg_decl integer_decl time_decl event_item genvar_item parameter_item assign_item gate_item instance_item process_item task_item function_item for_item if_item
one_item_heeds t = (refl, (refl, first_word_heeds t.kind t.place, tt), λ w. region_rest_heeds _ t)

block_heeds : (kind : Terminal) (place : Place) → Heeds begins item_block (at kind place)
unfolding item_block items region_word region_end item port_item port_head net_item decl_item decl reg_decl integer_decl time_decl event_item genvar_item parameter_item assign_item gate_item instance_item process_item task_item function_item for_item if_item
block_heeds (opening s) place = (refl, tt, (refl, (refl, (refl, refl, (refl, tt, tt), tt), items_heed (at (opening s) place)), tt))
block_heeds (fixed lexeme.If) place = (refl, tt, (refl, (refl, (refl, refl, (refl, tt, tt), tt), items_heed (at (fixed lexeme.If) place)), tt))
block_heeds (fixed s) place = (refl, tt, (refl, (refl, (refl, refl, (refl, tt, tt), tt), items_heed (at (fixed s) place)), tt))
block_heeds (name b) place = (refl, tt, (refl, (refl, (refl, refl, (refl, tt, tt), tt), items_heed (at (name b) place)), tt))
block_heeds (system b) place = (refl, tt, (refl, (refl, (refl, refl, (refl, tt, tt), tt), items_heed (at (system b) place)), tt))
block_heeds (text b) place = (refl, tt, (refl, (refl, (refl, refl, (refl, tt, tt), tt), items_heed (at (text b) place)), tt))
block_heeds (number v z) place = (refl, tt, (refl, (refl, (refl, refl, (refl, tt, tt), tt), items_heed (at (number v z) place)), tt))

pub gblock_heeds : (kind : Terminal) (place : Place) → Heeds begins a_gblock (at kind place)
unfolding a_gblock item_block one_item first_word item port_item port_head net_item decl_item decl reg_decl integer_decl time_decl event_item genvar_item parameter_item assign_item gate_item instance_item process_item task_item function_item for_item if_item
gblock_heeds (opening s) place = (refl, refl, block_heeds (opening s) place, one_item_heeds (at (opening s) place))
gblock_heeds (fixed lexeme.If) place = (refl, refl, block_heeds (fixed lexeme.If) place, one_item_heeds (at (fixed lexeme.If) place))
gblock_heeds (fixed s) place = (refl, refl, block_heeds (fixed s) place, one_item_heeds (at (fixed s) place))
gblock_heeds (name b) place = (refl, refl, block_heeds (name b) place, one_item_heeds (at (name b) place))
gblock_heeds (system b) place = (refl, refl, block_heeds (system b) place, one_item_heeds (at (system b) place))
gblock_heeds (text b) place = (refl, refl, block_heeds (text b) place, one_item_heeds (at (text b) place))
gblock_heeds (number v z) place = (refl, refl, block_heeds (number v z) place, one_item_heeds (at (number v z) place))

pars_heed : (kind : Terminal) (place : Place) → Heeds begins pars (at kind place)
unfolding pars par assigned
pars_heed (opening s) place = (refl, refl, (refl, tt, (refl, tt, (refl, (refl, par_heeds (opening s) place, (refl, (refl, tt, par_heeds (opening s) place))), tt))), tt)
pars_heed (fixed lexeme.Hash) place = (refl, refl, (refl, tt, (refl, tt, (refl, (refl, par_heeds (fixed lexeme.Hash) place, (refl, (refl, tt, par_heeds (fixed lexeme.Hash) place))), tt))), tt)
pars_heed (fixed s) place = (refl, refl, (refl, tt, (refl, tt, (refl, (refl, par_heeds (fixed s) place, (refl, (refl, tt, par_heeds (fixed s) place))), tt))), tt)
pars_heed (name b) place = (refl, refl, (refl, tt, (refl, tt, (refl, (refl, par_heeds (name b) place, (refl, (refl, tt, par_heeds (name b) place))), tt))), tt)
pars_heed (system b) place = (refl, refl, (refl, tt, (refl, tt, (refl, (refl, par_heeds (system b) place, (refl, (refl, tt, par_heeds (system b) place))), tt))), tt)
pars_heed (text b) place = (refl, refl, (refl, tt, (refl, tt, (refl, (refl, par_heeds (text b) place, (refl, (refl, tt, par_heeds (text b) place))), tt))), tt)
pars_heed (number v z) place = (refl, refl, (refl, tt, (refl, tt, (refl, (refl, par_heeds (number v z) place, (refl, (refl, tt, par_heeds (number v z) place))), tt))), tt)

port_list_heeds : (kind : Terminal) (place : Place) → Heeds begins port_list (at kind place)
unfolding port_list ports pdecl port_head
port_list_heeds (opening s) place = (refl, refl, (refl, tt, (refl, (refl, refl, ports_heed (opening s) place, tt), tt)), tt)
port_list_heeds (fixed lexeme.Input) place = (refl, refl, (refl, tt, (refl, (refl, refl, ports_heed (fixed lexeme.Input) place, tt), tt)), tt)
port_list_heeds (fixed s) place = (refl, refl, (refl, tt, (refl, (refl, refl, ports_heed (fixed s) place, tt), tt)), tt)
port_list_heeds (name b) place = (refl, refl, (refl, tt, (refl, (refl, refl, ports_heed (name b) place, tt), tt)), tt)
port_list_heeds (system b) place = (refl, refl, (refl, tt, (refl, (refl, refl, ports_heed (system b) place, tt), tt)), tt)
port_list_heeds (text b) place = (refl, refl, (refl, tt, (refl, (refl, refl, ports_heed (text b) place, tt), tt)), tt)
port_list_heeds (number v z) place = (refl, refl, (refl, tt, (refl, (refl, refl, ports_heed (number v z) place, tt), tt)), tt)

module_heeds : (kind : Terminal) (place : Place) → Heeds begins a_module (at kind place)
unfolding a_module pars port_list items region_word region_end item port_item port_head net_item decl_item decl reg_decl integer_decl time_decl event_item genvar_item parameter_item assign_item gate_item instance_item process_item task_item function_item for_item if_item
module_heeds (opening s) place = (refl, tt, (refl, tt, (refl, pars_heed (opening s) place, (refl, (refl, port_list_heeds (opening s) place, tt), (refl, items_heed (at (opening s) place), tt)))))
module_heeds (fixed lexeme.If) place = (refl, tt, (refl, tt, (refl, pars_heed (fixed lexeme.If) place, (refl, (refl, port_list_heeds (fixed lexeme.If) place, tt), (refl, items_heed (at (fixed lexeme.If) place), tt)))))
module_heeds (fixed s) place = (refl, tt, (refl, tt, (refl, pars_heed (fixed s) place, (refl, (refl, port_list_heeds (fixed s) place, tt), (refl, items_heed (at (fixed s) place), tt)))))
module_heeds (name b) place = (refl, tt, (refl, tt, (refl, pars_heed (name b) place, (refl, (refl, port_list_heeds (name b) place, tt), (refl, items_heed (at (name b) place), tt)))))
module_heeds (system b) place = (refl, tt, (refl, tt, (refl, pars_heed (system b) place, (refl, (refl, port_list_heeds (system b) place, tt), (refl, items_heed (at (system b) place), tt)))))
module_heeds (text b) place = (refl, tt, (refl, tt, (refl, pars_heed (text b) place, (refl, (refl, port_list_heeds (text b) place, tt), (refl, items_heed (at (text b) place), tt)))))
module_heeds (number v z) place = (refl, tt, (refl, tt, (refl, pars_heed (number v z) place, (refl, (refl, port_list_heeds (number v z) place, tt), (refl, items_heed (at (number v z) place), tt)))))

pub source_heeds : (kind : Terminal) (place : Place) → Heeds begins source (at kind place)
unfolding source a_module
source_heeds (opening s) place = (refl, module_heeds (opening s) place)
source_heeds (fixed lexeme.If) place = (refl, module_heeds (fixed lexeme.If) place)
source_heeds (fixed s) place = (refl, module_heeds (fixed s) place)
source_heeds (name b) place = (refl, module_heeds (name b) place)
source_heeds (system b) place = (refl, module_heeds (system b) place)
source_heeds (text b) place = (refl, module_heeds (text b) place)
source_heeds (number v z) place = (refl, module_heeds (number v z) place)
