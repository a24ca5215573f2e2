-- A turn of each loop of the parser.
use Rattle.std.proofs.Common.{◌≡◌, ℕ, ◌<◌, true, List, [], ◌∷◌, ◌++◌, length, ◌-◌, refl, ap, sym, arith}
use Rattle.std.proofs.lemmas.List.{length-map}
use Rattle.vh_base.specs.declared.faults.AppFault.{AppFault}
use Rattle.vh_parse_grammar.specs.Part.{tok, after}
use Rattle.vh_parse_grammar.specs.Reading.{got, next_is, token_of, read, joined}
use Rattle.vh_parse_grammar.proofs.Turns.{iter_turn, joined_turn, read_less}
use Rattle.vh_app_script.specs.declared.token.Keyword.TheVariants as keyword
use Rattle.vh_app_script.specs.declared.token.Symbol.TheVariants as symbols
use Rattle.vh_app_script.specs.declared.token.Token as held
use Rattle.vh_app_script.specs.Token.{Terminal, is_symbol}
use Rattle.vh_app_script.specs.Tree.{Command, Order, Test}
use Rattle.vh_app_script.specs.Env.{Env}
use Rattle.vh_app_script.specs.Words.{names_in}
use Rattle.vh_app_script.specs.Conditions.{eating, one_more_plain, declaration_plain, startup_order_eats, procedure_plain}
use Rattle.vh_app_script.specs.Grammar.{Run, Procs, grammar, the, in_parens, test_row, nested_block, loop_of, while_end, is_word, begins_command, begins_order, one_more, more_commands, further_names, declaration, declarations, startup_order, startup_orders, procedure, more_procedures}
use Rattle.vh_app_script.specs.Views.{terminal, terminals}

-- With the code's tokens
pub fewer : (us vs : List held.Token) → length (terminals vs) < length (terminals us) → length vs < length us
fewer us vs l = omega (arith, length-map us terminal, length-map vs terminal)

-- commands go on by one
pub commands_go_on : (levels : ℕ) (env : Env) (run more : Run) (ts mid : List Terminal) → next_is (begins_command env run) ts ≡ true → read grammar levels (one_more env run) ts ≡ got more mid →
    read grammar levels (more_commands env run) ts ≡ read grammar levels (more_commands env more) mid
commands_go_on levels env run more ts mid is r =
    iter_turn grammar eating levels (begins_command env) (one_more env) (λ u. (one_more_plain env u).0) run ts more mid is r

pub command_less : (levels : ℕ) (env : Env) (run more : Run) (ts mid : List Terminal) → read grammar levels (one_more env run) ts ≡ got more mid → length mid < length ts
command_less levels env run more ts mid r = read_less grammar eating levels (one_more env run) (one_more_plain env run).0 ts more mid r

-- Names go on by one
pub names_go_on : (levels : ℕ) (rules : AppFault) (names more : List (List ℕ)) (ts mid rest : List Terminal) → next_is (is_symbol symbols.Comma) ts ≡ true → read grammar 0 (the symbols.Comma) ts ≡ got tt mid → token_of (names_in rules names) mid ≡ got more rest →
    read grammar levels (further_names rules names) ts ≡ read grammar levels (further_names rules more) rest
names_go_on levels rules names more ts mid rest is r s =
    iter_turn grammar eating levels (λ u. is_symbol symbols.Comma) (λ u. after (the symbols.Comma) (tok (names_in rules u))) (λ u. refl) names ts more rest is (rw (r, s) refl)

-- declarations go on by one
pub declarations_go_on : (levels : ℕ) (rules : AppFault) (names more : List (List ℕ)) (ts mid : List Terminal) → next_is (is_word keyword.Var) ts ≡ true → read grammar levels (declaration rules names) ts ≡ got more mid →
    read grammar levels (declarations rules names) ts ≡ read grammar levels (declarations rules more) mid
declarations_go_on levels rules names more ts mid is r =
    iter_turn grammar eating levels (λ u. is_word keyword.Var) (declaration rules) (λ u. (declaration_plain rules u).0) names ts more mid is r

pub declaration_less : (levels : ℕ) (rules : AppFault) (names more : List (List ℕ)) (ts mid : List Terminal) → read grammar levels (declaration rules names) ts ≡ got more mid → length mid < length ts
declaration_less levels rules names more ts mid r = read_less grammar eating levels (declaration rules names) (declaration_plain rules names).0 ts more mid r

-- The orders of a startup go on by one
pub orders_go_on : (levels : ℕ) (rules : AppFault) (front : List Order) (o : Order) (ts mid : List Terminal) → next_is (begins_order rules) ts ≡ true → read grammar levels (startup_order rules) ts ≡ got o mid →
    joined front (read grammar levels (startup_orders rules) ts) ≡ joined (front ++ o ∷ []) (read grammar levels (startup_orders rules) mid)
orders_go_on levels rules front o ts mid is r = joined_turn grammar eating levels (begins_order rules) (startup_order rules) (startup_order_eats rules) front ts o mid is r

pub order_less : (levels : ℕ) (rules : AppFault) (o : Order) (ts mid : List Terminal) → read grammar levels (startup_order rules) ts ≡ got o mid → length mid < length ts
order_less levels rules o ts mid r = read_less grammar eating levels (startup_order rules) (startup_order_eats rules) ts o mid r

-- procedures go on by one
pub procedures_go_on : (levels : ℕ) (env : Env) (procs more : Procs) (ts mid : List Terminal) → next_is (is_word keyword.Proc) ts ≡ true → read grammar levels (procedure env procs) ts ≡ got more mid →
    read grammar levels (more_procedures env procs) ts ≡ read grammar levels (more_procedures env more) mid
procedures_go_on levels env procs more ts mid is r =
    iter_turn grammar eating levels (λ u. is_word keyword.Proc) (procedure env) (λ u. (procedure_plain env u).0) procs ts more mid is r

pub procedure_less : (levels : ℕ) (env : Env) (procs more : Procs) (ts mid : List Terminal) → read grammar levels (procedure env procs) ts ≡ got more mid → length mid < length ts
procedure_less levels env procs more ts mid r = read_less grammar eating levels (procedure env procs) (procedure_plain env procs).0 ts more mid r

-- A test, and what stands behind it
pub while-read : (levels : ℕ) (env : Env) (room : ℕ) (ts mid rest : List Terminal) (t : Test) (run : Run) (made : Command × ℕ) → read grammar levels (in_parens (test_row env)) ts ≡ got t mid → read grammar levels (nested_block env (room - 1)) mid ≡ got run rest → made ≡ loop_of t run →
    read grammar levels (while_end env room) ts ≡ got made rest
unfolding while_end
while-read levels env room ts mid rest t run made e f m = rw (e, f) (ap (λ x. got x rest) (sym m))
