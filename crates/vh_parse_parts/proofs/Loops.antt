-- A turn of each loop of the parser.
use Rattle.std.proofs.Common.{◌≡◌, ℕ, ◌<◌, true, List, [], ◌∷◌, ◌++◌, length}
use Rattle.vh_parse_grammar.specs.Reading.{got, next_is}
use Rattle.vh_parse_grammar.specs.Omissions.{noted, joined_noted}
use Rattle.vh_parse_grammar.proofs.OmissionTurns.{noted_less, joined_noted_turn, iter_noted_turn}
use Rattle.vh_ast.specs.Declarations.{LocalTree}
use Rattle.vh_parse_syntax.specs.declared.lexeme.Lexeme.TheVariants as lexeme
use Rattle.vh_parse_syntax.specs.Tokens.{Token, is, is_unused}
use Rattle.vh_parse_syntax.specs.Items.{Declared, Delayed, Targs, next_port, delayed_goes, next_delayed, more_delayed, next_targ, local, begins_local}
use Rattle.vh_parse_syntax.specs.Grammar.{grammar}
use Rattle.vh_parse_syntax.specs.Table.{eating, advancing}
use Rattle.vh_parse_parts.specs.Pieces.{more_ports, more_targs, locals}
use Rattle.vh_parse_parts.specs.Conditions.{next_port_advances, next_delayed_advances, next_targ_advances, local_advances}

-- ports of a header go on by one
pub ports_go_on : (depth : ℕ) (d u : Declared) (ts mid : List Token) (m k : ℕ) → next_is (is lexeme.Comma) ts ≡ true →
    noted is_unused grammar depth (next_port d) ts m ≡ got (u, k) mid →
    noted is_unused grammar depth (more_ports d) ts m ≡ noted is_unused grammar depth (more_ports u) mid k
ports_go_on depth d u ts mid m k c e = iter_noted_turn is_unused grammar eating advancing depth (λ v. is lexeme.Comma) next_port next_port_advances d ts m u k mid c e

pub port_less : (depth : ℕ) (d : Declared) (u : Declared × ℕ) (ts mid : List Token) (m : ℕ) → noted is_unused grammar depth (next_port d) ts m ≡ got u mid → length mid < length ts
port_less depth d u ts mid m e = noted_less is_unused grammar eating advancing depth (next_port d) (next_port_advances d).1 (next_port_advances d).0 ts m u mid e

-- nets behind a delay go on by one
pub delayed_go_on : (depth : ℕ) (d u : Delayed) (ts mid : List Token) (m k : ℕ) → next_is (delayed_goes d.valued) ts ≡ true →
    noted is_unused grammar depth (next_delayed d.valued d) ts m ≡ got (u, k) mid →
    noted is_unused grammar depth (more_delayed d) ts m ≡ noted is_unused grammar depth (more_delayed u) mid k
unfolding more_delayed
delayed_go_on depth d u ts mid m k c e =
    iter_noted_turn is_unused grammar eating advancing depth (λ v t. delayed_goes v.valued t) (λ v. next_delayed v.valued v) (λ v. next_delayed_advances v.valued v) d ts m u k mid c e

pub delayed_less : (depth : ℕ) (d : Delayed) (u : Delayed × ℕ) (ts mid : List Token) (m : ℕ) → noted is_unused grammar depth (next_delayed d.valued d) ts m ≡ got u mid → length mid < length ts
delayed_less depth d u ts mid m e =
    noted_less is_unused grammar eating advancing depth (next_delayed d.valued d) (next_delayed_advances d.valued d).1 (next_delayed_advances d.valued d).0 ts m u mid e

-- arguments go on by one
pub targs_go_on : (depth : ℕ) (s u : Targs) (ts mid : List Token) (m k : ℕ) → next_is (is lexeme.Comma) ts ≡ true →
    noted is_unused grammar depth (next_targ s) ts m ≡ got (u, k) mid →
    noted is_unused grammar depth (more_targs s) ts m ≡ noted is_unused grammar depth (more_targs u) mid k
targs_go_on depth s u ts mid m k c e = iter_noted_turn is_unused grammar eating advancing depth (λ v. is lexeme.Comma) next_targ next_targ_advances s ts m u k mid c e

pub targ_less : (depth : ℕ) (s : Targs) (u : Targs × ℕ) (ts mid : List Token) (m : ℕ) → noted is_unused grammar depth (next_targ s) ts m ≡ got u mid → length mid < length ts
targ_less depth s u ts mid m e = noted_less is_unused grammar eating advancing depth (next_targ s) (next_targ_advances s).1 (next_targ_advances s).0 ts m u mid e

-- What is declared in a task or function goes on by one
pub locals_go_on : (depth : ℕ) (earlier : List LocalTree) (l : LocalTree) (ts mid : List Token) (m k : ℕ) → next_is begins_local ts ≡ true →
    noted is_unused grammar depth local ts m ≡ got (l, k) mid →
    joined_noted earlier (noted is_unused grammar depth locals ts m) ≡ joined_noted (earlier ++ l ∷ []) (noted is_unused grammar depth locals mid k)
locals_go_on depth earlier l ts mid m k c r =
    joined_noted_turn is_unused grammar eating advancing depth begins_local local local_advances.1 local_advances.0 earlier ts m l k mid c r

pub local_less : (depth : ℕ) (l : LocalTree × ℕ) (ts mid : List Token) (m : ℕ) → noted is_unused grammar depth local ts m ≡ got l mid → length mid < length ts
local_less depth l ts mid m r = noted_less is_unused grammar eating advancing depth local local_advances.1 local_advances.0 ts m l mid r
