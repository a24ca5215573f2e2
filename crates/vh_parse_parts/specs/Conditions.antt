-- The conditions of what stands in lists and loops: each turn of a repetition in it takes a token.
use Rattle.std.specs.Prelude.{◌≡◌, Bool, true, false, refl}
use Rattle.vh_parse_grammar.specs.Conditions.{eats, Advances}
use Rattle.vh_parse_syntax.specs.Declarations.{reg_decl, integer_decl, time_decl, decl}
use Rattle.vh_parse_syntax.specs.Items.{Declared, Delayed, Targs, port_head, pdecl, next_port, par, next_delayed, gate, conn_by_name, conn, conns, inst, targ_head, targ_ids, targ, targ_id, targ_one, next_targ, local}
use Rattle.vh_parse_syntax.specs.ExpressionConditions.{expression_advances}
use Rattle.vh_parse_syntax.specs.DeclarationConditions.{type_advances, assigned_advances, net_advances, decl_advances}

-- A port of a header (own).
head_advances : Advances port_head
unfolding port_head
head_advances = (tt, ((tt, tt), type_advances))

pdecl_advances : Advances pdecl
unfolding pdecl
pdecl_advances = (head_advances, λ h. (tt, tt))

pub next_port_advances : (d : Declared) → (eats (next_port d) ≡ true) × Advances (next_port d)
unfolding next_port
next_port_advances d = (refl, (tt, (pdecl_advances, (tt, tt))))

-- A parameter of a header (own).
pub par_advances : Advances par
unfolding par
par_advances = ((tt, (type_advances, assigned_advances)), assigned_advances)

-- A net behind a delay (own).
pub next_delayed_advances : (valued : Bool) (d : Delayed) → (eats (next_delayed valued d) ≡ true) × Advances (next_delayed valued d)
unfolding next_delayed
next_delayed_advances true d = (refl, (tt, net_advances))
next_delayed_advances false d = (refl, tt)

-- A gate, a connection and an instance (own).
pub gate_advances : Advances gate
unfolding gate
gate_advances = ((tt, (tt, (((expression_advances true), (refl, (tt, (expression_advances true)))), tt))), (tt, (((expression_advances true), (refl, (tt, (expression_advances true)))), tt)))

pub conn_advances : Advances conn
unfolding conn conn_by_name
conn_advances = ((tt, (tt, (tt, (((expression_advances true), tt), tt)))), ((expression_advances true), tt))

pub inst_advances : Advances inst
unfolding inst conns
inst_advances = (tt, (tt, (((conn_advances, (refl, (tt, conn_advances))), tt), tt)))

-- An argument of a task or function, and what is declared in one (own).
targ_head_advances : Advances targ_head
unfolding targ_head
targ_head_advances = (tt, ((tt, tt), type_advances))

targ_advances : Advances targ
unfolding targ targ_ids
targ_advances = (targ_head_advances, λ h. ((tt, tt), (refl, (tt, (tt, tt)))))

targ_one_advances : Advances targ_one
unfolding targ_one targ_id
targ_one_advances = (targ_head_advances, λ h. (tt, tt))

pub next_targ_advances : (s : Targs) → (eats (next_targ s) ≡ true) × Advances (next_targ s)
unfolding next_targ
next_targ_advances s = (refl, (tt, (targ_one_advances, (tt, tt))))

pub local_advances : (eats local ≡ true) × Advances local
unfolding local targ targ_head decl reg_decl integer_decl time_decl
local_advances = (refl, ((targ_advances, tt), decl_advances))
