-- Items, modules and sources. Left out: `inout` as a port's direction, `case` in the place of an
-- item, a range after a port's name that is no register, and a net declaration with a delay in
-- which a net has no "=".
use Rattle.std.specs.Prelude.{ℕ, zero, suc, Bool, true, false, not, ◌&&◌, ◌||◌, is_some, List, [], ◌∷◌, ◌++◌, Option, Some, None}
use Rattle.vh_base.specs.declared.place.Place.{Place}
use Rattle.vh_lex.specs.declared.setting.Setting.{Setting}
use Rattle.vh_parse_grammar.specs.Part.{done, tok, seq, bind, act, alt, rep, iter, nested, unless, barred, opt, two, after, before}
use Rattle.vh_ast.specs.declared.token.Id.{Id}
use Rattle.vh_ast.specs.declared.data_type.NetType.{NetType}
use Rattle.vh_ast.specs.declared.data_type.NetType.TheVariants as nets
use Rattle.vh_ast.specs.declared.data_type.Variable.{Variable}
use Rattle.vh_ast.specs.declared.data_type.Variable.TheVariants as variable
use Rattle.vh_ast.specs.declared.port.Direction.{Direction}
use Rattle.vh_ast.specs.declared.port.Direction.TheVariants as direction
use Rattle.vh_ast.specs.declared.port.PortType.{PortType}
use Rattle.vh_ast.specs.declared.port.PortType.TheVariants as ports_
use Rattle.vh_ast.specs.declared.routine.TaskDirection.{TaskDirection}
use Rattle.vh_ast.specs.declared.routine.TaskDirection.TheVariants as routed
use Rattle.vh_ast.specs.declared.instance.GateType.{GateType}
use Rattle.vh_ast.specs.declared.instance.GateType.TheVariants as gates
use Rattle.vh_ast.specs.declared.item.ParameterWord.{ParameterWord}
use Rattle.vh_ast.specs.declared.item.ParameterWord.TheVariants as parameters
use Rattle.vh_ast.specs.declared.item.ProcessWord.{ProcessWord}
use Rattle.vh_ast.specs.declared.item.ProcessWord.TheVariants as processes
use Rattle.vh_ast.specs.Expressions.{ExprTree}
use Rattle.vh_ast.specs.Declarations.{TypeTree, AssignedTree, NetTree, DeclTree, reg, integer, time, ParTree, PdeclTree, PortTree, declared_port, port_name, PortsTree, plain_ports, declared_ports, TargTree, LocalTree, local_targ, local_decl, ResultTree, integer_result, time_result, data_result}
use Rattle.vh_ast.specs.Statements.{DelayTree, SetTree, StmtTree}
use Rattle.vh_ast.specs.Items.{GateTree, ConnTree, ordered, by_name, InstTree, TaskTree, FunctionTree, PlainTree, ItemTree, ItemFormTree, GblockTree, ElseTree, ModuleTree, SourceTree}
use Rattle.vh_ast.specs.Items as I
use Rattle.vh_parse_syntax.specs.declared.lexeme.Lexeme.{Lexeme}
use Rattle.vh_parse_syntax.specs.declared.lexeme.Lexeme.TheVariants as lexeme
use Rattle.vh_parse_syntax.specs.Tokens.{Token, is, is_any, is_name, is_module, in_rows, setting_of, with_place, begins_expression}
use Rattle.vh_parse_syntax.specs.Parts.{G, gblock, the, at_the, row_in, placed_row, an_id, nothing, comma_list, comma_more, in_parens, ended}
use Rattle.vh_parse_syntax.specs.Expressions.{expression}
use Rattle.vh_parse_syntax.specs.Declarations.{a_type, type_lexemes, bare_id, assigned, a_net, decl, variable_rows, decl_lexemes}
use Rattle.vh_parse_syntax.specs.Statements.{all_of, delay, set, inner_stmt}

-- The words of choices (IEEE 1364-2005, A.1 and A.2).
abbrev pub direction_rows : List (Lexeme × Direction)
direction_rows = (lexeme.Input, direction.Input) ∷ (lexeme.Output, direction.Output) ∷ []

abbrev pub net_rows : List (Lexeme × NetType)
net_rows =
    (lexeme.Wire, nets.Wire) ∷ (lexeme.Tri, nets.Tri) ∷ (lexeme.Wand, nets.Wand) ∷
    (lexeme.Triand, nets.Triand) ∷
    (lexeme.Wor, nets.Wor) ∷ (lexeme.Trior, nets.Trior) ∷ []

abbrev pub port_type_rows : List (Lexeme × PortType)
port_type_rows =
    (lexeme.Wire, ports_.Net nets.Wire) ∷ (lexeme.Tri, ports_.Net nets.Tri) ∷
    (lexeme.Wand, ports_.Net nets.Wand) ∷
    (lexeme.Triand, ports_.Net nets.Triand) ∷ (lexeme.Wor, ports_.Net nets.Wor) ∷
    (lexeme.Trior, ports_.Net nets.Trior) ∷
    (lexeme.Reg, ports_.Variable variable.Reg) ∷ (lexeme.Integer, ports_.Variable variable.Integer) ∷
    (lexeme.Time, ports_.Variable variable.Time) ∷ []

abbrev pub targ_rows : List (Lexeme × TaskDirection)
targ_rows =
    (lexeme.Input, routed.Input) ∷ (lexeme.Output, routed.Output) ∷ (lexeme.Inout, routed.Inout) ∷ []

abbrev pub gate_rows : List (Lexeme × GateType)
gate_rows =
    (lexeme.And, gates.And) ∷ (lexeme.Nand, gates.Nand) ∷ (lexeme.Or, gates.Or) ∷ (lexeme.Nor, gates.Nor) ∷
    (lexeme.Xor, gates.Xor) ∷ (lexeme.Xnor, gates.Xnor) ∷ (lexeme.Buf, gates.Buf) ∷
    (lexeme.Not, gates.Not) ∷ []

abbrev pub parameter_rows : List (Lexeme × ParameterWord)
parameter_rows =
    (lexeme.Parameter, parameters.Parameter) ∷ (lexeme.Localparam, parameters.Localparam) ∷ []

abbrev pub process_rows : List (Lexeme × ProcessWord)
process_rows = (lexeme.Initial, processes.Initial) ∷ (lexeme.Always, processes.Always) ∷ []

-- The signs with which an item begins, beside ID and `generate` (IEEE 1364-2005, A.1.4).
abbrev pub item_lexemes : List Lexeme
item_lexemes =
    lexeme.Input ∷ lexeme.Output ∷ lexeme.Wire ∷ lexeme.Tri ∷ lexeme.Wand ∷ lexeme.Triand ∷ lexeme.Wor ∷
    lexeme.Trior ∷ lexeme.Reg ∷
    lexeme.Integer ∷ lexeme.Time ∷ lexeme.Event ∷ lexeme.Genvar ∷ lexeme.Parameter ∷ lexeme.Localparam ∷
    lexeme.Assign ∷
    lexeme.And ∷ lexeme.Nand ∷ lexeme.Or ∷ lexeme.Nor ∷ lexeme.Xor ∷ lexeme.Xnor ∷ lexeme.Buf ∷ lexeme.Not ∷
    lexeme.Initial ∷
    lexeme.Always ∷ lexeme.Task ∷ lexeme.Function ∷ lexeme.For ∷ lexeme.If ∷ []

abbrev pub begins_item : Token → Bool
begins_item t = is_name t || is_any item_lexemes t

-- The token shows an item that is left out (own).
abbrev pub hidden_lexemes : List Lexeme
hidden_lexemes = lexeme.Inout ∷ lexeme.Case ∷ []

abbrev pub shows_item : Token → Bool
shows_item = is_any hidden_lexemes

-- An item could begin here (own).
abbrev pub item_here : G (Unit {0})
item_here = unless shows_item (done tt)

-- A range after the name of such a port is left out (own).
abbrev pub port_bare : Option PortType → Bool
port_bare None = true
port_bare (Some (ports_.Net n)) = true
port_bare (Some (ports_.Variable variable.Reg)) = false
port_bare (Some (ports_.Variable variable.Integer)) = true
port_bare (Some (ports_.Variable variable.Time)) = true

-- ( "input" | "output" ) [ NET | "reg" | "integer" | "time" ] type (IEEE 1364-2005, A.1.3)
abbrev pub PortHead : Type 0
PortHead = (Place × Direction) × (Option PortType × TypeTree)

unfoldable pub port_head : G PortHead
port_head =
    seq (placed_row direction_rows) (seq (opt (in_rows port_type_rows) (row_in port_type_rows))
    a_type)

-- pdecl = ( "input" | "output" ) [ NET | "reg" | "integer" | "time" ] type ID (IEEE 1364-2005,
-- A.1.3)
abbrev pub pdecl_of : PortHead → Id → PdeclTree
pdecl_of h id =
    record { place = h.0.0; direction = h.0.1; port_type = h.1.0; data_type = h.1.1; id = id }

unfoldable pub pdecl : G PdeclTree
pdecl = bind port_head (λ h. act (pdecl_of h) (bare_id (port_bare h.1.0)))

-- Declared ports so far, and the type of the last of them (own).
pub record Declared : Type 0 where
  pub first : PdeclTree
  pub more : List PortTree
  pub port_type : Option PortType

abbrev pub declared_first : PdeclTree → Declared
declared_first p = record { first = p; more = []; port_type = p.port_type }

abbrev pub with_pdecl : Declared → PdeclTree → Declared
with_pdecl d p =
    record { first = d.first; more = d.more ++ declared_port p ∷ []; port_type = p.port_type }

abbrev pub with_port : Declared → Id → Declared
with_port d id = record d { more = d.more ++ port_name id ∷ [] }

abbrev pub ports_of : Declared → PortsTree
ports_of d = declared_ports d.first d.more

-- "," ( pdecl | ID ) (IEEE 1364-2005, A.1.3)
unfoldable pub next_port : Declared → G Declared
next_port d =
    after (the lexeme.Comma) (unless (is lexeme.Inout)
    (alt (in_rows direction_rows) (act (with_pdecl d) pdecl)
    (act (with_port d) (bare_id (port_bare d.port_type)))))

-- ports = ID { "," ID } | pdecl { "," ( pdecl | ID ) } (IEEE 1364-2005, A.1.3)
unfoldable pub next_ports : PdeclTree → G PortsTree
next_ports p = act ports_of (iter (λ d. is lexeme.Comma) next_port (declared_first p))

unfoldable pub ports : G PortsTree
ports = alt is_name (act plain_ports (comma_list an_id)) (bind pdecl next_ports)

abbrev pub begins_ports : Token → Bool
begins_ports t = is_name t || in_rows direction_rows t

-- par = [ "parameter" type ] ID "=" expr (IEEE 1364-2005, A.1.3)
abbrev pub written_par : Place → TypeTree × AssignedTree → ParTree
written_par place r = record { place = place; data_type = Some r.0; id = r.1.id; value = r.1.value }

abbrev pub bare_par : AssignedTree → ParTree
bare_par a = record { place = a.id.place; data_type = None; id = a.id; value = a.value }

unfoldable pub par : G ParTree
par =
    alt (is lexeme.Parameter) (two written_par (at_the lexeme.Parameter) (seq a_type assigned))
    (act bare_par assigned)

-- ( "input" | "output" ) [ NET | "reg" | "integer" | "time" ] type ID { "," ID } ";" (IEEE
-- 1364-2005, A.2.1.2)
abbrev pub plain_at : Place → PlainTree → ItemTree
plain_at place form = I.item place (I.plain_item form)

abbrev pub port_of : PortHead → List Id → ItemTree
port_of h ids = plain_at h.0.0 (I.port h.0.1 h.1.0 h.1.1 ids)

unfoldable pub port_ids : PortHead → G ItemTree
port_ids h = act (port_of h) (ended (comma_list (bare_id (port_bare h.1.0))))

unfoldable pub port_item : G ItemTree
port_item = bind port_head port_ids

-- A delay, and nets so far, of which all but the last have a value (own).
pub record Delayed : Type 0 where
  pub delay : DelayTree
  pub nets : List NetTree
  pub valued : Bool

abbrev pub delayed_first : DelayTree × NetTree → Delayed
delayed_first r = record { delay = r.0; nets = r.1 ∷ []; valued = is_some (r.1).value }

abbrev pub with_net : Delayed → NetTree → Delayed
with_net d n = record { delay = d.delay; nets = d.nets ++ n ∷ []; valued = is_some n.value }

abbrev pub delayed_goes : Bool → Token → Bool
delayed_goes true t = is lexeme.Comma t
delayed_goes false t = false

unfoldable pub next_delayed : Bool → Delayed → G Delayed
next_delayed true d = after (the lexeme.Comma) (act (with_net d) a_net)
next_delayed false d = nothing

unfoldable pub more_delayed : Delayed → G Delayed
more_delayed d = iter (λ u t. delayed_goes u.valued t) (λ u. next_delayed u.valued u) d

-- The tokens behind a net (own).
abbrev pub net_end_lexemes : List Lexeme
net_end_lexemes = lexeme.Comma ∷ lexeme.Semicolon ∷ []

-- delay net { "," net }, up to the first net without a value: the "," or ";" behind that net shows
-- that the declaration is left out (own)
unfoldable pub delayed_nets : G Delayed
delayed_nets =
    barred (λ d t. not d.valued && is_any net_end_lexemes t)
    (bind (seq delay a_net) (λ r. more_delayed (delayed_first r)))

-- [ delay ] net { "," net } (IEEE 1364-2005, A.2.1.3)
abbrev pub with_delay : Delayed → List NetTree → Option DelayTree × List NetTree
with_delay d more = (Some d.delay, d.nets ++ more)

abbrev pub no_delay : List NetTree → Option DelayTree × List NetTree
no_delay all = (None, all)

unfoldable pub all_nets : G (Option DelayTree × List NetTree)
all_nets =
    alt (is lexeme.Hash) (two with_delay delayed_nets (comma_more a_net))
    (act no_delay (comma_list a_net))

-- NET type [ delay ] net { "," net } ";" (IEEE 1364-2005, A.2.1.3)
abbrev pub net_item_of : Place × NetType → TypeTree × (Option DelayTree × List NetTree) → ItemTree
net_item_of n r = plain_at n.0 (I.net n.1 r.0 r.1.0 r.1.1)

unfoldable pub net_item : G ItemTree
net_item = two net_item_of (placed_row net_rows) (seq a_type (ended all_nets))

-- decl (IEEE 1364-2005, A.2.1.3)
abbrev pub decl_place : DeclTree → Place
decl_place (reg place data_type all) = place
decl_place (integer place all) = place
decl_place (time place all) = place

abbrev pub decl_of : DeclTree → ItemTree
decl_of d = plain_at (decl_place d) (I.declaration d)

unfoldable pub decl_item : G ItemTree
decl_item = act decl_of decl

-- "event" ids ";", "genvar" ids ";" (IEEE 1364-2005, A.2.1.3 and A.4.2)
abbrev pub event_of : Place → List Id → ItemTree
event_of place ids = plain_at place (I.event ids)

abbrev pub genvar_of : Place → List Id → ItemTree
genvar_of place ids = plain_at place (I.genvar ids)

unfoldable pub event_item : G ItemTree
event_item = two event_of (at_the lexeme.Event) (ended (comma_list an_id))

unfoldable pub genvar_item : G ItemTree
genvar_item = two genvar_of (at_the lexeme.Genvar) (ended (comma_list an_id))

-- ( "parameter" | "localparam" ) type ID "=" expr { "," ID "=" expr } ";" (IEEE 1364-2005, A.2.1.1)
abbrev pub parameter_of : Place × ParameterWord → TypeTree × List AssignedTree → ItemTree
parameter_of w r = plain_at w.0 (I.parameter w.1 r.0 r.1)

unfoldable pub parameter_item : G ItemTree
parameter_item =
    two parameter_of (placed_row parameter_rows) (seq a_type (ended (comma_list assigned)))

-- "assign" [ delay ] lv "=" expr { "," lv "=" expr } ";" (IEEE 1364-2005, A.6.1)
abbrev pub assign_of : Place → Option DelayTree × List SetTree → ItemTree
assign_of place r = plain_at place (I.assign r.0 r.1)

unfoldable pub assign_item : G ItemTree
assign_item =
    two assign_of (at_the lexeme.Assign)
    (seq (opt (is lexeme.Hash) delay) (ended (comma_list (set true))))

-- gate = [ ID ] "(" expr { "," expr } ")" (IEEE 1364-2005, A.3.1)
abbrev pub named_gate : Id → List ExprTree → GateTree
named_gate id es = record { place = id.place; id = Some id; terminals = es }

abbrev pub bare_gate : Place → List ExprTree → GateTree
bare_gate place es = record { place = place; id = None; terminals = es }

abbrev pub terminals : G (List ExprTree)
terminals = before (comma_list (expression true)) (the lexeme.RightParen)

unfoldable pub gate : G GateTree
gate =
    alt is_name (two named_gate an_id (after (the lexeme.LeftParen) terminals))
    (two bare_gate (at_the lexeme.LeftParen) terminals)

-- GATE [ delay ] gate { "," gate } ";" (IEEE 1364-2005, A.3.1)
abbrev pub gate_of : Place × GateType → Option DelayTree × List GateTree → ItemTree
gate_of w r = plain_at w.0 (I.gate w.1 r.0 r.1)

unfoldable pub gate_item : G ItemTree
gate_item =
    two gate_of (placed_row gate_rows)
    (seq (opt (is lexeme.Hash) delay) (ended (comma_list gate)))

-- conn = [ expr ] | "." ID "(" [ expr ] ")" (IEEE 1364-2005, A.4.1)
abbrev pub maybe_expr : G (Option ExprTree)
maybe_expr = opt begins_expression (expression true)

abbrev pub named_conn : Place → Id × Option ExprTree → ConnTree
named_conn place r = by_name place r.0 r.1

unfoldable pub conn_by_name : G ConnTree
conn_by_name = two named_conn (at_the lexeme.Dot) (seq an_id (in_parens maybe_expr))

unfoldable pub conn : G ConnTree
conn = alt (is lexeme.Dot) conn_by_name (act ordered maybe_expr)

-- conns = conn { "," conn } (IEEE 1364-2005, A.4.1)
unfoldable pub conns : G (List ConnTree)
conns = comma_list conn

abbrev pub begins_conns : Token → Bool
begins_conns t = begins_expression t || is_any (lexeme.Dot ∷ lexeme.Comma ∷ []) t

-- inst = ID "(" [ conns ] ")": nothing between the brackets is no conns (IEEE 1364-2005, A.4.1)
abbrev pub inst_of : Id → List ConnTree → InstTree
inst_of id all = record { id = id; conns = all }

unfoldable pub inst : G InstTree
inst = two inst_of an_id (in_parens (act all_of (opt begins_conns conns)))

-- ID [ "#" "(" conns ")" ] inst { "," inst } ";" (IEEE 1364-2005, A.4.1)
abbrev pub instance_of : Id → Option (List ConnTree) × List InstTree → ItemTree
instance_of id r = plain_at id.place (I.instance id (all_of r.0) r.1)

unfoldable pub instance_item : G ItemTree
instance_item =
    two instance_of an_id
    (seq (opt (is lexeme.Hash) (after (the lexeme.Hash) (in_parens conns)))
    (ended (comma_list inst)))

-- ( "initial" | "always" ) stmt (IEEE 1364-2005, A.6.2)
abbrev pub process_of : Place × ProcessWord → StmtTree → ItemTree
process_of w s = plain_at w.0 (I.process w.1 s)

unfoldable pub process_item : G ItemTree
process_item = two process_of (placed_row process_rows) (inner_stmt false)

-- A range after the name of such an argument is left out (own).
abbrev pub targ_bare : Option Variable → Bool
targ_bare None = false
targ_bare (Some variable.Reg) = false
targ_bare (Some variable.Integer) = true
targ_bare (Some variable.Time) = true

-- targ = ( "input" | "output" | "inout" ) [ "reg" | "integer" | "time" ] type ids (IEEE 1364-2005,
-- A.2.7)
abbrev pub TargHead : Type 0
TargHead = (Place × TaskDirection) × (Option Variable × TypeTree)

unfoldable pub targ_head : G TargHead
targ_head =
    seq (placed_row targ_rows) (seq (opt (in_rows variable_rows) (row_in variable_rows)) a_type)

abbrev pub targ_of : TargHead → List Id → TargTree
targ_of h ids =
    record { place = h.0.0; direction = h.0.1; variable = h.1.0; data_type = h.1.1; ids = ids }

unfoldable pub targ_ids : TargHead → G TargTree
targ_ids h = act (targ_of h) (comma_list (bare_id (targ_bare h.1.0)))

unfoldable pub targ : G TargTree
targ = bind targ_head targ_ids

-- targ { "," ( targ | ID ) }, where an ID goes on with the `targ` before it: the arguments that are
-- whole, and the last one (own).
pub record Targs : Type 0 where
  pub earlier : List TargTree
  pub last : TargTree

abbrev pub targs_first : TargTree → Targs
targs_first t = record { earlier = []; last = t }

abbrev pub with_targ : Targs → TargTree → Targs
with_targ s t = record { earlier = s.earlier ++ s.last ∷ []; last = t }

abbrev pub with_id : Targs → Id → Targs
with_id s id = record s { last = record s.last { ids = (s.last).ids ++ id ∷ [] } }

abbrev pub targs_of : Targs → List TargTree
targs_of s = s.earlier ++ s.last ∷ []

-- A `targ` with its first ID (own)
unfoldable pub targ_id : TargHead → G TargTree
targ_id h = act (λ id. targ_of h (id ∷ [])) (bare_id (targ_bare h.1.0))

unfoldable pub targ_one : G TargTree
targ_one = bind targ_head targ_id

-- "," ( targ | ID ) (IEEE 1364-2005, A.2.7)
unfoldable pub next_targ : Targs → G Targs
next_targ s =
    after (the lexeme.Comma) (alt (in_rows targ_rows) (act (with_targ s) targ_one)
    (act (with_id s) (bare_id (targ_bare (s.last).variable))))

-- targs = targ { "," ( targ | ID ) } (IEEE 1364-2005, A.2.7)
unfoldable pub next_targs : TargTree → G (List TargTree)
next_targs t = act targs_of (iter (λ s. is lexeme.Comma) next_targ (targs_first t))

unfoldable pub targs : G (List TargTree)
targs = bind targ_one next_targs

-- [ "(" targs ")" ] (IEEE 1364-2005, A.2.6 and A.2.7)
abbrev pub maybe_targs : G (List TargTree)
maybe_targs = act all_of (opt (is lexeme.LeftParen) (in_parens targs))

-- { targ ";" | decl } (IEEE 1364-2005, A.2.6 and A.2.7)
unfoldable pub local : G LocalTree
local = alt (in_rows targ_rows) (act local_targ (ended targ)) (act local_decl decl)

abbrev pub local_lexemes : List Lexeme
local_lexemes = lexeme.Input ∷ lexeme.Output ∷ lexeme.Inout ∷ decl_lexemes

abbrev pub begins_local : Token → Bool
begins_local = is_any local_lexemes

-- ID [ "(" targs ")" ] ";" { targ ";" | decl } stmt, with whether it is a function's (own)
abbrev pub Routine : Type 0
Routine = Id × (List TargTree × (List LocalTree × StmtTree))

unfoldable pub routine : Bool → G Routine
routine inside =
    seq an_id (seq (ended maybe_targs)
    (seq (rep begins_local local) (inner_stmt inside)))

-- "task" .. "endtask" (IEEE 1364-2005, A.2.7)
abbrev pub task_item_of : Place → Routine → ItemTree
task_item_of place r =
    plain_at place (I.task (record { id = r.0; targs = r.1.0; locals = r.1.1.0; body = r.1.1.1 }))

unfoldable pub task_item : G ItemTree
task_item = two task_item_of (at_the lexeme.Task) (before (routine false) (the lexeme.Endtask))

-- [ "integer" | "time" | type ], where no type is a type that is written (IEEE 1364-2005, A.2.6)
unfoldable pub result_type : G (Option ResultTree)
result_type =
    alt (is lexeme.Integer) (act (λ _. Some integer_result) (the lexeme.Integer))
    (alt (is lexeme.Time) (act (λ _. Some time_result) (the lexeme.Time))
    (alt (is_any type_lexemes) (act (λ t. Some (data_result t)) a_type)
    (done None)))

-- "function" .. "endfunction" (IEEE 1364-2005, A.2.6)
abbrev pub function_of : Place → Option ResultTree × Routine → ItemTree
function_of place f =
    plain_at place (I.function (record {
      result_type = f.0;
      id = f.1.0;
      targs = f.1.1.0;
      locals = f.1.1.1.0;
      body = f.1.1.1.1;
    }))

unfoldable pub function_item : G ItemTree
function_item =
    two function_of (at_the lexeme.Function) (before (seq result_type (routine true))
    (the lexeme.Endfunction))

-- A block of items: one of the wrong kind of item is left out also past the last level (own).
abbrev pub inner_gblock : G GblockTree
inner_gblock = unless shows_item (nested gblock)

-- "for" "(" ID "=" expr ";" expr ";" ID "=" expr ")" gblock (IEEE 1364-2005, A.4.2)
abbrev pub GenerateHead : Type 0
GenerateHead = AssignedTree × (ExprTree × AssignedTree)

unfoldable pub generate_head : G GenerateHead
generate_head =
    seq assigned (after (the lexeme.Semicolon) (seq (expression true)
    (after (the lexeme.Semicolon) assigned)))

abbrev pub for_item_of : Place → GenerateHead × GblockTree → ItemTree
for_item_of place r = I.item place (I.for_item r.0.0 r.0.1.0 r.0.1.1 r.1)

unfoldable pub for_item : G ItemTree
for_item = two for_item_of (at_the lexeme.For) (seq (in_parens generate_head) inner_gblock)

-- "if" "(" expr ")" gblock [ "else" gblock ] (IEEE 1364-2005, A.4.2)
abbrev pub else_gblock_of : Option GblockTree → ElseTree
else_gblock_of None = I.no_else
else_gblock_of (Some g) = I.else_gblock g

abbrev pub if_item_of : Place → ExprTree × (GblockTree × Option GblockTree) → ItemTree
if_item_of place r = I.item place (I.if_item r.0 r.1.0 (else_gblock_of r.1.1))

unfoldable pub other_gblock : G (Option GblockTree)
other_gblock = opt (is lexeme.Else) (after (the lexeme.Else) inner_gblock)

unfoldable pub if_item : G ItemTree
if_item =
    two if_item_of (at_the lexeme.If) (seq (in_parens (expression true)) (seq inner_gblock other_gblock))

-- item, but for `generate` regions (IEEE 1364-2005, A.1.4)
unfoldable pub item : G ItemTree
item =
    alt (in_rows direction_rows) port_item
    (alt (in_rows net_rows) net_item
    (alt (is_any decl_lexemes) decl_item
    (alt (is lexeme.Event) event_item
    (alt (is lexeme.Genvar) genvar_item
    (alt (in_rows parameter_rows) parameter_item
    (alt (is lexeme.Assign) assign_item
    (alt (in_rows gate_rows) gate_item
    (alt is_name instance_item
    (alt (in_rows process_rows) process_item
    (alt (is lexeme.Task) task_item
    (alt (is lexeme.Function) function_item
    (alt (is lexeme.For) for_item if_item))))))))))))

-- "generate" { item } "endgenerate": regions take no level, so items are read flat, with their two
-- words among them in a row (IEEE 1364-2005, A.4.2). How many regions are open, and the items so
-- far (own).
pub record Region : Type 0 where
  pub depth : ℕ
  pub items : List ItemTree

abbrev pub no_items : Region
no_items = record { depth = 0; items = [] }

abbrev pub with_item : Region → ItemTree → Region
with_item r i = record r { items = r.items ++ i ∷ [] }

abbrev pub with_generate : Region → Place → Region
with_generate r place =
    record { depth = suc r.depth; items = r.items ++ I.item place I.generate_word ∷ [] }

abbrev pub with_endgenerate : ℕ → Region → Place → Region
with_endgenerate depth r place =
    record { depth = depth; items = r.items ++ I.item place I.endgenerate_word ∷ [] }

-- "generate", an item, and where a region is open "endgenerate" (own)
unfoldable pub region_word : ℕ → Region → G Region
region_word zero r =
    alt (is lexeme.Generate) (act (with_generate r) (at_the lexeme.Generate)) (act (with_item r) item)
region_word (suc depth) r =
    alt (is lexeme.Generate) (act (with_generate r) (at_the lexeme.Generate))
    (alt (is lexeme.Endgenerate) (act (with_endgenerate depth r) (at_the lexeme.Endgenerate))
    (act (with_item r) item))

-- The same, behind which an item could stand (own).
abbrev pub region_turn : ℕ → Region → G Region
region_turn depth r = before (region_word depth r) item_here

-- The tokens with which items go on (own).
abbrev pub region_goes : ℕ → Token → Bool
region_goes zero t = is lexeme.Generate t || begins_item t
region_goes (suc depth) t = is lexeme.Generate t || (is lexeme.Endgenerate t || begins_item t)

-- The end of items: each region is closed (own).
unfoldable pub region_end : ℕ → Region → G (List ItemTree)
region_end zero r = done r.items
region_end (suc depth) r = nothing

-- { item } (IEEE 1364-2005, A.1.4)
unfoldable pub items : G (List ItemTree)
items =
    unless shows_item
    (bind (iter (λ u t. region_goes u.depth t) (λ u. region_turn u.depth u) no_items)
    (λ u. region_end u.depth u))

-- The same up to the end of the region that is open, if one is (own).
abbrev pub within_goes : ℕ → Token → Bool
within_goes zero t = false
within_goes (suc depth) t = region_goes (suc depth) t

unfoldable pub within_turn : ℕ → Region → G Region
within_turn zero r = nothing
within_turn (suc depth) r = region_turn (suc depth) r

unfoldable pub region_rest : Region → G (List ItemTree)
region_rest r =
    bind (iter (λ u t. within_goes u.depth t) (λ u. within_turn u.depth u) r)
    (λ u. region_end u.depth u)

-- "generate" or an item, with how many regions are open behind it (own)
abbrev pub opened_word : Place → ℕ × ItemTree
opened_word place = (1, I.item place I.generate_word)

unfoldable pub first_word : G (ℕ × ItemTree)
first_word =
    alt (is lexeme.Generate) (act opened_word (at_the lexeme.Generate)) (act (λ i. (0, i)) item)

abbrev pub place_of_item : ItemTree → Place
place_of_item (I.item place form) = place

abbrev pub one_of_items : ItemTree → List ItemTree → GblockTree
one_of_items first all = I.one_item (place_of_item first) (I.items all)

abbrev pub region_of : ℕ × ItemTree → Region
region_of w = record { depth = w.0; items = w.1 ∷ [] }

-- One item, which may be a `generate` region (IEEE 1364-2005, A.1.4)
unfoldable pub one_item_rest : ℕ × ItemTree → G GblockTree
one_item_rest w = act (one_of_items w.1) (region_rest (region_of w))

unfoldable pub one_item : G GblockTree
one_item = bind (before first_word item_here) one_item_rest

-- gblock = item | "begin" [ ":" ID ] { item } "end" (IEEE 1364-2005, A.4.2)
abbrev pub item_block_of : Place → Option Id × List ItemTree → GblockTree
item_block_of place r = I.item_block place r.0 (I.items r.1)

unfoldable pub item_block : G GblockTree
item_block =
    two item_block_of (at_the lexeme.Begin)
    (before (seq (opt (is lexeme.Colon) (after (the lexeme.Colon) an_id)) items) (the lexeme.End))

unfoldable pub a_gblock : G GblockTree
a_gblock = alt (is lexeme.Begin) item_block one_item

-- module = "module" ID [ "#" "(" par { "," par } ")" ] [ "(" [ ports ] ")" ] ";" { item }
-- "endmodule" (IEEE 1364-2005, A.1.2)
abbrev pub a_module_word : G (Place × Setting)
a_module_word = tok (λ t. with_place (setting_of t.kind) t.place)

unfoldable pub pars : G (List ParTree)
pars = act all_of (opt (is lexeme.Hash) (after (the lexeme.Hash) (in_parens (comma_list par))))

abbrev pub ports_in : Option (Option PortsTree) → Option PortsTree
ports_in None = None
ports_in (Some all) = all

unfoldable pub port_list : G (Option PortsTree)
port_list =
    act ports_in (opt (is lexeme.LeftParen) (in_parens
    (unless (is lexeme.Inout) (opt begins_ports ports))))

abbrev pub module_of : Place × Setting → Id × (List ParTree × (Option PortsTree × List ItemTree)) →
    ModuleTree
module_of w r =
    record { place = w.0; setting = w.1; id = r.0; pars = r.1.0; ports = r.1.1.0; items = r.1.1.1 }

unfoldable pub a_module : G ModuleTree
a_module =
    two module_of a_module_word
    (seq an_id (seq pars (seq (ended port_list) (before items (the lexeme.Endmodule)))))

-- source = { module } (IEEE 1364-2005, A.1.2)
unfoldable pub source : G SourceTree
source = rep is_module a_module
