-- What an instance of a module declares, and what is to be made of it, in the order of the source:
-- a site for each thing. Those that are objects of a design have their numbers in this order. (IEEE
-- 1364-2005, 12.7; the order is own)
use Rattle.std.specs.Prelude.{ℕ, ◌+◌, List, [], ◌∷◌, ◌++◌, Bool, true, false, if◌then◌else◌, is_some, Option, Some, None, unwrap_or}
use Rattle.std.specs.Option.{option_and_then}
use Rattle.vh_base.specs.declared.place.Place.{Place}
use Rattle.vh_ast.specs.declared.token.Id.{Id}
use Rattle.vh_ast.specs.declared.data_type.NetType.{NetType}
use Rattle.vh_ast.specs.declared.data_type.NetType.TheVariants as net_word
use Rattle.vh_ast.specs.declared.data_type.Variable.{Variable}
use Rattle.vh_ast.specs.declared.data_type.Variable.TheVariants as var
use Rattle.vh_ast.specs.declared.instance.GateType.{GateType}
use Rattle.vh_ast.specs.declared.item.ParameterWord.{ParameterWord}
use Rattle.vh_ast.specs.declared.item.ParameterWord.TheVariants as parameter_word
use Rattle.vh_ast.specs.declared.item.ProcessWord.{ProcessWord}
use Rattle.vh_ast.specs.declared.item.ProcessWord.TheVariants as process_word
use Rattle.vh_ast.specs.declared.port.Direction.{Direction}
use Rattle.vh_ast.specs.declared.port.PortType.{PortType}
use Rattle.vh_ast.specs.declared.port.PortType.TheVariants as port_type
use Rattle.vh_ast.specs.declared.routine.TaskDirection.{TaskDirection}
use Rattle.vh_ast.specs.declared.stmt.BlockWord.{BlockWord}
use Rattle.vh_ast.specs.Expressions.{ExprTree}
use Rattle.vh_ast.specs.Declarations.{AssignedTree, DeclTree, InitTree, LocalTree, NetTree, ParTree, RangeTree, ResultTree, TargTree, TypeTree, VarPartTree, VarTree, reg, integer, time, plain, memory, valued, local_targ, local_decl, integer_result, time_result, data_result}
use Rattle.vh_ast.specs.Statements.{DelayTree, LvTree, SetTree, StmtTree, StmtFormTree, ElseTree, Citems, Stmts, stmt, simple_stmt, delay_stmt, event_stmt, wait_stmt, if_stmt, case_stmt, for_stmt, loop_stmt, forever_stmt, block_stmt, no_else, else_stmt, no_citem, one_citem, no_stmt, one_stmt}
use Rattle.vh_ast.specs.Items.{ConnTree, FunctionTree, GateTree, InstTree, ItemTree, ModuleTree, PlainTree, TaskTree, item, plain_item, generate_word, endgenerate_word, for_item, if_item, declaration, event, parameter, assign, instance, process, task, function}
use Rattle.vh_ast.specs.Items as I
use Rattle.vh_bind_scope.specs.declared.names.Meaning.TheVariants as means
use Rattle.vh_bind_scope.specs.Names.{Names, declared}
use Rattle.vh_bind_scope.specs.LookUp.{found}
use Rattle.vh_elab_mentions.specs.Mentions.{Ids, target_ids, terminals_ids, conns_ids}
use Rattle.vh_elab_sites.specs.declared.site.CodeWord.{CodeWord}
use Rattle.vh_elab_sites.specs.declared.site.CodeWord.TheVariants as of
use Rattle.vh_elab_sites.specs.Blocks.{BlockName, BlockText, GenvarAt, name_bytes, text_bytes}
use Rattle.vh_elab_ports.specs.Ports.{Directed, declared_type, open_type, port_index}

-- The type of a variable or net: as it is written; as it is written, and as that of the port of its
-- name is; one digit where none is written; or that of its word. (4.8 and 12.3.3)
pub data VarType : Type 0 where
  typed : TypeTree → VarType
  joined : TypeTree → TypeTree → VarType
  one_digit : VarType
  integer_type : VarType
  time_type : VarType

-- What a continuous assignment drives: the net of this number, which its declaration assigns to, or
-- a target. (6.1)
pub data Driven : Type 0 where
  net_of : ℕ → Driven
  target_of : LvTree → Driven

-- What is declared, or made. (12.7)
pub data Declared : Type 0 where
  variable : VarType → Option ExprTree → Declared
  words : TypeTree → RangeTree → Declared
  named_event : Declared
  constant : ParameterWord → Option TypeTree → ExprTree → Declared
  code : CodeWord → StmtTree → Declared
  named_block : BlockWord → Declared
  result : VarType → Declared
  argument : TaskDirection → VarType → Declared
  net : NetType → VarType → Declared
  wire : Declared
  port : Direction → ℕ → VarType → Declared
  drives : Option DelayTree → Driven → ExprTree → Declared
  gate : GateType → Option DelayTree → GateTree → Declared
  genvar : Declared
  gen_block : BlockName → Option GenvarAt → Declared
  loop_name : BlockText → Declared
  child : Id → List ConnTree → InstTree → Declared

-- A site: the number of its object, or, where it is none, that of the next; its scope's; its name,
-- if it has one; and where that, or else its first token, stands.
pub record SiteTree : Type 0 where
  pub number : ℕ
  pub scope : ℕ
  pub name : List ℕ
  pub place : Place
  pub declared : Declared

-- Gates, genvars, the names of loops and instances are no objects here: an instance is one of its
-- own. (26.6)
abbrev pub is_object : Declared → Bool
is_object (variable t value) = true
is_object (words t r) = true
is_object named_event = true
is_object (constant w t e) = true
is_object (code w s) = true
is_object (named_block w) = true
is_object (result t) = true
is_object (argument d t) = true
is_object (net n t) = true
is_object wire = true
is_object (port d i t) = true
is_object (drives d x e) = true
is_object (gate g d x) = false
is_object genvar = false
is_object (gen_block b g) = true
is_object (loop_name t) = false
is_object (child m ps i) = false

-- What a generate block or a loop of them is called: no name that is written stands at its site.
-- (12.4.3)
abbrev pub generated_name : Declared → Option (List ℕ)
generated_name (variable t value) = None
generated_name (words t r) = None
generated_name named_event = None
generated_name (constant w t e) = None
generated_name (code w s) = None
generated_name (named_block w) = None
generated_name (result t) = None
generated_name (argument d t) = None
generated_name (net n t) = None
generated_name wire = None
generated_name (port d i t) = None
generated_name (drives d x e) = None
generated_name (gate g d x) = None
generated_name genvar = None
generated_name (gen_block b g) = Some (name_bytes b)
generated_name (loop_name t) = Some (text_bytes t)
generated_name (child m ps i) = None

-- The sites so far, the number of the next object, and the names that are declared or made in the
-- scopes in which items stand.
pub record Sites : Type 0 where
  pub all : List SiteTree
  pub next : ℕ
  pub seen : Names

-- One more.
abbrev pub behind : Declared → ℕ → ℕ
behind d n = if is_object d then n + 1 else n

abbrev pub site_of : ℕ → ℕ → List ℕ → Place → Declared → SiteTree
site_of number scope name place d =
    record { number = number; scope = scope; name = name; place = place; declared = d }

abbrev pub with_site : ℕ → List ℕ → Place → Declared → Sites → Sites
with_site scope name place d so = record so {
  all = so.all ++ site_of so.next scope name place d ∷ [];
  next = behind d so.next;
}

abbrev pub with_named : ℕ → Id → Declared → Sites → Sites
with_named scope id d so = with_site scope id.name id.place d so

-- One after another.
abbrev pub each : {A : Type 0} → (A → Sites → Sites) → List A → Sites → Sites
each f [] so = so
each f (x ∷ xs) so = each f xs (f x so)

-- A declaration in a module's own scope may be that of a port too: `None` in any other scope.
-- (12.3.3)
abbrev pub Home : Type 0
Home = Option ModuleTree

abbrev pub joined_by : TypeTree → Option TypeTree → VarType
joined_by t None = typed t
joined_by t (Some p) = joined t p

abbrev pub type_at : Home → List ℕ → TypeTree → VarType
type_at h name t = joined_by t (option_and_then (λ m. open_type m name) h)

-- Variables and memories. (4.8, 4.9 and 6.2.1)
abbrev pub var_declared : VarType → TypeTree → VarPartTree → Declared
var_declared v t plain = variable v None
var_declared v t (memory r) = words t r
var_declared v t (valued e) = variable v (Some e)

abbrev pub var_site : Home → ℕ → TypeTree → VarTree → Sites → Sites
var_site h scope t v so = with_named scope v.id (var_declared (type_at h v.id.name t) t v.part) so

abbrev pub init_site : ℕ → VarType → InitTree → Sites → Sites
init_site scope t i so = with_named scope i.id (variable t i.value) so

abbrev pub decl_sites : Home → ℕ → DeclTree → Sites → Sites
decl_sites h scope (reg place t vars) so = each (var_site h scope t) vars so
decl_sites h scope (integer place inits) so = each (init_site scope integer_type) inits so
decl_sites h scope (time place inits) so = each (init_site scope time_type) inits so

abbrev pub decls_sites : ℕ → List DeclTree → Sites → Sites
decls_sites scope ds so = each (decl_sites None scope) ds so

-- A named block, and what it declares. (9.8.3)
abbrev pub block_sites : ℕ → BlockWord → Id → List DeclTree → Sites → Sites
block_sites scope word id decls so =
    decls_sites so.next decls (with_named scope id (named_block word) so)

abbrev mutual
  -- The named blocks in a statement, with what they declare. (9.8.3)
  pub stmt_sites : ℕ → StmtTree → Sites → Sites
  stmt_sites scope (stmt place form) so = form_sites scope form so

  pub form_sites : ℕ → StmtFormTree → Sites → Sites
  form_sites scope (simple_stmt s) so = so
  form_sites scope (delay_stmt d body) so = stmt_sites scope body so
  form_sites scope (event_stmt e body) so = stmt_sites scope body so
  form_sites scope (wait_stmt e body) so = stmt_sites scope body so
  form_sites scope (if_stmt e holds fails) so = else_sites scope fails (stmt_sites scope holds so)
  form_sites scope (case_stmt word e items) so = citems_sites scope items so
  form_sites scope (for_stmt start e step body) so = stmt_sites scope body so
  form_sites scope (loop_stmt word e body) so = stmt_sites scope body so
  form_sites scope (forever_stmt body) so = stmt_sites scope body so
  form_sites scope (block_stmt word None decls all) so = stmts_sites scope all so
  form_sites scope (block_stmt word (Some id) decls all) so =
      stmts_sites so.next all (block_sites scope word id decls so)

  pub else_sites : ℕ → ElseTree → Sites → Sites
  else_sites scope no_else so = so
  else_sites scope (else_stmt s) so = stmt_sites scope s so

  pub stmts_sites : ℕ → Stmts → Sites → Sites
  stmts_sites scope no_stmt so = so
  stmts_sites scope (one_stmt s more) so = stmts_sites scope more (stmt_sites scope s so)

  pub citems_sites : ℕ → Citems → Sites → Sites
  citems_sites scope no_citem so = so
  citems_sites scope (one_citem place matched body more) so =
      citems_sites scope more (stmt_sites scope body so)

-- The arguments of a task or function, and what else it declares. (10.2.1 and 10.4.1)
abbrev pub argument_type : Option Variable → TypeTree → VarType
argument_type None t = typed t
argument_type (Some var.Reg) t = typed t
argument_type (Some var.Integer) t = integer_type
argument_type (Some var.Time) t = time_type

abbrev pub argument_site : ℕ → TaskDirection → VarType → Id → Sites → Sites
argument_site scope d t id so = with_named scope id (argument d t) so

abbrev pub targ_sites : ℕ → TargTree → Sites → Sites
targ_sites scope t so =
    each (argument_site scope t.direction (argument_type t.variable t.data_type)) t.ids so

abbrev pub local_sites : ℕ → LocalTree → Sites → Sites
local_sites scope (local_targ t) so = targ_sites scope t so
local_sites scope (local_decl d) so = decl_sites None scope d so

abbrev pub inner_sites : ℕ → List TargTree → List LocalTree → StmtTree → Sites → Sites
inner_sites scope targs locals body so =
    stmt_sites scope body (each (local_sites scope) locals (each (targ_sites scope) targs so))

abbrev pub task_sites : ℕ → TaskTree → Sites → Sites
task_sites scope t so =
    inner_sites so.next t.targs t.locals t.body (with_named scope t.id (code of.Task t.body) so)

-- A function's result has its name, in its scope. (10.4.2)
abbrev pub result_type : Option ResultTree → VarType
result_type None = one_digit
result_type (Some integer_result) = integer_type
result_type (Some time_result) = time_type
result_type (Some (data_result t)) = typed t

abbrev pub function_sites : ℕ → FunctionTree → Sites → Sites
function_sites scope f so =
    inner_sites so.next f.targs f.locals f.body
    (with_named so.next f.id (result (result_type f.result_type))
    (with_named scope f.id (code of.Function f.body) so))

-- Where items stand: their module, whether names make wires, and the scopes around them, from the
-- inside out, of which the first is their own.
pub record Around : Type 0 where
  pub tree : ModuleTree
  pub scope : ℕ
  pub wires : Bool
  pub around : List ℕ

abbrev pub scopes_of : Around → List ℕ
scopes_of st = st.scope ∷ st.around

-- In the module's own scope, which none stands around.
abbrev pub own_home : ModuleTree → List ℕ → Home
own_home m [] = Some m
own_home m (s ∷ around) = None

abbrev pub home_at : Around → Home
home_at st = own_home st.tree st.around

-- A name that none of the scopes declares is a wire of the scope that the item stands in, from the
-- item on. (4.5)
abbrev pub with_wire : Around → Id → Sites → Sites
with_wire st id so = record (with_named st.scope id wire so) {
  seen = declared st.scope id.name means.Gate so.seen;
}

abbrev pub wire_site : Around → Id → Sites → Sites
wire_site st id so =
    if is_some (found so.seen (scopes_of st) id.name) then so else with_wire st id so

abbrev pub wires_sites : Around → Ids → Sites → Sites
wires_sites st ids so = if st.wires then each (wire_site st) ids so else so

-- Ports: that, and the net or variable of its name, where no other declaration is one. (12.3.3)
abbrev pub port_declared : PortType → TypeTree → Declared
port_declared (port_type.Net n) t = net n (typed t)
port_declared (port_type.Variable var.Reg) t = variable (typed t) None
port_declared (port_type.Variable var.Integer) t = variable integer_type None
port_declared (port_type.Variable var.Time) t = variable time_type None

abbrev pub port_joined : Option TypeTree → TypeTree → VarType
port_joined None t = typed t
port_joined (Some d) t = joined d t

abbrev pub written_type : PortType → TypeTree → VarType
written_type (port_type.Net n) t = typed t
written_type (port_type.Variable var.Reg) t = typed t
written_type (port_type.Variable var.Integer) t = integer_type
written_type (port_type.Variable var.Time) t = time_type

abbrev pub port_at_type : Option TypeTree → Option PortType → TypeTree → VarType
port_at_type d None t = port_joined d t
port_at_type d (Some p) t = written_type p t

abbrev pub open_site : ℕ → Directed → Option TypeTree → Sites → Sites
open_site scope d None so = with_named scope d.id (net net_word.Wire (typed d.data_type)) so
open_site scope d (Some t) so = so

abbrev pub thing_site : ℕ → Directed → Option TypeTree → Option PortType → Sites → Sites
thing_site scope d t None so = open_site scope d t so
thing_site scope d t (Some p) so = with_named scope d.id (port_declared p d.data_type) so

abbrev pub port_site : ModuleTree → ℕ → Directed → Sites → Sites
port_site m scope d so =
    thing_site scope d (declared_type m d.id.name) d.port_type
    (with_named scope d.id
    (port d.direction (unwrap_or (port_index m d.id.name) 0)
    (port_at_type (declared_type m d.id.name) d.port_type d.data_type)) so)

-- A direction in a generate block names no port.
abbrev pub port_by : Home → ℕ → Directed → Sites → Sites
port_by None scope d so = so
port_by (Some m) scope d so = port_site m scope d so

abbrev pub port_id : Around → Direction → Option PortType → TypeTree → Id → Sites → Sites
port_id st d p t id so =
    port_by (home_at st) st.scope
    (record { id = id; direction = d; port_type = p; data_type = t }) so

-- Nets, each with what its declaration assigns to it. (4.2.1 and 6.1.1)
abbrev pub value_site : ℕ → Option DelayTree → ℕ → Id → Option ExprTree → Sites → Sites
value_site scope wait n id None so = so
value_site scope wait n id (Some e) so = with_site scope [] id.place (drives wait (net_of n) e) so

abbrev pub net_sites : Around → NetType → TypeTree → Option DelayTree → NetTree → Sites → Sites
net_sites st word t wait n so =
    value_site st.scope wait so.next n.id n.value
    (with_named st.scope n.id (net word (type_at (home_at st) n.id.name t)) so)

-- Continuous assignments, gates and instances make wires. (6.1.2, 7.1 and 12.1.2)
abbrev pub set_site : Around → Option DelayTree → SetTree → Sites → Sites
set_site st wait s so =
    with_site st.scope [] s.target.place (drives wait (target_of s.target) s.value)
    (wires_sites st (target_ids s.target []) so)

abbrev pub gate_name : Option Id → List ℕ
gate_name None = []
gate_name (Some id) = id.name

abbrev pub gate_site : Around → GateType → Option DelayTree → GateTree → Sites → Sites
gate_site st word wait g so =
    with_site st.scope (gate_name g.id) g.place (gate word wait g)
    (wires_sites st (terminals_ids g.terminals []) so)

abbrev pub child_site : Around → Id → List ConnTree → InstTree → Sites → Sites
child_site st m parameters i so =
    with_named st.scope i.id (child m parameters i) (wires_sites st (conns_ids i.conns []) so)

-- Items, a row for each. (12.1)
abbrev pub event_site : ℕ → Id → Sites → Sites
event_site scope id so = with_named scope id named_event so

abbrev pub genvar_site : ℕ → Id → Sites → Sites
genvar_site scope id so = with_named scope id genvar so

abbrev pub constant_site : ℕ → ParameterWord → TypeTree → AssignedTree → Sites → Sites
constant_site scope w t a so = with_named scope a.id (constant w (Some t) a.value) so

abbrev pub construct_word : ProcessWord → CodeWord
construct_word process_word.Initial = of.Initial
construct_word process_word.Always = of.Always

abbrev pub construct_sites : ℕ → Place → ProcessWord → StmtTree → Sites → Sites
construct_sites scope place word s so =
    stmt_sites scope s (with_site scope [] place (code (construct_word word) s) so)

abbrev pub plain_sites : Around → Place → PlainTree → Sites → Sites
plain_sites st place (I.port d p t ids) so = each (port_id st d p t) ids so
plain_sites st place (I.net n t wait nets) so = each (net_sites st n t wait) nets so
plain_sites st place (declaration d) so = decl_sites (home_at st) st.scope d so
plain_sites st place (event ids) so = each (event_site st.scope) ids so
plain_sites st place (I.genvar ids) so = each (genvar_site st.scope) ids so
plain_sites st place (parameter word t all) so = each (constant_site st.scope word t) all so
plain_sites st place (assign wait sets) so = each (set_site st wait) sets so
plain_sites st place (I.gate g wait gates) so = each (gate_site st g wait) gates so
plain_sites st place (instance m parameters insts) so = each (child_site st m parameters) insts so
plain_sites st place (process word s) so = construct_sites st.scope place word s so
plain_sites st place (task t) so = task_sites st.scope t so
plain_sites st place (function f) so = function_sites st.scope f so

-- The parameters of a header: one without a type has that of the one before it. (12.2)
abbrev pub type_or : Option TypeTree → Option TypeTree → Option TypeTree
type_or None before = before
type_or (Some t) before = Some t

abbrev pub pars_sites : ℕ → Option TypeTree → List ParTree → Sites → Sites
pars_sites scope before [] so = so
pars_sites scope before (p ∷ ps) so =
    pars_sites scope (type_or p.data_type before) ps
    (with_named scope p.id
    (constant parameter_word.Parameter (type_or p.data_type before) p.value) so)

-- The ports that a header declares.
abbrev pub ports_sites : ModuleTree → ℕ → List Directed → Sites → Sites
ports_sites m scope ds so = each (port_site m scope) ds so

-- An item that holds none; of another one nothing is made.
abbrev pub own_item : Around → ItemTree → Sites → Sites
own_item st (item place (plain_item form)) so = plain_sites st place form so
own_item st (item place generate_word) so = so
own_item st (item place endgenerate_word) so = so
own_item st (item place (for_item start test step body)) so = so
own_item st (item place (if_item test block other)) so = so
