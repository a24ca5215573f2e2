-- How contracts see what the code holds: trees without pointers.
use Rattle.std.specs.Prelude.{map, option_map, Option, Some, None}
use Rattle.vh_ast.specs.declared.operator.Binary.{Binary}
use Rattle.vh_ast.specs.declared.token.Id.{Id}
use Rattle.vh_ast.specs.declared.name.Step.{Step}
use Rattle.vh_ast.specs.declared.name.Name.{Name}
use Rattle.vh_ast.specs.declared.name.Part.{Part}
use Rattle.vh_ast.specs.declared.name.Part.TheVariants as part
use Rattle.vh_ast.specs.declared.name.Sel.{Sel}
use Rattle.vh_ast.specs.declared.name.Sel.TheVariants as sel
use Rattle.vh_ast.specs.declared.expr.Primary.{Primary}
use Rattle.vh_ast.specs.declared.expr.Primary.TheVariants as prim
use Rattle.vh_ast.specs.declared.expr.Link.{Link}
use Rattle.vh_ast.specs.declared.expr.ExprForm.{ExprForm}
use Rattle.vh_ast.specs.declared.expr.ExprForm.TheVariants as form
use Rattle.vh_ast.specs.declared.expr.Expr.{Expr, fold-Expr}
use Rattle.vh_ast.specs.declared.data_type.Range.{Range}
use Rattle.vh_ast.specs.declared.data_type.DataType.{DataType}
use Rattle.vh_ast.specs.declared.declared.Assigned.{Assigned}
use Rattle.vh_ast.specs.declared.declared.Net.{Net}
use Rattle.vh_ast.specs.declared.declared.Init.{Init}
use Rattle.vh_ast.specs.declared.declared.VarPart.{VarPart}
use Rattle.vh_ast.specs.declared.declared.VarPart.TheVariants as v
use Rattle.vh_ast.specs.declared.declared.Var.{Var}
use Rattle.vh_ast.specs.declared.declared.Decl.{Decl}
use Rattle.vh_ast.specs.declared.declared.Decl.TheVariants as d
use Rattle.vh_ast.specs.declared.port.Par.{Par}
use Rattle.vh_ast.specs.declared.port.Pdecl.{Pdecl}
use Rattle.vh_ast.specs.declared.port.Port.{Port}
use Rattle.vh_ast.specs.declared.port.Port.TheVariants as port
use Rattle.vh_ast.specs.declared.port.Ports.{Ports}
use Rattle.vh_ast.specs.declared.port.Ports.TheVariants as ports
use Rattle.vh_ast.specs.declared.timing.DelayValue.{DelayValue}
use Rattle.vh_ast.specs.declared.timing.DelayValue.TheVariants as delay
use Rattle.vh_ast.specs.declared.timing.Delay.{Delay}
use Rattle.vh_ast.specs.declared.timing.Ev.{Ev}
use Rattle.vh_ast.specs.declared.timing.Event.{Event}
use Rattle.vh_ast.specs.declared.timing.Event.TheVariants as event
use Rattle.vh_ast.specs.declared.target.LvPart.{LvPart}
use Rattle.vh_ast.specs.declared.target.LvPart.TheVariants as lv
use Rattle.vh_ast.specs.declared.target.Lv.{Lv}
use Rattle.vh_ast.specs.declared.target.Set.{Set}
use Rattle.vh_ast.specs.declared.stmt.Simple.{Simple}
use Rattle.vh_ast.specs.declared.stmt.Simple.TheVariants as simple
use Rattle.vh_ast.specs.declared.stmt.Matched.{Matched}
use Rattle.vh_ast.specs.declared.stmt.Matched.TheVariants as matched
use Rattle.vh_ast.specs.declared.stmt.Citem.{Citem}
use Rattle.vh_ast.specs.declared.stmt.StmtForm.{StmtForm}
use Rattle.vh_ast.specs.declared.stmt.StmtForm.TheVariants as s
use Rattle.vh_ast.specs.declared.stmt.Stmt.{Stmt, fold-Stmt}
use Rattle.vh_ast.specs.declared.routine.Targ.{Targ}
use Rattle.vh_ast.specs.declared.routine.Local.{Local}
use Rattle.vh_ast.specs.declared.routine.Local.TheVariants as local
use Rattle.vh_ast.specs.declared.routine.ResultType.{ResultType}
use Rattle.vh_ast.specs.declared.routine.ResultType.TheVariants as results
use Rattle.vh_ast.specs.declared.routine.Task.{Task}
use Rattle.vh_ast.specs.declared.routine.Function.{Function}
use Rattle.vh_ast.specs.declared.instance.Gate.{Gate}
use Rattle.vh_ast.specs.declared.instance.Conn.{Conn}
use Rattle.vh_ast.specs.declared.instance.Conn.TheVariants as conn
use Rattle.vh_ast.specs.declared.instance.Inst.{Inst}
use Rattle.vh_ast.specs.declared.item.Plain.{Plain}
use Rattle.vh_ast.specs.declared.item.Plain.TheVariants as plain_
use Rattle.vh_ast.specs.declared.item.Gblock.{Gblock}
use Rattle.vh_ast.specs.declared.item.Gblock.TheVariants as gblock
use Rattle.vh_ast.specs.declared.item.ItemForm.{ItemForm}
use Rattle.vh_ast.specs.declared.item.ItemForm.TheVariants as i
use Rattle.vh_ast.specs.declared.item.Item.{Item, fold-Item}
use Rattle.vh_ast.specs.declared.module.Module.{Module}
use Rattle.vh_ast.specs.declared.module.Source.{Source}
use Rattle.vh_ast.specs.Expressions.{ExprTree, expr, ExprFormTree, number, text, named, call, system, paren, concat, repeat, unary, chain, choice, exprs, links, NameTree, name, steps, IndexTree, no_index, index, SelTree, no_sel, index_sel, both_sel, part_sel, PartTree, at, range, up, down}
use Rattle.vh_ast.specs.Declarations.{RangeTree, TypeTree, AssignedTree, NetTree, InitTree, VarPartTree, plain, memory, valued, VarTree, DeclTree, reg, integer, time, ParTree, PdeclTree, PortTree, declared_port, port_name, PortsTree, plain_ports, declared_ports, TargTree, LocalTree, local_targ, local_decl, ResultTree, integer_result, time_result, data_result}
use Rattle.vh_ast.specs.Statements as S
use Rattle.vh_ast.specs.Statements.{DelayValueTree, delay_number, delay_id, delay_expr, DelayTree, EvTree, EventTree, any_event, named_event, listed_events, LvPartTree, LvTree, SetTree, SimpleTree, MatchedTree, StmtTree, StmtFormTree, CitemTree}
use Rattle.vh_ast.specs.Items as I

-- Names and selects over the code's expressions, by how these are seen (own).
module _ {E : Type 0} (see : E → ExprTree) where
  abbrev pub index_by : Option E → IndexTree
  index_by None = no_index
  index_by (Some e) = index (see e)

  abbrev pub step_by : Step E → Id × IndexTree
  step_by s = (s.id, index_by s.index)

  abbrev pub name_by : Name E → NameTree
  name_by n = name n.first.id (index_by n.first.index) (steps (map step_by n.more))

  abbrev pub part_by : Part E → PartTree
  part_by (part.Index e) = at (see e)
  part_by (part.Range left right) = range (see left) (see right)
  part_by (part.Up base width) = up (see base) (see width)
  part_by (part.Down base width) = down (see base) (see width)

  abbrev pub sel_by : Option (Sel E) → SelTree
  sel_by None = no_sel
  sel_by (Some (sel.Index place e)) = index_sel place (see e)
  sel_by (Some (sel.Both place e last)) = both_sel place (see e) last.place (part_by last.part)
  sel_by (Some (sel.Part e)) = part_sel e.place (part_by e.part)

-- A part of the layer is a tree already (own).
abbrev pub same : ExprTree → ExprTree
same e = e

-- An operator of the layer, with the operand behind it (own).
abbrev pub link_layer : Link ExprTree → Binary × ExprTree
link_layer l = (l.operator, l.operand)

-- One layer of an expression of the code (own).
abbrev pub prim_layer : Primary ExprTree → ExprFormTree
prim_layer (prim.Number n) = number n
prim_layer (prim.Text bytes) = text bytes
prim_layer (prim.Name n s) = named (name_by same n) (sel_by same s)
prim_layer (prim.Call n arguments) = call (name_by same n) (exprs arguments)
prim_layer (prim.System id arguments) = system id (exprs arguments)
prim_layer (prim.Paren e) = paren e
prim_layer (prim.Concat parts) = concat (exprs parts)
prim_layer (prim.Repeat count parts) = repeat count (exprs parts)

abbrev pub form_layer : ExprForm ExprTree → ExprFormTree
form_layer (form.Primary p) = prim_layer p
form_layer (form.Unary operator operand) = unary operator operand
form_layer (form.Chain first more) = chain first (links (map link_layer more))
form_layer (form.Choice test holds fails) = choice test holds fails

-- An expression of the code (own).
abbrev pub expr_tree : Expr → ExprTree
expr_tree = fold-Expr ExprTree (λ e. expr e.place (form_layer e.form))

-- An operator of the code, with the operand behind it (own).
abbrev pub link_tree : Link Expr → Binary × ExprTree
link_tree l = (l.operator, expr_tree l.operand)

-- Names and selects of the code (own).
abbrev pub name_tree : Name Expr → NameTree
name_tree n = name_by expr_tree n

abbrev pub sel_tree : Option (Sel Expr) → SelTree
sel_tree s = sel_by expr_tree s

-- Ranges and types of the code (own).
abbrev pub range_tree : Range → RangeTree
range_tree r = record { place = r.place; left = expr_tree r.left; right = expr_tree r.right }

abbrev pub type_tree : DataType → TypeTree
type_tree t = record { signed = t.signed; range = option_map range_tree t.range }

-- Declared names of the code (own).
abbrev pub assigned_tree : Assigned → AssignedTree
assigned_tree a = record { id = a.id; value = expr_tree a.value }

abbrev pub net_tree : Net → NetTree
net_tree n = record { id = n.id; value = option_map expr_tree n.value }

abbrev pub init_tree : Init → InitTree
init_tree i = record { id = i.id; value = option_map expr_tree i.value }

abbrev pub var_part_tree : VarPart → VarPartTree
var_part_tree v.Plain = plain
var_part_tree (v.Range r) = memory (range_tree r)
var_part_tree (v.Value e) = valued (expr_tree e)

abbrev pub var_tree : Var → VarTree
var_tree v = record { id = v.id; part = var_part_tree v.part }

-- Declarations of the code (own).
abbrev pub decl_tree : Decl → DeclTree
decl_tree (d.Reg place data_type vars) = reg place (type_tree data_type) (map var_tree vars)
decl_tree (d.Integer place inits) = integer place (map init_tree inits)
decl_tree (d.Time place inits) = time place (map init_tree inits)

-- Parameters and ports of a header of the code (own).
abbrev pub par_tree : Par → ParTree
par_tree p =
    record {
      place = p.place;
      data_type = option_map type_tree p.data_type;
      id = p.id;
      value = expr_tree p.value;
    }

abbrev pub pdecl_tree : Pdecl → PdeclTree
pdecl_tree p =
    record {
      place = p.place;
      direction = p.direction;
      port_type = p.port_type;
      data_type = type_tree p.data_type;
      id = p.id;
    }

abbrev pub port_tree : Port → PortTree
port_tree (port.Pdecl p) = declared_port (pdecl_tree p)
port_tree (port.Id id) = port_name id

abbrev pub ports_tree : Ports → PortsTree
ports_tree (ports.Plain ids) = plain_ports ids
ports_tree (ports.Declared first more) = declared_ports (pdecl_tree first) (map port_tree more)

-- Delays and events of the code (own).
abbrev pub delay_value_tree : DelayValue → DelayValueTree
delay_value_tree (delay.Number n) = delay_number n
delay_value_tree (delay.Id id) = delay_id id
delay_value_tree (delay.Expr e) = delay_expr (expr_tree e)

abbrev pub delay_tree : Delay → DelayTree
delay_tree d = record { place = d.place; value = delay_value_tree d.value }

abbrev pub ev_tree : Ev → EvTree
ev_tree e = record { place = e.place; edge = e.edge; expr = expr_tree e.expr }

abbrev pub event_tree : Event → EventTree
event_tree event.Any = any_event
event_tree (event.Name n) = named_event (name_tree n)
event_tree (event.List evs) = listed_events (map ev_tree evs)

-- Targets of the code (own).
abbrev pub lv_part_tree : LvPart → LvPartTree
lv_part_tree lv.Open = S.opened
lv_part_tree (lv.Name n s) = S.target (name_tree n) (sel_tree s)
lv_part_tree lv.Close = S.closed

abbrev pub lv_tree : Lv → LvTree
lv_tree l = record { place = l.place; parts = map lv_part_tree l.parts }

abbrev pub set_tree : Set → SetTree
set_tree s = record { target = lv_tree s.target; value = expr_tree s.value }

-- Statements of the code (own).
abbrev pub simple_tree : Simple → SimpleTree
simple_tree simple.Empty = S.empty
simple_tree (simple.Assign target word wait value) =
    S.assign (lv_tree target) word (option_map delay_tree wait) (expr_tree value)
simple_tree (simple.Trigger n) = S.trigger (name_tree n)
simple_tree (simple.Disable n) = S.disable (name_tree n)
simple_tree (simple.Force word s) = S.force word (set_tree s)
simple_tree (simple.Release word target) = S.release word (lv_tree target)
simple_tree (simple.Call n arguments) = S.task_call (name_tree n) (map expr_tree arguments)
simple_tree (simple.System id arguments) = S.system_call id (map (option_map expr_tree) arguments)

abbrev pub matched_tree : Matched → MatchedTree
matched_tree (matched.Values es) = S.values (map expr_tree es)
matched_tree matched.Default = S.default

-- One layer of a statement of the code (own).
abbrev citem_layer : Citem StmtTree → CitemTree
citem_layer c = record { place = c.place; matched = matched_tree c.matched; body = c.body }

abbrev else_layer : Option StmtTree → S.ElseTree
else_layer None = S.no_else
else_layer (Some s) = S.else_stmt s

abbrev pub stmt_layer : StmtForm StmtTree → StmtFormTree
stmt_layer (s.Simple form) = S.simple_stmt (simple_tree form)
stmt_layer (s.Delay d body) = S.delay_stmt (delay_tree d) body
stmt_layer (s.Event e body) = S.event_stmt (event_tree e) body
stmt_layer (s.Wait test body) = S.wait_stmt (expr_tree test) body
stmt_layer (s.If test holds fails) = S.if_stmt (expr_tree test) holds (else_layer fails)
stmt_layer (s.Case word value all) =
    S.case_stmt word (expr_tree value) (S.citems (map citem_layer all))
stmt_layer (s.For start test step body) =
    S.for_stmt (set_tree start) (expr_tree test) (set_tree step) body
stmt_layer (s.Loop word test body) = S.loop_stmt word (expr_tree test) body
stmt_layer (s.Forever body) = S.forever_stmt body
stmt_layer (s.Block word id decls all) = S.block_stmt word id (map decl_tree decls) (S.stmts all)

abbrev pub stmt_tree : Stmt → StmtTree
stmt_tree = fold-Stmt StmtTree (λ s. S.stmt s.place (stmt_layer s.form))

abbrev pub else_tree : Option Stmt → S.ElseTree
else_tree None = S.no_else
else_tree (Some s) = S.else_stmt (stmt_tree s)

abbrev pub citem_tree : Citem Stmt → CitemTree
citem_tree c = record { place = c.place; matched = matched_tree c.matched; body = stmt_tree c.body }

-- Tasks and functions of the code (own).
abbrev pub targ_tree : Targ → TargTree
targ_tree t =
    record {
      place = t.place;
      direction = t.direction;
      variable = t.variable;
      data_type = type_tree t.data_type;
      ids = t.ids;
    }

abbrev pub local_tree : Local → LocalTree
local_tree (local.Targ t) = local_targ (targ_tree t)
local_tree (local.Decl d) = local_decl (decl_tree d)

abbrev pub result_tree : ResultType → ResultTree
result_tree results.Integer = integer_result
result_tree results.Time = time_result
result_tree (results.Data t) = data_result (type_tree t)

abbrev pub task_tree : Task → I.TaskTree
task_tree t =
    record {
      id = t.id;
      targs = map targ_tree t.targs;
      locals = map local_tree t.locals;
      body = stmt_tree t.body;
    }

abbrev pub function_tree : Function → I.FunctionTree
function_tree f =
    record {
      result_type = option_map result_tree f.result_type;
      id = f.id;
      targs = map targ_tree f.targs;
      locals = map local_tree f.locals;
      body = stmt_tree f.body;
    }

-- Gates and instances of the code (own).
abbrev pub gate_tree : Gate → I.GateTree
gate_tree g = record { place = g.place; id = g.id; terminals = map expr_tree g.terminals }

abbrev pub conn_tree : Conn → I.ConnTree
conn_tree (conn.Ordered e) = I.ordered (option_map expr_tree e)
conn_tree (conn.Named place id e) = I.by_name place id (option_map expr_tree e)

abbrev pub inst_tree : Inst → I.InstTree
inst_tree i = record { id = i.id; conns = map conn_tree i.conns }

-- Items of the code (own).
abbrev pub plain_tree : Plain → I.PlainTree
plain_tree (plain_.Port direction port_type data_type ids) =
    I.port direction port_type (type_tree data_type) ids
plain_tree (plain_.Net net_type data_type wait nets) =
    I.net net_type (type_tree data_type) (option_map delay_tree wait) (map net_tree nets)
plain_tree (plain_.Decl d) = I.declaration (decl_tree d)
plain_tree (plain_.Event ids) = I.event ids
plain_tree (plain_.Genvar ids) = I.genvar ids
plain_tree (plain_.Parameter word data_type all) =
    I.parameter word (type_tree data_type) (map assigned_tree all)
plain_tree (plain_.Assign wait sets) = I.assign (option_map delay_tree wait) (map set_tree sets)
plain_tree (plain_.Gate gate_type wait gates) =
    I.gate gate_type (option_map delay_tree wait) (map gate_tree gates)
plain_tree (plain_.Inst of conns insts) = I.instance of (map conn_tree conns) (map inst_tree insts)
plain_tree (plain_.Process word body) = I.process word (stmt_tree body)
plain_tree (plain_.Task t) = I.task (task_tree t)
plain_tree (plain_.Function f) = I.function (function_tree f)

-- One layer of an item of the code (own).
abbrev gblock_layer : Gblock I.ItemTree → I.GblockTree
gblock_layer (gblock.Item place all) = I.one_item place (I.items all)
gblock_layer (gblock.Block place id all) = I.item_block place id (I.items all)

abbrev gelse_layer : Option (Gblock I.ItemTree) → I.ElseTree
gelse_layer None = I.no_else
gelse_layer (Some g) = I.else_gblock (gblock_layer g)

abbrev pub item_layer : ItemForm I.ItemTree → I.ItemFormTree
item_layer (i.Plain form) = I.plain_item (plain_tree form)
item_layer i.Generate = I.generate_word
item_layer i.Endgenerate = I.endgenerate_word
item_layer (i.For start test step body) =
    I.for_item (assigned_tree start) (expr_tree test) (assigned_tree step) (gblock_layer body)
item_layer (i.If test holds fails) =
    I.if_item (expr_tree test) (gblock_layer holds) (gelse_layer fails)

abbrev pub item_tree : Item → I.ItemTree
item_tree = fold-Item I.ItemTree (λ i. I.item i.place (item_layer i.form))

abbrev pub gblock_tree : Gblock Item → I.GblockTree
gblock_tree (gblock.Item place all) = I.one_item place (I.items (map item_tree all))
gblock_tree (gblock.Block place id all) = I.item_block place id (I.items (map item_tree all))

abbrev pub gelse_tree : Option (Gblock Item) → I.ElseTree
gelse_tree None = I.no_else
gelse_tree (Some g) = I.else_gblock (gblock_tree g)

-- Modules and sources of the code (own).
abbrev pub module_tree : Module → I.ModuleTree
module_tree m =
    record {
      place = m.place;
      setting = m.setting;
      id = m.id;
      pars = map par_tree m.pars;
      ports = option_map ports_tree m.ports;
      items = map item_tree m.items;
    }

abbrev pub source_tree : Source → I.SourceTree
source_tree s = map module_tree s.modules
