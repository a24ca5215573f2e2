-- The second pass over an instance: the codes of processes and the bodies of tasks and functions, and the least fault of these.
-- (IEEE 1364-2005, 6.1, 6.2.1, 7.1, 9.9, 10 and 12.3)
use Rattle.std.specs.Prelude.{ℕ, ◌+◌, ◌-◌, Bool, true, List, [], ◌∷◌, ◌++◌, length, if◌then◌else◌, ◌==◌, nat_lt, Option, Some, None, Result, Ok, Err, drop}
use Rattle.vh_base.specs.declared.faults.DesignFault.TheVariants.{N7, N11}
use Rattle.vh_base.specs.declared.place.Place.{Place}
use Rattle.vh_design_nodes.specs.declared.expr.ExprKind.{ExprKind}
use Rattle.vh_design_nodes.specs.declared.expr.ExprKind.TheVariants as kind
use Rattle.vh_design_nodes.specs.declared.object.ObjectInfo.{ObjectInfo}
use Rattle.vh_design_code.specs.declared.code.Code.{Code}
use Rattle.vh_design_code.specs.declared.operation.Operation.{Operation}
use Rattle.vh_design_code.specs.declared.target.Delay.{Delay}
use Rattle.vh_ast.specs.declared.instance.GateType.{GateType}
use Rattle.vh_ast.specs.Expressions.{ExprTree}
use Rattle.vh_ast.specs.Items.{GateTree}
use Rattle.vh_ast.specs.Statements.{DelayTree, StmtTree}
use Rattle.vh_bind_scope.specs.Names.{Names}
use Rattle.vh_bind.specs.Constants.{with_number}
use Rattle.vh_bind.specs.Scopes.{Scope, here}
use Rattle.vh_bind.specs.Selects.{Outcome, with_ok, with_some}
use Rattle.vh_bind.specs.Steps.{Nodes}
use Rattle.vh_bind_stmt.specs.Calls.{Surroundings}
use Rattle.vh_lower_flow.specs.declared.code_kind.CodeKind.{CodeKind}
use Rattle.vh_lower_flow.specs.declared.code_kind.CodeKind.TheVariants as code_of
use Rattle.vh_lower.specs.Making.{Added, Making}
use Rattle.vh_lower.specs.Processes.{initial_code, drive_code}
use Rattle.vh_lower.specs.Statements.{lowered}
use Rattle.vh_bind_least.specs.Least.{Fault, fault_if, least}
use Rattle.vh_elab_sites.specs.declared.site.CodeWord.{CodeWord}
use Rattle.vh_elab_sites.specs.declared.site.CodeWord.TheVariants as word
use Rattle.vh_elab_sites.specs.Sites.{Driven, net_of, target_of}
use Rattle.vh_elab_declare.specs.Objects.{around_in}
use Rattle.vh_elab_declare.specs.Constants.{Genvars, genvars_in}
use Rattle.vh_elab_drives.specs.Nets.{Drivers, driver, drivers_sum, output_drivers, target_drivers, width_at}
use Rattle.vh_elab_drives.specs.Gates.{gate_code, gate_delay, has_terminals, input_of}
use Rattle.vh_elab.specs.declared.counts.TheConstants.{MOST_COUNTED}
use Rattle.vh_elab.specs.Routines.{Routines}

-- The instances, of which all constants are known: the second pass reads this, and changes nothing in it. The precision is that of
-- the simulation.
pub record Ready : Type 0 where
  pub top_name : List ℕ
  pub precision : ℕ
  pub names : Names
  pub objects : List ObjectInfo
  pub values : Nodes
  pub routines : Routines
  pub genvars : Genvars

-- Where a statement stands, in a module of this time unit.
abbrev pub scope_in : Ready → ℕ → List ℕ → Scope
scope_in r unit around = record {
  names = r.names;
  around = around;
  top = 0;
  top_name = r.top_name;
  genvars = genvars_in r.genvars around;
  objects = r.objects;
  exprs = r.values;
  routines = r.routines.routines;
  unit = unit;
  precision = r.precision;
}

abbrev pub surroundings_at : Ready → ℕ → ℕ → Surroundings
surroundings_at r unit scope =
    record { scope = scope_in r unit (around_in r.objects scope); arguments = r.routines.arguments }

-- What is made so far, and the least fault so far: the codes of processes and of bodies, drivers, and what these have added to the
-- design; whether something was passed over; and how many statements and operators there are.
pub record Coding : Type 0 where
  pub added : Added
  pub drivers : Drivers
  pub codes : List Code
  pub bodies : List Code
  pub fault : Option Fault
  pub passed : Bool
  pub count : ℕ

abbrev pub with_fault : Fault → Coding → Coding
with_fault fault c = record c { fault = least c.fault (Some fault) }

-- What is made is put in. The fault of a construct is that which it has beside the values of parameters alone, whatever else is made:
-- behind a fault nothing but these is left, since nobody will have the design.
abbrev pub only_values : Ready → Added
only_values r = record { exprs = r.values; waits = []; shows = []; stmts = [] }

abbrev pub tried_by : {A : Type 0} → Ready → Coding → Result (A × Added) (Option Fault) → Option A × Coding
tried_by r c (Ok x) = (Some x.0, record c { added = x.1 })
tried_by r c (Err (Some fault)) =
    (None, record c { added = only_values r; fault = least c.fault (Some fault) })
tried_by r c (Err None) = (None, record c { added = only_values r; passed = true })

abbrev pub tried : {A : Type 0} → Ready → Making A → Coding → Option A × Coding
tried r p c = tried_by r c (p c.added)

-- The same of what only looks.
abbrev pub looked_by : {A : Type 0} → Coding → Outcome (Option A) → Option A × Coding
looked_by c (Ok (Some x)) = (Some x, c)
looked_by c (Ok None) = (None, record c { passed = true })
looked_by c (Err fault) = (None, record c { fault = least c.fault (Some fault) })

-- A process more, and a body.
abbrev pub with_code : Option Code × Coding → Coding
with_code (None, c) = c
with_code (Some made, c) = record c { codes = c.codes ++ made ∷ [] }

abbrev pub with_body : Option Code × Coding → Coding
with_body (None, c) = c
with_body (Some made, c) = record c { bodies = c.bodies ++ made ∷ [] }

-- A first value, a construct, and a task or function, which has its own scope. (6.2.1, 9.9 and 10)
abbrev pub value_coded : Ready → Surroundings → ℕ → ExprTree → Coding → Coding
value_coded r w n e c = with_code (tried r (initial_code w n e) c)

abbrev pub construct_coded : Ready → Surroundings → CodeKind → StmtTree → Coding → Coding
construct_coded r w kind s c = with_code (tried r (lowered kind w s) c)

abbrev pub body_coded : Ready → Surroundings → StmtTree → Coding → Coding
body_coded r w s c = with_body (tried r (lowered code_of.Body w s) c)

abbrev pub statement_coded : Ready → Surroundings → CodeWord → StmtTree → Coding → Coding
statement_coded r w word.Initial s c = construct_coded r w code_of.Initial s c
statement_coded r w word.Always s c = construct_coded r w code_of.Always s c
statement_coded r w word.Task s c = body_coded r w s c
statement_coded r w word.Function s c = body_coded r w s c

-- Drivers more, and their numbers.
abbrev pub numbers_from : ℕ → Drivers → List ℕ
numbers_from n [] = []
numbers_from n (d ∷ ds) = n ∷ numbers_from (n + 1) ds

abbrev pub drivers_or_none : Option Drivers → Drivers
drivers_or_none None = []
drivers_or_none (Some ds) = ds

abbrev pub with_drivers : Option Drivers × Coding → List ℕ × Coding
with_drivers (ds, c) =
    (numbers_from (length c.drivers) (drivers_or_none ds), record c { drivers = c.drivers ++ drivers_or_none ds })

-- A continuous assignment: its target, and its value with its delay. (6.1)
abbrev pub whole_driver : List ObjectInfo → ℕ → Drivers
whole_driver os n = driver n 0 (width_at os n) ∷ []

abbrev pub driven_by : Scope → Nodes → Driven → Outcome (Option Drivers)
driven_by s ns (net_of n) = Ok (Some (whole_driver s.objects n))
driven_by s ns (target_of lv) = target_drivers (here s ns) lv

abbrev pub drive_coded : Ready → Surroundings → Option DelayTree → ExprTree → List ℕ × Coding → Coding
drive_coded r w wait e (drivers, c) = with_code (tried r (drive_code w drivers wait e) c)

abbrev pub assignment_coded : Ready → Surroundings → Option DelayTree → Driven → ExprTree → Coding → Coding
assignment_coded r w wait x e c = drive_coded r w wait e (with_drivers (looked_by c (driven_by w.scope c.added.exprs x)))

-- A gate: its first terminal is its target, the others are its inputs. Each that isn't one digit wide is N7, and each is looked at by
-- itself. (7.1)
pub record Inputs : Type 0 where
  pub numbers : Option (List ℕ)
  pub calls : List Operation

abbrev pub one_input : Option (List ℕ) → Option (ℕ × List Operation) → Inputs
one_input numbers None = record { numbers = None; calls = [] }
one_input numbers (Some x) = record { numbers = with_number numbers (Some x.0); calls = x.1 }

abbrev pub with_input : Inputs → Option (ℕ × List Operation) × Coding → Inputs × Coding
with_input i (x, c) = (one_input i.numbers x, c)

abbrev pub inputs_coded : Ready → Surroundings → Place → List ExprTree → Inputs × Coding → Inputs × Coding
inputs_coded r w place [] s = s
inputs_coded r w place (e ∷ es) (i, c) =
    inputs_coded r w place es (with_input i (tried r (input_of w place i.calls e) c))

abbrev pub one_wide : Place → Drivers → Outcome (Option Drivers)
one_wide place ds = if drivers_sum ds == 1 then Ok (Some ds) else Err (N7, place)

abbrev pub output_one : Place → Outcome (Option Drivers) → Outcome (Option Drivers)
output_one place outcome = with_ok outcome (λ o. with_some o (one_wide place))

-- Its code, where none of its inputs has a fault.
abbrev pub gate_made : Ready → Surroundings → Place → GateType → List ℕ → ℕ → Option Delay → Option (List ℕ) → List Operation
    → Coding → Coding
gate_made r w place g drivers from delay None calls c = c
gate_made r w place g drivers from delay (Some []) calls c = c
gate_made r w place g drivers from delay (Some (e ∷ es)) calls c =
    with_code (tried r (gate_code w place g drivers from delay e es calls) c)

abbrev pub gate_ended : Ready → Surroundings → Place → GateType → List ℕ → ℕ → Option Delay → Inputs × Coding → Coding
gate_ended r w place g drivers from delay (i, c) = gate_made r w place g drivers from delay i.numbers i.calls c

abbrev pub with_delay : Option (Option Delay × List Operation) × Coding → (Option Delay × List Operation) × Coding
with_delay (None, c) = ((None, []), c)
with_delay (Some d, c) = (d, c)

abbrev pub gate_inputs : Ready → Surroundings → Place → GateType → List ExprTree → Option Delay × List Operation
    → List ℕ × Coding → Coding
gate_inputs r w place g inputs d (drivers, c) =
    gate_ended r w place g drivers (length c.added.exprs) d.0
    (inputs_coded r w place inputs (record { numbers = Some []; calls = d.1 }, c))

abbrev pub delay_coded : Ready → Surroundings → Option DelayTree → Coding → (Option Delay × List Operation) × Coding
delay_coded r w wait c = with_delay (tried r (gate_delay w [] wait) c)

abbrev pub gate_driven : Ready → Surroundings → Place → GateType → ExprTree → List ExprTree
    → (Option Delay × List Operation) × Coding → Coding
gate_driven r w place g output inputs (d, c) =
    gate_inputs r w place g inputs d
    (with_drivers (looked_by c (output_one place (output_drivers (here w.scope c.added.exprs) output))))

abbrev pub terminals_coded : Ready → Surroundings → Place → GateType → Option DelayTree → List ExprTree → Coding → Coding
terminals_coded r w place g wait [] c = with_fault (N7, place) c
terminals_coded r w place g wait (output ∷ inputs) c =
    if has_terminals g (length (output ∷ inputs)) then
    gate_driven r w place g output inputs (delay_coded r w wait c)
    else with_fault (N7, place) c

abbrev pub gate_coded : Ready → Surroundings → GateType → Option DelayTree → GateTree → Coding → Coding
gate_coded r w g wait x c = terminals_coded r w x.place g wait x.terminals c

-- How many operators an expression has: what folds or joins digits without one has none. (Table 5-1; own for the latter)
abbrev pub operators_in : ExprKind → ℕ
operators_in (kind.Literal v) = 0
operators_in (kind.Selected s) = 0
operators_in (kind.Unary o part) = 1
operators_in (kind.Arithmetic first rest) = length rest
operators_in (kind.Shift first rest) = length rest
operators_in (kind.Comparison first rest) = length rest
operators_in (kind.Logic first rest) = length rest
operators_in (kind.Choice condition a b) = 1
operators_in (kind.Join first rest) = 0
operators_in (kind.Repeat times part) = 0
operators_in (kind.WithSign part signed) = 0
operators_in (kind.Time unit) = 0
operators_in (kind.Call function result arguments) = 0
operators_in (kind.SysCall o) = 0

abbrev pub operators_of : Nodes → ℕ
operators_of [] = 0
operators_of (n ∷ ns) = operators_in n.kind + operators_of ns

-- The statements and operators that a site has, behind so many statements and expressions: those that are more than there may be
-- are N11, at the site. (own)
abbrev pub is_full : Coding → Bool
is_full c = nat_lt MOST_COUNTED c.count

abbrev pub with_count : Place → ℕ → Coding → Coding
with_count place n c =
    record c { fault = least c.fault (fault_if (nat_lt MOST_COUNTED n) N11 place); count = n }

abbrev pub grown : ℕ → ℕ → Added → ℕ
grown stmts exprs a = (length a.stmts - stmts) + operators_of (drop exprs a.exprs)

abbrev pub counted : Place → ℕ → ℕ → Coding → Coding
counted place stmts exprs c = with_count place (c.count + grown stmts exprs c.added) c
