-- How contracts see what the code holds.
use Rattle.std.specs.Prelude.{◌≡◌, true, List, map, OnOk, Result, Ok, Err, Option, Some, None}
use Rattle.vh_design_code.specs.declared.operation.Operation.{Operation}
use Rattle.vh_design_nodes.specs.Fits.{is_unit}
use Rattle.vh_bind.specs.declared.scope.Mode.TheVariants as mode
use Rattle.vh_bind.specs.Nodes.{IsSound}
use Rattle.vh_bind.specs.Steps.{Fault}
use Rattle.vh_bind_stmt.specs.Calls.{Surroundings}
use Rattle.vh_bind_stmt.specs.Views.{surroundings_seen}
use Rattle.vh_lower_flow.specs.declared.flow.Flow.{Flow}
use Rattle.vh_lower_flow.specs.Trees.{FlowTree}
use Rattle.vh_lower_flow.specs.Views.{flow_tree, item_tree}
use Rattle.vh_lower.specs.declared.added.Added as design
use Rattle.vh_lower.specs.declared.added.Maker as code
use Rattle.vh_lower.specs.declared.fault.LowerFault.{LowerFault}
use Rattle.vh_lower.specs.declared.fault.LowerFault.TheVariants as faults
use Rattle.vh_lower.specs.declared.cases.Cases as all
use Rattle.vh_lower.specs.declared.tasks.Calling as task
use Rattle.vh_lower.specs.Making.{Added}
use Rattle.vh_lower.specs.Statements.{Calling, Cases}

-- What statements have added to a design.
abbrev pub added_seen : design.Added → Added
added_seen a = record {
  exprs = a.exprs.items;
  waits = a.waits.items;
  shows = a.shows.items;
  stmts = a.stmts.items;
}

-- Statements in a row.
abbrev pub flows_seen : List Flow → List FlowTree
flows_seen fs = map flow_tree fs

-- The call of a task so far.
abbrev pub calling_seen : task.Calling → Calling
calling_seen c = record {
  before = c.before.items;
  behind = c.behind.items;
  inputs = c.inputs.items;
  outputs = c.outputs.items;
}

-- A `case` so far.
abbrev pub cases_seen : all.Cases → Cases
cases_seen c = record {
  calls = c.calls.items;
  matched = c.matched.items;
  items = map item_tree c.items;
  default = flows_seen c.default;
}

-- It is what a step answers, seen so, and what it leaves. (Want of memory is free.)
abbrev pub MakesTo : {A B : Type 0} → (A → B) → Result (B × Added) (Option Fault) → Result A LowerFault → Added → Type 0
MakesTo see outcome (Ok x) a = outcome ≡ Ok (see x, a)
MakesTo see outcome (Err (faults.Refused fault place)) a = outcome ≡ Err (Some (fault, place))
MakesTo see outcome (Err faults.PassedOver) a = outcome ≡ Err None
MakesTo see outcome (Err faults.NoMemory) a = Unit {0}

-- The same with the instructions behind which it stands.
abbrev pub Performs : {A : Type 0} → Result ((A × List Operation) × Added) (Option Fault) → List Operation
    → Result A LowerFault → Added → Type 0
Performs outcome os result a = MakesTo (λ x. (x, os)) outcome result a

-- It is what a step leaves of a call, or of a `case`.
abbrev pub Leaves : {A B : Type 0} → Result (B × Added) (Option Fault) → B → Result A LowerFault → Added → Type 0
Leaves outcome left result a = MakesTo (λ x. left) outcome result a

-- What statements stand in, and what they have added.
abbrev pub around_of : code.Maker → Surroundings
around_of m = surroundings_seen m.around.now

abbrev pub added_of : code.Maker → Added
added_of m = added_seen m.added.now

abbrev pub HasSound : code.Maker → Added → Type 0
HasSound m a = IsSound mode.Value (around_of m).scope a.exprs

-- Code can be made: the expressions so far are sound where the statements stand, whose unit is one.
pub record Stands (m : code.Maker) : Type 0 where
  pub sound : HasSound m (added_of m)
  pub unit : is_unit (around_of m).scope.precision (around_of m).scope.unit ≡ true

-- They stand in the same, and add to the same design.
pub record IsSame (m after : code.Maker) : Type 0 where
  pub around : after.around.now ≡ m.around.now
  pub reference : after.added.ghost_name ≡ m.added.ghost_name

-- What is made so where statements stand, with what this adds.
pub record Adds {A : Type 0} (makes : Surroundings → Added → Result A LowerFault → Added → Type 0) (m : code.Maker)
    (result : Result A LowerFault) (after : code.Maker) : Type 0 where
  pub made : makes (around_of m) (added_of m) result (added_of after)
  pub sound : OnOk result (HasSound m (added_of after))
  pub same : IsSame m after

-- What is found so there, which adds nothing.
abbrev pub Finds : {A : Type 0} → (Surroundings → Added → Result A LowerFault → Added → Type 0) → code.Maker
    → Result A LowerFault → Type 0
Finds makes m result = makes (around_of m) (added_of m) result (added_of m)
