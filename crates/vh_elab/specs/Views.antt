-- How contracts see what the code holds.
use Rattle.std.specs.Prelude.{◌≡◌, ℕ, true, List, Vec, map, IfOk, OnOk, Option, Some, None, Result, Ok, Err}
use Rattle.vh_base.specs.declared.faults.NoMemory.{NoMemory}
use Rattle.vh_design_nodes.specs.Fits.{is_unit}
use Rattle.vh_bind.specs.declared.scope.Mode.TheVariants as mode
use Rattle.vh_bind.specs.Nodes.{AreSound, IsSound}
use Rattle.vh_bind.specs.Steps.{Nodes}
use Rattle.vh_bind.specs.Views.{numbers_of}
use Rattle.vh_bind_stmt.specs.Calls.{Surroundings}
use Rattle.vh_bind_stmt.specs.Views.{surroundings_seen}
use Rattle.vh_bind.specs.declared.fault.ElabFault.{ElabFault}
use Rattle.vh_bind.specs.declared.fault.ElabFault.TheVariants as faults
use Rattle.vh_lower.specs.declared.fault.LowerFault.{LowerFault}
use Rattle.vh_lower.specs.declared.fault.LowerFault.TheVariants as low
use Rattle.vh_logic.specs.Vector.{Vector}
use Rattle.vh_lower.specs.Views.{added_seen}
use Rattle.vh_design_code.specs.declared.code.Code.{Code}
use Rattle.vh_design_code.specs.declared.operation.Operation.{Operation}
use Rattle.vh_design_code.specs.declared.target.Delay.{Delay}
use Rattle.vh_elab.specs.declared.coding.Coding as codes
use Rattle.vh_elab.specs.declared.coding.Coder as code
use Rattle.vh_elab.specs.declared.gates.Inputs as gates
use Rattle.vh_elab.specs.declared.coding.Ready as instances
use Rattle.vh_elab.specs.declared.connected.Outer as outer
use Rattle.vh_ast.specs.Items.{SourceTree}
use Rattle.vh_ast.specs.Views.{expr_tree}
use Rattle.vh_elab_walk.specs.Views.{IsSource, source_seen}
use Rattle.vh_elab.specs.declared.routines.Routines as calls
use Rattle.vh_elab.specs.declared.second_pass.Pass as all
use Rattle.vh_elab.specs.declared.design.Elaboration.{Elaboration}
use Rattle.vh_elab.specs.declared.design.Elaboration.TheVariants as it
use Rattle.vh_elab.specs.Routines.{Routines}
use Rattle.vh_elab.specs.Coded.{Coding, Inputs, Ready, looked_by, tried_by, with_drivers}
use Rattle.vh_elab.specs.Connected.{Outer}
use Rattle.vh_elab_drives.specs.Nets.{Drivers}
use Rattle.vh_elab.specs.Elaborated.{Elaborated, made, refused, later}
use Rattle.vh_elab_declare.specs.Constants.{literal_node}

abbrev pub routines_seen : calls.Routines → Routines
routines_seen r = record { routines = r.routines.items; arguments = r.arguments.items }

abbrev pub coding_seen : codes.Coding → Coding
coding_seen c = record {
  added = added_seen c.added;
  drivers = c.drivers.items;
  codes = c.codes.items;
  bodies = c.bodies.items;
  fault = c.fault;
  passed = c.passed;
  count = c.count;
}

abbrev pub ready_seen : instances.Ready → Ready
ready_seen r = record {
  top_name = r.top_name.now;
  precision = r.precision;
  names = r.names.now;
  objects = r.objects.now;
  values = map literal_node r.values.now;
  routines = routines_seen r.routines.now;
  genvars = r.genvars.now;
}

-- What code is made of, where its statements stand, and what is made so far.
abbrev pub ready_of : code.Coder → Ready
ready_of m = ready_seen m.ready

abbrev pub around_of : code.Coder → Surroundings
around_of m = surroundings_seen m.around.now

abbrev pub coding_of : code.Coder → Coding
coding_of m = coding_seen m.coding.now

abbrev pub HasSound : code.Coder → Nodes → Type 0
HasSound m ns = IsSound mode.Value (around_of m).scope ns

-- Code can be made: the values of parameters and the expressions so far are sound where the statements stand, whose unit is one.
pub record Stands (m : code.Coder) : Type 0 where
  pub values : HasSound m (ready_of m).values
  pub sound : HasSound m (coding_of m).added.exprs
  pub unit : is_unit (around_of m).scope.precision (around_of m).scope.unit ≡ true

-- The statements see all objects.
abbrev pub HasObjects : code.Coder → Type 0
HasObjects m = (around_of m).scope.objects ≡ (ready_of m).objects

-- They stand in the same, and add to the same.
pub record IsSame (m after : code.Coder) : Type 0 where
  pub ready : after.ready ≡ m.ready
  pub around : after.around.now ≡ m.around.now
  pub reference : after.coding.ghost_name ≡ m.coding.ghost_name

-- What is made so where statements stand.
pub record Codes {A : Type 0} (makes : Ready → Surroundings → Coding → Result A NoMemory → Coding → Type 0) (m : code.Coder)
    (result : Result A NoMemory) (after : code.Coder) : Type 0 where
  pub made : makes (ready_of m) (around_of m) (coding_of m) result (coding_of after)
  pub sound : OnOk result (HasSound m (coding_of after).added.exprs)
  pub same : IsSame m after

-- It is what is made, and what is answered beside it. (Want of memory is free.)
abbrev pub Becomes : {A : Type 0} → Coding → Result A NoMemory → Coding → Type 0
Becomes next result after = OnOk result (after ≡ next)

abbrev pub BecomesWith : {A B : Type 0} → (A → B) → B × Coding → Result A NoMemory → Coding → Type 0
BecomesWith see next result after = IfOk result (λ x. (see x, after) ≡ next)

-- The second pass can go on: the values of parameters and the expressions so far are sound.
abbrev pub AreSoundIn : all.Pass → Nodes → Type 0
AreSoundIn p ns = AreSound (ready_seen p.ready).objects (ready_seen p.ready).precision ns

pub record GoesOn (p : all.Pass) (c : codes.Coding) : Type 0 where
  pub source : IsSource p.modules
  pub parameters : p.parameters.now ≡ (ready_seen p.ready).values
  pub values : AreSoundIn p (ready_seen p.ready).values
  pub sound : AreSoundIn p (coding_seen c).added.exprs

-- What it makes so, from what is made so far.
pub record GoesTo {A : Type 0} (makes : SourceTree → Ready → Coding → Coding) (p : all.Pass) (c : codes.Coding)
    (result : Result A NoMemory) (after : codes.Coding) : Type 0 where
  pub coded : OnOk result (coding_seen after ≡ makes (source_seen p.modules) (ready_seen p.ready) (coding_seen c))
  pub sound : OnOk result (AreSoundIn p (coding_seen after).added.exprs)

-- It is what comes of a source. (Want of memory is free.)
abbrev pub Elaborates : {E : Type 0} → Elaborated → Result Elaboration E → Type 0
Elaborates outcome (Ok (it.Made d)) = outcome ≡ made d
Elaborates outcome (Ok (it.Refused f p)) = outcome ≡ refused (f, p)
Elaborates outcome (Ok it.Later) = outcome ≡ later
Elaborates outcome (Err memory) = Unit {0}

-- What comes of what was tried, beside what it has added.
abbrev pub Tries : {A : Type 0} → Ready → Result A LowerFault → Coding → Option A → Coding → Type 0
Tries r (Ok x) old found new = (found, new) ≡ tried_by r old (Ok (x, old.added))
Tries r (Err (low.Refused f p)) old found new = (found, new) ≡ tried_by r old (Err (Some (f, p)))
Tries r (Err low.PassedOver) old found new = (found, new) ≡ tried_by r old (Err None)
Tries r (Err low.NoMemory) old found new = ⊥

-- The same of what is put in.
abbrev pub Puts : (Option Code × Coding → Coding) → Ready → Result Code LowerFault → Coding → Coding → Type 0
Puts put r (Ok x) old new = new ≡ put (tried_by r old (Ok (x, old.added)))
Puts put r (Err (low.Refused f p)) old new = new ≡ put (tried_by r old (Err (Some (f, p))))
Puts put r (Err low.PassedOver) old new = new ≡ put (tried_by r old (Err None))
Puts put r (Err low.NoMemory) old new = ⊥

-- What comes of what was looked at, and of drivers.
abbrev pub Looks : {A : Type 0} → Result (Option A) ElabFault → Coding → Option A → Coding → Type 0
Looks (Ok x) old found new = (found, new) ≡ looked_by old (Ok x)
Looks (Err (faults.Refused f p)) old found new = (found, new) ≡ looked_by old (Err (f, p))
Looks (Err faults.NoMemory) old found new = ⊥

abbrev pub DrivesBy : Result (Option Drivers) ElabFault → Coding → List ℕ → Coding → Type 0
DrivesBy (Ok x) old numbers new = (numbers, new) ≡ with_drivers (looked_by old (Ok x))
DrivesBy (Err (faults.Refused f p)) old numbers new = (numbers, new) ≡ with_drivers (looked_by old (Err (f, p)))
DrivesBy (Err faults.NoMemory) old numbers new = ⊥

abbrev pub inputs_seen : gates.Inputs → Inputs
inputs_seen i = record { numbers = numbers_of i.numbers; calls = i.calls.items }

abbrev pub delay_made : {A : Type 0} → Option Delay × Vec Operation A → Option Delay × List Operation
delay_made d = (d.0, d.1.items)

-- What is connected to a port.
abbrev pub outer_seen : outer.Outer → Outer
outer_seen o = record { place = o.place; expr = expr_tree o.expr.now }

abbrev pub values_seen : {A : Type 0} → Option (Vec Vector A) → Option (List Vector)
values_seen None = None
values_seen (Some v) = Some v.items
