-- How contracts see what the code holds.
use Rattle.std.specs.Prelude.{◌≡◌, List, Option, Some, None, Bool, true, false, Vec, Result, Ok, Err}
use Rattle.vh_bind.specs.declared.fault.ElabFault.{ElabFault}
use Rattle.vh_bind.specs.declared.fault.ElabFault.TheVariants as faults
use Rattle.vh_base.specs.declared.faults.NoMemory.{NoMemory}
use Rattle.vh_bind.specs.Steps.{Fault, Nodes}
use Rattle.vh_bind.specs.Views.{scope_seen}
use Rattle.vh_bind_stmt.specs.declared.surroundings.Surroundings as code
use Rattle.vh_bind_stmt.specs.Calls.{Surroundings}

-- Where a statement stands.
abbrev pub surroundings_seen : code.Surroundings → Surroundings
surroundings_seen w = record { scope = scope_seen w.scope.now; arguments = w.arguments.now }

-- Something is added to some list, or passed over.
abbrev pub AddsTo : {A : Type 0} → Option (List A) → Result Bool NoMemory → List A → Type 0
AddsTo outcome (Ok true) ts = outcome ≡ Some ts
AddsTo outcome (Ok false) ts = outcome ≡ None
AddsTo outcome (Err refused) ts = Unit {0}
