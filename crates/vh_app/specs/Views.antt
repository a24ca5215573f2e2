-- How contracts see what the code holds.
use Rattle.std.specs.Prelude.{◌≡◌, ⊤, Result, Ok, Err}
use Rattle.vh_base.specs.declared.faults.AppFault.{AppFault}
use Rattle.vh_base.specs.declared.place.Place.{Place}
use Rattle.vh_app_script.specs.declared.fault.ScriptFault.{ScriptFault}
use Rattle.vh_app_script.specs.declared.fault.ScriptFault.TheVariants as faults
use Rattle.vh_app.specs.declared.laying.Laying as code
use Rattle.vh_app.specs.Layout.{Laid}
use Rattle.vh_app.specs.Script.{ScriptData}

-- Steps so far.
abbrev pub laid_seen : code.Laying → Laid
laid_seen so = record { procedures = so.procedures.items; nodes = so.nodes.items }

-- It is what is answered: a script, or a fault at its place; want of memory says nothing.
abbrev pub IsAnswer : Result ScriptData (AppFault × Place) → Result ScriptData ScriptFault → Type 0
IsAnswer answer (Ok script) = answer ≡ Ok script
IsAnswer answer (Err (faults.Refused fault place)) = answer ≡ Err (fault, place)
IsAnswer answer (Err faults.NoMemory) = ⊤
