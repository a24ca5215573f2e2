-- The opening of a design of the first subset with its scripts, with the store and the waits written out, for rows that are computed.
use Rattle.std.specs.Prelude.{List, []}
use Rattle.vh_app.specs.Script.{ScriptData}
use Rattle.vh_base.specs.declared.first.First.{First}
use Rattle.vh_design.specs.Shape.{Shape}
use Rattle.vh_design_first.specs.Designs.{first_design}
use Rattle.vh_kernel.specs.Settle.{settled}
use Rattle.vh_kernel.specs.State.{State, opening_agenda, world_before}
use Rattle.vh_proc.specs.Processes.{Queued}
use Rattle.vh_proc_simulation.specs.Activity.{Activity, activity, first_entries, no_monitor}
use Rattle.vh_proc_simulation.specs.Follows.{no_serials}
use Rattle.vh_store.specs.Opening.{opening_wired}

abbrev activity_of : Shape → Queued → Activity
activity_of d b =
    activity d b.processes (record { records = (opening_wired d).records; drivers = (opening_wired d).drivers; results = []; time = 0 })
    (record { waits = []; readers = []; waiting = [] }) no_serials b.queue no_monitor

abbrev opening_by : Shape → List ScriptData → State
opening_by d scripts = settled (record {
  world = world_before d scripts (activity_of d (first_entries d));
  control = [];
  agenda = opening_agenda scripts;
  occurrence = 1;
})

abbrev pub opening : First → List ScriptData → State
opening f scripts = opening_by (first_design f) scripts
