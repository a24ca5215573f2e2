-- Which entries changes add: for each change in turn those of the processes that it wakes, of what follows it, and the
-- monitor's. (IEEE 1364-2005, 9.3, 11.4 and 17.1.3; their order is own)
use Rattle.std.specs.Prelude.{ℕ, List, [], ◌∷◌, Bool, true, false, if◌then◌else◌, Option, Some, None, Result, Ok}
use Rattle.vh_base.specs.Checks.{with_ok}
use Rattle.vh_base.specs.declared.faults.Fault.{Fault}
use Rattle.vh_design_code.specs.declared.change.Change.{Change}
use Rattle.vh_design_code.specs.declared.change.Made.{Made}
use Rattle.vh_design.specs.Shape.{Shape}
use Rattle.vh_display.specs.Calls.{call_reads}
use Rattle.vh_proc.specs.Processes.{Processes, Scheduled, scheduled, queued, resumed}
use Rattle.vh_queue.specs.declared.region.Region.TheVariants as region
use Rattle.vh_queue.specs.declared.work.Work.TheVariants as work
use Rattle.vh_queue.specs.Events.{Events}
use Rattle.vh_sense.specs.Sensitivity.{Sensitivity, woken, without_wait, readers_of}
use Rattle.vh_proc_simulation.specs.declared.monitor.Monitor.{Monitor}
use Rattle.vh_proc_simulation.specs.Follows.{Serials, Followed, followed, all_followed}
use Rattle.vh_store.specs.Contents.{Contents}
use Rattle.vh_proc_turn.specs.Own.{with_entry}

-- A process that is woken waits for nothing any more, and gets an evaluation entry, now. (11.4)
abbrev pub woken_one : ℕ → Scheduled → Result Scheduled (Option Fault)
woken_one p o =
    with_ok (resumed p (queued o.processes o.queue)) (λ b.
    Ok (scheduled b.processes (without_wait p o.sense) b.queue))

unfoldable pub all_woken : List ℕ → Scheduled → Result Scheduled (Option Fault)
all_woken [] o = Ok o
all_woken (p ∷ ps) o = with_ok (woken_one p o) (all_woken ps)

-- So does each process that waits on the change, in process order.
abbrev pub waking : Change → Scheduled → Result Scheduled (Option Fault)
waking c o = all_woken (woken o.sense c) o

-- So does what follows the object: by rising object, a force before an assign, each that is in place. (9.3; the order is own)
abbrev pub following : Contents → Sensitivity → Change → Followed → Result Followed (Option Fault)
following s w c b = all_followed s (readers_of c.object.id w) b

-- The monitor gets an entry, now, unless one stands. (17.1.3)
pub record Watched : Type 0 where
  pub monitor : Monitor
  pub queue : Events

abbrev pub watched : Monitor → Events → Watched
watched m q = record { monitor = m; queue = q }

abbrev pub monitor_entered : Watched → Result Watched (Option Fault)
monitor_entered w =
    if w.monitor.stands then Ok w
    else with_ok (with_entry w.queue.time region.Monitor work.MonitorShow w.queue) (λ q.
    Ok (watched (record w.monitor { stands = true }) q))

-- It does where an object has changed that its list reads.
abbrev pub list_reads : Shape → Option ℕ → ℕ → Bool
list_reads d None o = false
list_reads d (Some n) o = call_reads d n o

abbrev pub monitored : Shape → Change → Watched → Result Watched (Option Fault)
monitored d c w = if list_reads d w.monitor.call c.object.id then monitor_entered w else Ok w

-- What changes add to.
pub record Scheduling : Type 0 where
  pub processes : Processes
  pub sense : Sensitivity
  pub follows : Serials
  pub queue : Events
  pub monitor : Monitor

abbrev pub scheduling : Processes → Sensitivity → Serials → Events → Monitor → Scheduling
scheduling ps w n q m = record { processes = ps; sense = w; follows = n; queue = q; monitor = m }

-- A change, with the values that objects have behind its label.
abbrev pub entered : Shape → Contents → Change → Scheduling → Result Scheduling (Option Fault)
entered d s c a =
    with_ok (waking c (scheduled a.processes a.sense a.queue)) (λ o.
    with_ok (following s o.sense c (followed a.follows o.queue)) (λ f.
    with_ok (monitored d c (watched a.monitor f.queue)) (λ w.
    Ok (scheduling o.processes o.sense f.serials w.queue w.monitor))))

-- What was written with the value that it had before is no change.
abbrev pub entered_by : Shape → Contents → Option Change → Scheduling → Result Scheduling (Option Fault)
entered_by d s None a = Ok a
entered_by d s (Some c) a = entered d s c a

unfoldable pub all_entered : Shape → Contents → List Made → Scheduling → Result Scheduling (Option Fault)
all_entered d s [] a = Ok a
all_entered d s (m ∷ ms) a = with_ok (entered_by d s m.change a) (all_entered d s ms)
