-- A design as it is simulated. (IEEE 1364-2005, 11.3, 11.4 and 17.1.3)
use Rattle.std.specs.Prelude.{◌≡◌, ℕ, zero, suc, [], length, Bool, false, if◌then◌else◌, nat_lt, Some, None}
use Rattle.vh_base.specs.declared.limits.TheConstants.{MOST_ENTRIES}
use Rattle.vh_design.specs.Shape.{Shape}
use Rattle.vh_proc.specs.Processes.{Processes, AllRun, opening, noted, Queued, queued}
use Rattle.vh_queue.specs.declared.region.Region.TheVariants as region
use Rattle.vh_queue.specs.declared.work.Work.TheVariants as work
use Rattle.vh_queue.specs.Events.{Events, no_events, added}
use Rattle.vh_sense.specs.Sensitivity.{Sensitivity, IsOpening as IsOpeningSense}
use Rattle.vh_proc_simulation.specs.declared.monitor.Monitor.{Monitor}
use Rattle.vh_proc_simulation.specs.Follows.{Serials, no_serials}
use Rattle.vh_store.specs.Contents.{Contents}
use Rattle.vh_store.specs.Opening.{IsOpening as IsOpeningStore}

-- The design; its processes; the values of its objects, with the present time; who waits on what; the last follow
-- entries; the event queue, whose time is the present time; and the monitor.
pub record Activity : Type 0 where
  pub design : Shape
  pub processes : Processes
  pub store : Contents
  pub sense : Sensitivity
  pub follows : Serials
  pub queue : Events
  pub monitor : Monitor

abbrev pub activity : Shape → Processes → Contents → Sensitivity → Serials → Events → Monitor → Activity
activity d ps s w n q m =
    record { design = d; processes = ps; store = s; sense = w; follows = n; queue = q; monitor = m }

-- No monitor is on.
abbrev pub no_monitor : Monitor
no_monitor = record { call = None; is_new = false; stands = false; values = [] }

-- Each of so many processes has an evaluation entry at time 0, in order. (11.4)
abbrev pub evaluations : ℕ → Processes → Queued
evaluations zero ps = queued ps no_events
evaluations (suc n) ps =
    let b = evaluations n ps in
    queued (noted n b.queue.next b.processes) (added (Some 0) region.Active (work.Evaluate n) b.queue)

-- Where more processes are than the queue has room for, none has one: the run ends at once. (own)
abbrev pub is_crowded : Shape → Bool
is_crowded d = nat_lt MOST_ENTRIES (length d.codes)

abbrev pub first_entries : Shape → Queued
first_entries d = if is_crowded d then queued (opening d) no_events else evaluations (length d.codes) (opening d)

-- A design before all: time is 0, every digit of every variable is x, nobody waits, and nothing was followed.
pub record IsOpening (d : Shape) (a : Activity) : Type 0 where
  pub design : a.design ≡ d
  pub entries : queued a.processes a.queue ≡ first_entries d
  pub store : IsOpeningStore d a.store
  pub sense : IsOpeningSense d a.sense
  pub follows : a.follows ≡ no_serials
  pub monitor : a.monitor ≡ no_monitor

-- What it keeps: each process runs codes that are there, the waits are those of the design, and the store has the time of
-- the queue.
pub record IsSound (a : Activity) : Type 0 where
  pub runs : AllRun a.design a.processes
  pub waits : a.sense.waits ≡ a.design.waits
  pub now : a.store.time ≡ a.queue.time

-- Behind a fault nothing is left but the design and the time: the run ends there. (own)
abbrev pub stopped_at : Shape → ℕ → Activity
stopped_at d time = activity d
    (record { all = []; next = 0 })
    (record { records = []; drivers = []; results = []; time = time })
    (record { waits = []; readers = []; waiting = [] })
    no_serials
    (record { entries = []; next = 1; time = time })
    no_monitor

abbrev pub stopped : Activity → Activity
stopped a = stopped_at a.design a.queue.time
