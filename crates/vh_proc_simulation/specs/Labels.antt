-- What labels of processes come to, and what entries that are picked do. (IEEE 1364-2005, clauses 9, 11.4 and 17.1)
use Rattle.std.specs.Prelude.{◌≡◌, ⊤, ℕ, List, [], ◌∷◌, Bool, true, false, not, ◌||◌, ◌&&◌, if◌then◌else◌, Option, Some, None, Result, Ok, slice_get}
use Rattle.std.specs.List.{flat_map}
use Rattle.vh_proc_assign.specs.Assigned.{is_same_value, with_pieces, made_in_turn, made_by_driver, made_by_put}
use Rattle.vh_proc_assign.specs.declared.piece.Piece.{Piece}
use Rattle.vh_proc_assign.specs.Layers.{with_follow, follow_made}
use Rattle.vh_proc_assign.specs.Values.{value_alone}
use Rattle.vh_base.specs.Checks.{with_ok}
use Rattle.vh_base.specs.declared.faults.Fault.{Fault}
use Rattle.vh_base.specs.declared.orders.Object.{Object}
use Rattle.vh_design_code.specs.declared.change.Made.{Made}
use Rattle.vh_design_code.specs.declared.show.ShowArg.{ShowArg}
use Rattle.vh_design_code.specs.declared.show.ShowArg.TheVariants as arg
use Rattle.vh_design_code.specs.declared.show.ShowCall.{ShowCall}
use Rattle.vh_design_code.specs.declared.show.ShowTask.{ShowTask}
use Rattle.vh_design_code.specs.declared.show.ShowTask.TheVariants as task
use Rattle.vh_design.specs.Shape.{Shape}
use Rattle.vh_display.specs.Calls.{shown_text}
use Rattle.vh_logic.specs.Vector.{Vector}
use Rattle.vh_proc.specs.Processes.{World, world_of}
use Rattle.vh_proc.specs.Steps.{step_of}
use Rattle.vh_queue.specs.declared.region.Region.TheVariants as region
use Rattle.vh_queue.specs.declared.work.Work.{Work}
use Rattle.vh_queue.specs.declared.work.Work.TheVariants as work
use Rattle.vh_queue.specs.Events.{advanced}
use Rattle.vh_proc_simulation.specs.Activity.{Activity, stopped}
use Rattle.vh_proc_simulation.specs.Clock.{asks_time}
use Rattle.vh_proc_simulation.specs.declared.monitor.Monitor.{Monitor}
use Rattle.vh_proc_simulation.specs.Entries.{Scheduling, scheduling, Watched, watched, monitor_entered, all_entered}
use Rattle.vh_store.specs.Contents.{Contents, put_at, with_driven}
use Rattle.vh_proc_turn.specs.declared.fault.StepFault.{StepFault}
use Rattle.vh_proc_turn.specs.declared.fault.StepFault.TheVariants as step
use Rattle.vh_proc_turn.specs.declared.next.Next.{Next}
use Rattle.vh_proc_turn.specs.declared.next.Next.TheVariants as next
use Rattle.vh_proc_turn.specs.Own.{with_entry}

-- What a label comes to: what it changed in order, the text that it shows, and the simulation after it.
pub record Came : Type 0 where
  pub made : List Made
  pub shown : Option (List ℕ)
  pub activity : Activity

abbrev pub came : List Made → Option (List ℕ) → Activity → Came
came ms text a = record { made = ms; shown = text; activity = a }

abbrev pub Outcome : Type 0
Outcome = Result Came (Option Fault)

-- The simulation after a label of a process, and with the entries that its changes have added.
abbrev pub with_world : World → Activity → Activity
with_world w a = record a { processes = w.processes; store = w.store; sense = w.sense; queue = w.queue }

abbrev pub scheduling_of : Activity → Scheduling
scheduling_of a = scheduling a.processes a.sense a.follows a.queue a.monitor

abbrev pub with_scheduling : Scheduling → Activity → Activity
with_scheduling g a =
    record a { processes = g.processes; sense = g.sense; follows = g.follows; queue = g.queue; monitor = g.monitor }

abbrev pub with_entries : List Made → Activity → Result Activity (Option Fault)
with_entries ms a = with_ok (all_entered a.design a.store ms (scheduling_of a)) (λ g. Ok (with_scheduling g a))

abbrev pub with_watched : Watched → Activity → Activity
with_watched w a = record a { monitor = w.monitor; queue = w.queue }

-- A display task: two show their text at once; `$strobe` shows it at the end of this time; and `$monitor` puts its list in the place of
-- the one before, to be shown then. (17.1)
abbrev pub monitor_of : ℕ → Monitor → Monitor
monitor_of n m = record { call = Some n; is_new = true; stands = m.stands; values = [] }

abbrev pub Shown : Type 0
Shown = Result (Option (List ℕ) × Watched) (Option Fault)

abbrev pub displayed_by : ShowTask → Shape → Contents → ℕ → Watched → Shown
displayed_by task.Display d s n w = Ok (Some (shown_text d s n), w)
displayed_by task.Write d s n w = Ok (Some (shown_text d s n), w)
displayed_by task.Strobe d s n w =
    with_ok (with_entry w.queue.time region.Monitor (work.Strobe n) w.queue) (λ q. Ok (None, watched w.monitor q))
displayed_by task.Monitor d s n w =
    with_ok (monitor_entered (watched (monitor_of n w.monitor) w.queue)) (λ v. Ok (None, v))

abbrev pub displayed_at : Option ShowCall → Shape → Contents → ℕ → Watched → Shown
displayed_at None d s n w = Ok (None, w)
displayed_at (Some c) d s n w = displayed_by c.task d s n w

abbrev pub displaying : Shape → Contents → ℕ → Watched → Shown
displaying d s n w = displayed_at (slice_get d.shows n) d s n w

-- What is shown behind a label of a process.
abbrev pub displayed : Shape → Contents → Next → Watched → Shown
displayed d s next.On w = Ok (None, w)
displayed d s next.Waits w = Ok (None, w)
displayed d s next.Ends w = Ok (None, w)
displayed d s (next.Shows n) w = displaying d s n w
displayed d s (next.Calls o) w = Ok (None, w)
displayed d s next.Finishes w = Ok (None, w)
displayed d s next.Stops w = Ok (None, w)

-- The next label of a process, and what the process does behind it.
pub record Performed : Type 0 where
  pub came : Came
  pub next : Next

abbrev pub world_in : Activity → World
world_in a = world_of a.processes a.store a.sense a.queue

abbrev pub performed : ℕ → Activity → Result Performed (Option Fault)
performed p a =
    with_ok (step_of a.design p (world_in a)) (λ r.
    with_ok (with_entries r.made (with_world r.world a)) (λ b.
    with_ok (displayed b.design b.store r.next (watched b.monitor b.queue)) (λ c.
    Ok (record { came = came r.made c.0 (with_watched c.1 b); next = r.next }))))

-- What an entry changes in the store, and the store behind it, a row for each kind: a driver takes a value (6.1), a nonblocking update is
-- made (9.2.2), the force of an object, or its assign, as it is then in place, takes the present value of its expression (9.3), and an
-- application's put without a force (27.32).
abbrev pub update : Object → ℕ → Vector → Piece
update o low v = record { object = o; low = low; value = v }

abbrev pub changes : Work → Shape → Contents → List Made × Contents
changes (work.Evaluate p) d s = ([], s)
changes (work.Drive x v) d s = (made_by_driver x v s, with_driven x v s)
changes (work.Assign o low v) d s = (made_in_turn (update o low v ∷ []) s, with_pieces (update o low v ∷ []) s)
changes (work.Follow o force) d s = (follow_made force d o s, with_follow force d o s)
changes (work.Put o v) d s = (made_by_put o v s, put_at o v s)
changes (work.Strobe n) d s = ([], s)
changes work.MonitorShow d s = ([], s)
changes (work.Call c) d s = ([], s)

abbrev pub with_changes : List Made × Contents → Activity → Outcome
with_changes c a = with_ok (with_entries c.0 (record a { store = c.1 })) (λ b. Ok (came c.0 None b))

-- The values that a monitor compares: of its list's arguments without `$time`. (17.1.3)
abbrev pub compared : Shape → Contents → ShowArg → List Vector
compared d s arg.Empty = []
compared d s (arg.Format text) = []
compared d s (arg.Value e) = if asks_time d.exprs e then [] else value_alone d s e ∷ []

abbrev pub all_compared : Shape → Contents → Option ShowCall → List Vector
all_compared d s None = []
all_compared d s (Some c) = flat_map (compared d s) c.args

abbrev pub are_same : List Vector → List Vector → Bool
are_same [] [] = true
are_same [] (w ∷ ws) = false
are_same (v ∷ vs) [] = false
are_same (v ∷ vs) (w ∷ ws) = is_same_value v w && are_same vs ws

-- The monitor's entry is picked: it shows where its list is new, or a value differs from that at its last pick. (17.1.3)
abbrev pub monitor_after : ℕ → List Vector → Monitor
monitor_after n vs = record { call = Some n; is_new = false; stands = false; values = vs }

abbrev pub monitor_text : Bool → ℕ → Shape → Contents → Option (List ℕ)
monitor_text true n d s = Some (shown_text d s n)
monitor_text false n d s = None

abbrev pub monitor_shown : Option ℕ → Shape → Contents → Monitor → Option (List ℕ) × Monitor
monitor_shown None d s m = (None, record m { stands = false })
monitor_shown (Some n) d s m =
    let vs = all_compared d s (slice_get d.shows n) in
    (monitor_text (m.is_new || not (are_same m.values vs)) n d s, monitor_after n vs)

abbrev pub with_monitor : Option (List ℕ) × Monitor → Activity → Came
with_monitor r a = came [] r.0 (record a { monitor = r.1 })

-- An entry that was picked does its work, a row for each kind. An evaluation puts its process on control, and a call its
-- callback, which is the machine's.
abbrev pub worked : Work → Activity → Outcome
worked (work.Evaluate p) a = Ok (came [] None a)
worked (work.Drive x v) a = with_changes (changes (work.Drive x v) a.design a.store) a
worked (work.Assign o low v) a = with_changes (changes (work.Assign o low v) a.design a.store) a
worked (work.Follow o force) a = with_changes (changes (work.Follow o force) a.design a.store) a
worked (work.Put o v) a = with_changes (changes (work.Put o v) a.design a.store) a
worked (work.Strobe n) a = Ok (came [] (Some (shown_text a.design a.store n)) a)
worked work.MonitorShow a = Ok (with_monitor (monitor_shown a.monitor.call a.design a.store a.monitor) a)
worked (work.Call callback) a = Ok (came [] None a)

-- Time goes on.
abbrev pub at_time : ℕ → Activity → Activity
at_time time a = record a { queue = advanced time a.queue; store = record a.store { time = time } }

abbrev pub at_next_time : Option ℕ → Activity → Activity
at_next_time None a = a
at_next_time (Some time) a = at_time time a

-- Behind a fault nothing is left of a simulation but the design and the time. (own)
abbrev pub IsOver : StepFault → Activity → Activity → Type 0
IsOver (step.Run f) old new = new ≡ stopped old
IsOver step.NoMemory old new = ⊤
