-- The machine's step as a table: from which state a label leads to which, a row for each label.
-- (IEEE 1364-2005, 11.4 and 27.33)
use Rattle.std.specs.Prelude.{◌≡◌, ℕ, ◌-◌, ◌<◌, List, [], drop, true, false, if◌then◌else◌, Option, Some, None, Ok, Err, slice_get, ◌⊎◌}
use Rattle.vh_base.specs.declared.faults.Cause.{Cause}
use Rattle.vh_base.specs.declared.faults.Cause.TheVariants as cause
use Rattle.vh_base.specs.declared.faults.Fault.{Fault}
use Rattle.vh_base.specs.declared.faults.Fault.TheVariants as fault
use Rattle.vh_base.specs.declared.orders.Object.{Object}
use Rattle.vh_base.specs.declared.words.Reason.{Reason}
use Rattle.vh_app.specs.Script.{ScriptData}
use Rattle.vh_callbacks.specs.Callbacks.{info_of, body_of}
use Rattle.vh_kernel.specs.Activations.{Activation}
use Rattle.vh_kernel.specs.declared.control.Control.{Control}
use Rattle.vh_kernel.specs.declared.control.Control.TheVariants as top
use Rattle.vh_queue.specs.declared.entry.Entry.{Entry}
use Rattle.vh_orders.specs.declared.phase.Ending.TheVariants as ending
use Rattle.vh_kernel.specs.declared.label.Label.{Label}
use Rattle.vh_kernel.specs.declared.label.Label.TheVariants as label
use Rattle.vh_queue.specs.declared.region.Region.{Region}
use Rattle.vh_kernel.specs.declared.occurrence.Agendum.{Agendum}
use Rattle.vh_kernel.specs.declared.occurrence.Agendum.TheVariants as agendum
use Rattle.vh_kernel.specs.declared.occurrence.Told.{Told}
use Rattle.vh_orders.specs.declared.phase.Phase.TheVariants as phase
use Rattle.vh_design.specs.Shape.{Shape}
use Rattle.vh_proc_simulation.specs.Activity.{stopped}
use Rattle.vh_proc_simulation.specs.Labels.{at_time}
use Rattle.vh_queue.specs.Events.{eligible, without, next_region, activated, least_time, Rises}
use Rattle.vh_dispatch.specs.Frames.{top_set, without_in_top}
use Rattle.vh_kernel.specs.Occurrences.{Occurrence, occurrence_of}
use Rattle.vh_orders.specs.Orders.{Given}
use Rattle.vh_kernel.specs.Outcome.{Made, after_made}
use Rattle.vh_kernel.specs.Settle.{settled, Opens}
use Rattle.vh_kernel.specs.State.{State, with_activity, with_phase, with_queue, with_top, without_top, without_item, with_frames}
use Rattle.vh_kernel.specs.Statements.{statement_outcome, work_outcome}
use Rattle.vh_kernel.specs.Step.{Fits, IsStep, is_crowded, is_over, telling_outcome, called, activation_move, started, finish_move, is_end, choices_of}

-- The run isn't over, and there are no more processes than the queue has room for.
pub record IsGoing (s : State) : Type 0 where
  pub goes : is_over s.world.phase ≡ false
  pub fits : is_crowded s ≡ false

-- This is on top of control.
pub record HasTop (s : State) (c : Control) : Type 0 where
  pub going : IsGoing s
  pub on : slice_get s.control 0 ≡ Some c

-- Before the finish, with nothing on control, this is next on the agenda.
pub record HasNext (s : State) (o : Option Agendum) : Type 0 where
  pub going : IsGoing s
  pub running : s.world.phase ≡ phase.Running
  pub idle : slice_get s.control 0 ≡ None
  pub next : slice_get s.agenda 0 ≡ o

-- Nothing is on control or on the agenda, no entry may be picked, and this region is next.
pub record IsCalm (s : State) (r : Option Region) : Type 0 where
  pub next : HasNext s None
  pub none : eligible s.world.activity.queue ≡ []
  pub region : next_region s.world.activity.queue ≡ r

-- The occurrence is told next: it is on top of control, or first on the agenda with nothing on control.
-- The second is the state without it.
abbrev pub TellsNext : State → Occurrence → State → Type 0
TellsNext s o r =
    (HasTop s (top.Pending o) × (r ≡ without_top s))
    ⊎ ((reason : Reason) × HasNext s (Some (agendum.Occurrence reason)) × (o ≡ occurrence_of reason) × (r ≡ without_item s))

-- The next label would exceed the number of this fault: there are more processes than room for them, or
-- that is what comes of the statement, the entry or the occurrence that is next.
pub data Exceeds (s : State) (f : Fault) : Type 0 where
  by_processes : is_over s.world.phase ≡ false → is_crowded s ≡ true → f ≡ fault.F3 → Exceeds s f
  by_statement : (p : ℕ) → HasTop s (top.Process p) → statement_outcome p (without_top s) ≡ Err f → Exceeds s f
  by_work : (k : ℕ) (e : Entry) → HasNext s None → slice_get (eligible s.world.activity.queue) k ≡ Some e
      → work_outcome e.work (with_queue (without e.serial s.world.activity.queue) s) ≡ Err f → Exceeds s f
  by_occurrence : (o : Occurrence) (r : State) → TellsNext s o r → telling_outcome o r ≡ Err f → Exceeds s f

-- Why the run finishes: it was asked to, or no entry is left.
abbrev pub FinishIsDue : State → Cause → Type 0
FinishIsDue s c =
    HasTop s (top.Leave c)
    ⊎ (IsCalm s None × (least_time s.world.activity.queue.entries ≡ None) × (c ≡ cause.Nothing))

-- What was made is what is shown and what is left, by the label that it is told as.
abbrev pub Leaves : Made → Option (List ℕ) → State → Type 0
Leaves m shown u = (shown ≡ m.shown) × (u ≡ after_made m)

-- The activation on top gives an order and is answered, or passes, or returns; a new handle gets any number that was
-- never given.
pub record Acts (s : State) (l : Label) (u : State) : Type 0 where
  pub who : Activation
  pub given : Given
  pub on : HasTop s (top.Activation who)
  pub fits : Fits s l
  pub makes : activation_move (slice_get s.world.scripts who.script) (slice_get s.world.variables who.script) who (without_top s) given ≡ (l, u)

-- An occurrence gets the next number, and a frame with its whole set.
pub record Tells (s : State) (n : ℕ) (reason : Reason) (object : Option Object) (u : State) : Type 0 where
  pub what : Occurrence
  pub rest : State
  pub made : Made
  pub next : TellsNext s what rest
  pub number : n ≡ s.occurrence
  pub why : reason ≡ what.reason
  pub whom : object ≡ what.object
  pub makes : telling_outcome what rest ≡ Ok made
  pub leaves : u ≡ after_made made

-- Any callback of the set on top leaves it and is called.
pub record Fires (s : State) (n c : ℕ) (u : State) : Type 0 where
  pub frame : Told
  pub choice : ℕ
  pub on : HasTop s (top.Frame frame)
  pub number : n ≡ frame.number
  pub chosen : slice_get (top_set s.world.frames) choice ≡ Some c
  pub leaves : u ≡ called (info_of c s.world.callbacks) (body_of c s.world.callbacks) c frame.what
      (with_top (top.Frame frame) (with_frames (without_in_top c s.world.frames) (without_top s)))

-- A frame whose set is empty is done.
pub record Closes (s : State) (n : ℕ) (u : State) : Type 0 where
  pub frame : Told
  pub on : HasTop s (top.Frame frame)
  pub number : n ≡ frame.number
  pub none : top_set s.world.frames ≡ []
  pub leaves : u ≡ with_frames (drop 1 s.world.frames) (without_top s)

-- Any entry that may be picked leaves the queue and is performed.
pub record Picks (s : State) (n : ℕ) (shown : Option (List ℕ)) (u : State) : Type 0 where
  pub choice : ℕ
  pub entry : Entry
  pub made : Made
  pub next : HasNext s None
  pub chosen : slice_get (eligible s.world.activity.queue) choice ≡ Some entry
  pub serial : entry.serial ≡ n
  pub makes : work_outcome entry.work (with_queue (without n s.world.activity.queue) s) ≡ Ok made
  pub leaves : Leaves made shown u

-- The process on top performs its next statement, or ends.
pub record Performs (s : State) (p : ℕ) (shown : Option (List ℕ)) (u : State) : Type 0 where
  pub made : Made
  pub on : HasTop s (top.Process p)
  pub makes : statement_outcome p (without_top s) ≡ Ok made
  pub leaves : Leaves made shown u

-- From a state a label leads to another, before that settles: a row for each label.
abbrev pub Row : State → Label → State → Type 0
-- The startup that is next on the agenda begins
Row s (label.Startup k) u =
    HasNext s (Some (agendum.Startup k)) × (u ≡ started (slice_get s.world.scripts (k - 1)) k (without_item s))
Row s (label.Do who order answer) u = Acts s (label.Do who order answer) u
Row s (label.Pass who) u = Acts s (label.Pass who) u
Row s (label.Ret who) u = Acts s (label.Ret who) u
Row s (label.Occ n reason object) u = Tells s n reason object u
Row s (label.Fire n c) u = Fires s n c u
Row s (label.Done n) u = Closes s n u
-- All inactive entries of the present time become active, else all nonblocking ones, else those of the
-- monitor region
Row s (label.Activate r) u =
    IsCalm s (Some r) × (u ≡ with_queue (activated r s.world.activity.queue) s)
-- Time advances to the least time of an entry
Row s (label.Advance time) u =
    IsCalm s None × (least_time s.world.activity.queue.entries ≡ Some time) × (u ≡ with_activity (at_time time s.world.activity) s)
Row s (label.Pick n shown) u = Picks s n shown u
Row s (label.Stmt p shown) u = Performs s p shown u
-- Control with its frames, the agenda and the queue are emptied, and the end of simulation is pending
Row s (label.Finish c) u = FinishIsDue s c × (u ≡ (finish_move c s).1)
-- The run is over, with the cause of its finish, once nothing is on control
Row s (label.End (ending.Cause c)) u =
    IsGoing s × (s.world.phase ≡ phase.Finished c) × (slice_get s.control 0 ≡ None)
    × (u ≡ with_phase (phase.Ended (ending.Cause c)) s)
-- Or in place of a label that would exceed a number, where nothing is left of the simulation but its design and the time
Row s (label.End (ending.Fault f)) u =
    Exceeds s f × (u ≡ with_phase (phase.Ended (ending.Fault f)) (with_activity (stopped s.world.activity) s))

-- From a state a label leads to another; after a label that isn't the last the state settles.
pub record Step (s : State) (l : Label) (t : State) : Type 0 where
  pub before : State
  pub row : Row s l before
  pub settles : t ≡ (if is_end l then before else settled before)

-- What every state of a run keeps: serials from 1 on, each given once and below the next.
abbrev pub IsSound : State → Type 0
IsSound s = Rises 1 s.world.activity.queue.next s.world.activity.queue.entries

-- The laws of the step. Each choice below the number of choices is a step of the table, whatever number a
-- new handle gets that was never given;
abbrev pub StepsByTable : Type 0
StepsByTable = (s t : State) (k : ℕ) (l : Label) → k < choices_of s → IsStep s k (l, t) → Step s l t

-- Each step of the table is that of a choice;
abbrev pub TableBySteps : Type 0
TableBySteps = (s t : State) (l : Label) → Step s l t → (k : ℕ) × (k < choices_of s) × IsStep s k (l, t)

-- A design opens soundly, a sound state stays sound, and in one the state after is a function of the
-- state before and the label.
abbrev pub StaysSound : Type 0
StaysSound = (s t : State) (l : Label) → IsSound s → Step s l t → IsSound t

abbrev pub OneStateAfter : Type 0
OneStateAfter = (s t u : State) (l : Label) → IsSound s → Step s l t → Step s l u → t ≡ u

abbrev pub OpensSound : Type 0
OpensSound = (d : Shape) (scripts : List ScriptData) (s : State) → Opens d scripts s → IsSound s
