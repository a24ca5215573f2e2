-- The machine's step: a state, a choice and what is given besides it make the label and the state after
-- it. (IEEE 1364-2005, 11.4 and 27.33; the numbers that end a run are own.)
use Rattle.std.specs.Prelude.{◌≡◌, ⊤, ℕ, ◌+◌, ◌-◌, List, [], ◌∷◌, drop, length, max, Bool, true, false, if◌then◌else◌, nat_le, nat_lt, Option, Some, None, slice_get, slice_set}
use Rattle.vh_base.specs.declared.limits.TheConstants.{MOST_FRAMES, MOST_NUMBERS}
use Rattle.vh_base.specs.declared.faults.Cause.{Cause}
use Rattle.vh_base.specs.declared.faults.Cause.TheVariants as cause
use Rattle.vh_base.specs.declared.faults.Fault.TheVariants as fault
use Rattle.vh_base.specs.declared.orders.Answer.{Answer}
use Rattle.vh_base.specs.declared.orders.Answer.TheVariants as answer
use Rattle.vh_base.specs.declared.orders.Order.{Order}
use Rattle.vh_base.specs.declared.words.Reason.TheVariants as reason
use Rattle.vh_base.specs.Checks.{unless}
use Rattle.vh_app.specs.declared.point.Point.{Point}
use Rattle.vh_app.specs.Next.{startup, next_of as next_order}
use Rattle.vh_app.specs.Script.{ScriptData}
use Rattle.vh_callbacks.specs.declared.registration.Registration.{Registration}
use Rattle.vh_callbacks.specs.Callbacks.{info_of, body_of}
use Rattle.vh_orders.specs.declared.who.Body.{Body}
use Rattle.vh_orders.specs.declared.who.Who.TheVariants as who_is
use Rattle.vh_queue.specs.declared.entry.Entry.{Entry}
use Rattle.vh_orders.specs.declared.phase.Ending.TheVariants as ending
use Rattle.vh_kernel.specs.declared.label.Label.{Label}
use Rattle.vh_kernel.specs.declared.label.Label.TheVariants as label
use Rattle.vh_queue.specs.declared.region.Region.{Region}
use Rattle.vh_kernel.specs.declared.occurrence.Agendum.{Agendum}
use Rattle.vh_kernel.specs.declared.occurrence.Agendum.TheVariants as agendum
use Rattle.vh_orders.specs.declared.phase.Phase.{Phase}
use Rattle.vh_orders.specs.declared.phase.Phase.TheVariants as phase
use Rattle.vh_kernel.specs.Activations.{Activation, after_answer, after_pass, first_seen, startup_seen}
use Rattle.vh_kernel.specs.declared.control.Control.{Control}
use Rattle.vh_kernel.specs.declared.control.Control.TheVariants as top
use Rattle.vh_kernel.specs.declared.occurrence.Told.{Told}
use Rattle.vh_kernel.specs.Occurrences.{Occurrence, occurrence_of, set_of}
use Rattle.vh_queue.specs.Events.{eligible, without, cleared, next_region, activated, least_time}
use Rattle.vh_dispatch.specs.Frames.{top_set, without_in_top}
use Rattle.vh_orders.specs.Orders.{Given, performed, is_pass, is_return}
use Rattle.vh_orders.specs.World.{World}
use Rattle.vh_kernel.specs.Outcome.{Outcome, Move, silently, end_move, fault_move, move_of}
use Rattle.vh_kernel.specs.Settle.{settled}
use Rattle.vh_kernel.specs.State.{State, with_activity, with_queue, with_top, without_top, without_item, with_frames, with_variables}
use Rattle.vh_kernel.specs.Statements.{statement_outcome, work_outcome}
use Rattle.vh_proc_simulation.specs.Activity.{is_crowded as has_too_many}
use Rattle.vh_proc_simulation.specs.Labels.{at_time}

-- A finish empties control with its frames, the agenda and the queue, and the end of simulation is pending.
abbrev pub finish_move : Cause → State → Move
finish_move c s = (
  label.Finish c,
  record s {
    world = record s.world {
      activity = record s.world.activity { queue = cleared s.world.activity.queue };
      frames = [];
      phase = phase.Finished c;
    };
    control = top.Pending (occurrence_of reason.CbEndOfSimulation) ∷ [];
    agenda = [];
  },
)

-- An occurrence is told: it gets the next number, and a frame with its whole set. 64 frames may stand,
-- and numbers go up to 2^63. The first state is that before, the second has it taken off.
abbrev pub telling_outcome : Occurrence → State → Outcome
telling_outcome o s =
    unless (nat_le MOST_FRAMES (length s.world.frames)) fault.F1
    (unless (nat_lt MOST_NUMBERS s.occurrence) fault.F3
    (silently (with_top (top.Frame (record { number = s.occurrence; what = o }))
    (with_frames (set_of o s.world.callbacks ∷ s.world.frames) (record s { occurrence = s.occurrence + 1 })))))

abbrev pub occurrence_move : Occurrence → State → State → Move
occurrence_move o before s = move_of (λ shown. label.Occ s.occurrence o.reason o.object) before (telling_outcome o s)

-- What a callback calls begins.
abbrev pub called : Option Registration → Option Body → ℕ → Occurrence → State → State
called None b c o s = s
called (Some r) None c o s = s
called (Some r) (Some b) c o s = with_top (top.Activation (record {
  who = who_is.Callback c;
  script = b.script;
  at = b.start;
  seen = first_seen r o s.world.activity.queue.time;
})) s

-- A frame fires the callback of its set that was chosen; where its set is empty, it is done.
abbrev pub fire_move : Option ℕ → Told → State → Move
fire_move None f s = (label.Done f.number, with_frames (drop 1 s.world.frames) s)
fire_move (Some c) f s = (
  label.Fire f.number c,
  called (info_of c s.world.callbacks) (body_of c s.world.callbacks) c f.what
      (with_top (top.Frame f) (with_frames (without_in_top c s.world.frames) s)),
)

-- The occurrence that was told, where that is on top; and what a callback calls for it begins.
abbrev pub frame_on : Control → Option Told
frame_on (top.Process p) = None
frame_on (top.Pending o) = None
frame_on (top.Frame f) = Some f
frame_on (top.Activation a) = None
frame_on (top.Leave c) = None

abbrev pub frame_of : Option Control → Option Told
frame_of None = None
frame_of (Some c) = frame_on c

abbrev pub called_for : Option Told → ℕ → State → State
called_for None c s = s
called_for (Some f) c s = called (info_of c s.world.callbacks) (body_of c s.world.callbacks) c f.what s

-- After an order an activation stands on control again, in the world that the order left.
abbrev pub order_outcome : Activation → Answer × World → State → Outcome
order_outcome a given s =
    silently (with_top (top.Activation (after_answer given.0 a)) (record s { world = given.1 }))

-- It gives an order and is answered; or it passes, and has made a step more; or it returns. The first state
-- is that before.
abbrev pub answer_move : Order → Activation → Answer × World → State → State → Move
answer_move o a given before s = move_of (λ shown. label.Do a.who o given.0) before (order_outcome a given s)

abbrev pub pass_move : Bool → Order → Activation → State → State → Given → Move
pass_move true o a before s g = (label.Pass a.who, with_top (top.Activation (after_pass a)) s)
pass_move false o a before s g = answer_move o a (performed o a.who s.world g) before s

abbrev pub order_move : Bool → Order → Activation → State → State → Given → Move
order_move true o a before s g = (label.Ret a.who, s)
order_move false o a before s g = pass_move (is_pass o) o a before s g

-- The script has said what it orders next.
abbrev pub next_move_of : Order × Point × List Answer → Activation → State → State → Given → Move
next_move_of next a before s g =
    order_move (is_return next.0) next.0 (record a { at = next.1 }) before
    (with_variables (slice_set s.world.variables a.script next.2) s) g

abbrev pub activation_move : Option ScriptData → Option (List Answer) → Activation → State → Given → Move
activation_move None vars a s g = (label.Ret a.who, s)
activation_move (Some script) None a s g = (label.Ret a.who, s)
activation_move (Some script) (Some vars) a s g =
    next_move_of (next_order script a.at vars a.seen) a (with_top (top.Activation a) s) s g

-- Time goes on to the least time of an entry, or where none is left the run finishes.
abbrev pub time_move : Option ℕ → State → Move
time_move None s = finish_move cause.Nothing s
time_move (Some time) s = (label.Advance time, with_activity (at_time time s.world.activity) s)

-- A region becomes active, or where none has an entry of the present time, time goes on.
abbrev pub region_move : Option Region → State → Move
region_move None s = time_move (least_time s.world.activity.queue.entries) s
region_move (Some r) s =
    (label.Activate r, with_queue (activated r s.world.activity.queue) s)

-- An entry is picked and performed, or where none may be a region becomes active.
abbrev pub pick_move : Option Entry → State → Move
pick_move None s = region_move (next_region s.world.activity.queue) s
pick_move (Some e) s = move_of (λ shown. label.Pick e.serial shown) s
    (work_outcome e.work (with_queue (without e.serial s.world.activity.queue) s))

-- The agenda goes on: a startup begins, or an occurrence is told.
abbrev pub started : Option ScriptData → ℕ → State → State
started None k s = s
started (Some script) k s = with_top (top.Activation (record {
  who = who_is.Startup k;
  script = k - 1;
  at = startup;
  seen = startup_seen s.world.activity.queue.time;
})) s

abbrev pub agenda_move : Option Agendum → State → ℕ → Move
agenda_move None s k = pick_move (slice_get (eligible s.world.activity.queue) k) s
agenda_move (Some (agendum.Startup n)) s k = (label.Startup n, started (slice_get s.world.scripts (n - 1)) n (without_item s))
agenda_move (Some (agendum.Occurrence r)) s k = occurrence_move (occurrence_of r) s (without_item s)

-- With nothing on control: the agenda goes on, or after the finish the run is over.
abbrev pub idle_move : Phase → State → ℕ → Move
idle_move phase.Running s k = agenda_move (slice_get s.agenda 0) s k
idle_move (phase.Finished c) s k = end_move (ending.Cause c) s
idle_move (phase.Ended e) s k = end_move e s

-- What is on top of control goes on; it is taken off first.
abbrev pub item_move : Control → State → ℕ → Given → Move
item_move (top.Process p) s k g =
    move_of (λ shown. label.Stmt p shown) (with_top (top.Process p) s) (statement_outcome p s)
item_move (top.Pending o) s k g = occurrence_move o (with_top (top.Pending o) s) s
item_move (top.Frame f) s k g = fire_move (slice_get (top_set s.world.frames) k) f s
item_move (top.Activation a) s k g = activation_move (slice_get s.world.scripts a.script) (slice_get s.world.variables a.script) a s g
item_move (top.Leave c) s k g = finish_move c s

abbrev pub top_move : Option Control → State → ℕ → Given → Move
top_move None s k g = idle_move s.world.phase s k
top_move (Some c) s k g = item_move c (without_top s) k g

-- Are there more processes than the queue has room for?
abbrev pub is_crowded : State → Bool
is_crowded s = has_too_many s.world.activity.design

abbrev pub crowded_move : Bool → State → ℕ → Given → Move
crowded_move true s k g = fault_move fault.F3 s
crowded_move false s k g = top_move (slice_get s.control 0) s k g

-- Is the run over after the label?
abbrev pub is_end : Label → Bool
is_end (label.Startup k) = false
is_end (label.Do who order answer) = false
is_end (label.Pass who) = false
is_end (label.Ret who) = false
is_end (label.Occ n reason object) = false
is_end (label.Fire n c) = false
is_end (label.Done n) = false
is_end (label.Activate region) = false
is_end (label.Advance time) = false
is_end (label.Pick serial shown) = false
is_end (label.Stmt process shown) = false
is_end (label.Finish cause) = false
is_end (label.End ending) = true

-- After a label that isn't the last the state settles.
abbrev pub settled_move : Move → Move
settled_move m = (m.0, if is_end m.0 then m.1 else settled m.1)

-- The step from a state by the k-th choice, from 0, with what is given.
abbrev pub step_of : State → ℕ → Given → Move
step_of s k g = settled_move (crowded_move (is_crowded s) s k g)

-- Where numbers are given in order, the next is the count of those given before.
abbrev pub next_given : State → Given
next_given s = record { handle = s.world.handles.count }

-- A handle that is given has a number that was never given before.
abbrev pub FitsAnswer : State → Answer → Type 0
FitsAnswer s answer.Done = ⊤
FitsAnswer s answer.Null = ⊤
FitsAnswer s (answer.Handle h) = s.world.handles.is_given h ≡ false
FitsAnswer s (answer.Number n) = ⊤
FitsAnswer s (answer.Text text) = ⊤
FitsAnswer s (answer.Refused c) = ⊤

abbrev pub Fits : State → Label → Type 0
Fits s (label.Startup k) = ⊤
Fits s (label.Do who order a) = FitsAnswer s a
Fits s (label.Pass who) = ⊤
Fits s (label.Ret who) = ⊤
Fits s (label.Occ n reason object) = ⊤
Fits s (label.Fire n c) = ⊤
Fits s (label.Done n) = ⊤
Fits s (label.Activate region) = ⊤
Fits s (label.Advance time) = ⊤
Fits s (label.Pick serial shown) = ⊤
Fits s (label.Stmt process shown) = ⊤
Fits s (label.Finish cause) = ⊤
Fits s (label.End ending) = ⊤

-- A step by the k-th choice: a new handle gets any number that was never given.
pub record IsStep (s : State) (k : ℕ) (m : Move) : Type 0 where
  pub given : Given
  pub fits : Fits s m.0
  pub makes : step_of s k given ≡ m

-- How many choices there are: the entries that may be picked where one is, the callbacks of a frame's set
-- where one is, else one; and none after the end.
abbrev pub item_choices : Control → State → ℕ
item_choices (top.Process p) s = 1
item_choices (top.Pending o) s = 1
item_choices (top.Frame f) s = max (length (top_set s.world.frames)) 1
item_choices (top.Activation a) s = 1
item_choices (top.Leave c) s = 1

abbrev pub agenda_choices : Option Agendum → State → ℕ
agenda_choices None s = max (length (eligible s.world.activity.queue)) 1
agenda_choices (Some item) s = 1

abbrev pub idle_choices : Phase → State → ℕ
idle_choices phase.Running s = agenda_choices (slice_get s.agenda 0) s
idle_choices (phase.Finished c) s = 1
idle_choices (phase.Ended e) s = 0

abbrev pub top_choices : Option Control → State → ℕ
top_choices None s = idle_choices s.world.phase s
top_choices (Some c) s = item_choices c s

abbrev pub is_over : Phase → Bool
is_over phase.Running = false
is_over (phase.Finished c) = false
is_over (phase.Ended e) = true

abbrev pub choices_of : State → ℕ
choices_of s =
    if is_over s.world.phase then 0
    else (if is_crowded s then 1 else top_choices (slice_get s.control 0) s)
