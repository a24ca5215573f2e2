-- What holds of the queue, with what is noted of follow entries, behind each label of a process and each entry that is picked.
use Rattle.std.proofs.Common.{◌≡◌, ℕ, List, [], ◌∷◌, Bool, true, false, not, cond, Option, Some, None, Result, Ok, Err, slice_get, filter, map, nat_eq, nat_lt, refl}
use Rattle.vh_proc_assign.specs.declared.piece.Piece.{Piece}
use Rattle.vh_base.specs.Checks.{unless, with_some, with_ok}
use Rattle.vh_proc_assign.specs.Pieces.{pieces_in}
use Rattle.vh_proc_assign.specs.Values.{right_side}
use Rattle.vh_base.specs.declared.faults.Fault.{Fault}
use Rattle.vh_base.specs.declared.faults.Fault.TheVariants as fault
use Rattle.vh_design_code.specs.declared.target.Input.{Input}
use Rattle.vh_design_code.specs.declared.change.Change.{Change}
use Rattle.vh_design_code.specs.declared.change.Made.{Made}
use Rattle.vh_design_code.specs.declared.code.Goes.{Goes}
use Rattle.vh_design_code.specs.declared.code.Instruction.{Instruction}
use Rattle.vh_design_code.specs.declared.operation.Drive.{Drive}
use Rattle.vh_design_code.specs.declared.operation.Operation.{Operation}
use Rattle.vh_design_code.specs.declared.operation.Operation.TheVariants as op
use Rattle.vh_design_code.specs.declared.operation.Pause.{Pause}
use Rattle.vh_design_code.specs.declared.operation.Pause.TheVariants as pause
use Rattle.vh_design_code.specs.declared.operation.Single.{Single}
use Rattle.vh_design_code.specs.declared.operation.Single.TheVariants as single
use Rattle.vh_design_code.specs.declared.show.ShowCall.{ShowCall}
use Rattle.vh_design_code.specs.declared.show.ShowTask.{ShowTask}
use Rattle.vh_design_code.specs.declared.show.ShowTask.TheVariants as task
use Rattle.vh_design_code.specs.declared.target.Delay.{Delay}
use Rattle.vh_design.specs.Shape.{Shape}
use Rattle.vh_logic.specs.Vector.{Vector}
use Rattle.vh_design_nodes.specs.declared.driver.DriverInfo.{DriverInfo}
use Rattle.vh_proc.specs.Disabled.{Stopped, without_entry, ended_in, left_in, all_ended, all_left, resumed_but, all_resumed, disable_all}
use Rattle.vh_proc.specs.Processes.{World, Step, Queued, Scheduled, queued, scheduled, process_at, changed, evaluated_now, resumed, branch_begun, branches_begun, joined_in, joined, goes_behind, gone_on, one_less}
use Rattle.vh_proc.specs.Steps.{own_turn, forked, disabled_by, single_step, step_at, step_in, step_of_process, step_of}
use Rattle.vh_queue.specs.declared.region.Region.{Region}
use Rattle.vh_queue.specs.declared.work.Work.{Work}
use Rattle.vh_queue.specs.declared.work.Work.TheVariants as work
use Rattle.vh_queue.specs.declared.entry.Entry.{Entry}
use Rattle.vh_queue.specs.declared.region.Region.TheVariants as region
use Rattle.vh_queue.specs.Events.{Events, is_full, added, cleared}
use Rattle.vh_proc_simulation.specs.Activity.{Activity}
use Rattle.vh_proc_simulation.specs.Entries.{Watched, watched, Scheduling, woken_one, all_woken, waking, monitor_entered, monitored, list_reads, following, entered, entered_by, all_entered}
use Rattle.vh_proc_simulation.specs.Follows.{Serials, no_serials, noted, Followed, followed, last_of, is_standing, is_in_force, added_one, follow_entered, one_followed, all_followed}
use Rattle.vh_proc_simulation.specs.Labels.{Came, Performed, with_entries, scheduling_of, with_world, world_in, monitor_of, displayed_by, displayed_at, displayed, performed, with_changes, worked}
use Rattle.vh_sense.specs.declared.follow.Follow.{Follow}
use Rattle.vh_sense.specs.Sensitivity.{woken, readers_of}
use Rattle.vh_store.specs.Contents.{Contents, driven, same_value}
use Rattle.vh_proc_thread.specs.Control.{next_of, depth_of, called}
use Rattle.vh_proc_thread.specs.declared.call.TheConstants.{MOST_CALLS}
use Rattle.vh_proc_turn.specs.declared.next.Next.{Next}
use Rattle.vh_proc_turn.specs.declared.next.Next.TheVariants as next
use Rattle.vh_proc_turn.specs.declared.process.Process.{Process}
use Rattle.vh_proc_turn.specs.Own.{Own, Turn, with_entry, gone, update_time}
use Rattle.vh_proc_turn.specs.Drives as drives
use Rattle.vh_proc_turn.specs.Drives.{Driving, driving, update_at, scheduled_value, has_value, without_update, with_update, one_driven, digits_driven, all_driven}
use Rattle.vh_proc_turn.specs.Turns.{holding, assigning, resumption, resuming, with_updates, schedule_of, scheduling, pausing, is_true, waiting, entering, single_next, single_turn, driving_all, turn_at}

-- What holds of all that a row of checks may come to.
abbrev pub AllOk : {X E : Type 0} → (X → Type 0) → Result X E → Type 0
AllOk P (Ok x) = P x
AllOk P (Err e) = Unit {0}

then-ok : {X A E : Type 0} (P : X → Type 0) (Q : A → Type 0) (r : Result X E) (rest : X → Result A E)
    → AllOk P r → ((x : X) → P x → AllOk Q (rest x)) → AllOk Q (with_ok r rest)
then-ok P Q (Err e) rest here goes = tt
then-ok P Q (Ok x) rest here goes = goes x here

unless-ok : {A E : Type 0} (Q : A → Type 0) (b : Bool) (e : E) (rest : Result A E) → AllOk Q rest → AllOk Q (unless b e rest)
unless-ok Q true e rest here = tt
unless-ok Q false e rest here = here

some-ok : {X A E : Type 0} (Q : A → Type 0) (o : Option X) (e : E) (rest : X → Result A E)
    → ((x : X) → AllOk Q (rest x)) → AllOk Q (with_some o e rest)
some-ok Q None e rest goes = tt
some-ok Q (Some x) e rest goes = goes x

either-ok : {A E : Type 0} (Q : A → Type 0) (b : Bool) (x y : Result A E) → AllOk Q x → AllOk Q y → AllOk Q (cond b x y)
either-ok Q true x y here there = here
either-ok Q false x y here there = there

-- Does work follow a force or an assign?
abbrev pub is_follow : Work → Bool
is_follow (work.Evaluate p) = false
is_follow (work.Drive driver value) = false
is_follow (work.Assign object low value) = false
is_follow (work.Follow object force) = true
is_follow (work.Put object value) = false
is_follow (work.Strobe n) = false
is_follow work.MonitorShow = false
is_follow (work.Call callback) = false

-- It holds with an entry more that follows nothing, and with entries fewer;
pub record Keeps (P : Events → Type 0) : Type 0 where
  pub adds : (time : ℕ) (r : Region) (w : Work) (q : Events) → is_follow w ≡ false → P q → P (added (Some time) r w q)
  pub drops : (test : Entry → Bool) (q : Events) → P q → P (record q { entries = filter test q.entries })

-- And with a follow more that is noted, where none of it stands, with other regions and times, and where no entry was added yet.
pub record KeepsNotes (Q : Serials → Events → Type 0) : Type 0 where
  pub each : (n : Serials) → Keeps (Q n)
  pub follows : (n : Serials) (q : Events) (force : Bool) (o time : ℕ) (r : Region) → is_standing q (last_of force o n) ≡ false → Q n q
      → Q (noted force o q.next n) (added (Some time) r (work.Follow o force) q)
  pub moves : (n : Serials) (q : Events) (time : ℕ) (f : Entry → Entry) → ((e : Entry) → (f e).serial ≡ e.serial) → ((e : Entry) → (f e).work ≡ e.work)
      → Q n q → Q n (record q { entries = map f q.entries; time = time })
  pub clears : (n : Serials) (q : Events) → Q n q → Q n (cleared q)
  pub before : (time : ℕ) → Q no_serials (record { entries = []; next = 1; time = time })

abbrev TurnKeeps : (Events → Type 0) → Turn → Type 0
TurnKeeps P t = P t.own.queue

abbrev DrivingKeeps : (Events → Type 0) → Driving → Type 0
DrivingKeeps P b = P b.queue

abbrev QueuedKeeps : (Events → Type 0) → Queued → Type 0
QueuedKeeps P b = P b.queue

abbrev ScheduledKeeps : (Events → Type 0) → Scheduled → Type 0
ScheduledKeeps P o = P o.queue

abbrev StepKeeps : (Events → Type 0) → Step → Type 0
StepKeeps P r = P r.world.queue

abbrev WatchedKeeps : (Events → Type 0) → Watched → Type 0
WatchedKeeps P w = P w.queue

abbrev ShownKeeps : (Events → Type 0) → Option (List ℕ) × Watched → Type 0
ShownKeeps P c = P c.1.queue

abbrev SchedulingKeeps : (Serials → Events → Type 0) → Scheduling → Type 0
SchedulingKeeps Q a = Q a.follows a.queue

abbrev FollowedKeeps : (Serials → Events → Type 0) → Followed → Type 0
FollowedKeeps Q b = Q b.serials b.queue

abbrev ActivityKeeps : (Serials → Events → Type 0) → Activity → Type 0
ActivityKeeps Q a = Q a.follows a.queue

abbrev pub CameKeeps : (Serials → Events → Type 0) → Came → Type 0
CameKeeps Q c = Q c.activity.follows c.activity.queue

abbrev pub PerformedKeeps : (Serials → Events → Type 0) → Performed → Type 0
PerformedKeeps Q r = Q r.came.activity.follows r.came.activity.queue

-- Labels of processes note nothing.
module _ (P : Events → Type 0) (k : Keeps P) where
  entry-keeps : (time : ℕ) (r : Region) (w : Work) (q : Events) → is_follow w ≡ false → P q → AllOk P (with_entry time r w q)
  entry-keeps time r w q other holds = unless-ok P (is_full q) _ _ (k.adds time r w q other holds)

  -- Labels that touch no other process.
  resumption-keeps : (d : Shape) (s : Contents) (p : ℕ) (delay : Delay) (q : Events) → P q
      → AllOk P (resumption d s p delay q)
  resumption-keeps d s p delay q holds = some-ok P _ _ _ (λ time. entry-keeps time _ _ q refl holds)

  resuming-keeps : (d : Shape) (p : ℕ) (delay : Delay) (o : Own) → P o.queue → AllOk (TurnKeeps P) (resuming d p delay o)
  resuming-keeps d p delay o holds =
      then-ok P (TurnKeeps P) (resumption d o.store p delay o.queue) _ (resumption-keeps d o.store p delay o.queue holds) (λ q here. here)

  updates-keep : (time : ℕ) (ps : List Piece) (q : Events) → P q → AllOk P (with_updates time ps q)
  unfolding with_updates
  updates-keep time [] q holds = holds
  updates-keep time (p ∷ ps) q holds =
      then-ok P P _ (with_updates time ps) (entry-keeps time _ _ q refl holds) (λ r here. updates-keep time ps r here)

  schedule-keeps : (d : Shape) (s : Contents) (delay : Option Delay) (ps : List Piece) (q : Events) → P q
      → AllOk P (schedule_of d s delay ps q)
  schedule-keeps d s delay ps q holds = some-ok P _ _ _ (λ time. updates-keep time ps q holds)

  scheduling-keeps : (d : Shape) (delay : Option Delay) (ps : List Piece) (o : Own) → P o.queue
      → AllOk (TurnKeeps P) (scheduling d delay ps o)
  scheduling-keeps d delay ps o holds =
      then-ok P (TurnKeeps P) (schedule_of d o.store delay ps o.queue) _ (schedule-keeps d o.store delay ps o.queue holds) (λ q here. here)

  pausing-keeps : (d : Shape) (p : ℕ) (goes : Goes) (it : Pause) (o : Own) → P o.queue → AllOk (TurnKeeps P) (pausing d p goes it o)
  pausing-keeps d p goes (pause.Wait delay) o holds = resuming-keeps d p delay (gone goes o) holds
  pausing-keeps d p goes (pause.Await wait) o holds = holds
  pausing-keeps d p goes (pause.WaitFor condition wait) o holds =
      either-ok (TurnKeeps P) (is_true d o.store condition) _ (waiting p wait o) holds holds

  single-keeps : (d : Shape) (it : Single) (o : Own) → P o.queue → AllOk (TurnKeeps P) (single_turn d it o)
  single-keeps d it o holds = some-ok (TurnKeeps P) (single_next it) _ _ (λ n. holds)

  entering-keeps : (d : Shape) (routine : ℕ) (inputs : List Input) (o : Own) → P o.queue → AllOk (TurnKeeps P) (entering d routine inputs o)
  entering-keeps d routine inputs o holds =
      unless-ok (TurnKeeps P) (not (nat_lt (depth_of o.process.thread) MOST_CALLS)) (Some fault.F4)
      (assigning (pieces_in d o.store inputs) (record o { process = record o.process { thread = called d routine o.process.thread } })) holds

  -- Continuous assignments.
  gone-keeps : (update : Option ℕ) (q : Events) → P q → P (drives.without_entry update q)
  gone-keeps None q holds = holds
  gone-keeps (Some serial) q holds = k.drops (λ e. not (nat_eq e.serial serial)) q holds

  with-update-keeps : (s : Contents) (time : Option ℕ) (x : ℕ) (v : Vector) (b : Driving) → P b.queue
      → AllOk (DrivingKeeps P) (with_update s time x v b)
  with-update-keeps s time x v b holds =
      some-ok (DrivingKeeps P) time _ _ (λ t. then-ok P (DrivingKeeps P) (with_entry t _ _ b.queue) _ (entry-keeps t _ _ b.queue refl holds) (λ q here. here))

  one-driven-keeps : (s : Contents) (time : Option ℕ) (x : ℕ) (v : Vector) (b : Driving) → P b.queue
      → AllOk (DrivingKeeps P) (one_driven s time x v b)
  one-driven-keeps s time x v b holds =
      either-ok (DrivingKeeps P) (has_value v (scheduled_value x b)) (Ok b) _ holds
      (either-ok (DrivingKeeps P) (same_value (driven s x) v) (Ok (without_update x b)) _ (gone-keeps (update_at x b.updates) b.queue holds)
      (with-update-keeps s time x v (without_update x b) (gone-keeps (update_at x b.updates) b.queue holds)))

  all-driven-keeps : (ds : List DriverInfo) (s : Contents) (time : Option ℕ) (xs : List ℕ) (v : Vector) (b : Driving) → P b.queue
      → AllOk (DrivingKeeps P) (all_driven ds s time xs v b)
  unfolding all_driven
  all-driven-keeps ds s time [] v b holds = holds
  all-driven-keeps ds s time (x ∷ xs) v b holds =
      then-ok (DrivingKeeps P) (DrivingKeeps P) _ (all_driven ds s time xs v) (one-driven-keeps s time x _ b holds) (λ c here. all-driven-keeps ds s time xs v c here)

  driving-keeps : (d : Shape) (p : ℕ) (it : Drive) (o : Own) → P o.queue → AllOk (TurnKeeps P) (driving_all d p it o)
  driving-keeps d p it o holds =
      then-ok (DrivingKeeps P) (TurnKeeps P) (all_driven d.drivers o.store (update_time d o.store it.delay) it.drivers
      (right_side d o.store it.value (digits_driven d.drivers it.drivers)) (driving o.process.updates o.queue)) _
      (all-driven-keeps d.drivers o.store _ it.drivers _ (driving o.process.updates o.queue) holds) (λ b here. here)

  turn-at-keeps : (d : Shape) (p : ℕ) (i : Instruction) (it : Operation) (o : Own) → P o.queue → AllOk (TurnKeeps P) (turn_at d p i it o)
  turn-at-keeps d p i (op.Assign e targets) o holds = holds
  turn-at-keeps d p i (op.Hold e width delay) o holds =
      resuming-keeps d p delay (holding (right_side d o.store e width) (gone i.next o)) holds
  turn-at-keeps d p i (op.Store targets) o holds = holds
  turn-at-keeps d p i (op.Schedule s) o holds = scheduling-keeps d s.delay _ (gone i.next o) holds
  turn-at-keeps d p i (op.Pause it) o holds = pausing-keeps d p i.next it o holds
  turn-at-keeps d p i (op.Test condition otherwise) o holds = holds
  turn-at-keeps d p i (op.Case c) o holds = holds
  turn-at-keeps d p i (op.Loop it) o holds = holds
  turn-at-keeps d p i (op.Fork places) o holds = tt
  turn-at-keeps d p i op.End o holds = holds
  turn-at-keeps d p i (op.Enter routine inputs) o holds = entering-keeps d routine inputs o holds
  turn-at-keeps d p i (op.Leave l) o holds = holds
  turn-at-keeps d p i (op.SysCall call) o holds = holds
  turn-at-keeps d p i (op.SysFunc call) o holds = holds
  turn-at-keeps d p i (op.Single it) o holds = single-keeps d it (gone i.next o) holds
  turn-at-keeps d p i (op.Drive it) o holds = driving-keeps d p it (gone i.next o) holds
  turn-at-keeps d p i (op.Initial object e) o holds = holds

  -- Forks, joins and resumptions.
  resumed-keeps : (p : ℕ) (b : Queued) → P b.queue → AllOk (QueuedKeeps P) (resumed p b)
  resumed-keeps p b holds =
      then-ok P (QueuedKeeps P) (evaluated_now p b.queue) _ (entry-keeps b.queue.time _ _ b.queue refl holds) (λ q here. here)

  all-resumed-keeps : (own : ℕ) (ps : List ℕ) (b : Queued) → P b.queue → AllOk (QueuedKeeps P) (all_resumed own ps b)
  unfolding all_resumed
  all-resumed-keeps own [] b holds = holds
  all-resumed-keeps own (p ∷ ps) b holds =
      then-ok (QueuedKeeps P) (QueuedKeeps P) (resumed_but own p b) (all_resumed own ps)
      (either-ok (QueuedKeeps P) (nat_eq p own) (Ok b) (resumed p b) holds (resumed-keeps p b holds)) (λ c here. all-resumed-keeps own ps c here)

  begun-keeps : (p place : ℕ) (b : Queued) → P b.queue → AllOk (QueuedKeeps P) (branch_begun p place b)
  begun-keeps p place b holds =
      unless-ok (QueuedKeeps P) _ _ _ (then-ok P (QueuedKeeps P) (evaluated_now b.processes.next b.queue) _
      (entry-keeps b.queue.time _ _ b.queue refl holds) (λ q here. here))

  branches-keep : (p : ℕ) (ks : List ℕ) (b : Queued) → P b.queue → AllOk (QueuedKeeps P) (branches_begun p ks b)
  unfolding branches_begun
  branches-keep p [] b holds = holds
  branches-keep p (k ∷ ks) b holds =
      then-ok (QueuedKeeps P) (QueuedKeeps P) (branch_begun p k b) (branches_begun p ks) (begun-keeps p k b holds) (λ c here. branches-keep p ks c here)

  forked-keeps : (d : Shape) (p : ℕ) (goes : Goes) (ks : List ℕ) (b : Queued) → P b.queue → AllOk (QueuedKeeps P) (forked d p goes ks b)
  forked-keeps d p goes [] b holds = holds
  forked-keeps d p goes (k ∷ ks) b holds = branches-keep p (k ∷ ks) _ holds

  joined-in-keeps : (d : Shape) (t : Option Process) (p : ℕ) (b : Queued) → P b.queue → AllOk (QueuedKeeps P) (joined_in d t p b)
  joined-in-keeps d None p b holds = holds
  joined-in-keeps d (Some t) p b holds =
      let less = changed p one_less b.processes in
      let on = queued (gone_on p (goes_behind (next_of d t.thread)) less) b.queue in
      either-ok (QueuedKeeps P) (nat_lt 1 t.left) (Ok (queued less b.queue)) (resumed p on) holds (resumed-keeps p on holds)

  joined-keeps : (d : Shape) (parent : Option ℕ) (b : Queued) → P b.queue → AllOk (QueuedKeeps P) (joined d parent b)
  joined-keeps d None b holds = holds
  joined-keeps d (Some p) b holds = joined-in-keeps d (process_at p b.processes) p b holds

  -- What a `disable` takes away.
  without-keeps : (entry : Option ℕ) (q : Events) → P q → P (without_entry entry q)
  without-keeps None q holds = holds
  without-keeps (Some serial) q holds = k.drops (λ e. not (nat_eq e.serial serial)) q holds

  ended-in-keeps : (t : Option Process) (p : ℕ) (o : Scheduled) → P o.queue → P (ended_in t p o).queue
  ended-in-keeps None p o holds = holds
  ended-in-keeps (Some t) p o holds = without-keeps t.entry o.queue holds

  left-in-keeps : (d : Shape) (target : ℕ) (t : Option Process) (p : ℕ) (o : Scheduled) → P o.queue
      → P (left_in d target t p o).queue
  left-in-keeps d target None p o holds = holds
  left-in-keeps d target (Some t) p o holds = without-keeps t.entry o.queue holds

  ended-keeps : (ps : List ℕ) (o : Scheduled) → P o.queue → P (all_ended ps o).queue
  unfolding all_ended
  ended-keeps [] o holds = holds
  ended-keeps (p ∷ ps) o holds = ended-keeps ps _ (ended-in-keeps (process_at p o.processes) p o holds)

  left-keeps : (d : Shape) (target : ℕ) (ps : List ℕ) (o : Scheduled) → P o.queue → P (all_left d target ps o).queue
  unfolding all_left
  left-keeps d target [] o holds = holds
  left-keeps d target (p ∷ ps) o holds = left-keeps d target ps _ (left-in-keeps d target (process_at p o.processes) p o holds)

  disabled-keeps : (d : Shape) (target own : ℕ) (found : Stopped) (o : Scheduled) → P o.queue
      → AllOk (ScheduledKeeps P) (disable_all d target own found o)
  disabled-keeps d target own found o holds =
      then-ok (QueuedKeeps P) (ScheduledKeeps P) (all_resumed own found.leaves _) _
      (all-resumed-keeps own found.leaves _ (left-keeps d target found.leaves _ (ended-keeps found.ends o holds))) (λ b here. here)

  -- Each label of a process.
  own-keeps : (d : Shape) (p : ℕ) (t : Process) (i : Instruction) (w : World) → P w.queue → AllOk (TurnKeeps P) (own_turn d p t i w)
  own-keeps d p t i w holds = turn-at-keeps d p i i.operation _ holds

  single-step-keeps : (d : Shape) (p : ℕ) (t : Process) (i : Instruction) (it : Single) (w : World) → P w.queue
      → AllOk (StepKeeps P) (single_step d p t i it w)
  single-step-keeps d p t i (single.Show show) w holds = then-ok (TurnKeeps P) (StepKeeps P) (own_turn d p t i w) _ (own-keeps d p t i w holds) (λ u here. here)
  single-step-keeps d p t i single.Finish w holds = then-ok (TurnKeeps P) (StepKeeps P) (own_turn d p t i w) _ (own-keeps d p t i w holds) (λ u here. here)
  single-step-keeps d p t i single.Stop w holds = then-ok (TurnKeeps P) (StepKeeps P) (own_turn d p t i w) _ (own-keeps d p t i w holds) (λ u here. here)
  single-step-keeps d p t i (single.Trigger event) w holds = then-ok (TurnKeeps P) (StepKeeps P) (own_turn d p t i w) _ (own-keeps d p t i w holds) (λ u here. here)
  single-step-keeps d p t i (single.Disable target) w holds =
      then-ok (ScheduledKeeps P) (StepKeeps P) (disabled_by d target p i.next _) _ (disabled-keeps d target p _ _ holds) (λ o here. here)
  single-step-keeps d p t i (single.Force object e) w holds = then-ok (TurnKeeps P) (StepKeeps P) (own_turn d p t i w) _ (own-keeps d p t i w holds) (λ u here. here)
  single-step-keeps d p t i (single.Release object) w holds = then-ok (TurnKeeps P) (StepKeeps P) (own_turn d p t i w) _ (own-keeps d p t i w holds) (λ u here. here)
  single-step-keeps d p t i (single.Procedural object e) w holds = then-ok (TurnKeeps P) (StepKeeps P) (own_turn d p t i w) _ (own-keeps d p t i w holds) (λ u here. here)
  single-step-keeps d p t i (single.Deassign object) w holds = then-ok (TurnKeeps P) (StepKeeps P) (own_turn d p t i w) _ (own-keeps d p t i w holds) (λ u here. here)

  alone-keeps : (d : Shape) (p : ℕ) (t : Process) (i : Instruction) (w : World) (rest : Turn → Result Step (Option Fault)) → P w.queue
      → ((u : Turn) → P u.own.queue → AllOk (StepKeeps P) (rest u)) → AllOk (StepKeeps P) (with_ok (own_turn d p t i w) rest)
  alone-keeps d p t i w rest holds goes = then-ok (TurnKeeps P) (StepKeeps P) (own_turn d p t i w) rest (own-keeps d p t i w holds) goes

  step-at-keeps : (d : Shape) (p : ℕ) (t : Process) (i : Instruction) (it : Operation) (w : World) → P w.queue
      → AllOk (StepKeeps P) (step_at d p t i it w)
  step-at-keeps d p t i (op.Assign e targets) w holds = alone-keeps d p t i w _ holds (λ u here. here)
  step-at-keeps d p t i (op.Hold e width delay) w holds = alone-keeps d p t i w _ holds (λ u here. here)
  step-at-keeps d p t i (op.Store targets) w holds = alone-keeps d p t i w _ holds (λ u here. here)
  step-at-keeps d p t i (op.Schedule s) w holds = alone-keeps d p t i w _ holds (λ u here. here)
  step-at-keeps d p t i (op.Pause it) w holds = alone-keeps d p t i w _ holds (λ u here. here)
  step-at-keeps d p t i (op.Test condition otherwise) w holds = alone-keeps d p t i w _ holds (λ u here. here)
  step-at-keeps d p t i (op.Case c) w holds = alone-keeps d p t i w _ holds (λ u here. here)
  step-at-keeps d p t i (op.Loop it) w holds = alone-keeps d p t i w _ holds (λ u here. here)
  step-at-keeps d p t i (op.Fork places) w holds =
      then-ok (QueuedKeeps P) (StepKeeps P) (forked d p i.next places _) _ (forked-keeps d p i.next places _ holds) (λ b here. here)
  step-at-keeps d p t i op.End w holds =
      then-ok (QueuedKeeps P) (StepKeeps P) (joined d t.parent _) _ (joined-keeps d t.parent _ holds) (λ b here. here)
  step-at-keeps d p t i (op.Enter routine inputs) w holds = alone-keeps d p t i w _ holds (λ u here. here)
  step-at-keeps d p t i (op.Leave l) w holds = alone-keeps d p t i w _ holds (λ u here. here)
  step-at-keeps d p t i (op.SysCall call) w holds = alone-keeps d p t i w _ holds (λ u here. here)
  step-at-keeps d p t i (op.SysFunc call) w holds = alone-keeps d p t i w _ holds (λ u here. here)
  step-at-keeps d p t i (op.Single it) w holds = single-step-keeps d p t i it w holds
  step-at-keeps d p t i (op.Drive it) w holds = alone-keeps d p t i w _ holds (λ u here. here)
  step-at-keeps d p t i (op.Initial object e) w holds = alone-keeps d p t i w _ holds (λ u here. here)

  step-in-keeps : (d : Shape) (p : ℕ) (t : Process) (i : Option Instruction) (w : World) → P w.queue → AllOk (StepKeeps P) (step_in d p t i w)
  step-in-keeps d p t None w holds = tt
  step-in-keeps d p t (Some i) w holds = step-at-keeps d p t i i.operation w holds

  step-keeps : (d : Shape) (p : ℕ) (t : Option Process) (w : World) → P w.queue → AllOk (StepKeeps P) (step_of_process d p t w)
  step-keeps d p None w holds = tt
  step-keeps d p (Some t) w holds = step-in-keeps d p t (next_of d t.thread) w holds

  -- The entries that changes add.
  woken-one-keeps : (p : ℕ) (o : Scheduled) → P o.queue → AllOk (ScheduledKeeps P) (woken_one p o)
  woken-one-keeps p o holds =
      then-ok (QueuedKeeps P) (ScheduledKeeps P) (resumed p (queued o.processes o.queue)) _ (resumed-keeps p (queued o.processes o.queue) holds) (λ b here. here)

  woken-keeps : (ps : List ℕ) (o : Scheduled) → P o.queue → AllOk (ScheduledKeeps P) (all_woken ps o)
  unfolding all_woken
  woken-keeps [] o holds = holds
  woken-keeps (p ∷ ps) o holds =
      then-ok (ScheduledKeeps P) (ScheduledKeeps P) (woken_one p o) (all_woken ps) (woken-one-keeps p o holds) (λ u here. woken-keeps ps u here)

  monitor-keeps : (w : Watched) → P w.queue → AllOk (WatchedKeeps P) (monitor_entered w)
  monitor-keeps w holds =
      either-ok (WatchedKeeps P) w.monitor.stands (Ok w) _ holds
      (then-ok P (WatchedKeeps P) (with_entry w.queue.time _ work.MonitorShow w.queue) _ (entry-keeps w.queue.time _ _ w.queue refl holds) (λ q here. here))

  monitored-keeps : (d : Shape) (c : Change) (w : Watched) → P w.queue → AllOk (WatchedKeeps P) (monitored d c w)
  monitored-keeps d c w holds =
      either-ok (WatchedKeeps P) (list_reads d w.monitor.call c.object.id) (monitor_entered w) (Ok w) (monitor-keeps w holds) holds

  -- What is shown.
  displayed-by-keeps : (t : ShowTask) (d : Shape) (s : Contents) (n : ℕ) (w : Watched) → P w.queue → AllOk (ShownKeeps P) (displayed_by t d s n w)
  displayed-by-keeps task.Display d s n w holds = holds
  displayed-by-keeps task.Write d s n w holds = holds
  displayed-by-keeps task.Strobe d s n w holds =
      then-ok P (ShownKeeps P) (with_entry w.queue.time _ (work.Strobe n) w.queue) _ (entry-keeps w.queue.time _ _ w.queue refl holds) (λ q here. here)
  displayed-by-keeps task.Monitor d s n w holds =
      then-ok (WatchedKeeps P) (ShownKeeps P) (monitor_entered (watched (monitor_of n w.monitor) w.queue)) _
      (monitor-keeps (watched (monitor_of n w.monitor) w.queue) holds) (λ v here. here)

  displayed-at-keeps : (c : Option ShowCall) (d : Shape) (s : Contents) (n : ℕ) (w : Watched) → P w.queue
      → AllOk (ShownKeeps P) (displayed_at c d s n w)
  displayed-at-keeps None d s n w holds = holds
  displayed-at-keeps (Some c) d s n w holds = displayed-by-keeps c.task d s n w holds

  displayed-keeps : (d : Shape) (s : Contents) (n : Next) (w : Watched) → P w.queue → AllOk (ShownKeeps P) (displayed d s n w)
  displayed-keeps d s next.On w holds = holds
  displayed-keeps d s next.Waits w holds = holds
  displayed-keeps d s next.Ends w holds = holds
  displayed-keeps d s (next.Shows n) w holds = displayed-at-keeps (slice_get d.shows n) d s n w holds
  displayed-keeps d s (next.Calls o) w holds = holds
  displayed-keeps d s next.Finishes w holds = holds
  displayed-keeps d s next.Stops w holds = holds

-- What changes add, and labels and picked entries as a whole.
module _ (Q : Serials → Events → Type 0) (k : KeepsNotes Q) where
  added-keeps : (force : Bool) (o : ℕ) (b : Followed) → is_standing b.queue (last_of force o b.serials) ≡ false → Q b.serials b.queue
      → AllOk (FollowedKeeps Q) (added_one force o b)
  added-keeps force o b none holds =
      let R : Events → Type 0 = λ q. Q (noted force o b.queue.next b.serials) q in
      then-ok R (FollowedKeeps Q) (with_entry b.queue.time region.Active (work.Follow o force) b.queue) _
      (unless-ok R (is_full b.queue) _ _ (k.follows b.serials b.queue force o b.queue.time region.Active none holds)) (λ q here. here)

  entering-follow : (b : Bool) (force : Bool) (o : ℕ) (f : Followed) → is_standing f.queue (last_of force o f.serials) ≡ b → Q f.serials f.queue
      → AllOk (FollowedKeeps Q) (cond b (Ok f) (added_one force o f))
  entering-follow true force o f is holds = holds
  entering-follow false force o f is holds = added-keeps force o f is holds

  one-followed-keeps : (s : Contents) (f : Follow) (b : Followed) → Q b.serials b.queue → AllOk (FollowedKeeps Q) (one_followed s f b)
  one-followed-keeps s f b holds =
      either-ok (FollowedKeeps Q) (is_in_force s f) (follow_entered f.force f.object b) (Ok b)
      (entering-follow (is_standing b.queue (last_of f.force f.object b.serials)) f.force f.object b refl holds) holds

  followed-keeps : (s : Contents) (fs : List Follow) (b : Followed) → Q b.serials b.queue → AllOk (FollowedKeeps Q) (all_followed s fs b)
  unfolding all_followed
  followed-keeps s [] b holds = holds
  followed-keeps s (f ∷ fs) b holds =
      then-ok (FollowedKeeps Q) (FollowedKeeps Q) (one_followed s f b) (all_followed s fs) (one-followed-keeps s f b holds)
      (λ c here. followed-keeps s fs c here)

  entered-keeps : (d : Shape) (s : Contents) (c : Change) (a : Scheduling) → Q a.follows a.queue → AllOk (SchedulingKeeps Q) (entered d s c a)
  entered-keeps d s c a holds =
      let P : Events → Type 0 = Q a.follows in
      then-ok (ScheduledKeeps P) (SchedulingKeeps Q) (waking c (scheduled a.processes a.sense a.queue)) _
      (woken-keeps P (k.each a.follows) (woken a.sense c) (scheduled a.processes a.sense a.queue) holds)
      (λ o here. then-ok (FollowedKeeps Q) (SchedulingKeeps Q) (following s o.sense c (followed a.follows o.queue)) _
      (followed-keeps s (readers_of c.object.id o.sense) (followed a.follows o.queue) here)
      (λ f behind. then-ok (WatchedKeeps (Q f.serials)) (SchedulingKeeps Q) (monitored d c (watched a.monitor f.queue)) _
      (monitored-keeps (Q f.serials) (k.each f.serials) d c (watched a.monitor f.queue) behind) (λ w there. there)))

  entered-by-keeps : (d : Shape) (s : Contents) (c : Option Change) (a : Scheduling) → Q a.follows a.queue → AllOk (SchedulingKeeps Q) (entered_by d s c a)
  entered-by-keeps d s None a holds = holds
  entered-by-keeps d s (Some c) a holds = entered-keeps d s c a holds

  all-entered-keeps : (d : Shape) (s : Contents) (ms : List Made) (a : Scheduling) → Q a.follows a.queue → AllOk (SchedulingKeeps Q) (all_entered d s ms a)
  unfolding all_entered
  all-entered-keeps d s [] a holds = holds
  all-entered-keeps d s (m ∷ ms) a holds =
      then-ok (SchedulingKeeps Q) (SchedulingKeeps Q) (entered_by d s m.change a) (all_entered d s ms) (entered-by-keeps d s m.change a holds)
      (λ b here. all-entered-keeps d s ms b here)

  entries-keep : (ms : List Made) (a : Activity) → Q a.follows a.queue → AllOk (ActivityKeeps Q) (with_entries ms a)
  entries-keep ms a holds =
      then-ok (SchedulingKeeps Q) (ActivityKeeps Q) (all_entered a.design a.store ms (scheduling_of a)) _
      (all-entered-keeps a.design a.store ms (scheduling_of a) holds) (λ g here. here)

  -- A label of a process, and an entry that is picked.
  pub performed-keeps : (p : ℕ) (a : Activity) → Q a.follows a.queue → AllOk (PerformedKeeps Q) (performed p a)
  performed-keeps p a holds =
      let P : Events → Type 0 = Q a.follows in
      then-ok (StepKeeps P) (PerformedKeeps Q) (step_of a.design p (world_in a)) _
      (step-keeps P (k.each a.follows) a.design p (process_at p a.processes) (world_in a) holds)
      (λ r here. then-ok (ActivityKeeps Q) (PerformedKeeps Q) (with_entries r.made (with_world r.world a)) _ (entries-keep r.made (with_world r.world a) here)
      (λ b there. then-ok (ShownKeeps (Q b.follows)) (PerformedKeeps Q) (displayed b.design b.store r.next (watched b.monitor b.queue)) _
      (displayed-keeps (Q b.follows) (k.each b.follows) b.design b.store r.next (watched b.monitor b.queue) there) (λ c after. after)))

  changed-keeps : (c : List Made × Contents) (a : Activity) → Q a.follows a.queue → AllOk (CameKeeps Q) (with_changes c a)
  changed-keeps c a holds = then-ok (ActivityKeeps Q) (CameKeeps Q) (with_entries _ _) _ (entries-keep _ _ holds) (λ b here. here)

  pub worked-keeps : (w : Work) (a : Activity) → Q a.follows a.queue → AllOk (CameKeeps Q) (worked w a)
  worked-keeps (work.Evaluate p) a holds = holds
  worked-keeps (work.Drive driver value) a holds = changed-keeps _ a holds
  worked-keeps (work.Assign object low value) a holds = changed-keeps _ a holds
  worked-keeps (work.Follow object force) a holds = changed-keeps _ a holds
  worked-keeps (work.Put object value) a holds = changed-keeps _ a holds
  worked-keeps (work.Strobe n) a holds = holds
  worked-keeps work.MonitorShow a holds = holds
  worked-keeps (work.Call callback) a holds = holds
