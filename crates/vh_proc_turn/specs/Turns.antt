-- What a label does that touches no other process, a row for each kind in the order of the statements' table. (IEEE
-- 1364-2005, clauses 9 and 10; the faults are own)
use Rattle.std.specs.Prelude.{ℕ, ◌-◌, List, [], ◌∷◌, Bool, true, false, if◌then◌else◌, not, nat_lt, ℤ, pos, int_lt, unsigned_abs, Option, Some, None, is_some, unwrap_or, Result, Ok, Err}
use Rattle.std.specs.List.{find}
use Rattle.std.specs.Option.{option_map}
use Rattle.vh_base.specs.Checks.{unless, with_ok, with_some}
use Rattle.vh_base.specs.declared.faults.Fault.{Fault}
use Rattle.vh_base.specs.declared.faults.Fault.TheVariants as fault
use Rattle.vh_logic.specs.declared.digits.Digit.{Digit}
use Rattle.vh_logic.specs.declared.digits.Digit.TheVariants.{X}
use Rattle.vh_logic.specs.Compare.{case_equality, casez_equality, casex_equality}
use Rattle.vh_logic.specs.Digit.{is_one}
use Rattle.vh_logic.specs.Parts.{resized}
use Rattle.vh_logic.specs.Reduce.{truth_of}
use Rattle.vh_logic.specs.Vector.{Vector, filled}
use Rattle.vh_design_nodes.specs.declared.expr.Selected.{Selected}
use Rattle.vh_design_code.specs.declared.change.Change.{Change}
use Rattle.vh_design_code.specs.declared.change.Layer.TheVariants as layer
use Rattle.vh_design_code.specs.declared.change.Made.{Made}
use Rattle.vh_design_code.specs.declared.code.Goes.{Goes}
use Rattle.vh_design_code.specs.declared.code.Instruction.{Instruction}
use Rattle.vh_design_code.specs.declared.operation.Arm.{Arm}
use Rattle.vh_design_code.specs.declared.operation.CaseKind.{CaseKind}
use Rattle.vh_design_code.specs.declared.operation.CaseKind.TheVariants as compares
use Rattle.vh_design_code.specs.declared.operation.CaseTest.{CaseTest}
use Rattle.vh_design_code.specs.declared.operation.Drive.{Drive}
use Rattle.vh_design_code.specs.declared.operation.Leave.{Leave}
use Rattle.vh_design_code.specs.declared.operation.Loop.{Loop}
use Rattle.vh_design_code.specs.declared.operation.Loop.TheVariants as turn
use Rattle.vh_design_code.specs.declared.operation.Operation.{Operation}
use Rattle.vh_design_code.specs.declared.operation.Operation.TheVariants as op
use Rattle.vh_design_code.specs.declared.operation.Pause.{Pause}
use Rattle.vh_design_code.specs.declared.operation.Pause.TheVariants as pause
use Rattle.vh_design_code.specs.declared.operation.Returned.{Returned}
use Rattle.vh_design_code.specs.declared.operation.Single.{Single}
use Rattle.vh_design_code.specs.declared.operation.Single.TheVariants as single
use Rattle.vh_design_code.specs.declared.target.Delay.{Delay}
use Rattle.vh_design_code.specs.declared.target.Input.{Input}
use Rattle.vh_design.specs.Shape.{Shape}
use Rattle.vh_store.specs.Contents.{Contents, shown, with_result, released, deassigned}
use Rattle.vh_sense.specs.Sensitivity.{with_wait}
use Rattle.vh_queue.specs.declared.region.Region.TheVariants as region
use Rattle.vh_queue.specs.declared.work.Work.TheVariants as work
use Rattle.vh_queue.specs.Events.{Events}
use Rattle.vh_eval.specs.Value.{value_of}
use Rattle.vh_proc_assign.specs.declared.piece.Piece.{Piece}
use Rattle.vh_proc_assign.specs.Values.{value_alone, integer_alone, right_side, time_after}
use Rattle.vh_proc_assign.specs.Pieces.{digits_of, pieces_of, pieces_in, pieces_out}
use Rattle.vh_proc_assign.specs.Assigned.{with_pieces, made_in_turn}
use Rattle.vh_proc_assign.specs.Layers.{with_force, force_made, release_made, with_assign, shown_made}
use Rattle.vh_proc_thread.specs.declared.call.TheConstants.{MOST_CALLS}
use Rattle.vh_proc_thread.specs.Control.{called, repeating, repeat_turned, has_turn, depth_of}
use Rattle.vh_proc_turn.specs.declared.next.Next.{Next}
use Rattle.vh_proc_turn.specs.declared.next.Next.TheVariants as next
use Rattle.vh_proc_turn.specs.declared.process.Process.{Process}
use Rattle.vh_proc_turn.specs.Own.{Own, Outcome, turn_with, quietly, going, gone, arriving, in_time, with_entry, update_time}
use Rattle.vh_proc_turn.specs.Drives.{driving, digits_driven, all_driven}

-- Objects take what a label assigns, in order. (9.2)
abbrev pub assigning : List Piece → Own → Outcome
assigning ps o = Ok (turn_with (record o { store = with_pieces ps o.store }) (made_in_turn ps o.store) next.On)

abbrev pub right_pieces : Shape → Contents → ℕ → List Selected → List Piece
right_pieces d s e targets = pieces_of d s targets (right_side d s e (digits_of d.objects targets))

-- A blocking assignment with a delay: its value waits, and is assigned at a label of its own. (9.7.7)
abbrev pub resumption : Shape → Contents → ℕ → Delay → Events → Result Events (Option Fault)
resumption d s p delay q =
    in_time (time_after d s delay) (λ time. with_entry time region.Inactive (work.Evaluate p) q)

abbrev pub entered : ℕ → Process → Process
entered serial t = record t { entry = Some serial }

abbrev pub resuming : Shape → ℕ → Delay → Own → Outcome
resuming d p delay o =
    with_ok (resumption d o.store p delay o.queue) (λ q.
    quietly next.Waits (record o { process = entered o.queue.next o.process; queue = q }))

abbrev pub holding : Vector → Own → Own
holding v o = record o { process = record o.process { held = Some v } }

abbrev pub held_by : Process → ℕ → Vector
held_by t width = resized (unwrap_or t.held (filled 1 X false)) width false

-- A nonblocking assignment: an update of each piece, in order. Its delay is judged also where its target takes nothing. (9.2.2)
unfoldable pub with_updates : ℕ → List Piece → Events → Result Events (Option Fault)
with_updates time [] q = Ok q
with_updates time (p ∷ ps) q =
    with_ok (with_entry time region.Nonblocking (work.Assign p.object p.low p.value) q) (with_updates time ps)

abbrev pub schedule_of : Shape → Contents → Option Delay → List Piece → Events → Result Events (Option Fault)
schedule_of d s delay ps q = in_time (update_time d s delay) (λ time. with_updates time ps q)

abbrev pub scheduling : Shape → Option Delay → List Piece → Own → Outcome
scheduling d delay ps o =
    with_ok (schedule_of d o.store delay ps o.queue) (λ q. quietly next.On (record o { queue = q }))

-- `#`, `@` and `wait`. (9.7)
abbrev pub waiting : ℕ → ℕ → Own → Outcome
waiting p wait o = quietly next.Waits (record o { sense = with_wait p wait o.sense })

abbrev pub is_true : Shape → Contents → ℕ → Bool
is_true d s e = is_one (truth_of (value_alone d s e))

abbrev pub pausing : Shape → ℕ → Goes → Pause → Own → Outcome
pausing d p goes (pause.Wait delay) o = resuming d p delay (gone goes o)
pausing d p goes (pause.Await wait) o = waiting p wait (gone goes o)
pausing d p goes (pause.WaitFor condition wait) o =
    if is_true d o.store condition then quietly next.On (gone goes o) else waiting p wait o

-- `case`: it goes on at the first label that fits. (9.5)
abbrev pub compared : CaseKind → Vector → Vector → Digit
compared compares.Plain a b = case_equality a b
compared compares.Z a b = casez_equality a b
compared compares.X a b = casex_equality a b

abbrev pub fits_value : Shape → Contents → CaseTest → Arm → Bool
fits_value d s c a =
    is_one (compared c.kind (value_of d s c.subject c.width c.signed) (value_of d s a.value c.width c.signed))

abbrev pub arm_of : Shape → Contents → CaseTest → Goes → Goes
arm_of d s c goes = unwrap_or (option_map (λ a. a.to) (find (fits_value d s c) c.arms)) goes

-- A turn of a loop: a `repeat` takes as many as its count says, none where that is negative or unknown. (9.6)
abbrev pub turns_in : ℤ → ℕ
turns_in count = if int_lt (pos 0) count then unsigned_abs count else 0

abbrev pub turns_of : Option ℤ → ℕ
turns_of count = unwrap_or (option_map turns_in count) 0

abbrev pub repeat_of : Instruction → Goes → ℕ → Process → Process
repeat_of i done n t =
    if nat_lt 0 n then going i.next (record t { thread = repeating i.block (n - 1) t.thread }) else going done t

abbrev pub turning : Shape → Contents → Instruction → Loop → Process → Process
turning d s i (turn.Repeat count done) t = repeat_of i done (turns_of (integer_alone d s count)) t
turning d s i (turn.Again done) t =
    going (if has_turn t.thread.repeats then i.next else done) (record t { thread = repeat_turned t.thread })
turning d s i turn.Turn t = going i.next t

-- The begin and the end of a call. (10.2 and 10.4)
abbrev pub entering : Shape → ℕ → List Input → Own → Outcome
entering d routine inputs o =
    unless (not (nat_lt (depth_of o.process.thread) MOST_CALLS)) (Some fault.F4)
    (assigning (pieces_in d o.store inputs)
    (record o { process = record o.process { thread = called d routine o.process.thread } }))

abbrev pub answering : Option Returned → Contents → Contents → Contents
answering None old s = s
answering (Some r) old s = with_result r.call (shown old (record { id = r.variable; word = None })) s

abbrev pub leaving : Shape → Leave → Own → Outcome
leaving d l o =
    let ps = pieces_out d o.store l.outputs in
    Ok (turn_with (record o { store = answering l.result o.store (with_pieces ps o.store) }) (made_in_turn ps o.store) next.On)

-- `->` is a change of its event, with one x before and after. (9.7.3; own)
abbrev pub triggered : ℕ → Change
triggered o = record { object = record { id = o; word = None }; old = filled 1 X false; new = filled 1 X false }

abbrev pub made_of : Change → Made
made_of c = record { object = c.object; change = Some c; layer = layer.Plain }

-- Statements with one label that goes on at once, a row for each; a `disable` isn't said here. (9.3, 9.7.3, 17)
abbrev pub single_next : Single → Option Next
single_next (single.Show show) = Some (next.Shows show)
single_next single.Finish = Some next.Finishes
single_next single.Stop = Some next.Stops
single_next (single.Trigger event) = Some next.On
single_next (single.Disable target) = None
single_next (single.Force object e) = Some next.On
single_next (single.Release object) = Some next.On
single_next (single.Procedural object e) = Some next.On
single_next (single.Deassign object) = Some next.On

-- What they do to the values of objects;
abbrev pub single_store : Shape → Single → Contents → Contents
single_store d (single.Show show) s = s
single_store d single.Finish s = s
single_store d single.Stop s = s
single_store d (single.Trigger event) s = s
single_store d (single.Disable target) s = s
single_store d (single.Force object e) s = with_force d object e s
single_store d (single.Release object) s = released object s
single_store d (single.Procedural object e) s = with_assign d object e s
single_store d (single.Deassign object) s = deassigned object s

-- And what they change, force or release.
abbrev pub single_made : Shape → Single → Contents → List Made
single_made d (single.Show show) s = []
single_made d single.Finish s = []
single_made d single.Stop s = []
single_made d (single.Trigger event) s = made_of (triggered event) ∷ []
single_made d (single.Disable target) s = []
single_made d (single.Force object e) s = force_made d object e s
single_made d (single.Release object) s = release_made object s
single_made d (single.Procedural object e) s = shown_made object s (with_assign d object e s)
single_made d (single.Deassign object) s = shown_made object s (deassigned object s)

abbrev pub single_turn : Shape → Single → Own → Outcome
single_turn d it o =
    with_some (single_next it) None (λ n.
    Ok (turn_with (record o { store = single_store d it o.store }) (single_made d it o.store) n))

-- A declared initial value: its process ends with the assignment. (6.2.1)
abbrev pub initializing : Shape → ℕ → ℕ → Own → Outcome
initializing d object e o =
    let ps = pieces_in d o.store (record { variable = object; value = e } ∷ []) in
    Ok (turn_with (record o { store = with_pieces ps o.store }) (made_in_turn ps o.store) next.Ends)

-- A continuous assignment: its drivers take its value, and it waits. (6.1)
abbrev pub driving_all : Shape → ℕ → Drive → Own → Outcome
driving_all d p it o =
    let v = right_side d o.store it.value (digits_driven d.drivers it.drivers) in
    let time = update_time d o.store it.delay in
    with_ok (all_driven d.drivers o.store time it.drivers v (driving o.process.updates o.queue)) (λ b.
    waiting p it.wait (record o { process = record o.process { updates = b.updates }; queue = b.queue }))

-- A label, a row for each kind. The beginning and the end of branches aren't said here.
abbrev pub turn_at : Shape → ℕ → Instruction → Operation → Own → Outcome
turn_at d p i (op.Assign e targets) o = assigning (right_pieces d o.store e targets) (gone i.next o)
turn_at d p i (op.Hold e width delay) o =
    resuming d p delay (holding (right_side d o.store e width) (gone i.next o))
turn_at d p i (op.Store targets) o =
    assigning (pieces_of d o.store targets (held_by o.process (digits_of d.objects targets))) (gone i.next o)
turn_at d p i (op.Schedule s) o =
    scheduling d s.delay (right_pieces d o.store s.value s.targets) (gone i.next o)
turn_at d p i (op.Pause it) o = pausing d p i.next it o
turn_at d p i (op.Test condition otherwise) o =
    quietly next.On (gone (if is_true d o.store condition then i.next else otherwise) o)
turn_at d p i (op.Case c) o = quietly next.On (gone (arm_of d o.store c i.next) o)
turn_at d p i (op.Loop it) o = quietly next.On (record o { process = turning d o.store i it o.process })
turn_at d p i (op.Fork positions) o = Err None
turn_at d p i op.End o = quietly next.Ends o
turn_at d p i (op.Enter routine inputs) o = entering d routine inputs o
turn_at d p i (op.Leave l) o = leaving d l (gone i.next o)
turn_at d p i (op.SysCall call) o = quietly (next.Calls call) (gone i.next o)
turn_at d p i (op.SysFunc call) o = quietly (next.Calls call) (gone i.next o)
turn_at d p i (op.Single it) o = single_turn d it (gone i.next o)
turn_at d p i (op.Drive it) o = driving_all d p it (gone i.next o)
turn_at d p i (op.Initial object e) o = initializing d object e o

abbrev pub turn_of : Shape → ℕ → Instruction → Own → Outcome
turn_of d p i o = turn_at d p i i.operation (record o { process = arriving d o.process })

-- Is it said here what the label does?
abbrev pub is_own : Operation → Bool
is_own (op.Assign e targets) = true
is_own (op.Hold e width delay) = true
is_own (op.Store targets) = true
is_own (op.Schedule s) = true
is_own (op.Pause it) = true
is_own (op.Test condition otherwise) = true
is_own (op.Case c) = true
is_own (op.Loop it) = true
is_own (op.Fork positions) = false
is_own op.End = true
is_own (op.Enter routine inputs) = true
is_own (op.Leave l) = true
is_own (op.SysCall call) = true
is_own (op.SysFunc call) = true
is_own (op.Single it) = is_some (single_next it)
is_own (op.Drive it) = true
is_own (op.Initial object e) = true
