-- What a step leaves: which outcomes keep the queue and the phase, and that the machine goes on after a
-- label that is no end.
use Rattle.std.proofs.Common.{◌≡◌, ◌<◌, ◌-◌, nat_le, ℕ, zero, suc, List, [], ◌∷◌, length, max, Bool, true, false, cond, Option, Some, None, Result, Ok, Err, nat_lt, slice_get, slice_set, refl, sym, ap, subst, ◌∙◌, arith}
use Rattle.vh_base.specs.declared.limits.TheConstants.{MOST_FRAMES, MOST_NUMBERS}
use Rattle.vh_base.specs.declared.faults.Fault.{Fault}
use Rattle.vh_base.specs.declared.faults.Fault.TheVariants as fault
use Rattle.vh_proc_simulation.specs.Labels.{Came, Performed, performed as label_performed, worked}
use Rattle.vh_base.specs.declared.orders.Answer.{Answer}
use Rattle.vh_base.specs.declared.orders.Order.{Order}
use Rattle.vh_base.specs.declared.orders.Order.TheVariants as order
use Rattle.vh_base.proofs.ChecksLemmas.{unless-holds}
use Rattle.vh_app.specs.declared.point.Point.{Point}
use Rattle.vh_app.specs.Next.{next_of as next_order}
use Rattle.vh_app.specs.Script.{ScriptData}
use Rattle.vh_callbacks.specs.declared.registration.Registration.{Registration}
use Rattle.vh_callbacks.specs.Callbacks.{info_of, body_of}
use Rattle.vh_kernel.specs.Activations.{Activation}
use Rattle.vh_orders.specs.declared.who.Body.{Body}
use Rattle.vh_kernel.specs.declared.control.Control.{Control}
use Rattle.vh_kernel.specs.declared.control.Control.TheVariants as top
use Rattle.vh_queue.specs.declared.entry.Entry.{Entry}
use Rattle.vh_queue.specs.declared.work.Work.{Work}
use Rattle.vh_queue.specs.declared.work.Work.TheVariants as work
use Rattle.vh_kernel.specs.declared.label.Label.{Label}
use Rattle.vh_kernel.specs.declared.label.Label.TheVariants as label
use Rattle.vh_queue.specs.declared.region.Region.{Region}
use Rattle.vh_kernel.specs.declared.occurrence.Agendum.{Agendum}
use Rattle.vh_kernel.specs.declared.occurrence.Agendum.TheVariants as agendum
use Rattle.vh_kernel.specs.declared.occurrence.Told.{Told}
use Rattle.vh_orders.specs.declared.phase.Phase.{Phase}
use Rattle.vh_orders.specs.declared.phase.Phase.TheVariants as phase
use Rattle.vh_queue.specs.Events.{eligible, next_region, least_time}
use Rattle.vh_dispatch.specs.Frames.{top_set, without_in_top}
use Rattle.vh_kernel.specs.Occurrences.{Occurrence, occurrence_of}
use Rattle.vh_orders.proofs.OrdersLemmas.{performed-kept}
use Rattle.vh_orders.specs.Orders.{Given, performed, is_pass, is_return}
use Rattle.vh_kernel.specs.Outcome.{Made, Outcome, Move, move_of}
use Rattle.vh_kernel.specs.Settle.{settled}
use Rattle.vh_kernel.specs.State.{State, with_top, without_top, without_item, with_frames, with_variables}
use Rattle.vh_kernel.specs.Statements.{performed_outcome, worked_outcome, on_control, work_outcome}
use Rattle.vh_kernel.specs.Step.{telling_outcome, called, fire_move, pass_move, order_move, next_move_of, activation_move, time_move, region_move, pick_move, started, agenda_move, idle_move, item_move, top_move, crowded_move, is_crowded, is_end, step_of, is_over, item_choices, agenda_choices, idle_choices, top_choices, choices_of}

-- The second state has the activity and the phase of the first.
pub record IsKept (s t : State) : Type 0 where
  pub phase : t.world.phase ≡ s.world.phase
  pub activity : t.world.activity ≡ s.world.activity

pub same : (s : State) → IsKept s s
same s = record { phase = refl; activity = refl }

-- What an activation does: it returns, or it passes, or it gives an order and is answered, and is on control again.
pub data IsActing (a : Activation) (s : State) (g : Given) (m : Move) : Type 0 where
  returns : (vars : List (List Answer)) → m ≡ (label.Ret a.who, with_variables vars s) → IsActing a s g m
  passes : (vars : List (List Answer)) (further : Activation)
      → m ≡ (label.Pass a.who, with_top (top.Activation further) (with_variables vars s)) → IsActing a s g m
  orders : (vars : List (List Answer)) (o : Order) (further : Activation)
      → m ≡ (
        label.Do a.who o (performed o a.who (with_variables vars s).world g).0,
        with_top (top.Activation further) (record s { world = (performed o a.who (with_variables vars s).world g).1 }),
      )
      → IsActing a s g m

pass-acts : (b : Bool) (o : Order) (a : Activation) (p : Point) (vars : List (List Answer)) (before s : State) (g : Given)
    → IsActing a s g (pass_move b o (record a { at = p }) before (with_variables vars s) g)
pass-acts true o a p vars before s g = passes vars _ refl
pass-acts false o a p vars before s g = orders vars o _ refl

order-acts : (b : Bool) (o : Order) (a : Activation) (p : Point) (vars : List (List Answer)) (before s : State) (g : Given)
    → IsActing a s g (order_move b o (record a { at = p }) before (with_variables vars s) g)
order-acts true o a p vars before s g = returns vars refl
order-acts false o a p vars before s g = pass-acts (is_pass o) o a p vars before s g

-- An activation of a script that is there, by what the script orders next.
pub acts-next : (s : State) (a : Activation) (script : ScriptData) (vars after : List Answer) (o : Order) (p : Point) (g : Given)
    → slice_get s.world.scripts a.script ≡ Some script → slice_get s.world.variables a.script ≡ Some vars
    → (o, p, after) ≡ next_order script a.at vars a.seen
    → activation_move (slice_get s.world.scripts a.script) (slice_get s.world.variables a.script) a s g
    ≡ order_move (is_return o) o (record a { at = p }) (with_top (top.Activation a) s)
    (with_variables (slice_set s.world.variables a.script after) s) g
acts-next s a script vars after o p g there held next =
    ap (λ (x : Option ScriptData). activation_move x (slice_get s.world.variables a.script) a s g) there
    ∙ ap (λ (x : Option (List Answer)). activation_move (Some script) x a s g) held
    ∙ ap (λ (n : Order × Point × List Answer). next_move_of n a (with_top (top.Activation a) s) s g) (sym next)

-- An activation that returns at once leaves all as it is.
set-same : {X : Type 0} (xs : List X) (i : ℕ) (x : X) → slice_get xs i ≡ Some x → slice_set xs i x ≡ xs
set-same [] i x is = refl
set-same {X} (y ∷ xs) zero x is = let same : y ≡ x = cc in ap (λ (z : X). z ∷ xs) (sym same)
set-same {X} (y ∷ xs) (suc i) x is = ap (λ (zs : List X). y ∷ zs) (set-same xs i x is)

pub returns-now : (s : State) (a : Activation) (script : ScriptData) (vars : List Answer) (g : Given)
    → slice_get s.world.scripts a.script ≡ Some script → slice_get s.world.variables a.script ≡ Some vars
    → next_order script a.at vars a.seen ≡ (order.Return, a.at, vars)
    → activation_move (slice_get s.world.scripts a.script) (slice_get s.world.variables a.script) a s g ≡ (label.Ret a.who, s)
returns-now s a script vars g there held next =
    acts-next s a script vars vars order.Return a.at g there held (sym next)
    ∙ ap (λ (vs : List (List Answer)). (label.Ret a.who, with_variables vs s)) (set-same s.world.variables a.script vars held)

pub acts : (script : Option ScriptData) (vars : Option (List Answer)) (a : Activation) (s : State) (g : Given)
    → IsActing a s g (activation_move script vars a s g)
acts None vars a s g = returns s.world.variables refl
acts (Some script) None a s g = returns s.world.variables refl
acts (Some script) (Some vars) a s g =
    let next : Order × Point × List Answer = next_order script a.at vars a.seen in
    order-acts (is_return next.0) next.0 a next.1 (slice_set s.world.variables a.script next.2) (with_top (top.Activation a) s) s g

pub acts-kept : (a : Activation) (s : State) (g : Given) (m : Move) → IsActing a s g m → IsKept s m.1
acts-kept a s g m (returns vars is) = subst (λ (x : Move). IsKept s x.1) (sym is) (record { phase = refl; activity = refl })
acts-kept a s g m (passes vars further is) = subst (λ (x : Move). IsKept s x.1) (sym is) (record { phase = refl; activity = refl })
acts-kept a s g m (orders vars o further is) =
    let kept = performed-kept o a.who (with_variables vars s).world g in
    subst (λ (x : Move). IsKept s x.1) (sym is) (record { phase = kept.phase; activity = kept.activity })

-- What holds of all that an outcome may leave.
abbrev pub AllMade : (Made → Type 0) → Outcome → Type 0
AllMade P (Ok m) = P m
AllMade P (Err f) = Unit {0}

-- A statement keeps the phase, and so does what an occurrence or an entry comes to.
abbrev HasPhase : Phase → Made → Type 0
HasPhase f m = m.state.world.phase ≡ f

statement-phase : (p : ℕ) (r : Result Performed (Option Fault)) (s : State) → AllMade (HasPhase s.world.phase) (performed_outcome r p s)
statement-phase p (Err None) s = refl
statement-phase p (Err (Some f)) s = tt
statement-phase p (Ok r) s = refl

telling-phase : (o : Occurrence) (s : State) → AllMade (HasPhase s.world.phase) (telling_outcome o s)
telling-phase o s =
    unless-holds (AllMade (HasPhase s.world.phase)) (nat_le MOST_FRAMES (length s.world.frames)) fault.F1 _ (λ _. tt)
    (λ _. unless-holds (AllMade (HasPhase s.world.phase)) (nat_lt MOST_NUMBERS s.occurrence) fault.F3 _ (λ _. tt) (λ _. refl))

worked-phase : (r : Result Came (Option Fault)) (s : State) → AllMade (HasPhase s.world.phase) (worked_outcome r s)
worked-phase (Err None) s = refl
worked-phase (Err (Some f)) s = tt
worked-phase (Ok c) s = refl

-- What an entry puts on control leaves all else.
pub on-control-kept : (w : Work) (s : State) → IsKept s (on_control w s)
on-control-kept (work.Evaluate p) s = record { phase = refl; activity = refl }
on-control-kept (work.Drive driver value) s = same s
on-control-kept (work.Assign object low value) s = same s
on-control-kept (work.Follow object force) s = same s
on-control-kept (work.Put object value) s = same s
on-control-kept (work.Strobe n) s = same s
on-control-kept work.MonitorShow s = same s
on-control-kept (work.Call callback) s = same s

work-phase : (w : Work) (s : State) → AllMade (HasPhase s.world.phase) (work_outcome w s)
work-phase w s =
    let P : Phase → Type 0 = λ f. AllMade (HasPhase f) (work_outcome w s) in
    subst P (on-control-kept w s).phase (worked-phase (worked w s.world.activity) (on_control w s))

-- A move that ends the run, or one after which it isn't over.
abbrev Goes : Move → Type 0
Goes m = is_end m.0 ≡ false → is_over m.1.world.phase ≡ false

outcome-goes : (l : Option (List ℕ) → Label) (before : State) (f : Phase) (out : Outcome) → is_over f ≡ false
    → AllMade (HasPhase f) out → Goes (move_of l before out)
outcome-goes l before f (Ok m) alive has = λ open_yet. ap is_over has ∙ alive
outcome-goes l before f (Err e) alive has = λ open_yet. absurd (cc)

called-phase : (r : Option Registration) (b : Option Body) (c : ℕ) (o : Occurrence) (s : State) → IsKept s (called r b c o s)
called-phase None b c o s = same s
called-phase (Some r) None c o s = same s
called-phase (Some r) (Some b) c o s = record { phase = refl; activity = refl }

pub called-kept : (r : Option Registration) (b : Option Body) (c : ℕ) (o : Occurrence) (s : State) → IsKept s (called r b c o s)
called-kept = called-phase

fire-goes : (o : Option ℕ) (f : Told) (s : State) → is_over s.world.phase ≡ false → Goes (fire_move o f s)
fire-goes None f s alive = λ open_yet. alive
fire-goes (Some c) f s alive =
    let before : State = with_top (top.Frame f) (with_frames (without_in_top c s.world.frames) s) in
    let kept = called-phase (info_of c s.world.callbacks) (body_of c s.world.callbacks) c f.what before in
    λ open_yet. ap is_over kept.phase ∙ alive

time-goes : (o : Option ℕ) (s : State) → is_over s.world.phase ≡ false → Goes (time_move o s)
time-goes None s alive = λ open_yet. refl
time-goes (Some time) s alive = λ open_yet. alive

region-goes : (o : Option Region) (s : State) → is_over s.world.phase ≡ false → Goes (region_move o s)
region-goes None s alive = time-goes (least_time s.world.activity.queue.entries) s alive
region-goes (Some r) s alive = λ open_yet. alive

pick-goes : (o : Option Entry) (s : State) → is_over s.world.phase ≡ false → Goes (pick_move o s)
pick-goes None s alive = region-goes (next_region s.world.activity.queue) s alive
pick-goes (Some e) s alive = outcome-goes (λ shown. label.Pick e.serial shown) s s.world.phase _ alive (work-phase e.work _)

pub started-kept : (script : Option ScriptData) (k : ℕ) (s : State) → IsKept s (started script k s)
started-kept None k s = same s
started-kept (Some script) k s = record { phase = refl; activity = refl }

agenda-goes : (o : Option Agendum) (s : State) (k : ℕ) → is_over s.world.phase ≡ false → Goes (agenda_move o s k)
agenda-goes None s k alive = pick-goes (slice_get (eligible s.world.activity.queue) k) s alive
agenda-goes (Some (agendum.Startup n)) s k alive =
    let kept = started-kept (slice_get s.world.scripts (n - 1)) n (without_item s) in
    λ open_yet. ap is_over kept.phase ∙ alive
agenda-goes (Some (agendum.Occurrence r)) s k alive =
    outcome-goes _ s s.world.phase _ alive (telling-phase (occurrence_of r) (without_item s))

idle-goes : (f : Phase) (s : State) (k : ℕ) → s.world.phase ≡ f → Goes (idle_move f s k)
idle-goes phase.Running s k is = agenda-goes (slice_get s.agenda 0) s k (ap is_over is)
idle-goes (phase.Finished c) s k is = λ open_yet. absurd (cc)
idle-goes (phase.Ended e) s k is = λ open_yet. absurd (cc)

item-goes : (c : Control) (s : State) (k : ℕ) (g : Given) → is_over s.world.phase ≡ false → Goes (item_move c s k g)
item-goes (top.Process p) s k g alive =
    outcome-goes (λ shown. label.Stmt p shown) (with_top (top.Process p) s) s.world.phase _ alive (statement-phase p (label_performed p s.world.activity) s)
item-goes (top.Pending o) s k g alive =
    outcome-goes (λ shown. label.Occ s.occurrence o.reason o.object) (with_top (top.Pending o) s) s.world.phase _ alive (telling-phase o s)
item-goes (top.Frame f) s k g alive = fire-goes (slice_get (top_set s.world.frames) k) f s alive
item-goes (top.Activation a) s k g alive =
    let kept = acts-kept a s g _ (acts (slice_get s.world.scripts a.script) (slice_get s.world.variables a.script) a s g) in
    λ open_yet. ap is_over kept.phase ∙ alive
item-goes (top.Leave c) s k g alive = λ open_yet. refl

top-goes : (o : Option Control) (s : State) (k : ℕ) (g : Given) → is_over s.world.phase ≡ false → Goes (top_move o s k g)
top-goes None s k g alive = idle-goes s.world.phase s k refl
top-goes (Some c) s k g alive = item-goes c (without_top s) k g alive

crowded-goes : (b : Bool) (s : State) (k : ℕ) (g : Given) → is_over s.world.phase ≡ false → Goes (crowded_move b s k g)
crowded-goes true s k g alive = λ open_yet. absurd (cc)
crowded-goes false s k g alive = top-goes (slice_get s.control 0) s k g alive

-- Where the run isn't over there is a choice.
one-of : (n : ℕ) → 0 < max n 1
one-of n = omega arith

item-some : (c : Control) (s : State) → 0 < item_choices c s
item-some (top.Process p) s = omega arith
item-some (top.Pending o) s = omega arith
item-some (top.Frame f) s = one-of (length (top_set s.world.frames))
item-some (top.Activation a) s = omega arith
item-some (top.Leave c) s = omega arith

agenda-some : (o : Option Agendum) (s : State) → 0 < agenda_choices o s
agenda-some None s = one-of (length (eligible s.world.activity.queue))
agenda-some (Some item) s = omega arith

idle-some : (f : Phase) (s : State) → is_over f ≡ false → 0 < idle_choices f s
idle-some phase.Running s alive = agenda-some (slice_get s.agenda 0) s
idle-some (phase.Finished c) s alive = omega arith
idle-some (phase.Ended e) s alive = absurd (cc)

top-some : (o : Option Control) (s : State) → is_over s.world.phase ≡ false → 0 < top_choices o s
top-some None s alive = idle-some s.world.phase s alive
top-some (Some c) s alive = item-some c s

choices-by : (over crowded : Bool) (n : ℕ) → over ≡ false → 0 < n → 0 < cond over 0 (cond crowded 1 n)
choices-by true crowded n alive some = absurd (cc)
choices-by false true n alive some = omega arith
choices-by false false n alive some = some

pub some-choice : (s : State) → is_over s.world.phase ≡ false → 0 < choices_of s
some-choice s alive =
    choices-by (is_over s.world.phase) (is_crowded s) (top_choices (slice_get s.control 0) s) alive (top-some (slice_get s.control 0) s alive)

-- There is none where it is over.
over-by : (over crowded : Bool) (n k : ℕ) → k < cond over 0 (cond crowded 1 n) → over ≡ false
over-by true crowded n k below = absurd (omega arith)
over-by false crowded n k below = refl

pub not-over : (s : State) (k : ℕ) → k < choices_of s → is_over s.world.phase ≡ false
not-over s k below = over-by (is_over s.world.phase) (is_crowded s) (top_choices (slice_get s.control 0) s) k below

-- After a label that is no end the machine has a step to make.
settled-goes : (b : Bool) (t : State) → is_over t.world.phase ≡ false → 0 < choices_of (cond b t (settled t))
settled-goes true t alive = some-choice t alive
settled-goes false t alive = some-choice (settled t) alive

pub step-goes : (s t : State) (k : ℕ) (g : Given) (l : Label) → k < choices_of s → step_of s k g ≡ (l, t) → is_end l ≡ false
    → 0 < choices_of t
step-goes s t k g l below is =
    let m : Move = crowded_move (is_crowded s) s k g in
    let P : Move → Type 0 = λ x. is_end x.0 ≡ false → 0 < choices_of x.1 in
    subst P is (λ open_yet. settled-goes (is_end m.0) m.1 (crowded-goes (is_crowded s) s k g (not-over s k below) open_yet))

-- The same of a label and the state that settles after it.
pub label-goes : (s t u : State) (k : ℕ) (g : Given) (l : Label) → k < choices_of s → crowded_move (is_crowded s) s k g ≡ (l, t)
    → u ≡ settled t → is_end l ≡ false → 0 < choices_of u
label-goes s t u k g l below is after open_yet =
    let P : Move → Type 0 = λ x. is_end x.0 ≡ false → is_over x.1.world.phase ≡ false in
    let Q : State → Type 0 = λ x. 0 < choices_of x in
    subst Q (sym after)
    (some-choice (settled t) (subst P is (crowded-goes (is_crowded s) s k g (not-over s k below)) open_yet))
