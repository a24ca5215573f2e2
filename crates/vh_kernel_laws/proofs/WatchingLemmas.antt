-- The firing law: to whom an occurrence is told, what a fire calls, where callbacks come from; and with it the whole law.
use Rattle.std.proofs.Common.{◌≡◌, ℕ, zero, suc, ◌-◌, List, [], ◌∷◌, ◌++◌, drop, map, length, Bool, true, false, cond, Option, Some, None, is_some, Result, Ok, Err, slice_get, nat_eq, nat_le, nat_lt, refl, sym, ap, subst, ◌∙◌, ◌⊎◌, inl, inr, arith}
use Rattle.std.proofs.lemmas.Bool.{eqb-true, eq-eqb, ne_eqb}
use Rattle.std.specs.Option.{option_map}
use Rattle.vh_app.specs.Script.{ScriptData}
use Rattle.vh_base.specs.declared.faults.Cause.{Cause}
use Rattle.vh_base.specs.declared.faults.Fault.{Fault}
use Rattle.vh_base.specs.declared.faults.Fault.TheVariants as fault
use Rattle.vh_base.specs.declared.limits.TheConstants.{MOST_FRAMES, MOST_NUMBERS}
use Rattle.vh_base.specs.declared.orders.Answer.{Answer}
use Rattle.vh_base.specs.declared.orders.Answer.TheVariants as answer
use Rattle.vh_base.specs.declared.orders.Order.{Order}
use Rattle.vh_base.specs.declared.orders.Order.TheVariants as order
use Rattle.vh_base.proofs.ChecksLemmas.{unless-holds}
use Rattle.vh_callbacks.proofs.LawsLemmas.{matching_is_set, keeps_registered, keeps_removed}
use Rattle.vh_callbacks.specs.Callbacks.{Callbacks, info_of, body_of, is_live, live_at, registered, removed, IsSound}
use Rattle.vh_callbacks.specs.declared.live.Live.{Live}
use Rattle.vh_callbacks.specs.declared.registration.Registration.{Registration}
use Rattle.vh_callbacks.specs.Marks.{is_among}
use Rattle.vh_design_code.specs.declared.change.Change.{Change}
use Rattle.vh_design_code.specs.declared.change.Made.{Made as Did}
use Rattle.vh_design_nodes.specs.declared.object.ObjectInfo.{ObjectInfo}
use Rattle.vh_design_nodes.specs.Fits.{has_kind}
use Rattle.vh_design_nodes.specs.Kinds.{is_event}
use Rattle.vh_dispatch.specs.Frames.{without_in_top}
use Rattle.vh_handles.proofs.EntriesLemmas.{same_more}
use Rattle.vh_handles.specs.declared.handles.Thing.TheVariants as thing
use Rattle.vh_handles.specs.Handles.{thing_at}
use Rattle.vh_kernel.proofs.StepLemmas.{AllMade, IsActing, returns, passes, orders, acts}
use Rattle.vh_kernel.proofs.TableLemmas.{steps-by-table}
use Rattle.vh_kernel.specs.Activations.{Activation, first_seen}
use Rattle.vh_kernel.specs.declared.control.Control.{Control}
use Rattle.vh_kernel.specs.declared.control.Control.TheVariants as top
use Rattle.vh_kernel.specs.declared.label.Label.{Label}
use Rattle.vh_kernel.specs.declared.label.Label.TheVariants as label
use Rattle.vh_kernel.specs.declared.occurrence.Agendum.{Agendum}
use Rattle.vh_kernel.specs.declared.occurrence.Agendum.TheVariants as agendum
use Rattle.vh_kernel.specs.Occurrences.{Occurrence, set_by, set_of, change_at, by_made, all_by}
use Rattle.vh_kernel.specs.Outcome.{Made, Outcome, Move, after_made}
use Rattle.vh_kernel.specs.Settle.{settled, settled_control, is_void, is_void_item, without_front}
use Rattle.vh_kernel.specs.State.{State, with_top, without_top, without_item, with_frames}
use Rattle.vh_kernel.specs.Statements.{next_on, performed_outcome, worked_outcome, on_control}
use Rattle.vh_kernel.specs.Step.{telling_outcome, called, started, is_end}
use Rattle.vh_kernel.specs.Table.{TellsNext, Fires, Closes as Closes_row, Row, Step}
use Rattle.vh_orders.specs.declared.phase.Ending.TheVariants as ending
use Rattle.vh_orders.specs.declared.who.Body.{Body}
use Rattle.vh_orders.specs.declared.who.Who.{Who}
use Rattle.vh_orders.specs.declared.who.Who.TheVariants as who_is
use Rattle.vh_orders.specs.Orders.{needs_entry}
use Rattle.vh_proc_simulation.specs.Labels.{Came, Performed, performed, worked}
use Rattle.vh_proc_turn.specs.declared.next.Next.{Next}
use Rattle.vh_proc_turn.specs.declared.next.Next.TheVariants as next
use Rattle.vh_queue.specs.declared.work.Work.{Work}
use Rattle.vh_queue.specs.declared.work.Work.TheVariants as work
use Rattle.vh_kernel_laws.proofs.CallbacksLemmas.{live_by_info, live_low, gone_removed, gone_by}
use Rattle.vh_kernel_laws.proofs.FiringLemmas.{Keeps, Waits, keeps-on, FiredFrom, fired-from, at-top, get-map, fired-frames, tells-once, fires-once, keeps-sets, leaves-none, done-once, closes-in-order, goes-by-removal, removes-for-good}
use Rattle.vh_kernel_laws.proofs.ActingLemmas.{begins-startups, orders-next, passes-next, returns-last}
use Rattle.vh_kernel_laws.proofs.PendingLemmas.{tells-in-turn}
use Rattle.vh_kernel_laws.proofs.Splits.{not_both, path_at}
use Rattle.vh_kernel_laws.proofs.Works.{View, view_of, taken_from, RegistersAs, changes_none, opens_one, registers_one, removes_one, frees_one, Works, works_none, empties, orders_one, tells_one, fires_one, closes_one}
use Rattle.vh_kernel_laws.proofs.WorksLemmas.{first-of, frames-top, frames-settled, made-works}
use Rattle.vh_kernel_laws.specs.Firing.{Frame, standing, frames_in, frames_of}
use Rattle.vh_kernel_laws.specs.Laws.{KeepsFiringLaw, all_need_none}
use Rattle.vh_kernel_laws.specs.Paths.{IsMade, IsPath, end_of}
use Rattle.vh_kernel_laws.specs.Watching.{IsToldTo, all, TellsThoseWhoWatch, FiresTop, ClosesTop, HasFrameOf, FramesStand, IsRegistration, ComesByRegistration, IsSameCallback, StaysAsRegistered}

-- What has occurred stands for no entry of the event queue, as long as no such reason is built: whether it is pending, or told.
abbrev pub IsPlain : Occurrence → Type 0
IsPlain o = (o.only ≡ None) × (needs_entry o.reason ≡ false)

abbrev plain_on : Control → Type 0
plain_on (top.Process p) = Unit {0}
plain_on (top.Pending o) = IsPlain o
plain_on (top.Frame f) = IsPlain f.what
plain_on (top.Activation a) = Unit {0}
plain_on (top.Leave c) = Unit {0}

abbrev pub AllPlain : List Control → Type 0
AllPlain [] = Unit {0}
AllPlain (x ∷ xs) = plain_on x × AllPlain xs

pub record IsPlainState (s : State) : Type 0 where
  pub control : AllPlain s.control
  pub agenda : all_need_none s.agenda

-- Lists.
rest-plain : (xs : List Control) → AllPlain xs → AllPlain (drop 1 xs)
rest-plain [] plain = tt
rest-plain (x ∷ xs) plain = plain.1

rest-needs : (xs : List Agendum) → all_need_none xs → all_need_none (drop 1 xs)
rest-needs [] plain = tt
rest-needs (x ∷ xs) plain = plain.1

front-by : (c : Callbacks Body) (x : Control) (xs : List Control) (b : Bool) → AllPlain (x ∷ xs)
    → AllPlain (without_front (is_void c) xs) → AllPlain (cond b (without_front (is_void c) xs) (x ∷ xs))
front-by c x xs true plain rest = rest
front-by c x xs false plain rest = plain

front-plain : (c : Callbacks Body) (xs : List Control) → AllPlain xs → AllPlain (without_front (is_void c) xs)
front-plain c [] plain = tt
front-plain c (x ∷ xs) plain = front-by c x xs (is_void c x) plain (front-plain c xs plain.1)

items-by : (c : Callbacks Body) (x : Agendum) (xs : List Agendum) (b : Bool) → all_need_none (x ∷ xs)
    → all_need_none (without_front (is_void_item c) xs) → all_need_none (cond b (without_front (is_void_item c) xs) (x ∷ xs))
items-by c x xs true plain rest = rest
items-by c x xs false plain rest = plain

pub items-plain : (c : Callbacks Body) (xs : List Agendum) → all_need_none xs → all_need_none (without_front (is_void_item c) xs)
items-plain c [] plain = tt
items-plain c (x ∷ xs) plain = items-by c x xs (is_void_item c x) plain (items-plain c xs plain.1)

either-items : (b : Bool) (xs ys : List Agendum) → all_need_none xs → all_need_none ys → all_need_none (cond b xs ys)
either-items true xs ys first second = first
either-items false xs ys first second = second

settled-plain : (s : State) → IsPlainState s → IsPlainState (settled s)
settled-plain s plain = record {
  control = front-plain s.world.callbacks s.control plain.control;
  agenda = either-items (is_some (slice_get (settled_control s) 0)) s.agenda (without_front (is_void_item s.world.callbacks) s.agenda)
      plain.agenda (items-plain s.world.callbacks s.agenda plain.agenda);
}

settles-plain : (b : Bool) (u : State) → IsPlainState u → IsPlainState (cond b u (settled u))
settles-plain true u plain = plain
settles-plain false u plain = settled-plain u plain

-- What labels of processes and entries make.
abbrev PlainAll : List Occurrence → Type 0
PlainAll [] = Unit {0}
PlainAll (o ∷ os) = IsPlain o × PlainAll os

both-plain : (xs ys : List Occurrence) → PlainAll xs → PlainAll ys → PlainAll (xs ++ ys)
both-plain [] ys first second = second
both-plain (x ∷ xs) ys first second = (first.0, both-plain xs ys first.1 second)

change-plain : (n : ℕ) (at : Option ℕ) (v : _) → PlainAll (change_at n at v)
change-plain n None v = ((refl, refl), tt)
change-plain n (Some at) v = ((refl, refl), ((refl, refl), tt))

by-plain : (b : Bool) (c : Change) → PlainAll (cond b [] (change_at c.object.id c.object.word c.new))
by-plain true c = tt
by-plain false c = change-plain c.object.id c.object.word c.new

made-plain : (os : List ObjectInfo) (c : Option Change) → PlainAll (by_made os c)
made-plain os None = tt
made-plain os (Some c) = by-plain (has_kind is_event os c.object.id) c

all-plain : (os : List ObjectInfo) (ms : List Did) → PlainAll (all_by os ms)
all-plain os [] = tt
all-plain os (m ∷ ms) = both-plain (by_made os m.change) (all_by os ms) (made-plain os m.change) (all-plain os ms)

pending-plain : (os : List Occurrence) (xs : List Control) → PlainAll os → AllPlain xs → AllPlain (map top.Pending os ++ xs)
pending-plain [] xs plain rest = rest
pending-plain (o ∷ os) xs plain rest = (plain.0, pending-plain os xs plain.1 rest)

-- An outcome that leaves such a state.
abbrev LeavesPlain : Made → Type 0
LeavesPlain m = IsPlainState (after_made m)

left-plain : (out : Outcome) (m : Made) (u : State) → out ≡ Ok m → u ≡ after_made m → AllMade LeavesPlain out → IsPlainState u
left-plain out m u is leaves has = subst IsPlainState (sym leaves) (subst (λ (x : Outcome). AllMade LeavesPlain x) is has)

next-plain : (n : Next) (p : ℕ) (xs : List Control) → AllPlain xs → AllPlain (next_on n p xs)
next-plain next.On p xs plain = (tt, plain)
next-plain next.Waits p xs plain = plain
next-plain next.Ends p xs plain = plain
next-plain (next.Shows n) p xs plain = (tt, plain)
next-plain (next.Calls o) p xs plain = (tt, plain)
next-plain next.Finishes p xs plain = (tt, (tt, plain))
next-plain next.Stops p xs plain = (tt, (tt, plain))

statement-plain : (p : ℕ) (r : Result Performed (Option Fault)) (s : State) → IsPlainState s → AllMade LeavesPlain (performed_outcome r p s)
statement-plain p (Err None) s plain = record { control = plain.control; agenda = plain.agenda }
statement-plain p (Err (Some f)) s plain = tt
statement-plain p (Ok r) s plain = record {
  control = pending-plain (all_by r.came.activity.design.objects r.came.made) (next_on r.next p s.control)
      (all-plain r.came.activity.design.objects r.came.made) (next-plain r.next p s.control plain.control);
  agenda = plain.agenda;
}

on-control-plain : (w : Work) (s : State) → IsPlainState s → IsPlainState (on_control w s)
on-control-plain (work.Evaluate p) s plain = record { control = (tt, plain.control); agenda = plain.agenda }
on-control-plain (work.Drive driver value) s plain = plain
on-control-plain (work.Assign object low value) s plain = plain
on-control-plain (work.Follow object force) s plain = plain
on-control-plain (work.Put object value) s plain = plain
on-control-plain (work.Strobe n) s plain = plain
on-control-plain work.MonitorShow s plain = plain
on-control-plain (work.Call callback) s plain = plain

worked-plain : (r : Result Came (Option Fault)) (s : State) → IsPlainState s → AllMade LeavesPlain (worked_outcome r s)
worked-plain (Err None) s plain = record { control = plain.control; agenda = plain.agenda }
worked-plain (Err (Some f)) s plain = tt
worked-plain (Ok c) s plain = record {
  control = pending-plain (all_by c.activity.design.objects c.made) s.control (all-plain c.activity.design.objects c.made) plain.control;
  agenda = plain.agenda;
}

-- What is told.
next-told : (s : State) (o : Occurrence) (r : State) → TellsNext s o r → IsPlainState s → IsPlain o × IsPlainState r
next-told s o r tells plain = elim tells [
  | inl here ↦
      (let on : AllPlain (top.Pending o ∷ drop 1 s.control) = subst AllPlain (first-of s.control (top.Pending o) here.0.on) plain.control in
      (on.0, subst IsPlainState (sym here.1) (record { control = on.1; agenda = plain.agenda })))
  | inr there ↦
      (let on : all_need_none (agendum.Occurrence there.0 ∷ drop 1 s.agenda) =
      subst all_need_none (first-of s.agenda (agendum.Occurrence there.0) there.1.next) plain.agenda in (
        subst IsPlain (sym there.2) (refl, on.0),
        subst IsPlainState (sym there.3) (record { control = plain.control; agenda = on.1 }),
      ))
]

telling-plain : (o : Occurrence) (r : State) → IsPlain o → IsPlainState r → AllMade LeavesPlain (telling_outcome o r)
telling-plain o r told plain =
    unless-holds (AllMade LeavesPlain) (nat_le MOST_FRAMES (length r.world.frames)) fault.F1 _ (λ _. tt)
    (λ _. unless-holds (AllMade LeavesPlain) (nat_lt MOST_NUMBERS r.occurrence) fault.F3 _ (λ _. tt)
    (λ _. record { control = (told, plain.control); agenda = plain.agenda }))

-- What begins.
called-plain : (r : Option Registration) (b : Option Body) (c : ℕ) (what : Occurrence) (s : State) → IsPlainState s
    → IsPlainState (called r b c what s)
called-plain None b c what s plain = plain
called-plain (Some r) None c what s plain = plain
called-plain (Some r) (Some b) c what s plain = record { control = (tt, plain.control); agenda = plain.agenda }

started-plain : (script : Option ScriptData) (k : ℕ) (s : State) → IsPlainState s → IsPlainState (started script k s)
started-plain None k s plain = plain
started-plain (Some script) k s plain = record { control = (tt, plain.control); agenda = plain.agenda }

popped-plain : (s : State) → IsPlainState s → IsPlainState (without_top s)
popped-plain s plain = record { control = rest-plain s.control plain.control; agenda = plain.agenda }

acting-plain : (a : Activation) (s u : State) (g : _) (l : Label) → IsPlainState s → IsActing a s g (l, u) → IsPlainState u
acting-plain a s u g l plain (returns vars is) =
    subst (λ (m : Move). IsPlainState m.1) (sym is) (record { control = plain.control; agenda = plain.agenda })
acting-plain a s u g l plain (passes vars further is) =
    subst (λ (m : Move). IsPlainState m.1) (sym is) (record { control = (tt, plain.control); agenda = plain.agenda })
acting-plain a s u g l plain (orders vars o further is) =
    subst (λ (m : Move). IsPlainState m.1) (sym is) (record { control = (tt, plain.control); agenda = plain.agenda })

row-plain : (s u : State) (l : Label) → Row s l u → IsPlainState s → IsPlainState u
row-plain s u (label.Startup k) row plain =
    subst IsPlainState (sym row.1)
    (started-plain (slice_get s.world.scripts (k - 1)) k (without_item s)
    (record { control = plain.control; agenda = rest-needs s.agenda plain.agenda }))
row-plain s u (label.Do who order answer) row plain =
    acting-plain row.who (without_top s) u row.given (label.Do who order answer) (popped-plain s plain)
    (subst (λ (m : Move). IsActing row.who (without_top s) row.given m) row.makes
    (acts (slice_get s.world.scripts row.who.script) (slice_get s.world.variables row.who.script) row.who (without_top s) row.given))
row-plain s u (label.Pass who) row plain =
    acting-plain row.who (without_top s) u row.given (label.Pass who) (popped-plain s plain)
    (subst (λ (m : Move). IsActing row.who (without_top s) row.given m) row.makes
    (acts (slice_get s.world.scripts row.who.script) (slice_get s.world.variables row.who.script) row.who (without_top s) row.given))
row-plain s u (label.Ret who) row plain =
    acting-plain row.who (without_top s) u row.given (label.Ret who) (popped-plain s plain)
    (subst (λ (m : Move). IsActing row.who (without_top s) row.given m) row.makes
    (acts (slice_get s.world.scripts row.who.script) (slice_get s.world.variables row.who.script) row.who (without_top s) row.given))
row-plain s u (label.Occ n reason object) row plain =
    let told = next-told s row.what row.rest row.next plain in
    left-plain _ row.made u row.makes row.leaves (telling-plain row.what row.rest told.0 told.1)
row-plain s u (label.Fire n c) row plain =
    let on : AllPlain (top.Frame row.frame ∷ drop 1 s.control) =
    subst AllPlain (first-of s.control (top.Frame row.frame) row.on.on) plain.control in
    let before : State = with_top (top.Frame row.frame) (with_frames (without_in_top c s.world.frames) (without_top s)) in
    subst IsPlainState (sym row.leaves)
    (called-plain (info_of c s.world.callbacks) (body_of c s.world.callbacks) c row.frame.what before
    (record { control = on; agenda = plain.agenda }))
row-plain s u (label.Done n) row plain =
    subst IsPlainState (sym row.leaves) (record { control = rest-plain s.control plain.control; agenda = plain.agenda })
row-plain s u (label.Activate r) row plain = subst IsPlainState (sym row.1) (record { control = plain.control; agenda = plain.agenda })
row-plain s u (label.Advance time) row plain = subst IsPlainState (sym row.2) (record { control = plain.control; agenda = plain.agenda })
row-plain s u (label.Pick n shown) row plain =
    left-plain _ row.made u row.makes row.leaves.1
    (worked-plain (worked row.entry.work _) (on_control row.entry.work _)
    (on-control-plain row.entry.work _ (record { control = plain.control; agenda = plain.agenda })))
row-plain s u (label.Stmt p shown) row plain =
    left-plain _ row.made u row.makes row.leaves.1 (statement-plain p (performed p s.world.activity) (without_top s) (popped-plain s plain))
row-plain s u (label.Finish c) row plain = subst IsPlainState (sym row.1) (record { control = ((refl, refl), tt); agenda = tt })
row-plain s u (label.End (ending.Cause c)) row plain =
    subst IsPlainState (sym row.3) (record { control = plain.control; agenda = plain.agenda })
row-plain s u (label.End (ending.Fault f)) row plain =
    subst IsPlainState (sym row.1) (record { control = plain.control; agenda = plain.agenda })

step-plain : (s : State) (m : Move) → IsMade s m → IsPlainState s → IsPlainState m.1
step-plain s m made plain =
    let table : Step s m.0 m.1 = steps-by-table s m.1 made.choice m.0 made.below made.step in
    subst IsPlainState (sym table.settles) (settles-plain (is_end m.0) table.before (row-plain s table.before m.0 table.row plain))

plain-on : (s : State) (moves : List Move) → IsPath s moves → IsPlainState s → IsPlainState (end_of s moves)
plain-on s [] path plain = plain
plain-on s (m ∷ moves) path plain = plain-on m.1 moves path.1 (step-plain s m path.0 plain)

-- The occurrence of a frame is plain, so that it is told to all who watch.
frame-plain : (xs : List Control) (sets : List (List ℕ)) (i : ℕ) (f : Frame) → AllPlain xs → slice_get (frames_in xs sets) i ≡ Some f
    → IsPlain f.what
frame-plain [] sets i f plain at = absurd (cc)
frame-plain (top.Process p ∷ xs) sets i f plain at = frame-plain xs sets i f plain.1 at
frame-plain (top.Pending o ∷ xs) sets i f plain at = frame-plain xs sets i f plain.1 at
frame-plain (top.Frame g ∷ xs) sets zero f plain at =
    let same : standing g sets ≡ f = cc in subst IsPlain (ap (λ (x : Frame). x.what) same) plain.0
frame-plain (top.Frame g ∷ xs) sets (suc i) f plain at = frame-plain xs (drop 1 sets) i f plain.1 at
frame-plain (top.Activation a ∷ xs) sets i f plain at = frame-plain xs sets i f plain.1 at
frame-plain (top.Leave c ∷ xs) sets i f plain at = frame-plain xs sets i f plain.1 at

plain-set : (what : Occurrence) (s : State) → IsPlain what → IsSound s.world.callbacks → IsToldTo what s (set_of what s.world.callbacks)
plain-set what s plain sound =
    all plain.1 (λ c. ap (λ (only : Option ℕ). is_among c (set_by only what s.world.callbacks)) plain.0
    ∙ matching_is_set s.world.callbacks what.reason what.object c sound)

tells-those-who-watch : (s : State) (moves : List Move) → IsPath s moves → Keeps [] (view_of s) → IsPlainState s → TellsThoseWhoWatch moves
tells-those-who-watch s moves path keeps plain before behind m n what is telling =
    let parts = path_at s moves before (m ∷ behind) path is in
    let u : State = end_of s before in
    let there : Keeps (before ++ m ∷ []) (view_of m.1) = keeps-on before u (m ∷ []) (parts.1.0, tt) (keeps-on [] s before parts.0 keeps) in
    let so : IsPlainState m.1 = step-plain u m parts.1.0 (plain-on s before parts.0 plain) in
    plain-set what m.1 (frame-plain m.1.control m.1.world.frames 0 _ so.control telling.frame) there.sound

-- A fire calls.
record CalledAs (live : Option (Live Body)) (c : ℕ) (what : Occurrence) (s : State) : Type 0 where
  registration : Registration
  body : Body
  activation : Activation
  registered : option_map (λ (l : Live Body). l.registration) live ≡ Some registration
  calls : option_map (λ (l : Live Body). l.body) live ≡ Some body
  begins : (called (option_map (λ (l : Live Body). l.registration) live) (option_map (λ (l : Live Body). l.body) live) c what s).control
      ≡ top.Activation activation ∷ s.control
  who : activation.who ≡ who_is.Callback c
  script : activation.script ≡ body.script
  at : activation.at ≡ body.start
  sees : activation.seen ≡ first_seen registration what s.world.activity.queue.time

called-as : (live : Option (Live Body)) (c : ℕ) (what : Occurrence) (s : State) → is_some live ≡ true → CalledAs live c what s
called-as None c what s alive = absurd (cc)
called-as (Some l) c what s alive = record {
  registration = l.registration;
  body = l.body;
  activation = record {
    who = who_is.Callback c;
    script = l.body.script;
    at = l.body.start;
    seen = first_seen l.registration what s.world.activity.queue.time;
  };
  registered = refl;
  calls = refl;
  begins = refl;
  who = refl;
  script = refl;
  at = refl;
  sees = refl;
}

fires-top : (s : State) (moves : List Move) → IsPath s moves → Keeps [] (view_of s) → FiresTop s moves
fires-top s moves path keeps before behind n c t is =
    let m : Move = (label.Fire n c, t) in
    let parts = path_at s moves before (m ∷ behind) path is in
    let u : State = end_of s before in
    let there : Keeps before (view_of u) = keeps-on [] s before parts.0 keeps in
    let from : FiredFrom u n c = fired-from u n c (view_of t) (made-works u m parts.1.0) in
    let waits : Waits before u.world.callbacks from.frame.number c = (there.stands 0 from.frame (at-top u from.frame from.rest from.on)).waits c from.among in
    let made : IsMade u m = parts.1.0 in
    let table : Step u (label.Fire n c) t = steps-by-table u t made.choice (label.Fire n c) made.below made.step in
    let row : Fires u n c table.before = table.row in
    let fired : State = with_top (top.Frame row.frame) (with_frames (without_in_top c u.world.frames) (without_top u)) in
    let called_so : CalledAs (live_at c u.world.callbacks.live) c row.frame.what fired = called-as (live_at c u.world.callbacks.live) c row.frame.what fired waits.live in
    let begins : table.before.control ≡ top.Activation called_so.activation ∷ u.control =
    ap (λ (x : State). x.control) row.leaves ∙ called_so.begins
    ∙ ap (λ (xs : List Control). top.Activation called_so.activation ∷ xs) (sym (first-of u.control (top.Frame row.frame) row.on.on)) in
    record {
      told = row.frame;
      registration = called_so.registration;
      body = called_so.body;
      activation = called_so.activation;
      on_top = row.on.on;
      number = sym row.number;
      registered = called_so.registered;
      calls = called_so.calls;
      begins = ap (λ (x : State). x.control) table.settles ∙ ap (λ (xs : List Control). without_front (is_void table.before.world.callbacks) xs) begins;
      who = called_so.who;
      script = called_so.script;
      at = called_so.at;
      sees = called_so.sees;
    }

-- An occurrence is done on top.
closes-top : (s : State) (moves : List Move) → IsPath s moves → ClosesTop s moves
closes-top s moves path before behind n t is =
    let m : Move = (label.Done n, t) in
    let u : State = end_of s before in
    let made : IsMade u m = (path_at s moves before (m ∷ behind) path is).1.0 in
    let table : Step u (label.Done n) t = steps-by-table u t made.choice (label.Done n) made.below made.step in
    let row : Closes_row u n table.before = table.row in
    record {
      told = row.frame;
      on_top = row.on.on;
      number = sym row.number;
      gone = ap frames_of table.settles
          ∙ frames-settled table.before.world.callbacks table.before.control table.before.world.frames
          ∙ ap frames_of row.leaves
          ∙ ap (λ (fs : List Frame). drop 1 fs) (sym (frames-top u (top.Frame row.frame) row.on.on));
    }

-- Frames stand.
frame-kept : (n : ℕ) (s t : State) → frames_of t ≡ frames_of s → HasFrameOf n s → HasFrameOf n t
frame-kept n s t same (i, f, at, of) = (i, f, ap (λ (fs : List Frame). slice_get fs i) same ∙ at, of)

abbrev Goes : ℕ → Move → Type 0
Goes n m = HasFrameOf n m.1 ⊎ (m.0 ≡ label.Done n) ⊎ ((cause : Cause) × (m.0 ≡ label.Finish cause))

closed-frame : (n k : ℕ) (s : State) (m : Move) (f : Frame) (rest : List Frame) → m.0 ≡ label.Done k → frames_of s ≡ f ∷ rest → k ≡ f.number
    → frames_of m.1 ≡ rest → (i : ℕ) (g : Frame) → slice_get (f ∷ rest) i ≡ Some g → g.number ≡ n → Goes n m
closed-frame n k s m f rest is on number after zero g at of =
    let same : f ≡ g = cc in inr (inl (is ∙ ap label.Done (number ∙ ap (λ (x : Frame). x.number) same ∙ of)))
closed-frame n k s m f rest is on number after (suc i) g at of = inl (i, g, ap (λ (fs : List Frame). slice_get fs i) after ∙ at, of)

frame-goes : (n : ℕ) (s : State) (m : Move) → Works s m.0 (view_of m.1) → HasFrameOf n s → Goes n m
frame-goes n s m (works_none quiet is) has = inl (frame-kept n s m.1 (ap (λ (x : View). x.frames) is) has)
frame-goes n s m (empties quiet is at_finish) has = inr (inr at_finish)
frame-goes n s m (orders_one who o a is (changes_none plain after)) has = inl (frame-kept n s m.1 (ap (λ (x : View). x.frames) after) has)
frame-goes n s m (orders_one who o a is (opens_one h x gives fresh finds after)) has =
    inl (frame-kept n s m.1 (ap (λ (y : View). y.frames) after) has)
frame-goes n s m (orders_one who o a is (registers_one h r b gives fresh room asks after)) has =
    inl (frame-kept n s m.1 (ap (λ (y : View). y.frames) after) has)
frame-goes n s m (orders_one who o a is (removes_one c h by one names after)) (i, f, at, of) =
    inl (i, taken_from c f, ap (λ (x : View). slice_get x.frames i) after ∙ get-map c i (frames_of s) f at, of)
frame-goes n s m (orders_one who o a is (frees_one h by one live after)) has =
    inl (frame-kept n s m.1 (ap (λ (y : View). y.frames) after) has)
frame-goes n s m (tells_one k what is number after) (i, f, at, of) =
    inl (suc i, f, ap (λ (x : View). slice_get x.frames (suc i)) after ∙ at, of)
frame-goes n s m (fires_one k c f rest is on number among after) (i, g, at, of) =
    let still = fired-frames c s f rest on n i g (ap (λ (fs : List Frame). slice_get fs i) (sym on) ∙ at) of in
    inl (still.0, still.1, ap (λ (x : View). slice_get x.frames still.0) after ∙ still.2, still.3)
frame-goes n s m (closes_one k f rest is on number none after) (i, g, at, of) =
    closed-frame n k s m f rest is on number (ap (λ (x : View). x.frames) after) i g
    (ap (λ (fs : List Frame). slice_get fs i) (sym on) ∙ at) of

frames-stand : (s : State) (moves : List Move) → IsPath s moves → FramesStand s moves
frames-stand s moves path before behind m n is has =
    let parts = path_at s moves before (m ∷ behind) path is in
    frame-goes n (end_of s before) m (made-works (end_of s before) m parts.1.0) has

-- A callback comes by a registration.
came-alive : (c : ℕ) (a b : Callbacks Body) → is_live c a ≡ false → is_live c b ≡ true → b ≡ a → ⊥
came-alive c a b gone alive same = not_both (is_live c b) alive (ap (λ (x : Callbacks Body). is_live c x) same ∙ gone)

come-by : (b : Bool) (c h : ℕ) (s t : State) (l : Label) (who : Who) (o : Order) (a : Answer) (r : Registration) (body : Body)
    → nat_eq c s.world.callbacks.next ≡ b → l ≡ label.Do who o a → a ≡ answer.Handle h → RegistersAs s o h r body
    → t.world.callbacks ≡ registered r body s.world.callbacks
    → thing_at h t.world.handles ≡ Some (thing.Callback s.world.callbacks.next)
    → is_live c s.world.callbacks ≡ false → is_live c t.world.callbacks ≡ true → IsRegistration c l t
come-by true c h s t l who o a r body same is gives asks after names gone alive = record {
  who = who;
  reason = asks.reason;
  watched = asks.watched;
  time = asks.time;
  calls = asks.calls;
  user_data = asks.number;
  handle = h;
  is = is ∙ ap (λ (x : Order). label.Do who x a) asks.asks ∙ ap (λ (x : Answer). label.Do who (order.Register asks.reason asks.watched asks.time asks.calls asks.number) x) gives;
  names = names ∙ ap (λ (x : ℕ). Some (thing.Callback x)) (sym (eqb-true c s.world.callbacks.next same));
}
come-by false c h s t l who o a r body apart is gives asks after names gone alive =
    absurd (not_both (is_live c t.world.callbacks) alive
    (ap (λ (x : Callbacks Body). is_live c x) after
    ∙ live_by_info c s.world.callbacks (registered r body s.world.callbacks) (keeps_registered s.world.callbacks r body c apart).0 ∙ gone))

works-come : (s : State) (m : Move) (c : ℕ) → Works s m.0 (view_of m.1) → IsSound s.world.callbacks → is_live c s.world.callbacks ≡ false
    → is_live c m.1.world.callbacks ≡ true → IsRegistration c m.0 m.1
works-come s m c (works_none quiet is) sound gone alive =
    absurd (came-alive c s.world.callbacks m.1.world.callbacks gone alive (ap (λ (x : View). x.callbacks) is))
works-come s m c (empties quiet is at_finish) sound gone alive =
    absurd (came-alive c s.world.callbacks m.1.world.callbacks gone alive (ap (λ (x : View). x.callbacks) is))
works-come s m c (orders_one who o a is (changes_none plain after)) sound gone alive =
    absurd (came-alive c s.world.callbacks m.1.world.callbacks gone alive (ap (λ (x : View). x.callbacks) after))
works-come s m c (orders_one who o a is (opens_one h x gives fresh finds after)) sound gone alive =
    absurd (came-alive c s.world.callbacks m.1.world.callbacks gone alive (ap (λ (y : View). y.callbacks) after))
works-come s m c (orders_one who o a is (registers_one h r b gives fresh room asks after)) sound gone alive =
    come-by (nat_eq c s.world.callbacks.next) c h s m.1 m.0 who o a r b refl is gives asks (ap (λ (x : View). x.callbacks) after)
    (ap (λ (x : View). thing_at h x.handles) after ∙ same_more h (thing.Callback s.world.callbacks.next) s.world.handles.live) gone alive
works-come s m c (orders_one who o a is (removes_one d h by one names after)) sound gone alive =
    absurd (not_both (is_live c m.1.world.callbacks) alive
    (ap (λ (x : View). is_live c x.callbacks) after ∙ gone_by (nat_eq c d) c d s.world.callbacks refl sound gone))
works-come s m c (orders_one who o a is (frees_one h by one live after)) sound gone alive =
    absurd (came-alive c s.world.callbacks m.1.world.callbacks gone alive (ap (λ (y : View). y.callbacks) after))
works-come s m c (tells_one n what is number after) sound gone alive =
    absurd (came-alive c s.world.callbacks m.1.world.callbacks gone alive (ap (λ (x : View). x.callbacks) after))
works-come s m c (fires_one n d f rest is on number among after) sound gone alive =
    absurd (came-alive c s.world.callbacks m.1.world.callbacks gone alive (ap (λ (x : View). x.callbacks) after))
works-come s m c (closes_one n f rest is on number none after) sound gone alive =
    absurd (came-alive c s.world.callbacks m.1.world.callbacks gone alive (ap (λ (x : View). x.callbacks) after))

comes-by-registration : (s : State) (moves : List Move) → IsPath s moves → Keeps [] (view_of s) → ComesByRegistration s moves
comes-by-registration s moves path keeps before behind m c is gone alive =
    let parts = path_at s moves before (m ∷ behind) path is in
    let u : State = end_of s before in
    works-come u m c (made-works u m parts.1.0) (keeps-on [] s before parts.0 keeps).sound gone alive

-- And keeps what it was registered with.
same-callbacks : (c : ℕ) (s t : State) → t.world.callbacks ≡ s.world.callbacks → IsSameCallback c s t
same-callbacks c s t same = record {
  registration = ap (λ (x : Callbacks Body). info_of c x) same;
  body = ap (λ (x : Callbacks Body). body_of c x) same;
}

kept-by : (b : Bool) (c d : ℕ) (s t : State) → nat_eq c d ≡ b → IsSound s.world.callbacks → t.world.callbacks ≡ removed d s.world.callbacks
    → is_live c t.world.callbacks ≡ true → IsSameCallback c s t
kept-by true c d s t same sound after alive =
    absurd (not_both (is_live c t.world.callbacks) alive
    (ap (λ (x : Callbacks Body). is_live c x) after
    ∙ subst (λ (k : ℕ). is_live c (removed k s.world.callbacks) ≡ false) (eqb-true c d same) (gone_removed c s.world.callbacks sound)))
kept-by false c d s t apart sound after alive =
    let kept = keeps_removed s.world.callbacks d c (ne_eqb d c (λ same. not_both (nat_eq c d) (eq-eqb c d (sym same)) apart)) in record {
      registration = ap (λ (x : Callbacks Body). info_of c x) after ∙ kept.0;
      body = ap (λ (x : Callbacks Body). body_of c x) after ∙ kept.1;
    }

works-same : (s : State) (m : Move) (c : ℕ) → Works s m.0 (view_of m.1) → IsSound s.world.callbacks → is_live c s.world.callbacks ≡ true
    → is_live c m.1.world.callbacks ≡ true → IsSameCallback c s m.1
works-same s m c (works_none quiet is) sound was alive = same-callbacks c s m.1 (ap (λ (x : View). x.callbacks) is)
works-same s m c (empties quiet is at_finish) sound was alive = same-callbacks c s m.1 (ap (λ (x : View). x.callbacks) is)
works-same s m c (orders_one who o a is (changes_none plain after)) sound was alive =
    same-callbacks c s m.1 (ap (λ (x : View). x.callbacks) after)
works-same s m c (orders_one who o a is (opens_one h x gives fresh finds after)) sound was alive =
    same-callbacks c s m.1 (ap (λ (y : View). y.callbacks) after)
works-same s m c (orders_one who o a is (registers_one h r b gives fresh room asks after)) sound was alive =
    let low = live_low c s.world.callbacks sound was in
    let kept = keeps_registered s.world.callbacks r b c (ne_eqb c s.world.callbacks.next (λ same. omega arith)) in record {
      registration = ap (λ (x : View). info_of c x.callbacks) after ∙ kept.0;
      body = ap (λ (x : View). body_of c x.callbacks) after ∙ kept.1;
    }
works-same s m c (orders_one who o a is (removes_one d h by one names after)) sound was alive =
    kept-by (nat_eq c d) c d s m.1 refl sound (ap (λ (x : View). x.callbacks) after) alive
works-same s m c (orders_one who o a is (frees_one h by one live after)) sound was alive =
    same-callbacks c s m.1 (ap (λ (y : View). y.callbacks) after)
works-same s m c (tells_one n what is number after) sound was alive = same-callbacks c s m.1 (ap (λ (x : View). x.callbacks) after)
works-same s m c (fires_one n d f rest is on number among after) sound was alive =
    same-callbacks c s m.1 (ap (λ (x : View). x.callbacks) after)
works-same s m c (closes_one n f rest is on number none after) sound was alive =
    same-callbacks c s m.1 (ap (λ (x : View). x.callbacks) after)

stays-as-registered : (s : State) (moves : List Move) → IsPath s moves → Keeps [] (view_of s) → StaysAsRegistered s moves
stays-as-registered s moves path keeps before behind m c is was alive =
    let parts = path_at s moves before (m ∷ behind) path is in
    let u : State = end_of s before in
    works-same u m c (made-works u m parts.1.0) (keeps-on [] s before parts.0 keeps).sound was alive

pub firing-law : (s : State) (moves : List Move) → IsPath s moves → Keeps [] (view_of s) → IsPlainState s → KeepsFiringLaw s moves
firing-law s moves path keeps plain = record {
  told_once = tells-once s moves path;
  fires_once = fires-once s moves path keeps;
  sets_kept = keeps-sets s moves path keeps;
  none_left = leaves-none s moves path keeps;
  done_once = done-once s moves path keeps;
  in_order = closes-in-order s moves path keeps;
  goes_by_removal = goes-by-removal s moves path keeps;
  removes_for_good = removes-for-good s moves path keeps;
  told_to_watchers = tells-those-who-watch s moves path keeps plain;
  fires_top = fires-top s moves path keeps;
  closes_top = closes-top s moves path;
  frames_stand = frames-stand s moves path;
  told_in_turn = tells-in-turn s moves path;
  begins_startups = begins-startups s moves path;
  orders_next = orders-next s moves path;
  passes_next = passes-next s moves path;
  returns_last = returns-last s moves path;
  comes_by_registration = comes-by-registration s moves path keeps;
  stays_as_registered = stays-as-registered s moves path keeps;
}
