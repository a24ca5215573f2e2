-- Each step of the machine is one of the six kinds.
use Rattle.std.proofs.Common.{◌≡◌, ℕ, zero, suc, ◌+◌, ◌-◌, List, [], ◌∷◌, ◌++◌, drop, map, length, Bool, true, false, cond, Option, Some, None, Result, Ok, Err, slice_get, nat_eq, nat_lt, nat_le, refl, sym, ap, subst, ◌∙◌, ◌⊎◌, inl, inr}
use Rattle.std.proofs.lemmas.Bool.{eq-eqb}
use Rattle.vh_base.specs.declared.limits.TheConstants.{MOST_FRAMES, MOST_NUMBERS}
use Rattle.vh_base.specs.declared.faults.Fault.{Fault}
use Rattle.vh_base.specs.declared.faults.Fault.TheVariants as fault
use Rattle.vh_base.specs.declared.orders.Answer.{Answer}
use Rattle.vh_base.specs.declared.orders.Answer.TheVariants as answer
use Rattle.vh_base.specs.declared.orders.Order.{Order}
use Rattle.vh_base.proofs.ChecksLemmas.{unless-holds}
use Rattle.vh_app.specs.Script.{ScriptData}
use Rattle.vh_callbacks.specs.declared.registration.Registration.{Registration}
use Rattle.vh_callbacks.specs.Callbacks.{Callbacks, info_of, body_of, registered, removed}
use Rattle.vh_kernel.specs.Activations.{Activation}
use Rattle.vh_orders.specs.declared.who.Body.{Body}
use Rattle.vh_kernel.specs.declared.control.Control.{Control}
use Rattle.vh_kernel.specs.declared.control.Control.TheVariants as top
use Rattle.vh_queue.specs.declared.work.Work.{Work}
use Rattle.vh_queue.specs.declared.work.Work.TheVariants as work
use Rattle.vh_base.specs.declared.orders.Object.{Object}
use Rattle.vh_base.specs.declared.words.Reason.{Reason}
use Rattle.vh_handles.specs.declared.handles.Thing.{Thing}
use Rattle.vh_handles.specs.declared.handles.Thing.TheVariants as thing
use Rattle.vh_orders.specs.declared.phase.Ending.TheVariants as ending
use Rattle.vh_kernel.specs.declared.label.Label.{Label}
use Rattle.vh_kernel.specs.declared.label.Label.TheVariants as label
use Rattle.vh_kernel.specs.declared.occurrence.Told.{Told}
use Rattle.vh_handles.specs.Handles.{opened, freed}
use Rattle.vh_callbacks.specs.Marks.{is_among, without_number}
use Rattle.vh_kernel.specs.Occurrences.{Occurrence, is_empty, set_of}
use Rattle.vh_orders.specs.Orders.{Given, Effect, answered, effect_of, name_meant, thing_named, Means, of_name, of_relation, of_address, object_watched, needs_object}
use Rattle.vh_kernel.specs.Outcome.{Made, Outcome, Move, after_made}
use Rattle.vh_kernel.specs.Settle.{settled, settled_control, is_void, without_front}
use Rattle.vh_kernel.specs.State.{State, with_top, without_top, without_item, with_frames, with_variables}
use Rattle.vh_kernel.specs.Statements.{next_on, performed_outcome, worked_outcome, on_control, work_outcome}
use Rattle.vh_proc_simulation.specs.Labels.{Came, Performed, performed, worked}
use Rattle.vh_proc_turn.specs.declared.next.Next.{Next}
use Rattle.vh_proc_turn.specs.declared.next.Next.TheVariants as next
use Rattle.vh_kernel.specs.Step.{Fits, FitsAnswer, telling_outcome, called, started, is_end}
use Rattle.vh_kernel.specs.Table.{HasTop, TellsNext, Row, Step}
use Rattle.vh_orders.proofs.OrdersLemmas.{TellsOnly, tells_done, tells_null, tells_number, tells_text, IsForm, refuses, answers_only, opens_object, registers, removes, frees, effect-form}
use Rattle.vh_kernel.proofs.StepLemmas.{AllMade, IsActing, returns, passes, orders, acts}
use Rattle.vh_kernel.proofs.TableLemmas.{steps-by-table, tells-number}
use Rattle.vh_dispatch.specs.Frames.{top_set, without_in_top}
use Rattle.vh_orders.specs.World.{World}
use Rattle.vh_kernel_laws.specs.Firing.{Frame, standing, frames_in, frames_of}
use Rattle.vh_kernel_laws.specs.HandleLaw.{FindsObject}
use Rattle.vh_kernel_laws.specs.Paths.{IsMade}
use Rattle.vh_kernel_laws.proofs.DeedsLemmas.{no-number-frees, number-frees-none}
use Rattle.vh_kernel_laws.proofs.Splits.{or_right}
use Rattle.vh_kernel_laws.proofs.Works.{View, view_of, taken_from, IsPlain, RegistersAs, Changes, changes_none, opens_one, registers_one, removes_one, frees_one, Works, works_none, empties, orders_one, tells_one, fires_one, closes_one}

-- A list with this first is that and the rest.
pub first-of : {X : Type 0} (xs : List X) (x : X) → slice_get xs 0 ≡ Some x → xs ≡ x ∷ drop 1 xs
first-of [] x is = absurd (cc)
first-of (y ∷ ys) x is = let same : y ≡ x = cc in ap (λ (z : _). z ∷ ys) same

pub frames-top : (s : State) (x : Control) → slice_get s.control 0 ≡ Some x
    → frames_of s ≡ frames_in (x ∷ drop 1 s.control) s.world.frames
frames-top s x is = ap (λ (xs : List Control). frames_in xs s.world.frames) (first-of s.control x is)

-- The same view with other frames.
framed : (v : View) (fs gs : List Frame) → fs ≡ gs
    → (let a : View = record v { frames = fs } in a) ≡ (let b : View = record v { frames = gs } in b)
framed v fs gs e = ap (λ (hs : List Frame). (let a : View = record v { frames = hs } in a)) e

-- What isn't a frame is taken off without a change.
popped-view : (s : State) (x : Control) → slice_get s.control 0 ≡ Some x
    → frames_in (x ∷ drop 1 s.control) s.world.frames ≡ frames_in (drop 1 s.control) s.world.frames
    → view_of (without_top s) ≡ view_of s
popped-view s x is plain =
    framed (view_of s) (frames_in (drop 1 s.control) s.world.frames) (frames_of s) (sym (frames-top s x is ∙ plain))

-- Settling.
void-by : (b : Bool) (xs ys : List Control) (sets : List (List ℕ)) → frames_in xs sets ≡ frames_in ys sets
    → frames_in (cond b xs ys) sets ≡ frames_in ys sets
void-by true xs ys sets same = same
void-by false xs ys sets same = refl

pub frames-settled : (c : Callbacks Body) (xs : List Control) (sets : List (List ℕ))
    → frames_in (without_front (is_void c) xs) sets ≡ frames_in xs sets
frames-settled c [] sets = refl
frames-settled c (top.Process p ∷ xs) sets = refl
frames-settled c (top.Pending o ∷ xs) sets =
    void-by (is_empty (set_of o c)) (without_front (is_void c) xs) (top.Pending o ∷ xs) sets (frames-settled c xs sets)
frames-settled c (top.Frame f ∷ xs) sets = refl
frames-settled c (top.Activation a ∷ xs) sets = refl
frames-settled c (top.Leave cause ∷ xs) sets = refl

settled-view : (s : State) → view_of (settled s) ≡ view_of s
settled-view s = framed (view_of s) (frames_in (settled_control s) s.world.frames) (frames_of s)
    (frames-settled s.world.callbacks s.control s.world.frames)

settles-view : (b : Bool) (u : State) → view_of (cond b u (settled u)) ≡ view_of u
settles-view true u = refl
settles-view false u = settled-view u

-- What was made pending is no frame.
frames-pending : (os : List Occurrence) (xs : List Control) (sets : List (List ℕ))
    → frames_in (map top.Pending os ++ xs) sets ≡ frames_in xs sets
frames-pending [] xs sets = refl
frames-pending (o ∷ os) xs sets = frames-pending os xs sets

made-view : (m : Made) → view_of (after_made m) ≡ view_of m.state
made-view m = framed (view_of m.state) (frames_in (map top.Pending m.occurrences ++ m.state.control) m.state.world.frames)
    (frames_of m.state) (frames-pending m.occurrences m.state.control m.state.world.frames)

-- A statement and a piece of work leave the view.
abbrev HasView : View → Made → Type 0
HasView v m = view_of m.state ≡ v

-- What a process does next is no frame.
frames-next : (n : Next) (p : ℕ) (xs : List Control) (sets : List (List ℕ)) → frames_in (next_on n p xs) sets ≡ frames_in xs sets
frames-next next.On p xs sets = refl
frames-next next.Waits p xs sets = refl
frames-next next.Ends p xs sets = refl
frames-next (next.Shows n) p xs sets = refl
frames-next (next.Calls o) p xs sets = refl
frames-next next.Finishes p xs sets = refl
frames-next next.Stops p xs sets = refl

statement-view : (p : ℕ) (r : Result Performed (Option Fault)) (s : State) → AllMade (HasView (view_of s)) (performed_outcome r p s)
statement-view p (Err None) s = refl
statement-view p (Err (Some f)) s = tt
statement-view p (Ok r) s =
    framed (view_of s) (frames_in (next_on r.next p s.control) s.world.frames) (frames_of s) (frames-next r.next p s.control s.world.frames)

-- What an entry puts on control is none.
on-control-view : (w : Work) (s : State) → view_of (on_control w s) ≡ view_of s
on-control-view (work.Evaluate p) s = refl
on-control-view (work.Drive driver value) s = refl
on-control-view (work.Assign object low value) s = refl
on-control-view (work.Follow object force) s = refl
on-control-view (work.Put object value) s = refl
on-control-view (work.Strobe n) s = refl
on-control-view work.MonitorShow s = refl
on-control-view (work.Call callback) s = refl

worked-view : (r : Result Came (Option Fault)) (s : State) → AllMade (HasView (view_of s)) (worked_outcome r s)
worked-view (Err None) s = refl
worked-view (Err (Some f)) s = tt
worked-view (Ok c) s = refl

work-view : (w : Work) (s : State) → AllMade (HasView (view_of s)) (work_outcome w s)
work-view w s =
    let P : View → Type 0 = λ v. AllMade (HasView v) (work_outcome w s) in
    subst P (on-control-view w s) (worked-view (worked w s.world.activity) (on_control w s))

left-view : (v : View) (out : Outcome) (m : Made) (u : State) → out ≡ Ok m → u ≡ after_made m → AllMade (HasView v) out → view_of u ≡ v
left-view v out m u is leaves has =
    let there : view_of m.state ≡ v = subst (λ (x : Outcome). AllMade (HasView v) x) is has in
    ap view_of leaves ∙ made-view m ∙ there

-- An occurrence that is told next.
tells-view : (s : State) (o : Occurrence) (r : State) → TellsNext s o r → view_of r ≡ view_of s
tells-view s o r tells = elim tells [
  | inl here ↦ ap view_of here.1 ∙ popped-view s (top.Pending o) here.0.on refl
  | inr next ↦ ap view_of next.3
]

-- The view with one more frame.
abbrev pub with_telling : ℕ → Occurrence → View → View
with_telling n what v = record v {
  frames = record { number = n; what = what; left = set_of what v.callbacks } ∷ v.frames;
  occurrence = n + 1;
}

abbrev Tells : Occurrence → State → Made → Type 0
Tells o r m = view_of m.state ≡ with_telling r.occurrence o (view_of r)

telling-view : (o : Occurrence) (r : State) → AllMade (Tells o r) (telling_outcome o r)
telling-view o r =
    unless-holds (AllMade (Tells o r)) (nat_le MOST_FRAMES (length r.world.frames)) fault.F1 _ (λ _. tt)
    (λ _. unless-holds (AllMade (Tells o r)) (nat_lt MOST_NUMBERS r.occurrence) fault.F3 _ (λ _. tt) (λ _. refl))

-- The begin of a body and of a startup.
called-view : (r : Option Registration) (b : Option Body) (c : ℕ) (what : Occurrence) (s : State) → view_of (called r b c what s) ≡ view_of s
called-view None b c what s = refl
called-view (Some r) None c what s = refl
called-view (Some r) (Some b) c what s = refl

started-view : (script : Option ScriptData) (k : ℕ) (s : State) → view_of (started script k s) ≡ view_of s
started-view None k s = refl
started-view (Some script) k s = refl

-- A removal, frame by frame,
frames-without : (c : ℕ) (xs : List Control) (sets : List (List ℕ))
    → frames_in xs (map (without_number c) sets) ≡ map (taken_from c) (frames_in xs sets)
frames-without c [] sets = refl
frames-without c (top.Process p ∷ xs) sets = frames-without c xs sets
frames-without c (top.Pending o ∷ xs) sets = frames-without c xs sets
frames-without c (top.Frame f ∷ xs) [] = ap (λ (fs : List Frame). standing f [] ∷ fs) (frames-without c xs [])
frames-without c (top.Frame f ∷ xs) (set ∷ sets) =
    ap (λ (fs : List Frame). taken_from c (standing f (set ∷ sets)) ∷ fs) (frames-without c xs sets)
frames-without c (top.Activation a ∷ xs) sets = frames-without c xs sets
frames-without c (top.Leave cause ∷ xs) sets = frames-without c xs sets

-- And a fire, of the top frame.
frames-fired : (c : ℕ) (f : Told) (xs : List Control) (sets : List (List ℕ))
    → frames_in (top.Frame f ∷ xs) (without_in_top c sets) ≡ taken_from c (standing f sets) ∷ frames_in xs (drop 1 sets)
frames-fired c f xs [] = refl
frames-fired c f xs (set ∷ sets) = refl

-- The state in another world.
abbrev in_world : World → State → State
in_world w s = record s { world = w }

-- What an order changes, by the form of its effect.
abbrev ChangesBy : State → Order → Answer × World → Type 0
ChangesBy s o p = Changes s o p.0 (view_of (in_world p.1 s))

plain-by : (o : Order) (a : Answer) → TellsOnly o a → IsPlain o a
plain-by o a (tells_done is) = subst (λ (x : Answer). IsPlain o x) (sym is) (tt, no-number-frees o answer.Done tt)
plain-by o a (tells_null is) = subst (λ (x : Answer). IsPlain o x) (sym is) (tt, no-number-frees o answer.Null tt)
plain-by o a (tells_number n none is) = subst (λ (x : Answer). IsPlain o x) (sym is) (tt, number-frees-none o n none)
plain-by o a (tells_text text is) = subst (λ (x : Answer). IsPlain o x) (sym is) (tt, no-number-frees o (answer.Text text) tt)

abbrev FormChanges : State → Order → Given → Effect → Type 0
FormChanges s o g e = FitsAnswer s (answered e s.world g).0 → ChangesBy s o (answered e s.world g)

form-changes : (o : Order) (s : State) (g : Given) (e : Effect) → IsForm o s.world e → FormChanges s o g e
form-changes o s g e (refuses c is) =
    subst (λ (x : Effect). FormChanges s o g x) (sym is) (λ fits. changes_none (tt, no-number-frees o (answer.Refused c) tt) refl)
form-changes o s g e (answers_only a plain is) =
    subst (λ (x : Effect). FormChanges s o g x) (sym is) (λ fits. changes_none (plain-by o a plain) refl)
form-changes o s g e (opens_object x means room is) =
    subst (λ (x : Effect). FormChanges s o g x) (sym is)
    (λ fits. opens_one g.handle _ refl fits (record { object = x; means = means; names = refl }) refl)
form-changes o s g e (registers r h time n body object b by watches calls room free is) =
    subst (λ (x : Effect). FormChanges s o g x) (sym is)
    (λ fits. registers_one g.handle _ b refl fits room (record {
      reason = r;
      watched = h;
      time = time;
      number = n;
      calls = body;
      object = object;
      asks = by;
      watches = watches;
      found = calls;
      is = refl;
    }) refl)
form-changes o s g e (removes c h by names is) =
    subst (λ (x : Effect). FormChanges s o g x) (sym is)
    (λ fits. removes_one c h by refl names
    (framed (record (view_of s) { callbacks = removed c s.world.callbacks; handles = freed h s.world.handles })
    (frames_in s.control (map (without_number c) s.world.frames)) (map (taken_from c) (frames_of s))
    (frames-without c s.control s.world.frames)))
form-changes o s g e (frees h by live is) =
    subst (λ (x : Effect). FormChanges s o g x) (sym is) (λ fits. frees_one h by refl live refl)

-- The same change, seen from the state with the activation on top.
abbrev pub performing : List (List Answer) → State → State
performing vars s = with_variables vars (without_top s)

pub same-meant : (vars : List (List Answer)) (s : State) (scope : Option ℕ) (text : List ℕ)
    → name_meant scope text (performing vars s).world ≡ name_meant scope text s.world
same-meant vars s None text = refl
same-meant vars s (Some h) text = refl

pub same-watched : (vars : List (List Answer)) (s : State) (needs : Bool) (r : Reason) (h : Option ℕ)
    → object_watched needs r h (performing vars s).world ≡ object_watched needs r h s.world
same-watched vars s false r h = refl
same-watched vars s true r None = refl
same-watched vars s true r (Some h) = refl

same-thing_named : (vars : List (List Answer)) (s : State) (h : Option ℕ) → thing_named h (performing vars s).world ≡ thing_named h s.world
same-thing_named vars s None = refl
same-thing_named vars s (Some h) = refl

same-means : (vars : List (List Answer)) (s : State) (o : Order) (x : Object) → Means o (performing vars s).world x → Means o s.world x
same-means vars s o x (of_name text name scope asks means found) =
    of_name text name scope asks (sym (same-meant vars s scope text) ∙ means) found
same-means vars s o x (of_relation r h t asks names leads) = of_relation r h t asks (sym (same-thing_named vars s h) ∙ names) leads
same-means vars s o x (of_address h n t asks names leads) = of_address h n t asks (sym (same-thing_named vars s h) ∙ names) leads

same-finds : (vars : List (List Answer)) (s : State) (o : Order) (x : Thing) → FindsObject (performing vars s) o x → FindsObject s o x
same-finds vars s o x f = record { object = f.object; means = same-means vars s o f.object f.means; names = f.names }

same-registers : (vars : List (List Answer)) (s : State) (o : Order) (h : ℕ) (r : Registration) (b : Body)
    → RegistersAs (performing vars s) o h r b → RegistersAs s o h r b
same-registers vars s o h r b f = record {
  reason = f.reason;
  watched = f.watched;
  time = f.time;
  number = f.number;
  calls = f.calls;
  object = f.object;
  asks = f.asks;
  watches = sym (same-watched vars s (needs_object f.reason) f.reason f.watched) ∙ f.watches;
  found = f.found;
  is = f.is;
}

-- The frames below the top.
abbrev below_top : State → List Frame
below_top s = frames_in (drop 1 s.control) s.world.frames

changes-from : (vars : List (List Answer)) (s : State) (o : Order) (a : Answer) (w : View)
    → below_top s ≡ frames_of s → Changes (performing vars s) o a w → Changes s o a w
changes-from vars s o a w same (changes_none plain is) =
    changes_none plain (is ∙ framed (view_of s) (below_top s) (frames_of s) same)
changes-from vars s o a w same (opens_one h x gives fresh finds is) =
    opens_one h x gives fresh (same-finds vars s o x finds)
    (is ∙ framed (record (view_of s) { handles = opened h x s.world.handles }) (below_top s) (frames_of s) same)
changes-from vars s o a w same (registers_one h r b gives fresh room asks is) =
    registers_one h r b gives fresh room (same-registers vars s o h r b asks)
    (is ∙ framed (record (view_of s) {
      callbacks = registered r b s.world.callbacks;
      handles = opened h (thing.Callback s.world.callbacks.next) s.world.handles;
    }) (below_top s) (frames_of s) same)
changes-from vars s o a w same (removes_one c h by one names is) =
    removes_one c h by one names
    (is ∙ framed (record (view_of s) { callbacks = removed c s.world.callbacks; handles = freed h s.world.handles })
    (map (taken_from c) (below_top s)) (map (taken_from c) (frames_of s))
    (ap (λ (fs : List Frame). map (taken_from c) fs) same))
changes-from vars s o a w same (frees_one h by one live is) =
    frees_one h by one live (is ∙ framed (record (view_of s) { handles = freed h s.world.handles }) (below_top s) (frames_of s) same)

fits-from : (vars : List (List Answer)) (s : State) (a : Answer) → FitsAnswer s a → FitsAnswer (performing vars s) a
fits-from vars s answer.Done fits = fits
fits-from vars s answer.Null fits = fits
fits-from vars s (answer.Handle h) fits = fits
fits-from vars s (answer.Number n) fits = fits
fits-from vars s (answer.Text text) fits = fits
fits-from vars s (answer.Refused c) fits = fits

-- An activation.
acting-works : (a : Activation) (s u : State) (g : Given) (l : Label) → HasTop s (top.Activation a) → Fits s l
    → IsActing a (without_top s) g (l, u) → Works s l (view_of u)
acting-works a s u g l on fits (returns vars is) =
    subst (λ (m : Move). Works s m.0 (view_of m.1)) (sym is)
    (works_none refl (popped-view s (top.Activation a) on.on refl))
acting-works a s u g l on fits (passes vars further is) =
    subst (λ (m : Move). Works s m.0 (view_of m.1)) (sym is)
    (works_none refl (popped-view s (top.Activation a) on.on refl))
acting-works a s u g l on fits (orders vars o further is) =
    let w : World = (performing vars s).world in
    let given : Answer × World = answered (effect_of o a.who w) w g in
    let there : Fits s (label.Do a.who o given.0) = subst (λ (x : Label). Fits s x) (ap (λ (m : Move). m.0) is) fits in
    let changes : Changes (performing vars s) o given.0 (view_of (in_world given.1 (performing vars s))) =
    form-changes o (performing vars s) g _ (effect-form o a.who w) (fits-from vars s given.0 there) in
    subst (λ (m : Move). Works s m.0 (view_of m.1)) (sym is)
    (orders_one a.who o given.0 refl
    (changes-from vars s o given.0 _ (sym (frames-top s (top.Activation a) on.on)) changes))

-- The k-th of some numbers is among them.
among-get : (xs : List ℕ) (k c : ℕ) → slice_get xs k ≡ Some c → is_among c xs ≡ true
among-get [] k c is = absurd (cc)
among-get (x ∷ xs) zero c is = let same : c ≡ x = cc in rw (eq-eqb c x same) refl
among-get (x ∷ xs) (suc k) c is = or_right (nat_eq c x) (is_among c xs) (among-get xs k c is)

row-works : (s u : State) (l : Label) → Row s l u → Works s l (view_of u)
row-works s u (label.Startup k) row =
    works_none refl (ap view_of row.1 ∙ started-view (slice_get s.world.scripts (k - 1)) k (without_item s))
row-works s u (label.Do who order answer) row =
    acting-works row.who s u row.given (label.Do who order answer) row.on row.fits
    (subst (λ (m : Move). IsActing row.who (without_top s) row.given m) row.makes
    (acts (slice_get s.world.scripts row.who.script) (slice_get s.world.variables row.who.script) row.who (without_top s) row.given))
row-works s u (label.Pass who) row =
    acting-works row.who s u row.given (label.Pass who) row.on row.fits
    (subst (λ (m : Move). IsActing row.who (without_top s) row.given m) row.makes
    (acts (slice_get s.world.scripts row.who.script) (slice_get s.world.variables row.who.script) row.who (without_top s) row.given))
row-works s u (label.Ret who) row =
    acting-works row.who s u row.given (label.Ret who) row.on row.fits
    (subst (λ (m : Move). IsActing row.who (without_top s) row.given m) row.makes
    (acts (slice_get s.world.scripts row.who.script) (slice_get s.world.variables row.who.script) row.who (without_top s) row.given))
row-works s u (label.Occ n reason object) row =
    let made : view_of row.made.state ≡ with_telling row.rest.occurrence row.what (view_of row.rest) =
    subst (λ (out : Outcome). AllMade (Tells row.what row.rest) out) row.makes (telling-view row.what row.rest) in
    let number : row.rest.occurrence ≡ n = tells-number s row.what row.rest row.next ∙ sym row.number in
    tells_one n row.what
    (ap (λ (x : Reason). label.Occ n x object) row.why ∙ ap (λ (x : Option Object). label.Occ n row.what.reason x) row.whom) row.number
    (ap view_of row.leaves ∙ made-view row.made ∙ made
    ∙ ap (λ (k : ℕ). with_telling k row.what (view_of row.rest)) number
    ∙ ap (λ (v : View). with_telling n row.what v) (tells-view s row.what row.rest row.next))
row-works s u (label.Fire n c) row =
    let sets : List (List ℕ) = s.world.frames in
    let before : State = with_top (top.Frame row.frame) (with_frames (without_in_top c sets) (without_top s)) in
    let rest : List Frame = frames_in (drop 1 s.control) (drop 1 sets) in
    fires_one n c (standing row.frame sets) rest refl (frames-top s (top.Frame row.frame) row.on.on) row.number
    (among-get (top_set sets) row.choice c row.chosen)
    (ap view_of row.leaves ∙ called-view (info_of c s.world.callbacks) (body_of c s.world.callbacks) c row.frame.what before
    ∙ framed (view_of s) (frames_of before) (taken_from c (standing row.frame sets) ∷ rest)
    (frames-fired c row.frame (drop 1 s.control) sets))
row-works s u (label.Done n) row =
    closes_one n (standing row.frame s.world.frames) (frames_in (drop 1 s.control) (drop 1 s.world.frames)) refl
    (frames-top s (top.Frame row.frame) row.on.on) row.number row.none
    (ap view_of row.leaves)
row-works s u (label.Activate r) row = works_none refl (ap view_of row.1)
row-works s u (label.Advance time) row = works_none refl (ap view_of row.2)
row-works s u (label.Pick n shown) row =
    works_none refl (left-view (view_of s) _ row.made u row.makes row.leaves.1 (work-view row.entry.work _))
row-works s u (label.Stmt p shown) row =
    works_none refl
    (left-view (view_of (without_top s)) _ row.made u row.makes row.leaves.1 (statement-view p (performed p s.world.activity) (without_top s))
    ∙ popped-view s (top.Process p) row.on.on refl)
row-works s u (label.Finish c) row = empties refl (ap view_of row.1) (c, refl)
row-works s u (label.End (ending.Cause c)) row = works_none refl (ap view_of row.3)
row-works s u (label.End (ending.Fault f)) row = works_none refl (ap view_of row.1)

pub made-works : (s : State) (m : Move) → IsMade s m → Works s m.0 (view_of m.1)
made-works s m made =
    let table : Step s m.0 m.1 = steps-by-table s m.1 made.choice m.0 made.below made.step in
    let P : View → Type 0 = λ w. Works s m.0 w in
    subst P (sym (ap view_of table.settles ∙ settles-view (is_end m.0) table.before)) (row-works s table.before m.0 table.row)
