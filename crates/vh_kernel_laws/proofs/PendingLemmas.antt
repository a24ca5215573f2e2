-- The firing law: what occurs is told in turn.
use Rattle.std.proofs.Common.{◌≡◌, ℕ, zero, suc, ◌-◌, List, [], ◌∷◌, ◌++◌, drop, map, length, Bool, true, false, cond, Option, Some, None, Result, Ok, Err, slice_get, nat_le, nat_lt, refl, sym, ap, subst, ◌∙◌, inl, inr}
use Rattle.vh_app.specs.Script.{ScriptData}
use Rattle.vh_base.specs.declared.faults.Fault.{Fault}
use Rattle.vh_base.specs.declared.faults.Fault.TheVariants as fault
use Rattle.vh_base.specs.declared.limits.TheConstants.{MOST_FRAMES, MOST_NUMBERS}
use Rattle.vh_base.specs.declared.orders.Object.{Object}
use Rattle.vh_base.specs.declared.words.Reason.{Reason}
use Rattle.vh_base.proofs.ChecksLemmas.{unless-holds}
use Rattle.vh_callbacks.specs.Callbacks.{Callbacks, info_of, body_of}
use Rattle.vh_callbacks.specs.declared.registration.Registration.{Registration}
use Rattle.vh_dispatch.specs.Frames.{without_in_top}
use Rattle.vh_kernel.proofs.StepLemmas.{AllMade, IsActing, returns, passes, orders, acts}
use Rattle.vh_kernel.proofs.TableLemmas.{steps-by-table, tells-number}
use Rattle.vh_kernel.specs.Activations.{Activation}
use Rattle.vh_kernel.specs.declared.control.Control.{Control}
use Rattle.vh_kernel.specs.declared.control.Control.TheVariants as top
use Rattle.vh_kernel.specs.declared.label.Label.{Label}
use Rattle.vh_kernel.specs.declared.label.Label.TheVariants as label
use Rattle.vh_kernel.specs.declared.occurrence.Told.{Told}
use Rattle.vh_kernel.specs.declared.occurrence.Agendum.TheVariants as agendum
use Rattle.vh_kernel.specs.Occurrences.{Occurrence, set_of, is_empty, all_by}
use Rattle.vh_kernel.specs.Outcome.{Made, Outcome, Move, after_made}
use Rattle.vh_kernel.specs.Settle.{settled, is_void, without_front}
use Rattle.vh_kernel.specs.State.{State, with_top, without_top, without_item, with_frames, with_queue}
use Rattle.vh_kernel.specs.Statements.{next_on, performed_outcome, worked_outcome, on_control, work_outcome}
use Rattle.vh_kernel.specs.Step.{telling_outcome, called, started, is_end}
use Rattle.vh_kernel.specs.Table.{TellsNext, Row, Step}
use Rattle.vh_orders.specs.declared.phase.Ending.TheVariants as ending
use Rattle.vh_orders.specs.declared.who.Body.{Body}
use Rattle.vh_proc_simulation.specs.Labels.{Came, Performed, performed, worked}
use Rattle.vh_proc_turn.specs.declared.next.Next.{Next}
use Rattle.vh_proc_turn.specs.declared.next.Next.TheVariants as next
use Rattle.vh_queue.specs.declared.work.Work.{Work}
use Rattle.vh_queue.specs.declared.work.Work.TheVariants as work
use Rattle.vh_queue.specs.Events.{without}
use Rattle.vh_kernel_laws.proofs.Splits.{path_at}
use Rattle.vh_kernel_laws.proofs.WorksLemmas.{first-of}
use Rattle.vh_kernel_laws.specs.Firing.{standing, frames_in, frames_of, IsTelling}
use Rattle.vh_kernel_laws.specs.Paths.{IsMade, IsPath, end_of}
use Rattle.vh_kernel_laws.specs.Pending.{pendings_in, pendings_of, statement_made, entry_made, Makes, Leaves, KeepsPending, TellsInTurn}

-- What settling passes over.
record Drops (c : Callbacks Body) (xs ys : List Control) : Type 0 where
  passed : List Occurrence
  splits : pendings_in xs ≡ passed ++ pendings_in ys
  unwatched : (i : ℕ) (o : Occurrence) → slice_get passed i ≡ Some o → set_of o c ≡ []

nothing-drops : (c : Callbacks Body) (xs : List Control) → Drops c xs xs
nothing-drops c xs = record { passed = []; splits = refl; unwatched = λ i o at. absurd (let none : None ≡ Some o = at in cc) }

empty-is : (xs : List ℕ) (b : Bool) → is_empty xs ≡ b → b ≡ true → xs ≡ []
empty-is [] b is so = refl
empty-is (x ∷ xs) b is so = absurd (let wrong : false ≡ true = is ∙ so in cc)

one-more : (c : Callbacks Body) (o : Occurrence) (passed : List Occurrence) → set_of o c ≡ []
    → ((i : ℕ) (p : Occurrence) → slice_get passed i ≡ Some p → set_of p c ≡ [])
    → (i : ℕ) (p : Occurrence) → slice_get (o ∷ passed) i ≡ Some p → set_of p c ≡ []
one-more c o passed none all zero p at = let same : o ≡ p = cc in ap (λ (q : Occurrence). set_of q c) (sym same) ∙ none
one-more c o passed none all (suc i) p at = all i p at

drops-by : (c : Callbacks Body) (o : Occurrence) (xs : List Control) (b : Bool) → is_empty (set_of o c) ≡ b
    → Drops c xs (without_front (is_void c) xs) → Drops c (top.Pending o ∷ xs) (cond b (without_front (is_void c) xs) (top.Pending o ∷ xs))
drops-by c o xs true is rest = record {
  passed = o ∷ rest.passed;
  splits = ap (λ (os : List Occurrence). o ∷ os) rest.splits;
  unwatched = one-more c o rest.passed (empty-is (set_of o c) true is refl) rest.unwatched;
}
drops-by c o xs false is rest = nothing-drops c (top.Pending o ∷ xs)

settle-drops : (c : Callbacks Body) (xs : List Control) → Drops c xs (without_front (is_void c) xs)
settle-drops c [] = nothing-drops c []
settle-drops c (top.Process p ∷ xs) = nothing-drops c (top.Process p ∷ xs)
settle-drops c (top.Pending o ∷ xs) = drops-by c o xs (is_empty (set_of o c)) refl (settle-drops c xs)
settle-drops c (top.Frame f ∷ xs) = nothing-drops c (top.Frame f ∷ xs)
settle-drops c (top.Activation a ∷ xs) = nothing-drops c (top.Activation a ∷ xs)
settle-drops c (top.Leave cause ∷ xs) = nothing-drops c (top.Leave cause ∷ xs)

settles-drops : (b : Bool) (u : State) → Drops u.world.callbacks u.control (cond b u (settled u)).control
settles-drops true u = nothing-drops u.world.callbacks u.control
settles-drops false u = settle-drops u.world.callbacks u.control

settles-callbacks : (b : Bool) (u : State) → (cond b u (settled u)).world.callbacks ≡ u.world.callbacks
settles-callbacks true u = refl
settles-callbacks false u = refl

-- What a row leaves before the state settles.
record Kept (s : State) (l : Label) (u : State) : Type 0 where
  made : List Occurrence
  rest : List Occurrence
  makes : Makes s l made
  leaves : (t : State) → t ≡ cond (is_end l) u (settled u) → Leaves s l t rest
  is : pendings_of u ≡ made ++ rest

-- The top is no occurrence.
popped : (s : State) (x : Control) → slice_get s.control 0 ≡ Some x → pendings_in (x ∷ drop 1 s.control) ≡ pendings_in (drop 1 s.control)
    → pendings_in (drop 1 s.control) ≡ pendings_of s
popped s x on plain = sym plain ∙ ap pendings_in (sym (first-of s.control x on))

-- Pieces.
pending-front : (os : List Occurrence) (xs : List Control) → pendings_in (map top.Pending os ++ xs) ≡ os ++ pendings_in xs
pending-front [] xs = refl
pending-front (o ∷ os) xs = ap (λ (ps : List Occurrence). o ∷ ps) (pending-front os xs)

next-pendings : (n : Next) (p : ℕ) (xs : List Control) → pendings_in (next_on n p xs) ≡ pendings_in xs
next-pendings next.On p xs = refl
next-pendings next.Waits p xs = refl
next-pendings next.Ends p xs = refl
next-pendings (next.Shows n) p xs = refl
next-pendings (next.Calls o) p xs = refl
next-pendings next.Finishes p xs = refl
next-pendings next.Stops p xs = refl

abbrev Leaving : List Occurrence → Made → Type 0
Leaving os m = pendings_of (after_made m) ≡ os

statement-pendings : (p : ℕ) (r : Result Performed (Option Fault)) (s : State)
    → AllMade (Leaving (statement_made r ++ pendings_of s)) (performed_outcome r p s)
statement-pendings p (Err None) s = refl
statement-pendings p (Err (Some f)) s = tt
statement-pendings p (Ok r) s =
    pending-front (all_by r.came.activity.design.objects r.came.made) (next_on r.next p s.control)
    ∙ ap (λ (ps : List Occurrence). all_by r.came.activity.design.objects r.came.made ++ ps) (next-pendings r.next p s.control)

worked-pendings : (r : Result Came (Option Fault)) (s : State) → AllMade (Leaving (entry_made r ++ pendings_of s)) (worked_outcome r s)
worked-pendings (Err None) s = refl
worked-pendings (Err (Some f)) s = tt
worked-pendings (Ok c) s = pending-front (all_by c.activity.design.objects c.made) s.control

on-control-pendings : (w : Work) (s : State) → pendings_of (on_control w s) ≡ pendings_of s
on-control-pendings (work.Evaluate p) s = refl
on-control-pendings (work.Drive driver value) s = refl
on-control-pendings (work.Assign object low value) s = refl
on-control-pendings (work.Follow object force) s = refl
on-control-pendings (work.Put object value) s = refl
on-control-pendings (work.Strobe n) s = refl
on-control-pendings work.MonitorShow s = refl
on-control-pendings (work.Call callback) s = refl

work-pendings : (w : Work) (s : State) → AllMade (Leaving (entry_made (worked w s.world.activity) ++ pendings_of s)) (work_outcome w s)
work-pendings w s =
    let P : List Occurrence → Type 0 = λ ps. AllMade (Leaving (entry_made (worked w s.world.activity) ++ ps)) (work_outcome w s) in
    subst P (on-control-pendings w s) (worked-pendings (worked w s.world.activity) (on_control w s))

left-pendings : (os : List Occurrence) (out : Outcome) (m : Made) (u : State) → out ≡ Ok m → u ≡ after_made m → AllMade (Leaving os) out
    → pendings_of u ≡ os
left-pendings os out m u is leaves has = ap pendings_of leaves ∙ subst (λ (x : Outcome). AllMade (Leaving os) x) is has

called-pendings : (r : Option Registration) (b : Option Body) (c : ℕ) (what : Occurrence) (s : State)
    → pendings_of (called r b c what s) ≡ pendings_of s
called-pendings None b c what s = refl
called-pendings (Some r) None c what s = refl
called-pendings (Some r) (Some b) c what s = refl

started-pendings : (script : Option ScriptData) (k : ℕ) (s : State) → pendings_of (started script k s) ≡ pendings_of s
started-pendings None k s = refl
started-pendings (Some script) k s = refl

acting-pendings : (a : Activation) (s u : State) (g : _) (l : Label) → IsActing a s g (l, u) → pendings_of u ≡ pendings_of s
acting-pendings a s u g l (returns vars is) = ap (λ (m : Move). pendings_of m.1) is
acting-pendings a s u g l (passes vars further is) = ap (λ (m : Move). pendings_of m.1) is
acting-pendings a s u g l (orders vars o further is) = ap (λ (m : Move). pendings_of m.1) is

-- An occurrence is told.
record ToldSo (o : Occurrence) (r u : State) : Type 0 where
  control : u.control ≡ top.Frame (record { number = r.occurrence; what = o }) ∷ r.control
  frames : u.world.frames ≡ set_of o r.world.callbacks ∷ r.world.frames
  callbacks : u.world.callbacks ≡ r.world.callbacks

abbrev TellsSo : Occurrence → State → Made → Type 0
TellsSo o r m = ToldSo o r (after_made m)

telling-so : (o : Occurrence) (r : State) → AllMade (TellsSo o r) (telling_outcome o r)
telling-so o r =
    unless-holds (AllMade (TellsSo o r)) (nat_le MOST_FRAMES (length r.world.frames)) fault.F1 _ (λ _. tt)
    (λ _. unless-holds (AllMade (TellsSo o r)) (nat_lt MOST_NUMBERS r.occurrence) fault.F3 _ (λ _. tt)
    (λ _. record { control = refl; frames = refl; callbacks = refl }))

told-so : (o : Occurrence) (r u : State) (out : Outcome) (m : Made) → out ≡ Ok m → u ≡ after_made m → AllMade (TellsSo o r) out → ToldSo o r u
told-so o r u out m is leaves has = subst (ToldSo o r) (sym leaves) (subst (λ (x : Outcome). AllMade (TellsSo o r) x) is has)

top-told : (u : State) (f : Told) (xs : List Control) (set : List ℕ) (sets : List (List ℕ)) → u.control ≡ top.Frame f ∷ xs
    → u.world.frames ≡ set ∷ sets → slice_get (frames_of (settled u)) 0 ≡ Some (record { number = f.number; what = f.what; left = set })
top-told u f xs set sets on frames =
    ap (λ (cs : List Control). slice_get (frames_in (without_front (is_void u.world.callbacks) cs) u.world.frames) 0) on
    ∙ ap (λ (fs : List (List ℕ)). Some (standing f fs)) frames

telling-at : (n : ℕ) (what : Occurrence) (reason : Reason) (object : Option Object) (r u t : State) → ToldSo what r u → t ≡ settled u
    → n ≡ r.occurrence → reason ≡ what.reason → object ≡ what.object → IsTelling (label.Occ n reason object, t) n what
telling-at n what reason object r u t told is number why whom =
    let P : ℕ → Type 0 = λ k. slice_get (frames_of (settled u)) 0
    ≡ Some (record { number = k; what = what; left = set_of what (settled u).world.callbacks }) in
    let Q : Callbacks Body → Type 0 = λ c. slice_get (frames_of (settled u)) 0
    ≡ Some (record { number = r.occurrence; what = what; left = set_of what c }) in
    let R : State → Type 0 = λ x. slice_get (frames_of x) 0 ≡ Some (record { number = n; what = what; left = set_of what x.world.callbacks }) in
    record {
      told = ap (λ (x : Reason). label.Occ n x object) why ∙ ap (λ (x : Option Object). label.Occ n what.reason x) whom;
      frame = subst R (sym is) (subst P (sym number) (subst Q (sym told.callbacks)
          (top-told u (record { number = r.occurrence; what = what }) r.control (set_of what r.world.callbacks) r.world.frames told.control told.frames)));
    }

pub none-on : (xs : List Control) → slice_get xs 0 ≡ None → xs ≡ []
none-on [] none = refl
none-on (x ∷ xs) none = absurd (let some : Some x ≡ None = none in cc)

tells-kept : (s u r : State) (n : ℕ) (what : Occurrence) (reason : Reason) (object : Option Object) → TellsNext s what r → n ≡ r.occurrence
    → reason ≡ what.reason → object ≡ what.object → ToldSo what r u → Kept s (label.Occ n reason object) u
tells-kept s u r n what reason object tells number why whom told = elim tells [
  | inl here ↦ record {
    made = [];
    rest = pendings_in (drop 1 s.control);
    makes = refl;
    leaves = λ t is. inl (
      what,
      telling-at n what reason object r u t told is number why whom,
      ap pendings_in (first-of s.control (top.Pending what) here.0.on),
    );
    is = ap pendings_in told.control ∙ ap pendings_of here.1;
  }
  | inr there ↦ (let alone : s.control ≡ [] = none-on s.control there.1.idle in record {
    made = [];
    rest = [];
    makes = refl;
    leaves = λ t is. inr (
      alone,
      there.1.next ∙ ap (λ (x : Reason). Some (agendum.Occurrence x)) (sym (why ∙ ap (λ (o : Occurrence). o.reason) there.2)),
      whom ∙ ap (λ (o : Occurrence). o.object) there.2,
      refl,
    );
    is = ap pendings_in told.control ∙ ap pendings_of there.3 ∙ ap pendings_in alone;
  })
]

row-kept : (s u : State) (l : Label) → Row s l u → Kept s l u
row-kept s u (label.Startup k) row = record {
  made = [];
  rest = pendings_of s;
  makes = refl;
  leaves = λ t is. refl;
  is = ap pendings_of row.1 ∙ started-pendings (slice_get s.world.scripts (k - 1)) k (without_item s);
}
row-kept s u (label.Do who order answer) row = record {
  made = [];
  rest = pendings_of s;
  makes = refl;
  leaves = λ t is. refl;
  is = acting-pendings row.who (without_top s) u row.given (label.Do who order answer)
      (subst (λ (m : Move). IsActing row.who (without_top s) row.given m) row.makes
      (acts (slice_get s.world.scripts row.who.script) (slice_get s.world.variables row.who.script) row.who (without_top s) row.given))
      ∙ popped s (top.Activation row.who) row.on.on refl;
}
row-kept s u (label.Pass who) row = record {
  made = [];
  rest = pendings_of s;
  makes = refl;
  leaves = λ t is. refl;
  is = acting-pendings row.who (without_top s) u row.given (label.Pass who)
      (subst (λ (m : Move). IsActing row.who (without_top s) row.given m) row.makes
      (acts (slice_get s.world.scripts row.who.script) (slice_get s.world.variables row.who.script) row.who (without_top s) row.given))
      ∙ popped s (top.Activation row.who) row.on.on refl;
}
row-kept s u (label.Ret who) row = record {
  made = [];
  rest = pendings_of s;
  makes = refl;
  leaves = λ t is. refl;
  is = acting-pendings row.who (without_top s) u row.given (label.Ret who)
      (subst (λ (m : Move). IsActing row.who (without_top s) row.given m) row.makes
      (acts (slice_get s.world.scripts row.who.script) (slice_get s.world.variables row.who.script) row.who (without_top s) row.given))
      ∙ popped s (top.Activation row.who) row.on.on refl;
}
row-kept s u (label.Occ n reason object) row =
    tells-kept s u row.rest n row.what reason object row.next (row.number ∙ sym (tells-number s row.what row.rest row.next)) row.why row.whom
    (told-so row.what row.rest u (telling_outcome row.what row.rest) row.made row.makes row.leaves (telling-so row.what row.rest))
row-kept s u (label.Fire n c) row = record {
  made = [];
  rest = pendings_of s;
  makes = refl;
  leaves = λ t is. refl;
  is = ap pendings_of row.leaves
      ∙ called-pendings (info_of c s.world.callbacks) (body_of c s.world.callbacks) c row.frame.what
      (with_top (top.Frame row.frame) (with_frames (without_in_top c s.world.frames) (without_top s)))
      ∙ popped s (top.Frame row.frame) row.on.on refl;
}
row-kept s u (label.Done n) row = record {
  made = [];
  rest = pendings_of s;
  makes = refl;
  leaves = λ t is. refl;
  is = ap pendings_of row.leaves ∙ popped s (top.Frame row.frame) row.on.on refl;
}
row-kept s u (label.Activate r) row = record { made = []; rest = pendings_of s; makes = refl; leaves = λ t is. refl; is = ap pendings_of row.1 }
row-kept s u (label.Advance time) row =
    record { made = []; rest = pendings_of s; makes = refl; leaves = λ t is. refl; is = ap pendings_of row.2 }
row-kept s u (label.Pick n shown) row =
    let q : State = with_queue (without n s.world.activity.queue) s in record {
      made = entry_made (worked row.entry.work q.world.activity);
      rest = pendings_of s;
      makes = (row.choice, row.entry, row.chosen, row.serial, refl);
      leaves = λ t is. refl;
      is = left-pendings (entry_made (worked row.entry.work q.world.activity) ++ pendings_of s) (work_outcome row.entry.work q) row.made u
          row.makes row.leaves.1 (work-pendings row.entry.work q);
    }
row-kept s u (label.Stmt p shown) row = record {
  made = statement_made (performed p s.world.activity);
  rest = pendings_of s;
  makes = refl;
  leaves = λ t is. refl;
  is = left-pendings (statement_made (performed p s.world.activity) ++ pendings_of (without_top s))
      (performed_outcome (performed p s.world.activity) p (without_top s)) row.made u row.makes row.leaves.1
      (statement-pendings p (performed p s.world.activity) (without_top s))
      ∙ ap (λ (ps : List Occurrence). statement_made (performed p s.world.activity) ++ ps) (popped s (top.Process p) row.on.on refl);
}
row-kept s u (label.Finish c) row = record { made = _; rest = []; makes = refl; leaves = λ t is. refl; is = ap pendings_of row.1 }
row-kept s u (label.End (ending.Cause c)) row =
    record { made = []; rest = pendings_of s; makes = refl; leaves = λ t is. refl; is = ap pendings_of row.3 }
row-kept s u (label.End (ending.Fault f)) row =
    record { made = []; rest = pendings_of s; makes = refl; leaves = λ t is. refl; is = ap pendings_of row.1 }

step-kept : (s : State) (m : Move) → IsMade s m → KeepsPending s m
step-kept s m made =
    let table : Step s m.0 m.1 = steps-by-table s m.1 made.choice m.0 made.below made.step in
    let u : State = table.before in
    let kept : Kept s m.0 u = row-kept s u m.0 table.row in
    let drops : Drops u.world.callbacks u.control (cond (is_end m.0) u (settled u)).control = settles-drops (is_end m.0) u in
    record {
      made = kept.made;
      rest = kept.rest;
      passed = drops.passed;
      makes = kept.makes;
      leaves = kept.leaves m.1 table.settles;
      in_order = sym kept.is ∙ drops.splits ∙ ap (λ (x : State). drops.passed ++ pendings_of x) (sym table.settles);
      unwatched = λ i o at. ap (λ (x : State). set_of o x.world.callbacks) table.settles
          ∙ ap (λ (c : Callbacks Body). set_of o c) (settles-callbacks (is_end m.0) u) ∙ drops.unwatched i o at;
    }

pub tells-in-turn : (s : State) (moves : List Move) → IsPath s moves → TellsInTurn s moves
tells-in-turn s moves path before behind m is =
    step-kept (end_of s before) m (path_at s moves before (m ∷ behind) path is).1.0
