-- The step and its table are one.
use Rattle.std.proofs.Common.{◌≡◌, ℕ, ◌<◌, drop, List, [], ◌∷◌, length, max, Bool, true, false, cond, Option, Some, None, Ok, Err, slice_get, refl, sym, ap, subst, ◌∙◌, arith, inl, inr, get_or}
use Rattle.std.proofs.lemmas.Option.{slice_get-get_or, slice_get_within}
use Rattle.vh_base.specs.declared.faults.Cause.{Cause}
use Rattle.vh_base.specs.declared.faults.Fault.{Fault}
use Rattle.vh_base.specs.declared.orders.Object.{Object}
use Rattle.vh_base.specs.declared.words.Reason.{Reason}
use Rattle.vh_kernel.specs.Activations.{Activation}
use Rattle.vh_kernel.specs.declared.control.Control.{Control}
use Rattle.vh_kernel.specs.declared.control.Control.TheVariants as top
use Rattle.vh_queue.specs.declared.entry.Entry.{Entry}
use Rattle.vh_proc_simulation.specs.Activity.{stopped}
use Rattle.vh_orders.specs.declared.phase.Ending.TheVariants as ending
use Rattle.vh_kernel.specs.declared.label.Label.{Label}
use Rattle.vh_kernel.specs.declared.label.Label.TheVariants as label
use Rattle.vh_queue.specs.declared.region.Region.{Region}
use Rattle.vh_kernel.specs.declared.occurrence.Agendum.{Agendum}
use Rattle.vh_kernel.specs.declared.occurrence.Agendum.TheVariants as agendum
use Rattle.vh_kernel.specs.declared.occurrence.Told.{Told}
use Rattle.vh_orders.specs.declared.phase.Phase.{Phase}
use Rattle.vh_orders.specs.declared.phase.Phase.TheVariants as phase
use Rattle.vh_queue.specs.Events.{eligible, without, next_region, least_time}
use Rattle.vh_kernel.specs.Occurrences.{Occurrence, occurrence_of}
use Rattle.vh_dispatch.specs.Frames.{top_set}
use Rattle.vh_orders.specs.Orders.{Given}
use Rattle.vh_kernel.specs.Outcome.{Outcome, Move, after_made, move_of, fault_move}
use Rattle.vh_kernel.specs.State.{State, with_activity, with_phase, with_queue, with_top, without_top, without_item}
use Rattle.vh_kernel.specs.Statements.{statement_outcome, work_outcome}
use Rattle.vh_kernel.specs.Step.{telling_outcome, fire_move, activation_move, time_move, region_move, pick_move, agenda_move, idle_move, item_move, top_move, crowded_move, is_crowded, is_over, settled_move, Fits, finish_move, item_choices, agenda_choices, idle_choices, top_choices, choices_of}
use Rattle.vh_kernel.specs.Table.{IsGoing, HasTop, HasNext, IsCalm, TellsNext, Exceeds, by_processes, by_statement, by_work, by_occurrence, Row, Step, StepsByTable, TableBySteps}
use Rattle.vh_kernel.proofs.StepLemmas.{IsActing, returns, passes, orders, acts, not-over, some-choice}

abbrev HasRow : State → Move → Type 0
HasRow s m = Row s m.0 m.1

-- Where the k-th of some choices isn't there, there are none.
none-left : {X : Type 0} (xs : List X) (k : ℕ) → k < max (length xs) 1 → slice_get xs k ≡ None → xs ≡ []
none-left [] k below none = refl
none-left (x ∷ xs) k below none =
    let there : slice_get (x ∷ xs) k ≡ Some (get_or (x ∷ xs) k x) = slice_get-get_or (x ∷ xs) k x (omega arith) in cc

-- What is on top is put back as it was.
back : {X : Type 0} (xs : List X) (x : X) → slice_get xs 0 ≡ Some x → x ∷ drop 1 xs ≡ xs
back [] x is = absurd (cc)
back (y ∷ ys) x is = let same : y ≡ x = cc in ap (λ (z : _). z ∷ ys) (sym same)

put-back : (s : State) (c : Control) → slice_get s.control 0 ≡ Some c → with_top c (without_top s) ≡ s
put-back s c on = ap (λ (xs : List Control). (let t : State = record s { control = xs } in t)) (back s.control c on)

fault-row : (s before : State) (f : Fault) → before ≡ s → Exceeds s f → HasRow s (fault_move f before)
fault-row s before f same exceeds =
    (exceeds, ap (λ (x : State). with_phase (phase.Ended (ending.Fault f)) (with_activity (stopped x.world.activity) x)) same)

-- A statement.
statement-row : (p : ℕ) (s : State) (out : Outcome) → HasTop s (top.Process p)
    → statement_outcome p (without_top s) ≡ out
    → HasRow s (move_of (λ shown. label.Stmt p shown) (with_top (top.Process p) (without_top s)) out)
statement-row p s (Ok m) on is = record { made = m; on = on; makes = is; leaves = (refl, refl) }
statement-row p s (Err f) on is =
    fault-row s (with_top (top.Process p) (without_top s)) f (put-back s (top.Process p) on.on) (by_statement p on is)

-- An occurrence that is told next leaves the number of the next one.
pub tells-number : (s : State) (o : Occurrence) (r : State) → TellsNext s o r → r.occurrence ≡ s.occurrence
tells-number s o r tells = elim tells [
  | inl here ↦ ap (λ (t : State). t.occurrence) here.1
  | inr next ↦ ap (λ (t : State). t.occurrence) next.3
]

telling-row : (o : Occurrence) (s before r : State) (out : Outcome) → TellsNext s o r → before ≡ s → telling_outcome o r ≡ out
    → HasRow s (move_of (λ shown. label.Occ r.occurrence o.reason o.object) before out)
telling-row o s before r (Ok m) tells same is = record {
  what = o;
  rest = r;
  made = m;
  next = tells;
  number = tells-number s o r tells;
  why = refl;
  whom = refl;
  makes = is;
  leaves = refl;
}
telling-row o s before r (Err f) tells same is = fault-row s before f same (by_occurrence o r tells is)

-- A frame.
fire-row : (o : Option ℕ) (f : Told) (s : State) (k : ℕ) → HasTop s (top.Frame f) → k < max (length (top_set s.world.frames)) 1
    → slice_get (top_set s.world.frames) k ≡ o → HasRow s (fire_move o f (without_top s))
fire-row None f s k on below is = record { frame = f; on = on; number = refl; none = none-left (top_set s.world.frames) k below is; leaves = refl }
fire-row (Some c) f s k on below is =
    record { frame = f; choice = k; on = on; number = refl; chosen = is; leaves = refl }

-- An activation.
acting-row : (a : Activation) (s : State) (g : Given) (m : Move) → HasTop s (top.Activation a)
    → activation_move (slice_get s.world.scripts a.script) (slice_get s.world.variables a.script) a (without_top s) g ≡ m
    → IsActing a (without_top s) g m → Fits s m.0 → HasRow s m
acting-row a s g m on makes (returns vars is) fits =
    let P : Move → Type 0 = HasRow s in
    subst P (sym is) (record { who = a; given = g; on = on; fits = tt; makes = makes ∙ is })
acting-row a s g m on makes (passes vars further is) fits =
    let P : Move → Type 0 = HasRow s in
    subst P (sym is) (record { who = a; given = g; on = on; fits = tt; makes = makes ∙ is })
acting-row a s g m on makes (orders vars o further is) fits =
    let P : Move → Type 0 = HasRow s in
    let Q : Move → Type 0 = λ x. Fits s x.0 in
    subst P (sym is) (record { who = a; given = g; on = on; fits = subst Q is fits; makes = makes ∙ is })

-- With nothing on control.
time-row : (o : Option ℕ) (s : State) → IsCalm s None → least_time s.world.activity.queue.entries ≡ o → HasRow s (time_move o s)
time-row None s calm least = (inr (calm, least, refl), refl)
time-row (Some time) s calm least = (calm, least, refl)

region-row : (o : Option Region) (s : State) → HasNext s None → eligible s.world.activity.queue ≡ [] → next_region s.world.activity.queue ≡ o
    → HasRow s (region_move o s)
region-row None s next none is =
    time-row (least_time s.world.activity.queue.entries) s (record { next = next; none = none; region = is }) refl
region-row (Some r) s next none is = (record { next = next; none = none; region = is }, refl)

picked-row : (e : Entry) (s : State) (k : ℕ) (out : Outcome) → HasNext s None → slice_get (eligible s.world.activity.queue) k ≡ Some e
    → work_outcome e.work (with_queue (without e.serial s.world.activity.queue) s) ≡ out
    → HasRow s (move_of (λ shown. label.Pick e.serial shown) s out)
picked-row e s k (Ok m) next is makes =
    record { choice = k; entry = e; made = m; next = next; chosen = is; serial = refl; makes = makes; leaves = (refl, refl) }
picked-row e s k (Err g) next is makes = fault-row s s g refl (by_work k e next is makes)

pick-row : (o : Option Entry) (s : State) (k : ℕ) → HasNext s None → k < max (length (eligible s.world.activity.queue)) 1
    → slice_get (eligible s.world.activity.queue) k ≡ o → HasRow s (pick_move o s)
pick-row None s k next below is =
    region-row (next_region s.world.activity.queue) s next (none-left (eligible s.world.activity.queue) k below is) refl
pick-row (Some e) s k next below is = picked-row e s k _ next is refl

agenda-row : (o : Option Agendum) (s : State) (k : ℕ) → HasNext s o → k < agenda_choices o s → HasRow s (agenda_move o s k)
agenda-row None s k next below = pick-row (slice_get (eligible s.world.activity.queue) k) s k next below refl
agenda-row (Some (agendum.Startup n)) s k next below = (next, refl)
agenda-row (Some (agendum.Occurrence r)) s k next below =
    telling-row (occurrence_of r) s s (without_item s) _ (inr (r, next, refl, refl)) refl refl

item-row : (c : Control) (s : State) (k : ℕ) (g : Given) → HasTop s c → Fits s (item_move c (without_top s) k g).0
    → k < item_choices c s → HasRow s (item_move c (without_top s) k g)
item-row (top.Process p) s k g on fits below = statement-row p s _ on refl
item-row (top.Pending o) s k g on fits below =
    telling-row o s (with_top (top.Pending o) (without_top s)) (without_top s) _ (inl (on, refl)) (put-back s (top.Pending o) on.on) refl
item-row (top.Frame f) s k g on fits below = fire-row (slice_get (top_set s.world.frames) k) f s k on below refl
item-row (top.Activation a) s k g on fits below =
    acting-row a s g _ on refl (acts (slice_get s.world.scripts a.script) (slice_get s.world.variables a.script) a (without_top s) g) fits
item-row (top.Leave c) s k g on fits below = (inl on, refl)

idle-row : (f : Phase) (s : State) (k : ℕ) → IsGoing s → s.world.phase ≡ f → slice_get s.control 0 ≡ None → k < idle_choices f s
    → HasRow s (idle_move f s k)
idle-row phase.Running s k going is none below =
    agenda-row (slice_get s.agenda 0) s k (record { going = going; running = is; idle = none; next = refl }) below
idle-row (phase.Finished c) s k going is none below = (going, is, none, refl)
idle-row (phase.Ended e) s k going is none below = absurd (omega arith)

top-row : (o : Option Control) (s : State) (k : ℕ) (g : Given) → IsGoing s → slice_get s.control 0 ≡ o
    → Fits s (top_move o s k g).0 → k < top_choices o s → HasRow s (top_move o s k g)
top-row None s k g going is fits below = idle-row s.world.phase s k going refl is below
top-row (Some c) s k g going is fits below = item-row c s k g (record { going = going; on = is }) fits below

crowded-row : (b : Bool) (s : State) (k : ℕ) (g : Given) → is_over s.world.phase ≡ false → is_crowded s ≡ b
    → Fits s (crowded_move b s k g).0 → k < cond b 1 (top_choices (slice_get s.control 0) s) → HasRow s (crowded_move b s k g)
crowded-row true s k g alive crowded fits below = (by_processes alive crowded refl, refl)
crowded-row false s k g alive crowded fits below =
    top-row (slice_get s.control 0) s k g (record { goes = alive; fits = crowded }) refl fits below

below-by : (over crowded : Bool) (n k : ℕ) → over ≡ false → k < cond over 0 (cond crowded 1 n) → k < cond crowded 1 n
below-by true crowded n k alive below = absurd (cc)
below-by false crowded n k alive below = below

pub steps-by-table : StepsByTable
steps-by-table s t k l below step =
    let m : Move = crowded_move (is_crowded s) s k step.given in
    let alive : is_over s.world.phase ≡ false = not-over s k below in
    let lower = below-by (is_over s.world.phase) (is_crowded s) (top_choices (slice_get s.control 0) s) k alive below in
    let same : m.0 ≡ l = ap (λ (x : Move). x.0) step.makes in
    let fits : Fits s m.0 = subst (λ (x : Label). Fits s x) (sym same) step.fits in
    let P : Move → Type 0 = λ x. Step s x.0 x.1 in
    subst P step.makes
    (record { before = m.1; row = crowded-row (is_crowded s) s k step.given alive refl fits lower; settles = refl })

-- What is to be shown of a row: the choice that makes it, and what is given.
record Chosen (s : State) (m : Move) : Type 0 where
  choice : ℕ
  given : Given
  below : choice < choices_of s
  fits : Fits s m.0
  makes : crowded_move (is_crowded s) s choice given ≡ m

-- Nothing is given.
nothing : Given
nothing = record { handle = 0 }

-- The move and the number of choices where the run goes on,
by-going : (s : State) (k : ℕ) (g : Given) → IsGoing s → crowded_move (is_crowded s) s k g ≡ top_move (slice_get s.control 0) s k g
by-going s k g going = ap (λ (b : Bool). crowded_move b s k g) going.fits

choices-going : (s : State) → IsGoing s → choices_of s ≡ top_choices (slice_get s.control 0) s
choices-going s going =
    ap (λ (b : Bool). cond b 0 (cond (is_crowded s) 1 (top_choices (slice_get s.control 0) s))) going.goes
    ∙ ap (λ (b : Bool). cond b 1 (top_choices (slice_get s.control 0) s)) going.fits

-- By the top of control,
by-top : (s : State) (c : Control) (k : ℕ) (g : Given) → HasTop s c
    → crowded_move (is_crowded s) s k g ≡ item_move c (without_top s) k g
by-top s c k g on = by-going s k g on.going ∙ ap (λ (o : Option Control). top_move o s k g) on.on

choices-by-top : (s : State) (c : Control) → HasTop s c → choices_of s ≡ item_choices c s
choices-by-top s c on = choices-going s on.going ∙ ap (λ (o : Option Control). top_choices o s) on.on

some-top : (s : State) (c : Control) → HasTop s c → 0 < choices_of s
some-top s c on = some-choice s on.going.goes

-- And by the agenda, with nothing on control.
by-agenda : (s : State) (o : Option Agendum) (k : ℕ) (g : Given) → HasNext s o
    → crowded_move (is_crowded s) s k g ≡ agenda_move o s k
by-agenda s o k g next =
    by-going s k g next.going ∙ ap (λ (c : Option Control). top_move c s k g) next.idle
    ∙ ap (λ (f : Phase). idle_move f s k) next.running ∙ ap (λ (x : Option Agendum). agenda_move x s k) next.next

choices-by-agenda : (s : State) (o : Option Agendum) → HasNext s o → choices_of s ≡ agenda_choices o s
choices-by-agenda s o next =
    choices-going s next.going ∙ ap (λ (c : Option Control). top_choices c s) next.idle
    ∙ ap (λ (f : Phase). idle_choices f s) next.running ∙ ap (λ (x : Option Agendum). agenda_choices x s) next.next

some-next : (s : State) (o : Option Agendum) → HasNext s o → 0 < choices_of s
some-next s o next = some-choice s next.going.goes

-- With no entry to pick, a region is next.
by-calm : (s : State) (r : Option Region) → IsCalm s r → crowded_move (is_crowded s) s 0 nothing ≡ region_move r s
by-calm s r calm =
    by-agenda s None 0 nothing calm.next ∙ ap (λ (xs : List Entry). pick_move (slice_get xs 0) s) calm.none
    ∙ ap (λ (o : Option Region). region_move o s) calm.region

-- An occurrence that is told next is told.
by-telling : (s : State) (o : Occurrence) (r : State) → TellsNext s o r
    → crowded_move (is_crowded s) s 0 nothing ≡ move_of (λ shown. label.Occ s.occurrence o.reason o.object) s (telling_outcome o r)
by-telling s o r tells = elim tells [
  | inl here ↦
      by-top s (top.Pending o) 0 nothing here.0
      ∙ ap (λ (x : State). move_of (λ shown. label.Occ s.occurrence o.reason o.object) x (telling_outcome o (without_top s)))
      (put-back s (top.Pending o) here.0.on)
      ∙ ap (λ (x : State). move_of (λ shown. label.Occ s.occurrence o.reason o.object) s (telling_outcome o x)) (sym here.1)
  | inr next ↦
      by-agenda s (Some (agendum.Occurrence next.0)) 0 nothing next.1
      ∙ ap (λ (x : Occurrence). move_of (λ shown. label.Occ s.occurrence x.reason x.object) s (telling_outcome x (without_item s))) (sym next.2)
      ∙ ap (λ (x : State). move_of (λ shown. label.Occ s.occurrence o.reason o.object) s (telling_outcome o x)) (sym next.3)
]

some-told : (s : State) (o : Occurrence) (r : State) → TellsNext s o r → 0 < choices_of s
some-told s o r tells = elim tells [
  | inl here ↦ some-top s (top.Pending o) here.0
  | inr next ↦ some-next s (Some (agendum.Occurrence next.0)) next.1
]

-- A move by the state after it.
by-after : (l : Label) (u v : State) → v ≡ u → (let m : Move = (l, u) in m) ≡ (let n : Move = (l, v) in n)
by-after l u v same = ap (λ (x : State). (let m : Move = (l, x) in m)) (sym same)

by-label : (l k : Label) (u : State) → l ≡ k → (let m : Move = (l, u) in m) ≡ (let n : Move = (k, u) in n)
by-label l k u same = ap (λ (x : Label). (let m : Move = (x, u) in m)) same

-- The faults.
fault-chosen : (s u : State) (f : Fault) → Exceeds s f → u ≡ with_phase (phase.Ended (ending.Fault f)) (with_activity (stopped s.world.activity) s)
    → Chosen s (label.End (ending.Fault f), u)
fault-chosen s u f (by_processes alive crowded is) after = record {
  choice = 0;
  given = nothing;
  below = some-choice s alive;
  fits = tt;
  makes = ap (λ (b : Bool). crowded_move b s 0 nothing) crowded
      ∙ ap (λ (x : Fault). fault_move x s) (sym is) ∙ by-after (label.End (ending.Fault f)) _ u after;
}
fault-chosen s u f (by_statement p on is) after = record {
  choice = 0;
  given = nothing;
  below = some-top s (top.Process p) on;
  fits = tt;
  makes = by-top s (top.Process p) 0 nothing on
      ∙ ap (λ (out : Outcome). move_of (λ shown. label.Stmt p shown) (with_top (top.Process p) (without_top s)) out) is
      ∙ ap (λ (x : State). fault_move f x) (put-back s (top.Process p) on.on)
      ∙ by-after (label.End (ending.Fault f)) _ u after;
}
fault-chosen s u f (by_work k e next is makes) after = record {
  choice = k;
  given = nothing;
  below = (let within : k < length (eligible s.world.activity.queue) = slice_get_within (eligible s.world.activity.queue) k e is in
      let n = choices-by-agenda s None next in omega arith);
  fits = tt;
  makes = by-agenda s None k nothing next
      ∙ ap (λ (o : Option Entry). pick_move o s) is
      ∙ ap (λ (out : Outcome). move_of (λ x. label.Pick e.serial x) s out) makes
      ∙ by-after (label.End (ending.Fault f)) _ u after;
}
fault-chosen s u f (by_occurrence o r tells is) after = record {
  choice = 0;
  given = nothing;
  below = some-told s o r tells;
  fits = tt;
  makes = by-telling s o r tells
      ∙ ap (λ (out : Outcome). move_of (λ shown. label.Occ s.occurrence o.reason o.object) s out) is
      ∙ by-after (label.End (ending.Fault f)) _ u after;
}

-- A row is made by a choice.
row-chosen : (s u : State) (l : Label) → Row s l u → Chosen s (l, u)
row-chosen s u (label.Startup k) row = record {
  choice = 0;
  given = nothing;
  below = some-next s (Some (agendum.Startup k)) row.0;
  fits = tt;
  makes = by-agenda s (Some (agendum.Startup k)) 0 nothing row.0 ∙ by-after (label.Startup k) _ u row.1;
}
row-chosen s u (label.Do who order answer) row = record {
  choice = 0;
  given = row.given;
  below = some-top s (top.Activation row.who) row.on;
  fits = row.fits;
  makes = by-top s (top.Activation row.who) 0 row.given row.on ∙ row.makes;
}
row-chosen s u (label.Pass who) row = record {
  choice = 0;
  given = row.given;
  below = some-top s (top.Activation row.who) row.on;
  fits = tt;
  makes = by-top s (top.Activation row.who) 0 row.given row.on ∙ row.makes;
}
row-chosen s u (label.Ret who) row = record {
  choice = 0;
  given = row.given;
  below = some-top s (top.Activation row.who) row.on;
  fits = tt;
  makes = by-top s (top.Activation row.who) 0 row.given row.on ∙ row.makes;
}
row-chosen s u (label.Occ n reason object) row = record {
  choice = 0;
  given = nothing;
  below = some-told s row.what row.rest row.next;
  fits = tt;
  makes = by-telling s row.what row.rest row.next
      ∙ ap (λ (out : Outcome). move_of (λ shown. label.Occ s.occurrence row.what.reason row.what.object) s out) row.makes
      ∙ ap (λ (x : ℕ). (let m : Move = (label.Occ x row.what.reason row.what.object, after_made row.made) in m)) (sym row.number)
      ∙ ap (λ (x : Reason). (let m : Move = (label.Occ n x row.what.object, after_made row.made) in m)) (sym row.why)
      ∙ ap (λ (x : Option Object). (let m : Move = (label.Occ n reason x, after_made row.made) in m)) (sym row.whom)
      ∙ by-after (label.Occ n reason object) _ u row.leaves;
}
row-chosen s u (label.Fire n c) row = record {
  choice = row.choice;
  given = nothing;
  below = (let within : row.choice < length (top_set s.world.frames) = slice_get_within (top_set s.world.frames) row.choice c row.chosen in
      let e = choices-by-top s (top.Frame row.frame) row.on in omega arith);
  fits = tt;
  makes = by-top s (top.Frame row.frame) row.choice nothing row.on
      ∙ ap (λ (o : Option ℕ). fire_move o row.frame (without_top s)) row.chosen
      ∙ by-label (label.Fire row.frame.number c) (label.Fire n c) _ (ap (λ (x : ℕ). label.Fire x c) (sym row.number))
      ∙ by-after (label.Fire n c) _ u row.leaves;
}
row-chosen s u (label.Done n) row = record {
  choice = 0;
  given = nothing;
  below = some-top s (top.Frame row.frame) row.on;
  fits = tt;
  makes = by-top s (top.Frame row.frame) 0 nothing row.on
      ∙ ap (λ (xs : List ℕ). fire_move (slice_get xs 0) row.frame (without_top s)) row.none
      ∙ by-label (label.Done row.frame.number) (label.Done n) _ (ap (λ (x : ℕ). label.Done x) (sym row.number))
      ∙ by-after (label.Done n) _ u row.leaves;
}
row-chosen s u (label.Activate r) row = record {
  choice = 0;
  given = nothing;
  below = some-next s None row.0.next;
  fits = tt;
  makes = by-calm s (Some r) row.0 ∙ by-after (label.Activate r) _ u row.1;
}
row-chosen s u (label.Advance time) row = record {
  choice = 0;
  given = nothing;
  below = some-next s None row.0.next;
  fits = tt;
  makes = by-calm s None row.0 ∙ ap (λ (o : Option ℕ). time_move o s) row.1 ∙ by-after (label.Advance time) _ u row.2;
}
row-chosen s u (label.Pick n shown) row = record {
  choice = row.choice;
  given = nothing;
  below = (let within : row.choice < length (eligible s.world.activity.queue) = slice_get_within (eligible s.world.activity.queue) row.choice row.entry row.chosen in
      let e = choices-by-agenda s None row.next in omega arith);
  fits = tt;
  makes = by-agenda s None row.choice nothing row.next
      ∙ ap (λ (o : Option Entry). pick_move o s) row.chosen
      ∙ ap (λ (k : ℕ). move_of (λ x. label.Pick k x) s
      (work_outcome row.entry.work (with_queue (without k s.world.activity.queue) s))) row.serial
      ∙ ap (λ (out : Outcome). move_of (λ x. label.Pick n x) s out) row.makes
      ∙ by-label (label.Pick n row.made.shown) (label.Pick n shown) _ (ap (λ (x : Option (List ℕ)). label.Pick n x) (sym row.leaves.0))
      ∙ by-after (label.Pick n shown) _ u row.leaves.1;
}
row-chosen s u (label.Stmt p shown) row = record {
  choice = 0;
  given = nothing;
  below = some-top s (top.Process p) row.on;
  fits = tt;
  makes = by-top s (top.Process p) 0 nothing row.on
      ∙ ap (λ (out : Outcome). move_of (λ x. label.Stmt p x) (with_top (top.Process p) (without_top s)) out) row.makes
      ∙ by-label (label.Stmt p row.made.shown) (label.Stmt p shown) _ (ap (λ (x : Option (List ℕ)). label.Stmt p x) (sym row.leaves.0))
      ∙ by-after (label.Stmt p shown) _ u row.leaves.1;
}
row-chosen s u (label.Finish c) (inl on, after) = record {
  choice = 0;
  given = nothing;
  below = some-top s (top.Leave c) on;
  fits = tt;
  makes = by-top s (top.Leave c) 0 nothing on ∙ by-after (label.Finish c) _ u after;
}
row-chosen s u (label.Finish c) (inr (calm, least, none), after) = record {
  choice = 0;
  given = nothing;
  below = some-next s None calm.next;
  fits = tt;
  makes = by-calm s None calm ∙ ap (λ (o : Option ℕ). time_move o s) least
      ∙ ap (λ (x : Cause). finish_move x s) (sym none) ∙ by-after (label.Finish c) _ u after;
}
row-chosen s u (label.End (ending.Cause c)) row = record {
  choice = 0;
  given = nothing;
  below = some-choice s row.0.goes;
  fits = tt;
  makes = by-going s 0 nothing row.0 ∙ ap (λ (o : Option Control). top_move o s 0 nothing) row.2
      ∙ ap (λ (f : Phase). idle_move f s 0) row.1 ∙ by-after (label.End (ending.Cause c)) _ u row.3;
}
row-chosen s u (label.End (ending.Fault f)) row = fault-chosen s u f row.0 row.1

pub table-by-steps : TableBySteps
table-by-steps s t l step =
    let c : Chosen s (l, step.before) = row-chosen s step.before l step.row in (
      c.choice,
      c.below,
      record {
        given = c.given;
        fits = c.fits;
        makes = ap (λ (m : Move). settled_move m) c.makes ∙ by-after l _ t step.settles;
      },
    )
