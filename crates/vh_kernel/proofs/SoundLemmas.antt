-- What holds of the queue from the opening on: serials rise, and each is given once.
use Rattle.std.proofs.Common.{◌≡◌, ℕ, zero, suc, ◌-◌, drop, length, Bool, true, false, not, cond, nat_eq, nat_lt, nat_le, Option, Some, None, Result, Ok, Err, slice_get, List, refl, sym, ap, subst, arith, inl, inr}
use Rattle.std.specs.List.{list_any}
use Rattle.vh_base.specs.declared.limits.TheConstants.{MOST_FRAMES, MOST_NUMBERS}
use Rattle.vh_base.specs.declared.faults.Fault.{Fault}
use Rattle.vh_base.specs.declared.faults.Fault.TheVariants as fault
use Rattle.vh_base.proofs.ChecksLemmas.{unless-holds}
use Rattle.vh_callbacks.specs.Callbacks.{info_of, body_of}
use Rattle.vh_kernel.specs.declared.control.Control.TheVariants as top
use Rattle.vh_queue.specs.declared.entry.Entry.{Entry}
use Rattle.vh_queue.specs.declared.work.Work.{Work}
use Rattle.vh_queue.specs.declared.work.Work.TheVariants as work
use Rattle.vh_orders.specs.declared.phase.Ending.TheVariants as ending
use Rattle.vh_kernel.specs.declared.label.Label.{Label}
use Rattle.vh_kernel.specs.declared.label.Label.TheVariants as label
use Rattle.vh_queue.specs.declared.region.Region.TheVariants as region
use Rattle.vh_orders.specs.declared.phase.Phase.TheVariants as phase
use Rattle.vh_queue.specs.declared.region.Region.{Region}
use Rattle.vh_queue.specs.Entries.{activated_entry, is_due}
use Rattle.vh_queue.specs.Events.{Events, no_events, is_eligible, eligible, is_beyond_start, arrived, activated, Rises}
use Rattle.vh_queue.proofs.EventsLemmas.{rises-filter, rises-map, rises-added, rises-empty, rises-one, activated-serial, arrived-serial}
use Rattle.vh_dispatch.specs.Frames.{without_in_top}
use Rattle.vh_kernel.specs.Occurrences.{Occurrence}
use Rattle.vh_kernel.specs.Outcome.{Made, Outcome, Move, after_made}
use Rattle.vh_app.specs.Script.{ScriptData}
use Rattle.vh_design.specs.Shape.{Shape}
use Rattle.vh_kernel.specs.Settle.{settled, Opens}
use Rattle.vh_proc_simulation.specs.Follows.{Serials, no_serials}
use Rattle.vh_kernel.specs.State.{State, with_activity, with_phase, with_queue, with_top, without_top, without_item, with_frames}
use Rattle.vh_kernel.specs.Statements.{performed_outcome, worked_outcome, on_control, work_outcome}
use Rattle.vh_kernel.specs.Step.{called, started, finish_move, telling_outcome, is_end}
use Rattle.vh_kernel.specs.Table.{IsSound, TellsNext, Acts, Row, Step, StaysSound, OpensSound}
use Rattle.vh_kernel.proofs.KeepsLemmas.{AllOk, KeepsNotes, CameKeeps, PerformedKeeps, performed-keeps, worked-keeps}
use Rattle.vh_proc.specs.Processes.{Processes, Queued, queued, opening}
use Rattle.vh_proc_simulation.specs.Activity.{Activity, evaluations, is_crowded, stopped}
use Rattle.vh_proc_simulation.specs.Labels.{Came, Performed, performed, worked, at_time}
use Rattle.vh_kernel.proofs.StepLemmas.{AllMade, on-control-kept, acts, acts-kept, called-kept, started-kept}

-- It holds of the queue of a state, with what is noted there; and of what outcomes leave.
abbrev pub HoldsIn : (Serials → Events → Type 0) → State → Type 0
HoldsIn Q s = Q s.world.activity.follows s.world.activity.queue

abbrev LeavesIn : (Serials → Events → Type 0) → Made → Type 0
LeavesIn Q m = HoldsIn Q m.state

-- What becomes of an entry keeps its work.
activated-work-by : (b : Bool) (e : Entry) → (cond b (record e { region = region.Active }) e).work ≡ e.work
activated-work-by true e = refl
activated-work-by false e = refl

activated-work : (r : Region) (now : ℕ) (e : Entry) → (activated_entry r now e).work ≡ e.work
activated-work r now e = activated-work-by (is_due r now e) e

arrived-work : (gives : Bool) (now : ℕ) (e : Entry) → (arrived gives now e).work ≡ e.work
arrived-work gives now e = activated-work region.Inactive now e

module _ (Q : Serials → Events → Type 0) (k : KeepsNotes Q) where
  -- A state with the activity of a sound one, or equal to one.
  sound-by : (s t : State) → t.world.activity ≡ s.world.activity → HoldsIn Q s → HoldsIn Q t
  sound-by s t same sound = let P : Activity → Type 0 = λ a. Q a.follows a.queue in subst P (sym same) sound

  sound-at : (t u : State) → t ≡ u → HoldsIn Q u → HoldsIn Q t
  sound-at t u e sound = let P : State → Type 0 = λ v. HoldsIn Q v in subst P (sym e) sound

  -- What outcomes leave is sound.
  statement-sound : (p : ℕ) (r : Result Performed (Option Fault)) (s : State) → HoldsIn Q s → AllOk (PerformedKeeps Q) r
      → AllMade (LeavesIn Q) (performed_outcome r p s)
  statement-sound p (Err None) s sound rise = sound
  statement-sound p (Err (Some f)) s sound rise = tt
  statement-sound p (Ok r) s sound rise = rise

  telling-sound : (o : Occurrence) (s : State) → HoldsIn Q s → AllMade (LeavesIn Q) (telling_outcome o s)
  telling-sound o s sound =
      unless-holds (AllMade (LeavesIn Q)) (nat_le MOST_FRAMES (length s.world.frames)) fault.F1 _ (λ _. tt)
      (λ _. unless-holds (AllMade (LeavesIn Q)) (nat_lt MOST_NUMBERS s.occurrence) fault.F3 _ (λ _. tt) (λ _. sound))

  worked-sound : (r : Result Came (Option Fault)) (s : State) → HoldsIn Q s → AllOk (CameKeeps Q) r → AllMade (LeavesIn Q) (worked_outcome r s)
  worked-sound (Err None) s sound rise = sound
  worked-sound (Err (Some f)) s sound rise = tt
  worked-sound (Ok c) s sound rise = rise

  work-sound : (w : Work) (s : State) → HoldsIn Q s → AllMade (LeavesIn Q) (work_outcome w s)
  work-sound w s sound =
      worked-sound (worked w s.world.activity) (on_control w s) (sound-by s (on_control w s) (on-control-kept w s).activity sound)
      (worked-keeps Q k w s.world.activity sound)

  -- So is the state with what was made pending.
  made-sound : (out : Outcome) (m : Made) (u : State) → out ≡ Ok m → u ≡ after_made m → AllMade (LeavesIn Q) out → HoldsIn Q u
  made-sound out m u is leaves sound =
      let P : Outcome → Type 0 = AllMade (LeavesIn Q) in
      let there : HoldsIn Q m.state = subst P is sound in
      sound-at u (after_made m) leaves there

  -- The activity of the state that an occurrence leaves.
  tells-activity : (s : State) (o : Occurrence) (r : State) → TellsNext s o r → r.world.activity ≡ s.world.activity
  tells-activity s o r tells = elim tells [
    | inl here ↦ ap (λ (t : State). t.world.activity) here.1
    | inr next ↦ ap (λ (t : State). t.world.activity) next.3
  ]

  acts-sound : (s u : State) (l : Label) → HoldsIn Q s → Acts s l u → HoldsIn Q u
  acts-sound s u l sound row =
      let kept = acts-kept row.who (without_top s) row.given _
      (acts (slice_get s.world.scripts row.who.script) (slice_get s.world.variables row.who.script) row.who (without_top s) row.given) in
      let P : Move → Type 0 = λ m. m.1.world.activity ≡ s.world.activity in
      sound-by s u (subst P row.makes kept.activity) sound

  -- Each row leaves a sound state.
  row-sound : (s u : State) (l : Label) → HoldsIn Q s → Row s l u → HoldsIn Q u
  row-sound s u (label.Startup k) sound row =
      let script = slice_get s.world.scripts (k - 1) in
      sound-at u (started script k (without_item s)) row.1
      (sound-by s (started script k (without_item s)) (started-kept script k (without_item s)).activity sound)
  row-sound s u (label.Do who order answer) sound row = acts-sound s u (label.Do who order answer) sound row
  row-sound s u (label.Pass who) sound row = acts-sound s u (label.Pass who) sound row
  row-sound s u (label.Ret who) sound row = acts-sound s u (label.Ret who) sound row
  row-sound s u (label.Occ n reason object) sound row =
      made-sound _ row.made u row.makes row.leaves
      (telling-sound row.what row.rest (sound-by s row.rest (tells-activity s row.what row.rest row.next) sound))
  row-sound s u (label.Fire n c) sound row =
      let before : State = with_top (top.Frame row.frame) (with_frames (without_in_top c s.world.frames) (without_top s)) in
      let kept = called-kept (info_of c s.world.callbacks) (body_of c s.world.callbacks) c row.frame.what before in
      let next : State = called (info_of c s.world.callbacks) (body_of c s.world.callbacks) c row.frame.what before in
      sound-at u next row.leaves (sound-by s next kept.activity sound)
  row-sound s u (label.Done n) sound row = sound-at u (with_frames (drop 1 s.world.frames) (without_top s)) row.leaves sound
  row-sound s u (label.Activate r) sound row =
      sound-at u (with_queue (activated r s.world.activity.queue) s) row.1
      (k.moves s.world.activity.follows s.world.activity.queue s.world.activity.queue.time (activated_entry r s.world.activity.queue.time) (activated-serial r s.world.activity.queue.time)
      (activated-work r s.world.activity.queue.time) sound)
  row-sound s u (label.Advance time) sound row =
      sound-at u (with_activity (at_time time s.world.activity) s) row.2
      (let gives = list_any (is_beyond_start time) s.world.activity.queue.entries in
      k.moves s.world.activity.follows s.world.activity.queue time (arrived gives time) (arrived-serial gives time) (arrived-work gives time) sound)
  row-sound s u (label.Pick n shown) sound row =
      made-sound _ row.made u row.makes row.leaves.1
      (work-sound row.entry.work _ ((k.each s.world.activity.follows).drops (λ e. not (nat_eq e.serial n)) s.world.activity.queue sound))
  row-sound s u (label.Stmt p shown) sound row =
      made-sound _ row.made u row.makes row.leaves.1 (statement-sound p (performed p s.world.activity) (without_top s) sound (performed-keeps Q k p s.world.activity sound))
  row-sound s u (label.Finish c) sound row =
      sound-at u (finish_move c s).1 row.1 (k.clears s.world.activity.follows s.world.activity.queue sound)
  row-sound s u (label.End (ending.Cause c)) sound row = sound-at u (with_phase (phase.Ended (ending.Cause c)) s) row.3 sound
  row-sound s u (label.End (ending.Fault f)) sound row = sound-at u (with_phase (phase.Ended (ending.Fault f)) (with_activity (stopped s.world.activity) s)) row.1 (k.before s.world.activity.queue.time)

  settled-sound : (b : Bool) (u : State) → HoldsIn Q u → HoldsIn Q (cond b u (settled u))
  settled-sound true u sound = sound
  settled-sound false u sound = sound

  pub stays-so : (s t : State) (l : Label) → HoldsIn Q s → Step s l t → HoldsIn Q t
  stays-so s t l sound step =
      sound-at t _ step.settles (settled-sound (is_end l) step.before (row-sound s step.before l sound step.row))

  -- A design opens so.
  evaluations-keep : (n : ℕ) (ps : Processes) → Q no_serials (evaluations n ps).queue
  evaluations-keep zero ps = k.before 0
  evaluations-keep (suc n) ps = (k.each no_serials).adds 0 region.Active (work.Evaluate n) (evaluations n ps).queue refl (evaluations-keep n ps)

  opening-by : (b : Bool) (n : ℕ) (ps : Processes) → Q no_serials (let q : Queued = cond b (queued ps no_events) (evaluations n ps) in q).queue
  opening-by true n ps = k.before 0
  opening-by false n ps = evaluations-keep n ps

  pub opens-so : (d : Shape) (scripts : List ScriptData) (s : State) → Opens d scripts s → HoldsIn Q s
  opens-so d scripts s opens =
      let a = opens.before.world.activity in
      let P : Queued → Type 0 = λ b. Q no_serials b.queue in
      let R : Serials → Type 0 = λ n. Q n a.queue in
      let there : Q no_serials a.queue = subst P (sym opens.is.activity.entries) (opening-by (is_crowded d) (length d.codes) (opening d)) in
      let before : HoldsIn Q opens.before = subst R (sym opens.is.activity.follows) there in
      sound-at s (settled opens.before) opens.settles (settled-sound false opens.before before)

-- Serials rise, and each was given once.
rises-keep : KeepsNotes (λ n q. Rises 1 q.next q.entries)
rises-keep = record {
  each = λ n. record {
    adds = λ time r w q other rising. rises-added (Some time) r w 1 q.next q.entries rising;
    drops = λ test q rising. rises-filter test 1 q.next q.entries rising;
  };
  follows = λ n q force o time r none rising. rises-added (Some time) r (work.Follow o force) 1 q.next q.entries rising;
  moves = λ n q time f serial work rising. rises-map f serial 1 q.next q.entries rising;
  clears = λ n q rising. rises-empty 1 q.next q.entries rising;
  before = λ time. omega arith;
}

pub stays-sound : StaysSound
stays-sound s t l sound step = stays-so (λ n q. Rises 1 q.next q.entries) rises-keep s t l sound step

pub opens-sound : OpensSound
opens-sound d scripts s opens = opens-so (λ n q. Rises 1 q.next q.entries) rises-keep d scripts s opens

-- An entry of a sound queue is told by its serial.
pub one_entry : (s : State) (i j : ℕ) (e f : Entry) → IsSound s → slice_get (eligible s.world.activity.queue) i ≡ Some e
    → slice_get (eligible s.world.activity.queue) j ≡ Some f → e.serial ≡ f.serial → e ≡ f
one_entry s i j e f sound at_i at_j same =
    rises-one 1 s.world.activity.queue.next (eligible s.world.activity.queue) i j e f
    (rises-filter (is_eligible s.world.activity.queue) 1 s.world.activity.queue.next s.world.activity.queue.entries sound) at_i at_j same
