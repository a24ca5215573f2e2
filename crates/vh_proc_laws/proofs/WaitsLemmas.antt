-- Those that wait stand by rising numbers behind each label.
use Rattle.std.proofs.Common.{◌≡◌, ◌∙◌, ℕ, ◌+◌, ◌⊎◌, ⊎_elim, inl, inr, List, [], ◌∷◌, Bool, true, false, Option, Some, None, Ok, refl, ap, sym, subst, arith}
use Rattle.vh_base.specs.declared.faults.Fault.{Fault}
use Rattle.vh_callbacks.specs.Callbacks.{Rise}
use Rattle.vh_callbacks.proofs.CallbacksLemmas.{rise_without, rise_insert, rise_to}
use Rattle.vh_design_code.specs.declared.code.Goes.{Goes}
use Rattle.vh_design_code.specs.declared.code.Instruction.{Instruction}
use Rattle.vh_design_code.specs.declared.operation.Operation.{Operation}
use Rattle.vh_design_code.specs.declared.operation.Operation.TheVariants as op
use Rattle.vh_design_code.specs.declared.operation.Single.{Single}
use Rattle.vh_design_code.specs.declared.operation.Pause.{Pause}
use Rattle.vh_design_code.specs.declared.operation.Pause.TheVariants as pause
use Rattle.vh_design_code.specs.declared.operation.Drive.{Drive}
use Rattle.vh_design_code.specs.declared.target.Delay.{Delay}
use Rattle.vh_proc_assign.specs.declared.piece.Piece.{Piece}
use Rattle.vh_proc_assign.specs.Values.{right_side}
use Rattle.vh_design.specs.Shape.{Shape}
use Rattle.vh_sense.specs.Sensitivity.{Sensitivity, with_wait, without_wait}
use Rattle.vh_proc_turn.specs.declared.next.Next.TheVariants as next
use Rattle.vh_proc_turn.specs.declared.process.Process.{Process}
use Rattle.vh_proc_turn.specs.Drives.{digits_driven, all_driven, driving}
use Rattle.vh_proc_turn.specs.Own.{Own, Turn, own_of, arriving}
use Rattle.vh_proc_turn.specs.Own as O
use Rattle.vh_proc_turn.specs.Turns.{turn_of, turn_at}
use Rattle.vh_proc_turn.specs.Turns as T
use Rattle.vh_proc.proofs.KinLemmas.{Gives, ok-then, ok-same, some-then, unless-then}
use Rattle.vh_proc.specs.Disabled.{Stopped, stopped, left_in, ended_in, all_ended, all_left, all_resumed, all_stopped, disable_all}
use Rattle.vh_proc.specs.Processes.{Scheduled, Step, World, queued, process_at, without_process, changed, joined}
use Rattle.vh_proc.specs.Steps as S
use Rattle.vh_proc_laws.specs.Disable.{WaitsRise}
use Rattle.vh_proc_laws.specs.Laws.{OpensWaits, KeepsWaits, WakesInOrder}
use Rattle.vh_proc_laws.proofs.StepsLemmas.{AfterEach, after-step}

-- One waits no more, or waits for something.
without-rises : (p : ℕ) (s : Sensitivity) → WaitsRise s → WaitsRise (without_wait p s)
without-rises p s h = (h.0, rise_without p 0 s.waiting h.0 h.1)

with-rises : (p w : ℕ) (s : Sensitivity) → WaitsRise s → WaitsRise (with_wait p w s)
with-rises p w s h =
    let gone = rise_without p 0 s.waiting h.0 h.1 in
    let bound : ℕ = h.0 + (p + 1) in
    (bound, rise_insert p 0 w (without_wait p s).waiting bound (omega arith) (omega arith) (rise_to 0 (without_wait p s).waiting h.0 bound (omega arith) gone))

-- What a label of a process makes of those that wait: nothing, or it waits itself.
abbrev Waits : ℕ → Own → Turn → Type 0
Waits p o turn = (turn.own.sense ≡ o.sense) ⊎ ((w : ℕ) × (turn.own.sense ≡ with_wait p w o.sense))

none : (p : ℕ) (x turn : Turn) (o : Own) → Gives {F = Option Fault} (Ok x) turn → x.own.sense ≡ o.sense → Waits p o turn
none p x turn o h is = inl (ap (λ (y : Turn). y.own.sense) (sym (ok-same x turn h)) ∙ is)

module _ (d : Shape) (p : ℕ) (i : Instruction) where
  waits : (wait : ℕ) (o : Own) (turn : Turn) → T.waiting p wait o ≡ Ok turn → Waits p o turn
  waits wait o turn h = inr (wait, ap (λ (y : Turn). y.own.sense) (sym (ok-same _ turn h)))

  resumes : (delay : _) (o : Own) (turn : Turn) → T.resuming d p delay o ≡ Ok turn → Waits p o turn
  resumes delay o turn h = let q = ok-then (T.resumption d o.store p delay o.queue) _ turn h in none p _ turn o q.2 refl

  pauses : (it : Pause) (o : Own) (turn : Turn) → T.pausing d p i.next it o ≡ Ok turn → Waits p o turn
  pauses (pause.Wait delay) o turn h = resumes delay (O.gone i.next o) turn h
  pauses (pause.Await wait) o turn h = waits wait (O.gone i.next o) turn h
  pauses (pause.WaitFor condition wait) o turn h = by (T.is_true d o.store condition) refl
    where
      by : (b : Bool) → T.is_true d o.store condition ≡ b → Waits p o turn
      by true is = none p _ turn o (rw is at h) refl
      by false is = waits wait o turn (rw is at h)

  singles : (it : Single) (o : Own) (turn : Turn) → T.single_turn d it o ≡ Ok turn → Waits p o turn
  singles it o turn h = let n = some-then (T.single_next it) None _ turn h in none p _ turn o n.2 refl

  schedules : (delay : Option Delay) (ps : List Piece) (o : Own) (turn : Turn) → T.scheduling d delay ps o ≡ Ok turn → Waits p o turn
  schedules delay ps o turn h =
      let q = ok-then (T.schedule_of d o.store delay ps o.queue) (λ q. O.quietly next.On (record o { queue = q })) turn h in
      none p _ turn o q.2 refl

  drives : (it : Drive) (o : Own) (turn : Turn) → T.driving_all d p it o ≡ Ok turn → Waits p o turn
  drives it o turn h =
      let v = right_side d o.store it.value (digits_driven d.drivers it.drivers) in
      let time = O.update_time d o.store it.delay in
      let b = ok-then (all_driven d.drivers o.store time it.drivers v (driving o.process.updates o.queue))
      (λ b. T.waiting p it.wait (record o { process = record o.process { updates = b.updates }; queue = b.queue })) turn h in
      waits it.wait (record o { process = record o.process { updates = b.0.updates }; queue = b.0.queue }) turn b.2

  row : (op : Operation) (o : Own) (turn : Turn) → turn_at d p i op o ≡ Ok turn → Waits p o turn
  row (op.Assign e targets) o turn h = none p _ turn o h refl
  row (op.Hold e width delay) o turn h = resumes delay (T.holding (_) (O.gone i.next o)) turn h
  row (op.Store targets) o turn h = none p _ turn o h refl
  row (op.Schedule s) o turn h = schedules s.delay _ (O.gone i.next o) turn h
  row (op.Pause it) o turn h = pauses it o turn h
  row (op.Test condition otherwise) o turn h = none p _ turn o h refl
  row (op.Case c) o turn h = none p _ turn o h refl
  row (op.Loop it) o turn h = none p _ turn o h refl
  row (op.Fork positions) o turn h = absurd (cc)
  row op.End o turn h = none p _ turn o h refl
  row (op.Enter routine inputs) o turn h = none p _ turn o (unless-then _ _ _ turn h) refl
  row (op.Leave l) o turn h = none p _ turn o h refl
  row (op.SysCall call) o turn h = none p _ turn o h refl
  row (op.SysFunc call) o turn h = none p _ turn o h refl
  row (op.Single it) o turn h = singles it (O.gone i.next o) turn h
  row (op.Drive it) o turn h = drives it (O.gone i.next o) turn h
  row (op.Initial object e) o turn h = none p _ turn o h refl

  turn-rises : (o : Own) (turn : Turn) → turn_of d p i o ≡ Ok turn → WaitsRise o.sense → WaitsRise turn.own.sense
  turn-rises o turn h rise =
      ⊎_elim (λ (is : turn.own.sense ≡ o.sense). subst WaitsRise (sym is) rise)
      (λ (w : (w : ℕ) × (turn.own.sense ≡ with_wait p w o.sense)). subst WaitsRise (sym w.1) (with-rises p w.0 o.sense rise))
      (row i.operation (record o { process = arriving d o.process }) turn h)

-- A disable halts each that it stops.
ends-one : (p : ℕ) (t : Option Process) (o : Scheduled) → WaitsRise o.sense → WaitsRise (ended_in t p o).sense
ends-one p None o h = h
ends-one p (Some t) o h = without-rises p o.sense h

ends-all : (ps : List ℕ) (o : Scheduled) → WaitsRise o.sense → WaitsRise (all_ended ps o).sense
unfolding all_ended
ends-all [] o h = h
ends-all (p ∷ ps) o h = ends-all ps (ended_in (process_at p o.processes) p o) (ends-one p (process_at p o.processes) o h)

leaves-one : (d : Shape) (target p : ℕ) (t : Option Process) (o : Scheduled) → WaitsRise o.sense → WaitsRise (left_in d target t p o).sense
leaves-one d target p None o h = h
leaves-one d target p (Some t) o h = without-rises p o.sense h

leaves-all : (d : Shape) (target : ℕ) (ps : List ℕ) (o : Scheduled) → WaitsRise o.sense → WaitsRise (all_left d target ps o).sense
unfolding all_left
leaves-all d target [] o h = h
leaves-all d target (p ∷ ps) o h =
    leaves-all d target ps (left_in d target (process_at p o.processes) p o) (leaves-one d target p (process_at p o.processes) o h)

disables : (d : Shape) (target own : ℕ) (found : Stopped) (o after : Scheduled) → disable_all d target own found o ≡ Ok after
    → WaitsRise o.sense → WaitsRise after.sense
disables d target own found o after h rise =
    let mid = all_stopped d target found o in
    let b = ok-then (all_resumed own found.leaves (queued mid.processes mid.queue)) _ after h in
    subst (λ (x : Scheduled). WaitsRise x.sense) (ok-same _ after b.2)
    (leaves-all d target found.leaves (all_ended found.ends o) (ends-all found.ends o rise))

-- Each label.
module _ (d : Shape) (p : ℕ) (t : Process) (i : Instruction) (w : World) (rise : WaitsRise w.sense) where
  alone-rises : (s : Step) → S.alone d p t i w ≡ Ok s → WaitsRise s.world.sense
  alone-rises s h =
      let x = ok-then (S.own_turn d p t i w) _ s h in
      subst (λ (y : Step). WaitsRise y.world.sense) (ok-same _ s x.2) (turn-rises d p i (own_of t w.store w.sense w.queue) x.0 x.1 rise)

  initial-rises : (s : Step) → S.initializing d p t i w ≡ Ok s → WaitsRise s.world.sense
  initial-rises s h =
      let x = ok-then (S.own_turn d p t i w) _ s h in
      subst (λ (y : Step). WaitsRise y.world.sense) (ok-same _ s x.2) (turn-rises d p i (own_of t w.store w.sense w.queue) x.0 x.1 rise)

  ending-rises : (s : Step) → S.ending d p t w ≡ Ok s → WaitsRise s.world.sense
  ending-rises s h =
      let x = ok-then (joined d t.parent (queued (without_process p w.processes) w.queue)) _ s h in
      subst (λ (y : Step). WaitsRise y.world.sense) (ok-same _ s x.2) rise

  forking-rises : (goes : Goes) (ks : List ℕ) (s : Step) → S.forking d p goes ks w ≡ Ok s → WaitsRise s.world.sense
  forking-rises goes ks s h =
      let x = ok-then (S.forked d p goes ks (queued (changed p (arriving d) w.processes) w.queue)) _ s h in
      subst (λ (y : Step). WaitsRise y.world.sense) (ok-same _ s x.2) rise

  disabling-rises : (target : ℕ) (goes : Goes) (s : Step) → S.disabling d target p goes w ≡ Ok s → WaitsRise s.world.sense
  disabling-rises target goes s h =
      let arrived = changed p (arriving d) w.processes in
      let x = ok-then (S.disabled_by d target p goes _) _ s h in
      subst (λ (y : Step). WaitsRise y.world.sense) (ok-same _ s x.2) (disables d target p (stopped d target arrived) _ x.0 x.1 rise)

  each-rises : AfterEach (λ v. WaitsRise v.sense) d p t i w
  each-rises = record {
    own = alone-rises;
    initial = initial-rises;
    ends = ending-rises;
    forks = forking-rises;
    disables = disabling-rises;
  }

pub keeps-waits : KeepsWaits
keeps-waits d p w s rise h = after-step (λ v. WaitsRise v.sense) d p w (λ t at i. each-rises d p t i w rise) s h

pub opens-waits : OpensWaits
opens-waits d s opening = (0, subst (λ (es : List (ℕ × ℕ)). Rise 0 es 0) (sym opening.nobody) (omega arith))

pub wakes-in-order : WakesInOrder
wakes-in-order None s h = h
wakes-in-order (Some p) s h = without-rises p s h
