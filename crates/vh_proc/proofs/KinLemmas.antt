-- A label of a process, and a `disable`, leave what has begun it and the process of the design that it comes from.
use Rattle.std.proofs.Common.{◌≡◌, ◌∙◌, ℕ, List, [], ◌∷◌, Bool, true, false, cond, nat_lt, Option, Some, None, Result, Ok, Err, refl, ap, sym}
use Rattle.vh_base.specs.Checks.{unless, with_ok, with_some}
use Rattle.vh_base.specs.declared.faults.Fault.{Fault}
use Rattle.vh_design_code.specs.declared.code.Block.{Block}
use Rattle.vh_design_code.specs.declared.code.Goes.{Goes}
use Rattle.vh_design_code.specs.declared.code.Instruction.{Instruction}
use Rattle.vh_design_code.specs.declared.operation.Operation.{Operation}
use Rattle.vh_design_code.specs.declared.operation.Operation.TheVariants as op
use Rattle.vh_design_code.specs.declared.operation.Single.{Single}
use Rattle.vh_design_code.specs.declared.operation.Pause.{Pause}
use Rattle.vh_design_code.specs.declared.operation.Pause.TheVariants as pause
use Rattle.vh_design_code.specs.declared.operation.Loop.{Loop}
use Rattle.vh_design_code.specs.declared.operation.Loop.TheVariants as turn
use Rattle.vh_design_code.specs.declared.operation.Drive.{Drive}
use Rattle.vh_design_code.specs.declared.target.Delay.{Delay}
use Rattle.vh_design.specs.Shape.{Shape}
use Rattle.vh_proc_thread.specs.declared.call.Call.{Call}
use Rattle.vh_proc_thread.specs.Control.{Control, outermost, is_within, is_call_of, blocks_of, block_around, left_task, left_block, left, disabled}
use Rattle.vh_proc_turn.specs.declared.process.Process.{Process}
use Rattle.vh_proc_turn.specs.declared.next.Next.TheVariants as next
use Rattle.vh_proc_turn.specs.Drives.{all_driven, driving}
use Rattle.vh_proc_turn.specs.Own.{Own, Turn, arriving}
use Rattle.vh_proc_turn.specs.Own as O
use Rattle.vh_proc_turn.specs.Turns.{turn_of, turn_at}
use Rattle.vh_proc_turn.specs.Turns as T

-- What stands before a step that succeeds, succeeds.
pub ok-then : {X Y F : Type 0} (o : Result X F) (f : X → Result Y F) (y : Y) → with_ok o f ≡ Ok y → (x : X) × (o ≡ Ok x) × (f x ≡ Ok y)
ok-then (Ok x) f y h = (x, refl, h)
ok-then (Err e) f y h = absurd (cc)

pub unless-then : {X F : Type 0} (b : Bool) (e : F) (rest : Result X F) (x : X) → unless b e rest ≡ Ok x → rest ≡ Ok x
unless-then true e rest x h = absurd (cc)
unless-then false e rest x h = h

pub some-then : {X Y F : Type 0} (o : Option X) (e : F) (f : X → Result Y F) (y : Y) → with_some o e f ≡ Ok y → (x : X) × (o ≡ Some x) × (f x ≡ Ok y)
some-then None e f y h = absurd (cc)
some-then (Some x) e f y h = (x, refl, h)

abbrev pub Gives : {X F : Type 0} → Result X F → X → Type 0
Gives o x = o ≡ Ok x

pub ok-same : {X F : Type 0} (x y : X) → Gives {F = F} (Ok x) y → x ≡ y
ok-same x y h = cc

-- A label that touches no other process leaves its parent, and the process of the design that it comes from.
abbrev pub kin : Process → Option ℕ × ℕ
kin t = (t.parent, t.thread.root)

kept : (x turn : Turn) (k : Option ℕ × ℕ) → Gives {F = Option Fault} (Ok x) turn → kin x.own.process ≡ k → kin turn.own.process ≡ k
kept x turn k h is = ap (λ (y : Turn). kin y.own.process) (sym (ok-same x turn h)) ∙ is

module _ (d : Shape) (p : ℕ) (i : Instruction) where
  waits-kept : (wait : ℕ) (o : Own) (turn : Turn) → T.waiting p wait o ≡ Ok turn → kin turn.own.process ≡ kin o.process
  waits-kept wait o turn h = kept _ turn _ h refl

  resumes-kept : (delay : _) (o : Own) (turn : Turn) → T.resuming d p delay o ≡ Ok turn → kin turn.own.process ≡ kin o.process
  resumes-kept delay o turn h = let q = ok-then (T.resumption d o.store p delay o.queue) _ turn h in kept _ turn _ q.2 refl

  pauses-kept : (it : Pause) (o : Own) (turn : Turn) → T.pausing d p i.next it o ≡ Ok turn → kin turn.own.process ≡ kin o.process
  pauses-kept (pause.Wait delay) o turn h = resumes-kept delay (O.gone i.next o) turn h
  pauses-kept (pause.Await wait) o turn h = waits-kept wait (O.gone i.next o) turn h
  pauses-kept (pause.WaitFor condition wait) o turn h = by (T.is_true d o.store condition) refl
    where
      by : (b : Bool) → T.is_true d o.store condition ≡ b → kin turn.own.process ≡ kin o.process
      by true is = kept _ turn _ (rw is at h) refl
      by false is = waits-kept wait o turn (rw is at h)

  repeats-kept : (done : Goes) (n : ℕ) (t : Process) (b : Bool) → nat_lt 0 n ≡ b → kin (T.repeat_of i done n t) ≡ kin t
  repeats-kept done n t true is = rw is refl
  repeats-kept done n t false is = rw is refl

  loops-kept : (it : Loop) (o : Own) → kin (T.turning d o.store i it o.process) ≡ kin o.process
  loops-kept (turn.Repeat count done) o = repeats-kept done _ o.process (nat_lt 0 _) refl
  loops-kept (turn.Again done) o = refl
  loops-kept turn.Turn o = refl

  singles-kept : (it : Single) (o : Own) (turn : Turn) → T.single_turn d it o ≡ Ok turn → kin turn.own.process ≡ kin o.process
  singles-kept it o turn h = let n = some-then (T.single_next it) None _ turn h in kept _ turn _ n.2 refl

  schedules-kept : (delay : Option Delay) (ps : _) (o : Own) (turn : Turn) → T.scheduling d delay ps o ≡ Ok turn
      → kin turn.own.process ≡ kin o.process
  schedules-kept delay ps o turn h =
      let q = ok-then (T.schedule_of d o.store delay ps o.queue) (λ q. O.quietly next.On (record o { queue = q })) turn h in
      kept _ turn _ q.2 refl

  drives-kept : (it : Drive) (o : Own) (turn : Turn) → T.driving_all d p it o ≡ Ok turn → kin turn.own.process ≡ kin o.process
  drives-kept it o turn h =
      let b = ok-then (all_driven d.drivers o.store (O.update_time d o.store it.delay) it.drivers _ (driving o.process.updates o.queue)) _ turn h in
      kept _ turn _ b.2 refl

  row-kept : (op : Operation) (o : Own) (turn : Turn) → turn_at d p i op o ≡ Ok turn → kin turn.own.process ≡ kin o.process
  row-kept (op.Assign e targets) o turn h = kept _ turn _ h refl
  row-kept (op.Hold e width delay) o turn h = resumes-kept delay (T.holding (_) (O.gone i.next o)) turn h
  row-kept (op.Store targets) o turn h = kept _ turn _ h refl
  row-kept (op.Schedule s) o turn h = schedules-kept s.delay _ (O.gone i.next o) turn h
  row-kept (op.Pause it) o turn h = pauses-kept it o turn h
  row-kept (op.Test condition otherwise) o turn h = kept _ turn _ h refl
  row-kept (op.Case c) o turn h = kept _ turn _ h refl
  row-kept (op.Loop it) o turn h = kept _ turn _ h (loops-kept it o)
  row-kept (op.Fork positions) o turn h = absurd (cc)
  row-kept op.End o turn h = kept _ turn _ h refl
  row-kept (op.Enter routine inputs) o turn h = kept _ turn _ (unless-then _ _ _ turn h) refl
  row-kept (op.Leave l) o turn h = kept _ turn _ h refl
  row-kept (op.SysCall call) o turn h = kept _ turn _ h refl
  row-kept (op.SysFunc call) o turn h = kept _ turn _ h refl
  row-kept (op.Single it) o turn h = singles-kept it (O.gone i.next o) turn h
  row-kept (op.Drive it) o turn h = drives-kept it (O.gone i.next o) turn h
  row-kept (op.Initial object e) o turn h = kept _ turn _ h refl

  pub turn-kept : (o : Own) (turn : Turn) → turn_of d p i o ≡ Ok turn → kin turn.own.process ≡ kin o.process
  turn-kept o turn h = row-kept i.operation (record o { process = arriving d o.process }) turn h

-- A `disable`.
root-block : (d : Shape) (target : ℕ) (t : Control) (cs : List Call) (bs : List Block) (o : Option Block) → (left_block d target cs bs o t).root ≡ t.root
root-block d target t cs bs None = refl
root-block d target t cs bs (Some b) = refl

root-by : (d : Shape) (target : ℕ) (t : Control) (c : Call) (cs : List Call) (b : Bool)
    → (cond b (left_task d (c ∷ cs) t) (left_block d target (c ∷ cs) (blocks_of d t.root c) (block_around d t.root target c) t)).root ≡ t.root
root-by d target t c cs true = refl
root-by d target t c cs false = root-block d target t (c ∷ cs) (blocks_of d t.root c) (block_around d t.root target c)

root-left : (d : Shape) (target : ℕ) (t : Control) (cs : List Call) → (left d target t cs).root ≡ t.root
root-left d target t [] = refl
root-left d target t (c ∷ cs) = root-by d target t c cs (is_call_of target c)

pub root-disabled : (d : Shape) (target : ℕ) (t : Control) → (disabled d target t).root ≡ t.root
root-disabled d target t = root-left d target t (outermost (is_within d t.root target) t.calls)
