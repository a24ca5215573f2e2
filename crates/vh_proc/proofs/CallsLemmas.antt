-- What holds of each task and function that a thread is in holds after every change of it.
use Rattle.std.proofs.Common.{◌≡◌, ℕ, List, [], ◌∷◌, Bool, true, false, cond, nat_lt, Option, Some, None, IfSome, Ok, refl, subst}
use Rattle.std.specs.List.{AllByRecursion}
use Rattle.vh_base.specs.declared.faults.Fault.{Fault}
use Rattle.vh_design_code.specs.declared.code.Block.{Block}
use Rattle.vh_design_code.specs.declared.code.Goes.{Goes}
use Rattle.vh_design_code.specs.declared.code.Goes.TheVariants as goes
use Rattle.vh_design_code.specs.declared.code.Instruction.{Instruction}
use Rattle.vh_design_code.specs.declared.operation.Drive.{Drive}
use Rattle.vh_design_code.specs.declared.operation.Loop.{Loop}
use Rattle.vh_design_code.specs.declared.operation.Loop.TheVariants as turn
use Rattle.vh_design_code.specs.declared.operation.Operation.{Operation}
use Rattle.vh_design_code.specs.declared.operation.Operation.TheVariants as op
use Rattle.vh_design_code.specs.declared.operation.Pause.{Pause}
use Rattle.vh_design_code.specs.declared.operation.Pause.TheVariants as pause
use Rattle.vh_design_code.specs.declared.operation.Single.{Single}
use Rattle.vh_design_code.specs.declared.target.Delay.{Delay}
use Rattle.vh_design.specs.Shape.{Shape}
use Rattle.vh_proc_thread.specs.declared.call.Call.{Call}
use Rattle.vh_proc_thread.specs.Control.{Control, behind, gone, standing, or_these, outermost, is_within, is_call_of, blocks_of, block_around, left_task, left_block, left, disabled, in_block, block_at, next_of, call_at, routine_of, process_of, branch_of, arrived}
use Rattle.vh_proc_turn.specs.declared.process.Process.{Process}
use Rattle.vh_proc_turn.specs.declared.next.Next.TheVariants as next
use Rattle.vh_proc_turn.specs.Drives.{all_driven, driving}
use Rattle.vh_proc_turn.specs.Own.{Own, Turn, arriving}
use Rattle.vh_proc_turn.specs.Own as O
use Rattle.vh_proc_turn.specs.Turns.{turn_of, turn_at}
use Rattle.vh_proc_turn.specs.Turns as T
use Rattle.vh_proc.specs.Families.{called_by}
use Rattle.vh_proc.proofs.KinLemmas.{ok-then, unless-then, some-then, ok-same, Gives}

module _ (P : ℕ → Type 0) where
  -- The task or function of each of these calls is so.
  abbrev pub AllCalls : List Call → Type 0
  AllCalls cs = AllByRecursion (λ c. IfSome c.routine P) cs

  -- Where a thread goes on,
  pub calls-gone : (d : Shape) (root : ℕ) (g : Goes) (cs : List Call) → AllCalls cs → AllCalls (gone d root g cs)
  unfolding gone
  calls-gone d root (goes.To k) [] all = tt
  calls-gone d root (goes.To k) (c ∷ cs) all = all
  calls-gone d root goes.Back [] all = tt
  calls-gone d root goes.Back (c ∷ []) all = tt
  calls-gone d root goes.Back (c ∷ e ∷ cs) all = calls-gone d root (behind d root e) (e ∷ cs) all.1

  -- where it performs a label,
  pub calls-in : (block : Option ℕ) (cs : List Call) → AllCalls cs → AllCalls (in_block block cs)
  calls-in block [] all = tt
  calls-in block (c ∷ cs) all = all

  -- where it leaves a block or task that is disabled,
  calls-or : (xs ys : List Call) → AllCalls xs → AllCalls ys → AllCalls (or_these xs ys)
  calls-or [] ys one two = two
  calls-or (x ∷ xs) ys one two = one

  calls-if : (b : Bool) (xs : List Call) → AllCalls xs → AllCalls (cond b xs [])
  calls-if true xs all = all
  calls-if false xs all = tt

  calls-outermost : (test : Call → Bool) (cs : List Call) → AllCalls cs → AllCalls (outermost test cs)
  calls-outermost test [] all = tt
  calls-outermost test (c ∷ cs) all =
      calls-or (outermost test cs) (cond (test c) (c ∷ cs) []) (calls-outermost test cs all.1) (calls-if (test c) (c ∷ cs) all)

  calls-left-block : (d : Shape) (target : ℕ) (cs : List Call) (bs : List Block) (b : Option Block) (t : Control) → AllCalls cs
      → AllCalls (left_block d target cs bs b t).calls
  calls-left-block d target cs bs None t all = all
  calls-left-block d target cs bs (Some b) t all = calls-in b.around cs all

  calls-left-by : (d : Shape) (target : ℕ) (b : Bool) (c : Call) (cs : List Call) (t : Control) → AllCalls (c ∷ cs)
      → AllCalls (cond b (left_task d (c ∷ cs) t) (left_block d target (c ∷ cs) (blocks_of d t.root c) (block_around d t.root target c) t)).calls
  calls-left-by d target true c cs t all = all.1
  calls-left-by d target false c cs t all = calls-left-block d target (c ∷ cs) (blocks_of d t.root c) (block_around d t.root target c) t all

  calls-left : (d : Shape) (target : ℕ) (t : Control) (cs : List Call) → AllCalls t.calls → AllCalls cs → AllCalls (left d target t cs).calls
  calls-left d target t [] own all = own
  calls-left d target t (c ∷ cs) own all = calls-left-by d target (is_call_of target c) c cs t all

  pub calls-disabled : (d : Shape) (target : ℕ) (t : Control) → AllCalls t.calls → AllCalls (disabled d target t).calls
  calls-disabled d target t all =
      calls-left d target t (outermost (is_within d t.root target) t.calls) all (calls-outermost (is_within d t.root target) t.calls all)

  -- where it begins,
  pub calls-begun : (d : Shape) (k : ℕ) → AllCalls (process_of d k).calls
  calls-begun d k = (tt, tt)

  pub calls-arrived : (d : Shape) (t : Control) → AllCalls t.calls → AllCalls (arrived d t).calls
  calls-arrived d t all = calls-in (block_at (next_of d t)) (standing d t) (calls-gone d t.root t.goes t.calls all)

  pub calls-branch : (position : ℕ) (t : Control) → AllCalls t.calls → AllCalls (branch_of position t).calls
  calls-branch position t all = (by t.calls all, tt)
    where
      by : (cs : List Call) → AllCalls cs → IfSome (routine_of (record t { calls = cs })) P
      by [] all = tt
      by (c ∷ cs) all = all.0

  -- and where it performs a label that touches no other process, and calls what it calls.
  abbrev called : Process → Type 0
  called t = AllCalls t.thread.calls

  gives : (x turn : Turn) → Gives {F = Option Fault} (Ok x) turn → called x.own.process → called turn.own.process
  gives x turn h is = subst (λ (y : Turn). called y.own.process) (ok-same x turn h) is

  module _ (d : Shape) (p : ℕ) (i : Instruction) where
    on : (g : Goes) (o : Own) → called o.process → called (O.gone g o).process
    on g o own = own

    waits : (wait : ℕ) (o : Own) (turn : Turn) → T.waiting p wait o ≡ Ok turn → called o.process → called turn.own.process
    waits wait o turn h own = gives _ turn h own

    resumes : (delay : _) (o : Own) (turn : Turn) → T.resuming d p delay o ≡ Ok turn → called o.process → called turn.own.process
    resumes delay o turn h own = let q = ok-then (T.resumption d o.store p delay o.queue) _ turn h in gives _ turn q.2 own

    pauses : (it : Pause) (o : Own) (turn : Turn) → T.pausing d p i.next it o ≡ Ok turn → called o.process → called turn.own.process
    pauses (pause.Wait delay) o turn h own = resumes delay (O.gone i.next o) turn h (on i.next o own)
    pauses (pause.Await wait) o turn h own = waits wait (O.gone i.next o) turn h (on i.next o own)
    pauses (pause.WaitFor condition wait) o turn h own = by (T.is_true d o.store condition) refl
      where
        by : (b : Bool) → T.is_true d o.store condition ≡ b → called turn.own.process
        by true is = gives _ turn (rw is at h) (on i.next o own)
        by false is = waits wait o turn (rw is at h) own

    repeats : (done : Goes) (n : ℕ) (t : Process) (b : Bool) → nat_lt 0 n ≡ b → called t → called (T.repeat_of i done n t)
    repeats done n t true is own = rw is own
    repeats done n t false is own = rw is own

    loops : (it : Loop) (o : Own) → called o.process → called (T.turning d o.store i it o.process)
    loops (turn.Repeat count done) o own = repeats done _ o.process (nat_lt 0 _) refl own
    loops (turn.Again done) o own = own
    loops turn.Turn o own = on i.next o own

    singles : (it : Single) (o : Own) (turn : Turn) → T.single_turn d it o ≡ Ok turn → called o.process → called turn.own.process
    singles it o turn h own = let n = some-then (T.single_next it) None _ turn h in gives _ turn n.2 own

    schedules : (delay : Option Delay) (ps : _) (o : Own) (turn : Turn) → T.scheduling d delay ps o ≡ Ok turn → called o.process → called turn.own.process
    schedules delay ps o turn h own =
        let q = ok-then (T.schedule_of d o.store delay ps o.queue) (λ q. O.quietly next.On (record o { queue = q })) turn h in
        gives _ turn q.2 own

    drives : (it : Drive) (o : Own) (turn : Turn) → T.driving_all d p it o ≡ Ok turn → called o.process → called turn.own.process
    drives it o turn h own =
        let b = ok-then (all_driven d.drivers o.store (O.update_time d o.store it.delay) it.drivers _ (driving o.process.updates o.queue)) _ turn h in
        gives _ turn b.2 own

    row : (op : Operation) (o : Own) (turn : Turn) → turn_at d p i op o ≡ Ok turn → IfSome (called_by op) P → called o.process → called turn.own.process
    row (op.Assign e targets) o turn h new own = gives _ turn h (on i.next o own)
    row (op.Hold e width delay) o turn h new own = resumes delay (T.holding (_) (O.gone i.next o)) turn h (on i.next o own)
    row (op.Store targets) o turn h new own = gives _ turn h (on i.next o own)
    row (op.Schedule s) o turn h new own = schedules s.delay _ (O.gone i.next o) turn h (on i.next o own)
    row (op.Pause it) o turn h new own = pauses it o turn h own
    row (op.Test condition otherwise) o turn h new own = gives _ turn h own
    row (op.Case c) o turn h new own = gives _ turn h own
    row (op.Loop it) o turn h new own = gives _ turn h (loops it o own)
    row (op.Fork positions) o turn h new own = absurd (cc)
    row op.End o turn h new own = gives _ turn h own
    row (op.Enter routine inputs) o turn h new own =
        let both : AllCalls (call_at (Some routine) 0 ∷ o.process.thread.calls) = (new, own) in
        gives _ turn (unless-then _ _ _ turn h) both
    row (op.Leave l) o turn h new own = gives _ turn h (on i.next o own)
    row (op.SysCall call) o turn h new own = gives _ turn h (on i.next o own)
    row (op.SysFunc call) o turn h new own = gives _ turn h (on i.next o own)
    row (op.Single it) o turn h new own = singles it (O.gone i.next o) turn h (on i.next o own)
    row (op.Drive it) o turn h new own = drives it (O.gone i.next o) turn h (on i.next o own)
    row (op.Initial object e) o turn h new own = gives _ turn h own

    pub calls-turned : (o : Own) (turn : Turn) → turn_of d p i o ≡ Ok turn → IfSome (called_by i.operation) P → AllCalls o.process.thread.calls
        → AllCalls turn.own.process.thread.calls
    calls-turned o turn h new own =
        row i.operation (record o { process = arriving d o.process }) turn h new (calls-arrived d o.process.thread own)
