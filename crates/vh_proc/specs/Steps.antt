-- What a label of a process does, a row for each kind in the order of the statements' table. (IEEE 1364-2005, clauses
-- 9 and 10; the faults are own)
use Rattle.std.specs.Prelude.{◌≡◌, IfSome, IsSome, ℕ, List, [], ◌∷◌, length, if◌then◌else◌, Option, Some, None, Result, Ok, Err}
use Rattle.vh_base.specs.Checks.{with_ok}
use Rattle.vh_base.specs.declared.faults.Fault.{Fault}
use Rattle.vh_design_code.specs.declared.code.Goes.{Goes}
use Rattle.vh_design_code.specs.declared.code.Instruction.{Instruction}
use Rattle.vh_design_code.specs.declared.operation.Operation.{Operation}
use Rattle.vh_design_code.specs.declared.operation.Operation.TheVariants as op
use Rattle.vh_design_code.specs.declared.operation.Single.{Single}
use Rattle.vh_design_code.specs.declared.operation.Single.TheVariants as single
use Rattle.vh_design.specs.Shape.{Shape}
use Rattle.vh_design.specs.Validity.{IsValid}
use Rattle.vh_proc_thread.specs.Control.{next_of, is_inside}
use Rattle.vh_proc_turn.specs.declared.next.Next.{Next}
use Rattle.vh_proc_turn.specs.declared.next.Next.TheVariants as next
use Rattle.vh_proc_turn.specs.declared.process.Process.{Process}
use Rattle.vh_proc_turn.specs.Own.{Own, Turn, own_of}
use Rattle.vh_proc_turn.specs.Turns.{turn_of}
use Rattle.vh_proc.specs.Disabled.{Stopped, begun_by, stopped, disable_all}
use Rattle.vh_proc.specs.Processes.{AllRun, Processes, World, Queued, Scheduled, Outcome, queued, scheduled, world_of, step_with, process_at, with_process, without_process, changed, arrived_in, gone_on, with_left, branches_begun, joined}

-- A label that touches no other process.
abbrev pub with_own : ℕ → Own → World → World
with_own p o w = record {
  processes = with_process p o.process w.processes;
  store = o.store;
  sense = o.sense;
  queue = o.queue;
}

abbrev pub own_turn : Shape → ℕ → Process → Instruction → World → Result Turn (Option Fault)
own_turn d p t i w = turn_of d p i (own_of t w.store w.sense w.queue)

abbrev pub alone : Shape → ℕ → Process → Instruction → World → Outcome
alone d p t i w =
    with_ok (own_turn d p t i w) (λ turn. Ok (step_with (with_own p turn.own w) turn.made turn.next))

-- The process has ended; a parent that waits for it alone goes on. (9.8.2 and 9.9.1)
abbrev pub gone : ℕ → World → World
gone p w = record w { processes = without_process p w.processes }

abbrev pub queued_after : Next → World → Queued → Outcome
queued_after n w b = Ok (step_with (record w { processes = b.processes; queue = b.queue }) [] n)

abbrev pub ending : Shape → ℕ → Process → World → Outcome
ending d p t w =
    with_ok (joined d t.parent (queued (without_process p w.processes) w.queue)) (queued_after next.Ends w)

abbrev pub initializing : Shape → ℕ → Process → Instruction → World → Outcome
initializing d p t i w =
    with_ok (own_turn d p t i w) (λ turn. Ok (step_with (gone p (with_own p turn.own w)) turn.made turn.next))

-- `fork`: the process waits for its branches; without a branch it goes on. (9.8.2)
abbrev pub forked : Shape → ℕ → Goes → List ℕ → Queued → Result Queued (Option Fault)
forked d p goes [] b = Ok (queued (gone_on p goes b.processes) b.queue)
forked d p goes (k ∷ ks) b =
    branches_begun p (k ∷ ks) (queued (changed p (with_left (length (k ∷ ks))) b.processes) b.queue)

abbrev pub after_fork : List ℕ → Next
after_fork [] = next.On
after_fork (k ∷ ks) = next.Waits

abbrev pub forking : Shape → ℕ → Goes → List ℕ → World → Outcome
forking d p goes positions w =
    with_ok (forked d p goes positions (queued (arrived_in d p w.processes) w.queue)) (queued_after (after_fork positions) w)

-- `disable`: where the process that executes it was inside it goes on behind, and where one that was has begun it, it
-- has ended. (10.3)
abbrev pub after_disable_of : Stopped → Option Process → Next
after_disable_of found None = next.On
after_disable_of found (Some t) = if begun_by found t then next.Ends else next.On

abbrev pub after_disable : Stopped → ℕ → Processes → Next
after_disable found p ps = after_disable_of found (process_at p ps)

abbrev pub before_disable_of : Shape → ℕ → ℕ → Goes → Option Process → Processes → Processes
before_disable_of d target p goes None ps = ps
before_disable_of d target p goes (Some t) ps = if is_inside d target t.thread then ps else gone_on p goes ps

abbrev pub before_disable : Shape → ℕ → ℕ → Goes → Processes → Processes
before_disable d target p goes ps = before_disable_of d target p goes (process_at p ps) ps

abbrev pub disabled_by : Shape → ℕ → ℕ → Goes → Scheduled → Result Scheduled (Option Fault)
disabled_by d target p goes o =
    disable_all d target p (stopped d target o.processes)
    (record o { processes = before_disable d target p goes o.processes })

abbrev pub disabling : Shape → ℕ → ℕ → Goes → World → Outcome
disabling d target p goes w =
    let ps = arrived_in d p w.processes in
    with_ok (disabled_by d target p goes (scheduled ps w.sense w.queue)) (λ o.
    Ok (step_with (world_of o.processes w.store o.sense o.queue) [] (after_disable (stopped d target ps) p ps)))

abbrev pub single_step : Shape → ℕ → Process → Instruction → Single → World → Outcome
single_step d p t i (single.Show show) w = alone d p t i w
single_step d p t i single.Finish w = alone d p t i w
single_step d p t i single.Stop w = alone d p t i w
single_step d p t i (single.Trigger event) w = alone d p t i w
single_step d p t i (single.Disable target) w = disabling d target p i.next w
single_step d p t i (single.Force object e) w = alone d p t i w
single_step d p t i (single.Release object) w = alone d p t i w
single_step d p t i (single.Procedural object e) w = alone d p t i w
single_step d p t i (single.Deassign object) w = alone d p t i w

-- A label, a row for each kind.
abbrev pub step_at : Shape → ℕ → Process → Instruction → Operation → World → Outcome
step_at d p t i (op.Assign e targets) w = alone d p t i w
step_at d p t i (op.Hold e width delay) w = alone d p t i w
step_at d p t i (op.Store targets) w = alone d p t i w
step_at d p t i (op.Schedule s) w = alone d p t i w
step_at d p t i (op.Pause it) w = alone d p t i w
step_at d p t i (op.Test condition otherwise) w = alone d p t i w
step_at d p t i (op.Case c) w = alone d p t i w
step_at d p t i (op.Loop it) w = alone d p t i w
step_at d p t i (op.Fork positions) w = forking d p i.next positions w
step_at d p t i op.End w = ending d p t w
step_at d p t i (op.Enter routine inputs) w = alone d p t i w
step_at d p t i (op.Leave l) w = alone d p t i w
step_at d p t i (op.SysCall call) w = alone d p t i w
step_at d p t i (op.SysFunc call) w = alone d p t i w
step_at d p t i (op.Single it) w = single_step d p t i it w
step_at d p t i (op.Drive it) w = alone d p t i w
step_at d p t i (op.Initial object e) w = initializing d p t i w

-- The next label of a process.
abbrev pub step_in : Shape → ℕ → Process → Option Instruction → World → Outcome
step_in d p t None w = Err None
step_in d p t (Some i) w = step_at d p t i i.operation w

-- A process stands before this instruction, in a design that is valid and of which all processes run.
pub record StandsBefore (d : Shape) (i : Instruction) (p : ℕ) (ps : Processes) : Type 0 where
  pub runs : AllRun d ps
  pub there : IfSome (process_at p ps) (λ t. next_of d t.thread ≡ Some i)
  pub known : IsSome (process_at p ps)
  pub valid : IsValid d

abbrev pub step_of_process : Shape → ℕ → Option Process → World → Outcome
step_of_process d p None w = Err None
step_of_process d p (Some t) w = step_in d p t (next_of d t.thread) w

abbrev pub step_of : Shape → ℕ → World → Outcome
step_of d p w = step_of_process d p (process_at p w.processes) w
