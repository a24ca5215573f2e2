-- What holds after each way in which a process steps holds after every step of one.
use Rattle.std.proofs.Common.{◌≡◌, ℕ, List, Option, Some, None, Ok, refl}
use Rattle.vh_design_code.specs.declared.code.Goes.{Goes}
use Rattle.vh_design_code.specs.declared.code.Instruction.{Instruction}
use Rattle.vh_design_code.specs.declared.operation.Operation.{Operation}
use Rattle.vh_design_code.specs.declared.operation.Operation.TheVariants as op
use Rattle.vh_design_code.specs.declared.operation.Single.{Single}
use Rattle.vh_design_code.specs.declared.operation.Single.TheVariants as single
use Rattle.vh_design.specs.Shape.{Shape}
use Rattle.vh_proc_thread.specs.Control.{next_of}
use Rattle.vh_proc_turn.specs.declared.process.Process.{Process}
use Rattle.vh_proc.specs.Processes.{Step, World, Outcome, process_at}
use Rattle.vh_proc.specs.Steps.{alone, initializing, ending, forking, disabling, single_step, step_at, step_in, step_of_process, step_of}

-- A property of the worlds that an outcome may come to.
abbrev pub After : (World → Type 0) → Outcome → Type 0
After holds o = (s : Step) → o ≡ Ok s → holds s.world

-- It holds after a label of a process on its own, a first value, an end, a `fork` and a `disable`.
pub record AfterEach (holds : World → Type 0) (d : Shape) (p : ℕ) (t : Process) (i : Instruction) (w : World) : Type 0 where
  pub own : After holds (alone d p t i w)
  pub initial : After holds (initializing d p t i w)
  pub ends : After holds (ending d p t w)
  pub forks : (goes : Goes) (ks : List ℕ) → After holds (forking d p goes ks w)
  pub disables : (target : ℕ) (goes : Goes) → After holds (disabling d target p goes w)

module _ (holds : World → Type 0) (d : Shape) (p : ℕ) (w : World) where
  after-single : (t : Process) (i : Instruction) → AfterEach holds d p t i w → (it : Single) → After holds (single_step d p t i it w)
  after-single t i each (single.Show show) = each.own
  after-single t i each single.Finish = each.own
  after-single t i each single.Stop = each.own
  after-single t i each (single.Trigger event) = each.own
  after-single t i each (single.Disable target) = each.disables target i.next
  after-single t i each (single.Force object e) = each.own
  after-single t i each (single.Release object) = each.own
  after-single t i each (single.Procedural object e) = each.own
  after-single t i each (single.Deassign object) = each.own

  after-row : (t : Process) (i : Instruction) → AfterEach holds d p t i w → (op : Operation) → After holds (step_at d p t i op w)
  after-row t i each (op.Assign e targets) = each.own
  after-row t i each (op.Hold e width delay) = each.own
  after-row t i each (op.Store targets) = each.own
  after-row t i each (op.Schedule it) = each.own
  after-row t i each (op.Pause it) = each.own
  after-row t i each (op.Test condition otherwise) = each.own
  after-row t i each (op.Case c) = each.own
  after-row t i each (op.Loop it) = each.own
  after-row t i each (op.Fork positions) = each.forks i.next positions
  after-row t i each op.End = each.ends
  after-row t i each (op.Enter routine inputs) = each.own
  after-row t i each (op.Leave l) = each.own
  after-row t i each (op.SysCall call) = each.own
  after-row t i each (op.SysFunc call) = each.own
  after-row t i each (op.Single it) = after-single t i each it
  after-row t i each (op.Drive it) = each.own
  after-row t i each (op.Initial object e) = each.initial

  after-in : (t : Process) (o : Option Instruction) → ((i : Instruction) → AfterEach holds d p t i w) → After holds (step_in d p t o w)
  after-in t None each s h = absurd (cc)
  after-in t (Some i) each s h = after-row t i (each i) i.operation s h

  after-by : (o : Option Process) → ((t : Process) → o ≡ Some t → (i : Instruction) → AfterEach holds d p t i w) → After holds (step_of_process d p o w)
  after-by None each s h = absurd (cc)
  after-by (Some t) each s h = after-in t (next_of d t.thread) (each t refl) s h

  pub after-step : ((t : Process) → process_at p w.processes ≡ Some t → (i : Instruction) → AfterEach holds d p t i w) → After holds (step_of d p w)
  after-step each = after-by (process_at p w.processes) each
