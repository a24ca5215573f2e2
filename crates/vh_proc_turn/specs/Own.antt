-- A process of the simulation with what its labels read and change. (IEEE 1364-2005, 9 and 11.4; the faults are own)
use Rattle.std.specs.Prelude.{◌≡◌, ⊤, ℕ, Bool, true, List, [], Option, Some, None, Result, Ok, Err}
use Rattle.vh_base.specs.Checks.{unless, with_some}
use Rattle.vh_base.specs.declared.faults.Fault.{Fault}
use Rattle.vh_base.specs.declared.faults.Fault.TheVariants as fault
use Rattle.vh_design_code.specs.declared.change.Made.{Made}
use Rattle.vh_design_code.specs.declared.code.Goes.{Goes}
use Rattle.vh_design_code.specs.declared.target.Delay.{Delay}
use Rattle.vh_design.specs.Shape.{Shape}
use Rattle.vh_store.specs.Contents.{Contents}
use Rattle.vh_sense.specs.Sensitivity.{Sensitivity}
use Rattle.vh_queue.specs.declared.region.Region.{Region}
use Rattle.vh_queue.specs.declared.work.Work.{Work}
use Rattle.vh_queue.specs.Events.{Events, added, is_full}
use Rattle.vh_proc_assign.specs.Values.{time_after}
use Rattle.vh_proc_thread.specs.Control.{goes_on, arrived}
use Rattle.vh_proc_turn.specs.declared.next.Next.{Next}
use Rattle.vh_proc_turn.specs.declared.process.Process.{Process}
use Rattle.vh_proc_turn.specs.declared.fault.StepFault.{StepFault}
use Rattle.vh_proc_turn.specs.declared.fault.StepFault.TheVariants as step

pub record Own : Type 0 where
  pub process : Process
  pub store : Contents
  pub sense : Sensitivity
  pub queue : Events

-- What a label comes to: all this after it, what it changed, forced or released in order, and what the process does
-- next. In position of a label that would exceed a number comes a fault; and of a label that isn't said here, none.
pub record Turn : Type 0 where
  pub own : Own
  pub made : List Made
  pub next : Next

abbrev pub Outcome : Type 0
Outcome = Result Turn (Option Fault)

abbrev pub turn_with : Own → List Made → Next → Turn
turn_with o ms n = record { own = o; made = ms; next = n }

-- A label that changes no value, and goes on there or stays.
abbrev pub quietly : Next → Own → Outcome
quietly n o = Ok (turn_with o [] n)

abbrev pub going : Goes → Process → Process
going goes t = record t { thread = goes_on goes t.thread }

-- It performs a label: from now on it is in the calls and in the block of that instruction. (own)
abbrev pub arriving : Shape → Process → Process
arriving d t = record t { thread = arrived d t.thread }

abbrev pub gone : Goes → Own → Own
gone goes o = record o { process = going goes o.process }

-- A time above the last one is F2. (own)
abbrev pub in_time : {X : Type 0} → Option ℕ → (ℕ → Result X (Option Fault)) → Result X (Option Fault)
in_time time rest = with_some time (Some fault.F2) rest

-- When the updates of an assignment come. (9.2.2 and 6.1.3)
abbrev pub update_time : Shape → Contents → Option Delay → Option ℕ
update_time d s None = Some s.time
update_time d s (Some delay) = time_after d s delay

-- One entry more; more than there may be is F3. (own)
abbrev pub with_entry : ℕ → Region → Work → Events → Result Events (Option Fault)
with_entry time r work q = unless (is_full q) (Some fault.F3) (Ok (added (Some time) r work q))

-- Why something isn't done: its fault, or want of memory.
abbrev pub FailsBy : {X : Type 0} → Result X (Option Fault) → StepFault → Type 0
FailsBy outcome (step.Run f) = outcome ≡ Err (Some f)
FailsBy outcome step.NoMemory = ⊤

-- What comes of a call: the outcome is done, and these are the parts behind it, or it isn't.
abbrev pub Comes : {X Y : Type 0} → Result X (Option Fault) → Result Y StepFault → X → Type 0
Comes outcome (Ok y) x = outcome ≡ Ok x
Comes outcome (Err e) x = FailsBy outcome e

-- The parts, as a call is given them.
abbrev pub own_of : Process → Contents → Sensitivity → Events → Own
own_of t s w q = record { process = t; store = s; sense = w; queue = q }

-- Something may stand in a code with so many positions. (own)
abbrev pub Fits : (ℕ → Bool) → Type 0
Fits test = (positions : ℕ) × (test positions ≡ true)
