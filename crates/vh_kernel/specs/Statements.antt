-- What the labels of processes and entries that are picked come to. (IEEE 1364-2005, clauses 9 and 11.4)
use Rattle.std.specs.Prelude.{ℕ, List, ◌∷◌, Option, Some, None, Result, Ok, Err}
use Rattle.vh_base.specs.declared.faults.Cause.TheVariants as cause
use Rattle.vh_base.specs.declared.faults.Fault.{Fault}
use Rattle.vh_kernel.specs.declared.control.Control.{Control}
use Rattle.vh_kernel.specs.declared.control.Control.TheVariants as top
use Rattle.vh_kernel.specs.Occurrences.{all_by}
use Rattle.vh_kernel.specs.Outcome.{Made, Outcome, silently}
use Rattle.vh_kernel.specs.State.{State, with_activity, with_top}
use Rattle.vh_queue.specs.declared.work.Work.{Work}
use Rattle.vh_queue.specs.declared.work.Work.TheVariants as work
use Rattle.vh_proc_simulation.specs.Labels.{Came, Performed, performed, worked}
use Rattle.vh_proc_turn.specs.declared.next.Next.{Next}
use Rattle.vh_proc_turn.specs.declared.next.Next.TheVariants as next

-- What a label has changed is what occurs, in that order.
abbrev pub made_by : Came → State → Made
made_by c s = record {
  shown = c.shown;
  occurrences = all_by c.activity.design.objects c.made;
  state = with_activity c.activity s;
}

-- A process goes on at once, or not; or the run is to finish. (17.4)
abbrev pub next_on : Next → ℕ → List Control → List Control
next_on next.On p cs = top.Process p ∷ cs
next_on next.Waits p cs = cs
next_on next.Ends p cs = cs
next_on (next.Shows n) p cs = top.Process p ∷ cs
next_on (next.Calls o) p cs = top.Process p ∷ cs
next_on next.Finishes p cs = top.Leave cause.Finish ∷ top.Process p ∷ cs
next_on next.Stops p cs = top.Leave cause.Stop ∷ top.Process p ∷ cs

abbrev pub after_next : Next → ℕ → State → State
after_next n p s = record s { control = next_on n p s.control }

-- The next label of a process that was on top of control. Where it has none, nothing is done. (own)
abbrev pub performed_outcome : Result Performed (Option Fault) → ℕ → State → Outcome
performed_outcome (Err None) p s = silently s
performed_outcome (Err (Some f)) p s = Err f
performed_outcome (Ok r) p s = Ok (made_by r.came (after_next r.next p s))

abbrev pub statement_outcome : ℕ → State → Outcome
statement_outcome p s = performed_outcome (performed p s.world.activity) p s

-- An entry is performed: an evaluation puts its process on control, and the others are the simulation's; what a callback's
-- entry does isn't said yet. (own)
abbrev pub worked_outcome : Result Came (Option Fault) → State → Outcome
worked_outcome (Err None) s = silently s
worked_outcome (Err (Some f)) s = Err f
worked_outcome (Ok c) s = Ok (made_by c s)

abbrev pub on_control : Work → State → State
on_control (work.Evaluate p) s = with_top (top.Process p) s
on_control (work.Drive driver value) s = s
on_control (work.Assign object low value) s = s
on_control (work.Follow object force) s = s
on_control (work.Put object value) s = s
on_control (work.Strobe n) s = s
on_control work.MonitorShow s = s
on_control (work.Call callback) s = s

abbrev pub work_outcome : Work → State → Outcome
work_outcome w s = worked_outcome (worked w s.world.activity) (on_control w s)
