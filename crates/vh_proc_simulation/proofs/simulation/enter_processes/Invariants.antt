use Rattle.std.proofs.Common.{◌≡◌}
use Rattle.vh_design.specs.Shape.{Shape}
use Rattle.vh_proc.specs.Processes.{AllRun, queued}
use Rattle.vh_proc_simulation.specs.Activity.{evaluations}
use Rattle.vh_proc_simulation.proofs.simulation.enter_processes.Given as goal

-- Each process so far has an entry.
abbrev pub invariant-loop-p : goal.invariant-loop-p
invariant-loop-p l = record {
  entered : queued l.threads l.q ≡ evaluations l.p l.fn.threads;
  runs : (d : Shape) → AllRun d l.fn.threads → AllRun d l.threads;
}
