use Rattle.std.proofs.Common.{◌≡◌, length, None}
use Rattle.vh_design.specs.Shape.{Shape}
use Rattle.vh_proc.specs.Processes.{AllRun, scheduled}
use Rattle.vh_sense.specs.Laws.{woken_above}
use Rattle.vh_proc_simulation.specs.Entries.{all_woken}
use Rattle.vh_proc_simulation.proofs.entries.wake.Given as goal

-- Those that are left, behind those that were woken, are all.
abbrev pub invariant-woken : goal.invariant-woken
invariant-woken l = record {
  woken : all_woken (woken_above l.last l.sense l.c) (scheduled l.threads l.sense l.q)
      ≡ all_woken (woken_above None l.fn.sense l.c) (scheduled l.fn.threads l.fn.sense l.fn.q);
  waits : l.sense.waits ≡ l.fn.sense.waits;
  time : l.q.time ≡ l.fn.q.time;
  runs : (d : Shape) → AllRun d l.fn.threads → AllRun d l.threads;
}

abbrev pub decreases-woken : goal.decreases-woken
decreases-woken l = length (woken_above l.last l.sense l.c)
