use Rattle.std.proofs.Common.{◌≡◌, drop}
use Rattle.vh_design.specs.Shape.{Shape}
use Rattle.vh_proc.specs.Processes.{AllRun}
use Rattle.vh_proc_simulation.specs.Entries.{scheduling, all_entered}
use Rattle.vh_proc_simulation.proofs.entries.enter_all.Given as goal

-- Those that are left, behind those whose entries were added, are all.
abbrev pub invariant-loop-it : goal.invariant-loop-it
invariant-loop-it l = record {
  entered : all_entered l.d l.s (drop l.it-index l.made) (scheduling l.threads l.sense l.follows l.q l.monitor)
      ≡ all_entered l.d l.s l.made (scheduling l.initial.threads l.initial.sense l.initial.follows l.initial.q l.initial.monitor);
  waits : l.sense.waits ≡ l.initial.sense.waits;
  time : l.q.time ≡ l.initial.q.time;
  runs : (d : Shape) → AllRun d l.initial.threads → AllRun d l.threads;
}
