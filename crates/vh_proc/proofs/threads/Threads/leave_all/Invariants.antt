use Rattle.std.proofs.Common.{◌≡◌, drop}
use Rattle.vh_proc.specs.Processes.{AllRun, scheduled}
use Rattle.vh_proc.specs.Disabled.{all_left}
use Rattle.vh_proc.proofs.threads.Threads.leave_all.Given as goal

-- Those that are left, behind those that have left, are all.
abbrev pub invariant-loop-p : goal.invariant-loop-p
invariant-loop-p l = record {
  gone : all_left l.d l.target (drop l.p-index l.leaves) (scheduled l.self l.sense l.q)
      ≡ all_left l.d l.target l.leaves (scheduled l.initial.self l.initial.sense l.initial.q);
  runs : AllRun l.d l.self;
  now : l.q.time ≡ l.initial.q.time;
  waits : l.sense.waits ≡ l.initial.sense.waits;
}
