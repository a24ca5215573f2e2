use Rattle.std.proofs.Common.{◌≡◌, drop}
use Rattle.vh_design.specs.Shape.{Shape}
use Rattle.vh_proc.specs.Processes.{AllRun, scheduled}
use Rattle.vh_proc.specs.Disabled.{all_ended}
use Rattle.vh_proc.proofs.threads.Threads.end_all.Given as goal

-- Those that are left, behind those that have ended, are all.
abbrev pub invariant-loop-p : goal.invariant-loop-p
invariant-loop-p l = record {
  ended : all_ended (drop l.p-index l.ends) (scheduled l.self l.sense l.q) ≡ all_ended l.ends (scheduled l.initial.self l.initial.sense l.initial.q);
  runs : (d : Shape) → AllRun d l.initial.self → AllRun d l.self;
  now : l.q.time ≡ l.initial.q.time;
  waits : l.sense.waits ≡ l.initial.sense.waits;
}
