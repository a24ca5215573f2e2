use Rattle.std.proofs.Common.{◌≡◌, drop}
use Rattle.vh_design.specs.Shape.{Shape}
use Rattle.vh_proc.specs.Processes.{AllRun, queued}
use Rattle.vh_proc.specs.Disabled.{all_resumed}
use Rattle.vh_proc.proofs.threads.Threads.resume_all.Given as goal

-- Those that are left, behind those that go on, are all.
abbrev pub invariant-loop-p : goal.invariant-loop-p
invariant-loop-p l = record {
  resumed : all_resumed l.own (drop l.p-index l.leaves) (queued l.self l.q)
      ≡ all_resumed l.own l.leaves (queued l.initial.self l.initial.q);
  runs : (d : Shape) → AllRun d l.initial.self → AllRun d l.self;
  now : l.q.time ≡ l.initial.q.time;
}
