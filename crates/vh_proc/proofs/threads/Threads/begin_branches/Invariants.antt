use Rattle.std.proofs.Common.{◌≡◌, drop}
use Rattle.vh_design.specs.Shape.{Shape}
use Rattle.vh_proc.specs.Processes.{AllRun, queued, branches_begun}
use Rattle.vh_proc.proofs.threads.Threads.begin_branches.Given as goal

-- The branches that are left, behind those that have begun, are all.
abbrev pub invariant-loop-position : goal.invariant-loop-position
invariant-loop-position l = record {
  begun : branches_begun l.p (drop l.position-index l.positions) (queued l.self l.q)
      ≡ branches_begun l.p l.positions (queued l.initial.self l.initial.q);
  runs : (d : Shape) → AllRun d l.initial.self → AllRun d l.self;
  now : l.q.time ≡ l.initial.q.time;
}
