use Rattle.std.proofs.Common.{◌≡◌, length, None}
use Rattle.vh_sense.specs.Laws.{those_behind}
use Rattle.vh_sense.specs.Sensitivity.{readers_of}
use Rattle.vh_proc_simulation.specs.Follows.{followed, all_followed}
use Rattle.vh_proc_simulation.proofs.follows.follow.Given as goal

-- Those that are left, behind those that were followed, are all.
abbrev pub invariant-followed : goal.invariant-followed
invariant-followed l = record {
  rest : all_followed l.s (those_behind l.last (readers_of l.c.object.id l.sense)) (followed l.follows l.q)
      ≡ all_followed l.s (those_behind None (readers_of l.c.object.id l.sense)) (followed l.fn.follows l.fn.q);
  time : l.q.time ≡ l.fn.q.time;
}

abbrev pub decreases-followed : goal.decreases-followed
decreases-followed l = length (those_behind l.last (readers_of l.c.object.id l.sense))
