use Rattle.std.proofs.Common.{◌≡◌, ◌≤◌, drop}
use Rattle.vh_proc_turn.specs.Turns.{with_updates}
use Rattle.vh_proc_turn.proofs.waits.add_updates.Given as goal

-- The updates that are left, behind those that were added, are all.
abbrev pub invariant-loop-piece : goal.invariant-loop-piece
invariant-loop-piece l = record {
  added : with_updates l.time (drop l.piece-index l.pieces) l.q ≡ with_updates l.time l.pieces l.initial.q;
  later : l.q.time ≤ l.time;
  now : l.q.time ≡ l.initial.q.time;
}
