use Rattle.std.proofs.Common.{◌+◌, ◌*◌, length}
use Rattle.vh_elab_cycles.specs.Views.{edges_seen, walk_seen}
use Rattle.vh_elab_cycles.proofs.WalkLemmas.{Goes, unseen}
use Rattle.vh_elab_cycles.proofs.walk.reaches.Given as goal

-- What is seen is led to, and what is led to from there waits.
abbrev pub invariant-loop-node : goal.invariant-loop-node
invariant-loop-node l = Goes (edges_seen l.edges) (length l.rows) l.from (walk_seen l.walk)

abbrev pub decreases-loop-node : goal.decreases-loop-node
decreases-loop-node l = 2 * unseen l.walk.seen.items + length l.walk.waiting.items
