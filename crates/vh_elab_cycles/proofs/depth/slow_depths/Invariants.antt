use Rattle.std.proofs.Common.{◌≡◌, ℕ, get_or}
use Rattle.vh_elab_cycles.specs.Depths.{depth_of}
use Rattle.vh_elab_cycles.specs.Views.{edges_seen}
use Rattle.vh_elab_cycles.proofs.depth.slow_depths.Given as goal

-- Up to so many edges.
abbrev pub invariant-loop-turn : goal.invariant-loop-turn
invariant-loop-turn l = (x : ℕ) → get_or l.depths.items x 0 ≡ depth_of l._turn-index (edges_seen l.edges) x
