use Rattle.std.proofs.Common.{ℕ, ◌≤◌, ◌<◌, get_or}
use Rattle.vh_elab_cycles.proofs.depth.all_within.Given as goal

-- None so far is above it.
abbrev pub invariant-loop-depth : goal.invariant-loop-depth
invariant-loop-depth l = (x : ℕ) → x < l.depth-index → get_or l.depths x 0 ≤ l.most
