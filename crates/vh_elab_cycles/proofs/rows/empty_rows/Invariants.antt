use Rattle.std.proofs.Common.{◌≡◌, replicate, []}
use Rattle.vh_elab_cycles.specs.Views.{rows_seen}
use Rattle.vh_elab_cycles.proofs.rows.empty_rows.Given as goal

-- So many rows so far.
abbrev pub invariant-loop-node : goal.invariant-loop-node
invariant-loop-node l = rows_seen l.rows.items ≡ replicate l._node []
