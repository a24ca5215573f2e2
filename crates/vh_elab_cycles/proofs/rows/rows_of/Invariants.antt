use Rattle.std.proofs.Common.{◌≡◌, drop, length, replicate, []}
use Rattle.vh_elab_cycles.specs.Laid.{nodes_from, with_edges}
use Rattle.vh_elab_cycles.specs.Views.{edges_seen, rows_seen}
use Rattle.vh_elab_cycles.proofs.rows.rows_of.Given as goal

-- The rows so far, with the edges that are left, are those of all edges.
abbrev pub invariant-loop-edge : goal.invariant-loop-edge
invariant-loop-edge l = record {
  counted : length (rows_seen l.rows.items) ≡ nodes_from 0 (edges_seen l.edges);
  laid : with_edges (rows_seen l.rows.items) (edges_seen (drop l.edge-index l.edges))
      ≡ with_edges (replicate (nodes_from 0 (edges_seen l.edges)) []) (edges_seen l.edges);
}
