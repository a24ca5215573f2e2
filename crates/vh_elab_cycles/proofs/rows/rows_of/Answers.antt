use Rattle.std.proofs.Common.{◌∙◌, sym, arith}
use Rattle.std.proofs.lemmas.List.{at_drop_all, length-map}
use Rattle.vh_elab_cycles.specs.Views.{edges_seen, rows_seen}
use Rattle.vh_elab_cycles.specs.Laid.{nodes_from, with_edges}
use Rattle.vh_elab_cycles.proofs.LaidLemmas.{laid-rows, nodes-within, within-seen}
use Rattle.vh_elab_cycles.proofs.rows.rows_of.Goals as goal

pub add_edge-requires : goal.add_edge-requires
add_edge-requires c =
    let es = c.args.edges.now in
    let w = within-seen (nodes_from 0 (edges_seen es)) es (nodes-within 0 (edges_seen es)) c.loop-edge.edge-index (record { from = 0; to = 0 }) c.loop-edge-test.true in
    omega (arith, w, c.loop-edge.invariant.counted, length-map c.loop-edge.rows.items (λ r. r.items))

pub returns : goal.returns
returns c =
    laid-rows (rows_seen c.loop-edge.rows.items) (edges_seen c.args.edges.now)
    (sym (at_drop_all (λ es. with_edges (rows_seen c.loop-edge.rows.items) (edges_seen es)) c.args.edges.now c.loop-edge.edge-index c.loop-edge-test.false)
    ∙ c.loop-edge.invariant.laid)
