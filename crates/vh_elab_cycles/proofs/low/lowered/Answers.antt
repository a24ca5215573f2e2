-- No node has a lesser number.
use Rattle.std.proofs.Common.{◌∙◌}
use Rattle.vh_elab_cycles.proofs.DepthsLemmas.{lowered-more, not-below-seen}
use Rattle.vh_elab_cycles.proofs.low.lowered.Goals as goal

pub overflow_sub-edge : goal.overflow_sub-edge
overflow_sub-edge c =
    (not-below-seen c.args.base c.args.edges.now c.requires c.loop-edge.edge-index (record { from = 0; to = 0 }) c.loop-edge-test.true).0

pub overflow_sub-edge-in-loop-edge : goal.overflow_sub-edge-in-loop-edge
overflow_sub-edge-in-loop-edge c =
    (not-below-seen c.args.base c.args.edges.now c.requires c.loop-edge.edge-index (record { from = 0; to = 0 }) c.loop-edge-test.true).1

pub loop-edge-preserved : goal.loop-edge-preserved
loop-edge-preserved c =
    let low = not-below-seen c.args.base c.args.edges.now c.requires c.loop-edge.edge-index (record { from = 0; to = 0 }) c.loop-edge-test.true in
    lowered-more c.args.base c.loop-edge.edge-index (record { from = 0; to = 0 }) c.loop-edge.low.items c.push.new.self.items c.args.edges.now
    c.loop-edge-test.true low.0 low.1 c.in_ok-push.ensures.items
    ∙ c.loop-edge.invariant
