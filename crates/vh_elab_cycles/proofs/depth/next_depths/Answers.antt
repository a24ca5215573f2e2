use Rattle.std.proofs.Common.{◌∙◌, sym}
use Rattle.std.proofs.lemmas.List.{at_drop_all}
use Rattle.vh_elab_cycles.specs.Laid.{all_deepened}
use Rattle.vh_elab_cycles.specs.Views.{edges_seen}
use Rattle.vh_elab_cycles.proofs.DepthsLemmas.{next-depths}
use Rattle.vh_elab_cycles.proofs.depth.next_depths.Goals as goal

pub returns : goal.returns
returns c =
    next-depths c.args.depths.now c.loop-edge.next.items (edges_seen c.args.edges.now)
    (sym (at_drop_all (λ es. all_deepened c.args.depths.now c.loop-edge.next.items (edges_seen es)) c.args.edges.now c.loop-edge.edge-index c.loop-edge-test.false)
    ∙ c.loop-edge.invariant)
