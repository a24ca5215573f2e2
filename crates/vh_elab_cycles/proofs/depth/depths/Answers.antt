use Rattle.std.proofs.Common.{◌∙◌, List, ℕ, is_some, length, map, ap, sym, subst}
use Rattle.vh_elab_cycles.specs.Cycles.{first_on_cycle}
use Rattle.vh_elab_cycles.specs.Depths.{depth_of}
use Rattle.vh_elab_cycles.specs.Laid.{NotBelow, depth_behind}
use Rattle.vh_elab_cycles.specs.Views.{edges_seen}
use Rattle.vh_elab_cycles.specs.declared.edge.Edge as of
use Rattle.vh_elab_cycles.proofs.DepthsLemmas.{depths-are, depths-low, least-below, no-depths}
use Rattle.vh_elab_cycles.proofs.depth.depths.Goals as goal

pub lowered-requires : goal.lowered-requires
lowered-requires c =
    subst (λ (n : ℕ). NotBelow n (edges_seen c.args.edges.now)) (sym c.least_node-base.ensures)
    (least-below 4294967295 (edges_seen c.args.edges.now))

pub returns-then-is_some-clause-depths : goal.returns-then-is_some-clause-depths
returns-then-is_some-clause-depths c =
    no-depths c.least_node-base.result c.in_ok-low.low.items (edges_seen c.args.edges.now) c.args.nodes.now c.in_ok-low.ensures
    (ap (λ (es : List of.Edge). is_some (first_on_cycle (edges_seen es))) (sym c.deref.ensures.value)
    ∙ ap is_some (sym c.in_ok-first_on_cycle.ensures) ∙ sym c.is_some.ensures ∙ c.if-is_some.true)

pub returns-clause-depths : goal.returns-clause-depths
returns-clause-depths c =
    depths-are c.least_node-base.result c.in_ok-low.low.items (edges_seen c.args.edges.now) c.args.nodes.now
    c.in_ok-depths.depths.items c.in_ok-depths_behind.field-0.items c.in_ok-low.ensures
    (ap (λ (es : List of.Edge). is_some (first_on_cycle (edges_seen es))) (sym c.deref.ensures.value)
    ∙ ap is_some (sym c.in_ok-first_on_cycle.ensures) ∙ sym c.is_some.ensures ∙ c.if-is_some.false)
    (λ x. c.in_ok-depths.ensures x ∙ ap (λ (es : List of.Edge). depth_of (length es) (edges_seen es) x) c.deref-2.ensures.value)
    (c.in_ok-depths_behind.ensures ∙ ap (λ (D : List ℕ). map (depth_behind c.least_node-base.result D) c.args.nodes.now) c.deref-3.ensures.value)

pub returns-clause-within : goal.returns-clause-within
returns-clause-within c = λ k.
    depths-low c.least_node-base.result c.in_ok-low.low.items c.args.edges.now c.args.nodes.now
    c.in_ok-depths.depths.items c.in_ok-depths_behind.field-0.items c.in_ok-low.ensures
    (λ x. c.in_ok-depths.ensures x ∙ ap (λ (es : List of.Edge). depth_of (length es) (edges_seen es) x) c.deref-2.ensures.value)
    (c.in_ok-depths_behind.ensures ∙ ap (λ (D : List ℕ). map (depth_behind c.least_node-base.result D) c.args.nodes.now) c.deref-3.ensures.value)
    k
