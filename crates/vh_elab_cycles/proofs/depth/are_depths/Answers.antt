use Rattle.std.proofs.Common.{◌∙◌, List, ℕ, length, get_or, ap, sym}
use Rattle.vh_elab_cycles.specs.Laid.{depth_in}
use Rattle.vh_elab_cycles.specs.Views.{edges_seen}
use Rattle.vh_elab_cycles.proofs.DepthsLemmas.{depths-follow}
use Rattle.vh_elab_cycles.proofs.depth.are_depths.Goals as goal

pub returns : goal.returns
returns c = λ h x.
    let D : ℕ → ℕ = depth_in c.args.depths.now in
    let same = sym c.deref.ensures.value ∙ c.is_same.ensures c.if-not-is_same.false in
    depths-follow D (edges_seen c.args.edges.now)
    (λ y. sym (c.in_ok-next.ensures y) ∙ ap (λ (t : List ℕ). get_or t y 0) same)
    (length c.args.edges.now) x (c.all_within.ensures h x)
