use Rattle.std.proofs.Common.{◌≡◌, ◌∙◌, List, ℕ, length, get_or, ap, sym, arith}
use Rattle.vh_elab_cycles.specs.Depths.{depth_of}
use Rattle.vh_elab_cycles.specs.Laid.{depth_in}
use Rattle.vh_elab_cycles.specs.Views.{edges_seen}
use Rattle.vh_elab_cycles.proofs.DepthsLemmas.{depth-first, depth-next}
use Rattle.vh_elab_cycles.proofs.depth.slow_depths.Goals as goal

pub loop-turn-init : goal.loop-turn-init
loop-turn-init c = λ x.
    ap (λ (t : List ℕ). get_or t x 0) c.new-depths.ensures.items ∙ sym (depth-first (edges_seen c.args.edges.now) x)

pub loop-turn-preserved : goal.loop-turn-preserved
loop-turn-preserved c = λ x.
    c.in_ok-depths.ensures x
    ∙ depth-next (depth_in c.deref.result.now) c.loop-turn._turn-index (edges_seen c.args.edges.now)
    (λ y. ap (λ (t : List ℕ). get_or t y 0) c.deref.ensures.value ∙ c.loop-turn.invariant y) x

pub returns : goal.returns
returns c = λ x.
    let all : c.loop-turn._turn-index ≡ length c.args.edges.now = omega (arith, c.loop-turn-test.false, c.loop-turn.auto._turn-index-end) in
    c.loop-turn.invariant x ∙ ap (λ (n : ℕ). depth_of n (edges_seen c.args.edges.now) x) all
