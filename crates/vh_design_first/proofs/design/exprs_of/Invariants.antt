use Rattle.std.proofs.Common.{◌≡◌, ◌++◌, drop}
use Rattle.std.specs.List.{flat_map}
use Rattle.vh_design_first.specs.Designs.{digit_nodes, delays_in}
use Rattle.vh_design_first.proofs.design.exprs_of.Given as goal

abbrev pub invariant-loop-block : goal.invariant-loop-block
invariant-loop-block l =
    l.exprs.items ++ flat_map delays_in (flat_map (λ b. b) (drop l.block-index l.blocks)) ≡ digit_nodes ++ flat_map delays_in (flat_map (λ b. b) l.blocks)
