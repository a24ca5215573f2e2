use Rattle.std.proofs.Common.{◌≡◌, ◌++◌, drop}
use Rattle.std.specs.List.{flat_map}
use Rattle.vh_design_first.specs.Designs.{calls_in}
use Rattle.vh_design_first.proofs.design.shows_of.Given as goal

abbrev pub invariant-loop-block : goal.invariant-loop-block
invariant-loop-block l =
    l.shows.items ++ flat_map calls_in (flat_map (λ b. b) (drop l.block-index l.blocks)) ≡ flat_map calls_in (flat_map (λ b. b) l.blocks)
