use Rattle.std.proofs.Common.{◌≡◌, ◌++◌, drop}
use Rattle.vh_design_first.specs.Designs.{codes_of}
use Rattle.vh_design_first.proofs.codes.codes_of.Given as goal

-- The codes so far, before those of the constructs that are left.
abbrev pub invariant-loop-block : goal.invariant-loop-block
invariant-loop-block l = l.codes.items ++ codes_of l.before.exprs l.before.calls (drop l.block-index l.blocks) ≡ codes_of 4 0 l.blocks
