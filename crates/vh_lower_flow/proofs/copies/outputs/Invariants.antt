use Rattle.std.proofs.Common.{◌≡◌, take}
use Rattle.vh_lower_flow.proofs.copies.outputs.Given as goal

-- The first ones are there.
abbrev pub invariant-loop-one : goal.invariant-loop-one
invariant-loop-one l = l.all.items ≡ take l.one-index l.of
