use Rattle.std.proofs.Common.{◌≡◌, take}
use Rattle.vh_lower.proofs.instructions.copies.Given as goal

-- The first ones are there.
abbrev pub invariant-loop-operation : goal.invariant-loop-operation
invariant-loop-operation l = l.all.items ≡ take l.operation-index l.operation-items
