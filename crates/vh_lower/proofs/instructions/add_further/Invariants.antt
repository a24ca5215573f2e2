use Rattle.std.proofs.Common.{◌≡◌, ◌++◌}
use Rattle.vh_lower.specs.Instructions.{further}
use Rattle.vh_lower.specs.Views.{flows_seen}
use Rattle.vh_lower.proofs.instructions.add_further.Given as goal

-- Those so far are there.
abbrev pub invariant-loop-operation : goal.invariant-loop-operation
invariant-loop-operation l = flows_seen l.row ≡ flows_seen l.initial.row ++ further l.number l.yielded
