use Rattle.std.proofs.Common.{◌≡◌, ◌++◌}
use Rattle.vh_lower.specs.Instructions.{from_first, is_empty}
use Rattle.vh_lower.specs.Views.{flows_seen}
use Rattle.vh_lower.proofs.instructions.add_first.Given as goal

-- Those so far are there; where there are none, the next is the first.
abbrev pub invariant-loop-operation : goal.invariant-loop-operation
invariant-loop-operation l = record {
  row : flows_seen l.row ≡ flows_seen l.initial.row ++ from_first l.number l.yielded;
  first : l.first ≡ is_empty l.yielded;
}
