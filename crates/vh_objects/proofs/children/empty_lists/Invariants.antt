use Rattle.std.proofs.Common.{◌≡◌, [], replicate}
use Rattle.vh_objects.specs.Views.{lists_of}
use Rattle.vh_objects.proofs.children.empty_lists.Given as goal

-- So many empty lists are there.
abbrev pub invariant-loop : goal.invariant-loop
invariant-loop l = lists_of l.lists.items ≡ replicate l.counter []
