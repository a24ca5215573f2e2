use Rattle.std.proofs.Common.{◌≡◌, length}
use Rattle.vh_objects.specs.Views.{lists_of, AreChildren}
use Rattle.vh_objects.proofs.children.Children.new.Given as goal

-- The lists are those of the objects that were passed.
abbrev pub invariant-loop-k : goal.invariant-loop-k
invariant-loop-k l = record {
  made : AreChildren l.k l.d.objects (lists_of l.lists.items);
  there : l.n ≡ length l.d.objects;
}
