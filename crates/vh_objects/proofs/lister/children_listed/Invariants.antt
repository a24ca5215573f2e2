use Rattle.std.proofs.Common.{◌≡◌, filter, take}
use Rattle.vh_design_nodes.specs.Fits.{has_kind}
use Rattle.vh_objects.specs.Relations.{lists}
use Rattle.vh_objects.proofs.lister.children_listed.Given as goal

-- Those of the objects so far that the relation lists.
abbrev pub invariant-loop-o : goal.invariant-loop-o
invariant-loop-o l = l.listed.items ≡ filter (has_kind (lists l.r) l.d.objects) (take l.o-index l.o-items)
