use Rattle.std.proofs.Common.{◌≡◌, None}
use Rattle.vh_objects_names.specs.Paths.{least_below, meant}
use Rattle.vh_objects_names.proofs.finds.by_name.Given as goal

-- None of the objects so far is meant.
abbrev pub invariant-loop-k : goal.invariant-loop-k
invariant-loop-k l = least_below (meant l.d.objects l.scope l.text) l.k ≡ None
