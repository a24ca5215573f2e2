use Rattle.std.proofs.Common.{◌+◌}
use Rattle.std.specs.Option.{option_map_or}
use Rattle.vh_objects_names.proofs.PathsLemmas.{Walked}
use Rattle.vh_objects_names.proofs.paths.objects_to.Given as goal

-- What is there, with what is left, is the way to the scope.
abbrev pub invariant-loop-next : goal.invariant-loop-next
invariant-loop-next l = Walked l.d.objects l.scope l.fn.o l.objects.items l.next

-- The number of the scope falls.
abbrev pub decreases-loop-next : goal.decreases-loop-next
decreases-loop-next l = option_map_or (λ n. n + 1) l.next 0
