use Rattle.std.proofs.Common.{◌+◌}
use Rattle.std.specs.Option.{option_map_or}
use Rattle.vh_design_names.proofs.NamesLemmas.{Walked}
use Rattle.vh_design_names.proofs.names.scopes_of.Given as goal

-- What is there, with the scopes that are left, are those of the object.
abbrev pub invariant-loop-next : goal.invariant-loop-next
invariant-loop-next l = Walked l.d.objects l.fn.o l.scopes.items l.next

-- The number of the scope falls.
abbrev pub decreases-loop-next : goal.decreases-loop-next
decreases-loop-next l = option_map_or (λ n. n + 1) l.next 0
