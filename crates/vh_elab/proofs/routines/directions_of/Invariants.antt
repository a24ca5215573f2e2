use Rattle.std.proofs.Common.{◌≡◌, ◌++◌, map, drop}
use Rattle.vh_bind_stmt.specs.declared.surroundings.Argument.{Argument}
use Rattle.vh_elab.proofs.routines.directions_of.Given as goal

-- The directions so far, with those of the arguments that are left, are all of them.
abbrev pub invariant-loop-argument : goal.invariant-loop-argument
invariant-loop-argument l =
    l.directions.items ++ map (λ (a : Argument). a.direction) (drop l.argument-index l.arguments)
    ≡ map (λ (a : Argument). a.direction) l.arguments
