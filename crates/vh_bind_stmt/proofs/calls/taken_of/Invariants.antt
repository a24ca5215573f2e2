use Rattle.std.proofs.Common.{◌≡◌, ◌++◌, drop}
use Rattle.vh_bind_stmt.specs.Calls.{taken_of}
use Rattle.vh_bind_stmt.proofs.calls.taken_of.Given as goal

-- Those so far, with those of the arguments that are left, are all of them.
abbrev pub invariant-loop-argument : goal.invariant-loop-argument
invariant-loop-argument l = l.kept.items ++ taken_of (drop l.argument-index l.arguments) ≡ taken_of l.arguments
