use Rattle.std.proofs.Common.{◌≡◌, ◌++◌, drop}
use Rattle.vh_bind_stmt.specs.Calls.{given_of}
use Rattle.vh_bind_stmt.proofs.calls.given_of.Given as goal

-- Those so far, with those of the arguments that are left, are all of them.
abbrev pub invariant-loop-argument : goal.invariant-loop-argument
invariant-loop-argument l = l.kept.items ++ given_of (drop l.argument-index l.arguments) ≡ given_of l.arguments
