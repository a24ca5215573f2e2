use Rattle.std.proofs.Common.{◌≡◌, ◌++◌, drop}
use Rattle.vh_bind_stmt.specs.Calls.{inputs_of}
use Rattle.vh_bind_stmt.proofs.calls.inputs_of.Given as goal

-- The inputs so far, with those of the arguments that are left, are all of them.
abbrev pub invariant-loop-k : goal.invariant-loop-k
invariant-loop-k l =
    l.inputs.items ++ inputs_of (drop l.k l.arguments) (drop l.k l.values) ≡ inputs_of l.arguments l.values
