use Rattle.std.proofs.Common.{◌≡◌, ◌++◌, drop}
use Rattle.vh_bind_stmt.specs.Calls.{outputs_of}
use Rattle.vh_bind_stmt.proofs.calls.outputs_of.Given as goal

-- The outputs so far, with those of the arguments that are left, are all of them.
abbrev pub invariant-loop-k : goal.invariant-loop-k
invariant-loop-k l =
    l.outputs.items ++ outputs_of l.nodes (drop l.k l.arguments) (drop l.k l.joins) ≡ outputs_of l.nodes l.arguments l.joins
