use Rattle.std.proofs.Common.{◌≡◌, ◌++◌, ◌-◌, length}
use Rattle.vh_bind_stmt.specs.Calls.{calls_of}
use Rattle.vh_bind_stmt.specs.Views.{surroundings_seen}
use Rattle.vh_bind_stmt.proofs.calls.add_calls.Given as goal

-- The labels so far, with those of the expressions that are left, are all of them.
abbrev pub invariant-loop-e : goal.invariant-loop-e
invariant-loop-e l =
    l.operations.items ++ calls_of (surroundings_seen l.around) l.nodes (length l.nodes - l.e) l.e
    ≡ l.initial.operations.items ++ calls_of (surroundings_seen l.around) l.nodes (length l.nodes - l.from) l.from
