use Rattle.std.proofs.Common.{◌≡◌, ◌++◌, ◌-◌, length}
use Rattle.vh_bind_stmt.specs.Calls.{reads_of}
use Rattle.vh_bind_stmt.proofs.calls.reads_of.Given as goal

-- The terms so far, with those of the expressions that are left, are all of them.
abbrev pub invariant-loop-e : goal.invariant-loop-e
invariant-loop-e l =
    l.terms.items ++ reads_of l.nodes (length l.nodes - l.e) l.e ≡ reads_of l.nodes (length l.nodes - l.from) l.from
