use Rattle.std.proofs.Common.{◌≡◌, ◌+◌, drop}
use Rattle.vh_elab.specs.Coded.{operators_of}
use Rattle.vh_elab.proofs.counts.with_operators.Given as goal

-- The operators so far, with those of the expressions that are left, are those of all.
abbrev pub invariant-loop-node : goal.invariant-loop-node
invariant-loop-node l =
    l.total + operators_of (drop l.node-index l.nodes) ≡ l.before + operators_of l.nodes
