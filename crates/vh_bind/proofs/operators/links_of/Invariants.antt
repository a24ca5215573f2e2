use Rattle.std.proofs.Common.{◌≡◌, ◌++◌}
use Rattle.vh_bind.specs.Nodes.{links_by}
use Rattle.vh_bind.proofs.operators.links_of.Given as goal

-- The links so far, with those that are left, are those of the chain.
abbrev pub invariant-loop-operator : goal.invariant-loop-operator
invariant-loop-operator g l =
    l.links.items ++ links_by g.Op.Linked.pick l.operator-iterator.a.rest.now l.operator-iterator.b.rest.now
    ≡ links_by g.Op.Linked.pick l.operators l.operands
