use Rattle.std.proofs.Common.{◌≡◌, [], drop}
use Rattle.vh_elab.specs.Elaborated.{values_from}
use Rattle.vh_elab.proofs.design.values_of.Given as goal

-- The values so far, with those that are left, are all of them.
abbrev pub invariant-loop-node : goal.invariant-loop-node
invariant-loop-node l = values_from l.values.items (drop l.node-index l.exprs) ≡ values_from [] l.exprs
