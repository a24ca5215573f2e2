use Rattle.std.proofs.Common.{◌≡◌, map, take}
use Rattle.vh_elab_declare.specs.Constants.{literal_node}
use Rattle.vh_elab.proofs.coding.only_values.Given as goal

abbrev pub invariant-loop-value : goal.invariant-loop-value
invariant-loop-value l = l.exprs.items ≡ map literal_node (take l.value-index l.value-items)
