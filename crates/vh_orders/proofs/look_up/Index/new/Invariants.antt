use Rattle.std.proofs.Common.{take}
use Rattle.vh_orders.specs.LookUp.{IsIndexOf}
use Rattle.vh_orders.proofs.look_up.Index.new.Given as goal

abbrev pub invariant-loop-at : goal.invariant-loop-at
invariant-loop-at l = IsIndexOf (take l.at l.names) l.index
