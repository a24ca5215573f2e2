use Rattle.std.proofs.Common.{take}
use Rattle.vh_app.specs.Numbers.{IsTableOf}
use Rattle.vh_app.proofs.numbers.numbers_of.Given as goal

-- The table has the procedures so far.
abbrev pub invariant-loop-at : goal.invariant-loop-at
invariant-loop-at l = IsTableOf (take l.at l.procedures) l.numbers.entries
