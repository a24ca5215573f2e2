use Rattle.std.proofs.Common.{◌≡◌, ◌++◌, length, drop}
use Rattle.vh_elab.specs.Coded.{numbers_from}
use Rattle.vh_elab.proofs.coding.add_row.Given as goal

-- The drivers and their numbers so far, with those that are left, are all of them.
abbrev pub invariant-loop-driver : goal.invariant-loop-driver
invariant-loop-driver l = record {
  numbers : l.numbers.items ++ numbers_from (length l.drivers.items) (drop l.driver-index l.row)
      ≡ numbers_from (length l.initial.drivers.items) l.row;
  added : l.drivers.items ++ drop l.driver-index l.row ≡ l.initial.drivers.items ++ l.row;
}
