use Rattle.std.proofs.Common.{◌≡◌, ◌≤◌, ◌+◌, length, drop, nat_lt, true}
use Rattle.std.specs.List.{list_all}
use Rattle.vh_logic.specs.declared.vector.TheConstants.{MAX_WIDTH}
use Rattle.vh_proc_turn.specs.Drives.{digits_driven}
use Rattle.vh_proc_turn.proofs.drives.digits_driven.Given as goal

-- The digits so far, with those of the drivers that are left, are all.
abbrev pub invariant-loop-x : goal.invariant-loop-x
invariant-loop-x l = record {
  sum : l.sum + digits_driven l.d.drivers (drop l.x-index l.drivers) ≡ digits_driven l.d.drivers l.drivers;
  each : list_all (λ x. nat_lt x (length l.d.drivers)) (drop l.x-index l.drivers) ≡ true;
  least : 1 ≤ digits_driven l.d.drivers l.drivers;
  most : digits_driven l.d.drivers l.drivers ≤ MAX_WIDTH;
}
