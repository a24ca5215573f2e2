use Rattle.std.proofs.Common.{◌≡◌, ◌≤◌, length, drop, nat_lt, true}
use Rattle.std.specs.List.{list_all}
use Rattle.vh_logic.specs.Vector.{width_of as digits_in}
use Rattle.vh_proc_turn.specs.Drives.{driving, digits_driven, all_driven}
use Rattle.vh_proc_turn.proofs.drives.drive_all.Given as goal

-- What the drivers that are left do, behind those so far, is what all do; and these have the rest of the digits.
abbrev pub invariant-loop-x : goal.invariant-loop-x
invariant-loop-x l = record {
  driven : all_driven l.d.drivers l.s l.time (drop l.x-index l.drivers) l.v (driving l.updates l.q)
      ≡ all_driven l.d.drivers l.s l.time l.drivers l.v (driving l.initial.updates l.initial.q);
  left : l.left ≡ digits_driven l.d.drivers (drop l.x-index l.drivers);
  wide : l.left ≤ digits_in l.v;
  each : list_all (λ x. nat_lt x (length l.d.drivers)) (drop l.x-index l.drivers) ≡ true;
  now : l.q.time ≡ l.initial.q.time;
}
