use Rattle.std.proofs.Common.{◌≡◌, ◌≤◌, ◌++◌, length, drop, true}
use Rattle.std.specs.List.{list_all}
use Rattle.vh_logic.specs.Vector.{width_of as digits_in}
use Rattle.vh_design_code.specs.Targets.{fits_target}
use Rattle.vh_proc_assign.specs.Pieces as pieces
use Rattle.vh_proc_assign.specs.Pieces.{digits_of}
use Rattle.vh_proc_assign.proofs.targets.pieces_of.Given as goal

-- The pieces so far, with those of the targets that are left, are all; and these have the rest of the digits.
abbrev pub invariant-loop-target : goal.invariant-loop-target
invariant-loop-target l = record {
  taken : l.out.items ++ pieces.pieces_of l.d l.s (drop l.target-index l.targets) l.v ≡ l.initial.out.items ++ pieces.pieces_of l.d l.s l.targets l.v;
  left : l.left ≡ digits_of l.d.objects (drop l.target-index l.targets);
  wide : l.left ≤ digits_in l.v;
  each : list_all (fits_target l.d.objects (length l.d.exprs)) (drop l.target-index l.targets) ≡ true;
}
