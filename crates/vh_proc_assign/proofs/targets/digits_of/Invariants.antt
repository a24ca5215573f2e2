use Rattle.std.proofs.Common.{◌≡◌, ◌≤◌, ◌+◌, length, drop, true}
use Rattle.std.specs.List.{list_all}
use Rattle.vh_logic.specs.declared.vector.TheConstants.{MAX_WIDTH}
use Rattle.vh_design_code.specs.Targets.{fits_target}
use Rattle.vh_proc_assign.specs.Pieces.{digits_of}
use Rattle.vh_proc_assign.proofs.targets.digits_of.Given as goal

-- The digits so far, with those of the targets that are left, are all.
abbrev pub invariant-loop-target : goal.invariant-loop-target
invariant-loop-target l = record {
  sum : l.sum + digits_of l.d.objects (drop l.target-index l.targets) ≡ digits_of l.d.objects l.targets;
  each : list_all (fits_target l.d.objects (length l.d.exprs)) (drop l.target-index l.targets) ≡ true;
  least : 1 ≤ digits_of l.d.objects l.targets;
  most : digits_of l.d.objects l.targets ≤ MAX_WIDTH;
}
