use Rattle.std.proofs.Common.{◌≡◌, drop, true}
use Rattle.std.specs.List.{list_all, find}
use Rattle.vh_proc_turn.specs.Turns.{fits_value}
use Rattle.vh_proc_turn.proofs.CaseLemmas.{is_narrow}
use Rattle.vh_proc_turn.proofs.choices.arm_of.Given as goal

-- The first label that fits is among those that are left.
abbrev pub invariant-loop-arm : goal.invariant-loop-arm
invariant-loop-arm l = record {
  found : find (fits_value l.d l.s l.case) (drop l.arm-index l.arm-items) ≡ find (fits_value l.d l.s l.case) l.case.arms;
  narrow : list_all (is_narrow l.d.exprs l.case.width) (drop l.arm-index l.arm-items) ≡ true;
}
