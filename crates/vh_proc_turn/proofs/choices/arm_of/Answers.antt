use Rattle.std.proofs.Common.{◌≡◌, List, true, sym, ap, subst}
use Rattle.std.specs.List.{list_all, find}
use Rattle.vh_design_code.specs.declared.operation.Arm.{Arm}
use Rattle.vh_proc_turn.specs.Turns.{fits_value}
use Rattle.vh_proc_turn.proofs.CaseLemmas.{is-case, is_narrow}
use Rattle.vh_proc_turn.proofs.choices.arm_of.Goals as goal

pub eval-subject-requires-clause-wide : goal.eval-subject-requires-clause-wide
eval-subject-requires-clause-wide c = (is-case _ _ c.args.case.now c.requires.1).wide

pub loop-arm-init : goal.loop-arm-init
loop-arm-init c = record {
  found = ap (λ (arms : List Arm). find (fits_value c.args.d.now c.args.s.now c.args.case.now) arms) c.as_slice-arm-items.ensures;
  narrow = subst (λ (arms : List Arm). list_all (is_narrow c.args.d.now.exprs c.args.case.now.width) arms ≡ true) (sym c.as_slice-arm-items.ensures)
      (is-case _ _ c.args.case.now c.requires.1).narrow;
}
