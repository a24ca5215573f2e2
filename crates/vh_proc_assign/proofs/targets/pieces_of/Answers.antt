use Rattle.std.proofs.Common.{◌≤◌, ℕ, refl, sym, subst, arith}
use Rattle.vh_logic.specs.Vector.{width_of as digits_in}
use Rattle.vh_proc_assign.proofs.PiecesLemmas.{are-targets, drop-at, first-passes, rest-passes, digits-left, taken-so-far}
use Rattle.vh_proc_assign.proofs.targets.pieces_of.Goals as goal

pub loop-target-init : goal.loop-target-init
loop-target-init c = record {
  taken = refl;
  left = c.digits_of-left.ensures.value;
  wide = subst (λ (n : ℕ). n ≤ digits_in c.args.v.now) (sym c.digits_of-left.ensures.value) c.requires.wide;
  each = (are-targets _ _ c.args.targets.now c.requires.there).each;
}

pub push_target-requires-clause-there : goal.push_target-requires-clause-there
push_target-requires-clause-there c =
    first-passes _ c.target-item.result _ _
    (drop-at c.args.targets.now c.loop-target.target-index c.target-item.result c.loop-target-test.true c.target-item.is) c.loop-target.invariant.each

pub loop-target-preserved : goal.loop-target-preserved
loop-target-preserved c =
    let at = drop-at c.args.targets.now c.loop-target.target-index c.target-item.result c.loop-target-test.true c.target-item.is in
    let left =
    digits-left c.args.d.now.objects c.target-item.result _ _ c.loop-target.left c.in_ok-left.left at c.loop-target.invariant.left c.in_ok-left.ensures.left in
    record {
      taken = taken-so-far c.args.d.now c.args.s.now c.args.v.now c.target-item.result _ _ c.in_ok-left.left c.loop-target.out.items c.push_target.new.out.items _
          at left c.in_ok-left.ensures.taken c.loop-target.invariant.taken;
      left = left;
      wide = omega (arith, c.in_ok-left.ensures.left, c.loop-target.invariant.wide);
      each = rest-passes _ c.target-item.result _ _ at c.loop-target.invariant.each;
    }
