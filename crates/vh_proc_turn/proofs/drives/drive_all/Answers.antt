use Rattle.std.proofs.Common.{◌∙◌, arith, rules}
use Rattle.vh_proc_assign.proofs.PiecesLemmas.{drop-at, rest-passes}
use Rattle.vh_proc_turn.proofs.DrivesLemmas.{rest-of-digits, driven-more, driven-fails}
use Rattle.vh_proc_turn.proofs.drives.drive_all.Goals as goal

pub returns-in_err-left-clause-refused : goal.returns-in_err-left-clause-refused
returns-in_err-left-clause-refused c =
    let at = drop-at c.args.drivers.now c.loop-x.x-index c.x-item.result c.loop-x-test.true c.x-item.is in
    let left = rest-of-digits c.args.d.now.drivers c.x-item.result _ _ c.loop-x.left at c.loop-x.invariant.left in
    let fails = driven-fails c.args.d.now.drivers c.args.s.now c.args.time c.args.v.now c.x-item.result _ _ _ _ _ _ at left.1
    c.in_err-left.ensures.refused c.loop-x.invariant.driven in search (rules, fails)

pub loop-x-preserved : goal.loop-x-preserved
loop-x-preserved c =
    let at = drop-at c.args.drivers.now c.loop-x.x-index c.x-item.result c.loop-x-test.true c.x-item.is in
    let left = rest-of-digits c.args.d.now.drivers c.x-item.result _ _ c.loop-x.left at c.loop-x.invariant.left in
    record {
      driven = driven-more c.args.d.now.drivers c.args.s.now c.args.time c.args.v.now c.x-item.result _ _ _ _ _ _ at left.1
          c.in_ok-left.ensures.driven c.loop-x.invariant.driven;
      left = c.in_ok-left.ensures.left ∙ left.1;
      wide = omega (arith, c.in_ok-left.ensures.left, c.loop-x.invariant.wide);
      each = rest-passes _ c.x-item.result _ _ at c.loop-x.invariant.each;
      now = c.in_ok-left.ensures.now ∙ c.loop-x.invariant.now;
    }
