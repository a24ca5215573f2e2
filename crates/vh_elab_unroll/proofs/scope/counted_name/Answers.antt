-- Each number of zeros is the next one.
use Rattle.std.proofs.Common.{refl}
use Rattle.vh_elab_unroll.proofs.FreeLemmas.{free-end, free-found, free-more}
use Rattle.vh_elab_unroll.proofs.scope.counted_name.Goals as goal

pub returns-then-branch : goal.returns-then-branch
returns-then-branch c =
    free-found 1025 c.loop-zeros.zeros _ c.args.scope c.args.count c.in_ok-is_free.field-0 _
    c.loop-zeros-test.true c.in_ok-is_free.ensures c.if-branch.true c.loop-zeros.invariant

pub loop-zeros-preserved : goal.loop-zeros-preserved
loop-zeros-preserved c =
    free-more 1025 c.loop-zeros.zeros _ c.args.scope c.args.count c.in_ok-is_free.field-0 _
    c.loop-zeros-test.true c.in_ok-is_free.ensures c.if-branch.false c.loop-zeros.invariant

pub returns : goal.returns
returns c =
    free-end 1025 c.loop-zeros.zeros _ c.args.scope c.args.count _
    c.loop-zeros-test.false c.loop-zeros.invariant
