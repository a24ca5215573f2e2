use Rattle.std.proofs.Common.{◌∙◌, arith}
use Rattle.vh_display.specs.Calls.{converted}
use Rattle.vh_display.proofs.CallsLemmas.{arguments_next, arguments_end}
use Rattle.vh_display.proofs.call.push_arguments.Goals as goal

pub loop-arg-preserved : goal.loop-arg-preserved
loop-arg-preserved c =
    arguments_next c.args.name.now (converted c.args.d.now c.args.s.now c.args.ratio) c.loop-arg.format.now c.args.args.now
    c.loop-arg.arg-index _ _ c.loop-arg.out.items c.front.new.out.items c.with_argument.new.out.items c.in_ok-format.format.now _
    c.loop-arg-test.true c.arg-item.is c.in_ok-wanted.ensures.text c.in_ok-wanted.ensures.wants c.in_ok-format.ensures
    ∙ c.loop-arg.invariant

pub returns : goal.returns
returns c =
    arguments_end c.args.name.now (converted c.args.d.now c.args.s.now c.args.ratio) c.loop-arg.format.now c.args.args.now
    c.loop-arg.arg-index c.loop-arg.out.items c.front-2.new.out.items (omega (arith, c.loop-arg-test.false)) c.in_ok-front.ensures.text
    ∙ c.loop-arg.invariant
