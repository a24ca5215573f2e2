use Rattle.std.proofs.Common.{◌∙◌, List, false, sym, ap, arith}
use Rattle.vh_logic.specs.declared.digits.Digit.{Digit}
use Rattle.vh_logic.specs.Vector.{Vector}
use Rattle.vh_eval.proofs.OperatorsLemmas.{times_one, times_more, same_width}
use Rattle.vh_eval.proofs.operators.repeated.Goals as goal

abbrev unsigned : List Digit → Vector
unsigned ds = record { digits = ds; signed = false }

pub loop-init : goal.loop-init
loop-init c =
    record {
      digits = c.resize-all.ensures.value
          ∙ rw c.width.ensures.value (ap unsigned (same_width c.args.v.now false ∙ sym (times_one c.args.v.now.digits)));
      width = omega (arith, c.resize-all.ensures.width, c.width.ensures.value);
    }

pub loop-preserved : goal.loop-preserved
loop-preserved c =
    record {
      digits = c.concat-all.ensures.value
          ∙ rw c.loop.invariant.digits (ap unsigned (sym (times_more c.loop.counter c.args.v.now.digits)));
      width = omega (arith, c.concat-all.ensures.width, c.loop.invariant.width);
    }
