use Rattle.std.proofs.Common.{refl, arith}
use Rattle.vh_eval.proofs.SelectsLemmas.{below_past, below_partly}
use Rattle.vh_eval.proofs.selects.digits_below.Goals as goal

pub returns-then-distance-from-clause-value : goal.returns-then-distance-from-clause-value
returns-then-distance-from-clause-value c =
    rw (c.unknown.ensures.value, below_past c.args.v.now.digits c.args.distance c.args.width (omega arith)) refl

pub returns-clause-value : goal.returns-clause-value
returns-clause-value c =
    rw (
      c.concat.ensures.value,
      c.digits_above.ensures.value,
      c.unknown-2.ensures.value,
      below_partly c.args.v.now.digits c.args.distance c.args.width (omega arith),
    ) refl
