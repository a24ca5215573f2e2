use Rattle.std.proofs.Common.{◌-◌, refl, arith}
use Rattle.vh_eval.proofs.SelectsLemmas.{above_partly}
use Rattle.vh_eval.proofs.selects.digits_above.Goals as goal

pub returns-clause-value : goal.returns-clause-value
returns-clause-value c =
    rw (
      c.concat.ensures.value,
      c.unknown-2.ensures.value,
      c.select-2.ensures.value,
      above_partly c.args.v.now.digits c.args.position c.args.width (c.width-2.result - c.args.position) (omega arith) (omega arith),
    ) refl
