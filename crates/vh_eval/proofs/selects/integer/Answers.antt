use Rattle.std.proofs.Common.{◌∙◌, sym}
use Rattle.vh_eval.proofs.SelectsLemmas.{known_below}
use Rattle.vh_eval.proofs.selects.integer.Goals as goal

pub integer_at-requires-clause-bound : goal.integer_at-requires-clause-bound
integer_at-requires-clause-bound c =
    rw c.width.ensures.value
    (known_below c.args.v.now.digits c.in_ok-number.number (sym c.number.ensures ∙ c.in_ok-number.was))
