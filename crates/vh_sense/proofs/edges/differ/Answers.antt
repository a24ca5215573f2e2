use Rattle.std.proofs.Common.{◌∙◌, sym}
use Rattle.vh_sense.proofs.EdgesLemmas.{differ-none}
use Rattle.vh_sense.proofs.edges.differ.Goals as goal

pub returns-then-count-eq0 : goal.returns-then-count-eq0
returns-then-count-eq0 c =
    differ-none _ _ (sym c.count_from-count.ensures ∙ c.if-count-eq0.true)
    (sym c.count_from.ensures ∙ sym c.if-count-count_from.false ∙ c.if-count-eq0.true)
