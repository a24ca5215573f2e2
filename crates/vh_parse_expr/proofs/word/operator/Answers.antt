-- A word that is no such operator is refused.
use Rattle.vh_parse_expr.proofs.ViewsLemmas.{stops_at}
use Rattle.vh_parse_expr.proofs.word.operator.Goals as goal

pub returns-in-None : goal.returns-in-None
returns-in-None c = stops_at _ _ _ _ _ _ c.in-len1-up.len_at_least c.first-item.is c.in-None.ensures c.lost-in-None.ensures
