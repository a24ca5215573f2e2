-- The first step stands apart.
use Rattle.vh_parse_expr.proofs.ViewsLemmas.{name_tree-steps}
use Rattle.vh_parse_expr.proofs.name.Stem.into_name.Goals as goal

pub returns : goal.returns
returns c = name_tree-steps _ _ _ _ _ c.if-is_empty.ensures c.in_ok-push.ensures.ok c.remove-first.ensures.item c.remove-first.ensures.rest
