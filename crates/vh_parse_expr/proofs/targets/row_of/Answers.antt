-- A part of the row is a piece of it.
use Rattle.vh_parse_expr.proofs.ViewsLemmas.{lv_tree-pieces}
use Rattle.vh_parse_expr.proofs.targets.row_of.Goals as goal

pub returns : goal.returns
returns c = lv_tree-pieces c.args.place c.args.parts
