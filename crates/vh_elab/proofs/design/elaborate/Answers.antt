use Rattle.std.proofs.Common.{ap, map}
use Rattle.vh_ast.specs.Views.{module_tree}
use Rattle.vh_elab.proofs.TopLemmas.{below-top}
use Rattle.vh_elab.proofs.design.elaborate.Goals as goal

pub returns : goal.returns
returns c =
    below-top c.args.first _ _ c.in-Ok.top c.in_ok-fault.field-0 c.below.result (ap (map module_tree) c.as_slice-all.ensures)
    c.in-Ok.is c.in_ok-fault.ensures c.below.ensures
