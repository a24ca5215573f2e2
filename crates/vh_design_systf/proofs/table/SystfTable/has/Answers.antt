use Rattle.std.proofs.Common.{◌∙◌, ap, is_some}
use Rattle.vh_design_systf.specs.Table.{has_name}
use Rattle.vh_design_systf.proofs.TableLemmas.{found_name, copied_some}
use Rattle.vh_design_systf.proofs.table.SystfTable.has.Goals as goal

pub returns : goal.returns
returns c =
    c.is_some.ensures ∙ copied_some c.get.result ∙ ap is_some c.get.ensures.value
    ∙ found_name c.args.name.now c.self.inside.rows.entries c.self.invariant
    ∙ ap (has_name c.args.name.now) c.self.view_is
