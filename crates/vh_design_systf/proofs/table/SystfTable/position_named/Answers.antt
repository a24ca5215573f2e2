use Rattle.std.proofs.Common.{◌∙◌, ap, length}
use Rattle.vh_design_systf.specs.Table.{position_of}
use Rattle.vh_design_systf.proofs.TableLemmas.{place_name, if_small}
use Rattle.vh_design_systf.proofs.table.SystfTable.position_named.Goals as goal

pub returns-clause-value : goal.returns-clause-value
returns-clause-value c =
    c.get_index_of.ensures.index ∙ place_name c.args.name.now c.self.inside.rows.entries c.self.invariant
    ∙ ap (position_of c.args.name.now) c.self.view_is

pub returns-clause-small : goal.returns-clause-small
returns-clause-small c =
    if_small c.get_index_of.result (length c.self.inside.rows.entries) c.get_index_of.ensures.within
    c.self.invariant.counted
