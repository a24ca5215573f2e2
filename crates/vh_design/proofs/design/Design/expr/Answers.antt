use Rattle.std.proofs.Common.{◌≡◌, true}
use Rattle.vh_design.specs.Shape.{Shape}
use Rattle.vh_design.specs.Handed.{shape_of}
use Rattle.vh_design_nodes.specs.Fits.{fits_node}
use Rattle.vh_design.proofs.ValidityLemmas.{AllFit-at, node_kind, node_measured}
use Rattle.vh_design.proofs.design.Design.expr.Goals as goal

-- The design by its parts.
abbrev seen : goal.After-index → Shape
seen c = shape_of c.self.inside.parts

-- The expression keeps its rule.
fits : (c : goal.After-index)
    → fits_node c.self.inside.parts.exprs.items c.self.inside.parts.objects.items c.self.inside.parts.precision c.args.e c.index.result.now ≡ true
fits c =
    let d = c.self.inside.parts in
    let inside = rw (← c.self.view_is) at c.requires in
    let is = rw c.number.ensures at c.index.ensures in
    AllFit-at (fits_node d.exprs.items d.objects.items d.precision) d.exprs.items c.args.e c.index.result.now
    c.self.invariant.valid.nodes.exprs inside is

pub returns-clause-fits : goal.returns-clause-fits
returns-clause-fits c = rw (← c.self.view_is) (node_kind (seen c) c.args.e c.index.result.now (fits c))

pub returns-clause-measured : goal.returns-clause-measured
returns-clause-measured c = rw (← c.self.view_is) (node_measured (seen c) c.args.e c.index.result.now (fits c))
