use Rattle.std.proofs.Common.{◌≡◌, true, length}
use Rattle.vh_design.specs.Shape.{Shape}
use Rattle.vh_design.specs.Handed.{shape_of}
use Rattle.vh_design_nodes.specs.Fits.{fits_object}
use Rattle.vh_design.proofs.ValidityLemmas.{AllFit-at, object_scope, object_least, object_most, object_detail}
use Rattle.vh_design.proofs.design.Design.object.Goals as goal

-- The design by its parts.
abbrev seen : goal.After-index → Shape
seen c = shape_of c.self.inside.parts

-- The object keeps its rule.
fits : (c : goal.After-index)
    → fits_object (length c.self.inside.parts.exprs.items) (length c.self.inside.parts.bodies.items) c.self.inside.parts.objects.items c.args.o c.index.result.now ≡ true
fits c =
    let d = c.self.inside.parts in
    let inside = rw (← c.self.view_is) at c.requires in
    let is = rw c.number.ensures at c.index.ensures in
    AllFit-at (fits_object (length d.exprs.items) (length d.bodies.items) d.objects.items) d.objects.items c.args.o c.index.result.now
    c.self.invariant.valid.nodes.objects inside is

pub returns-clause-scope : goal.returns-clause-scope
returns-clause-scope c = object_scope (seen c) c.args.o c.index.result.now (fits c)

pub returns-clause-least : goal.returns-clause-least
returns-clause-least c = object_least (seen c) c.args.o c.index.result.now (fits c)

pub returns-clause-most : goal.returns-clause-most
returns-clause-most c = object_most (seen c) c.args.o c.index.result.now (fits c)

pub returns-clause-detail : goal.returns-clause-detail
returns-clause-detail c = rw (← c.self.view_is) (object_detail (seen c) c.args.o c.index.result.now (fits c))
