use Rattle.std.proofs.Common.{◌≡◌, true}
use Rattle.vh_design.specs.Shape.{Shape}
use Rattle.vh_design.specs.Handed.{shape_of}
use Rattle.vh_design_nodes.specs.Fits.{fits_driver}
use Rattle.vh_design.proofs.ValidityLemmas.{AllFit-at, driver_net, driver_least, driver_most}
use Rattle.vh_design.proofs.design.Design.driver.Goals as goal

-- The design by its parts.
abbrev seen : goal.After-index → Shape
seen c = shape_of c.self.inside.parts

-- The driver keeps its rule.
fits : (c : goal.After-index) → fits_driver c.self.inside.parts.objects.items c.index.result.now ≡ true
fits c =
    let d = c.self.inside.parts in
    let inside = rw (← c.self.view_is) at c.requires in
    let is = rw c.number.ensures at c.index.ensures in
    AllFit-at (λ x. fits_driver d.objects.items) d.drivers.items c.args.x c.index.result.now
    c.self.invariant.valid.nodes.drivers inside is

pub returns-clause-net : goal.returns-clause-net
returns-clause-net c = rw (← c.self.view_is) (driver_net (seen c) c.index.result.now (fits c))

pub returns-clause-least : goal.returns-clause-least
returns-clause-least c = driver_least (seen c) c.index.result.now (fits c)

pub returns-clause-most : goal.returns-clause-most
returns-clause-most c = driver_most (seen c) c.index.result.now (fits c)
