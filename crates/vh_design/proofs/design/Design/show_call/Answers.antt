use Rattle.std.proofs.Common.{◌≡◌, true, length}
use Rattle.vh_design.specs.Shape.{Shape}
use Rattle.vh_design.specs.Handed.{shape_of}
use Rattle.vh_design_code.specs.Codes.{fits_show}
use Rattle.vh_design.proofs.ValidityLemmas.{AllFit-at}
use Rattle.vh_design.proofs.design.Design.show_call.Goals as goal

-- The design by its parts.
abbrev seen : goal.After-index → Shape
seen c = shape_of c.self.inside.parts

-- It keeps its rule.
fits : (c : goal.After-index) → fits_show (seen c).objects (length (seen c).exprs) (seen c).precision c.index.result.now ≡ true
fits c =
    let d = seen c in
    let inside = rw (← c.self.view_is) at c.requires in
    let is = rw c.number.ensures at c.index.ensures in
    AllFit-at (λ k. fits_show (seen c).objects (length (seen c).exprs) (seen c).precision) d.shows c.args.c c.index.result.now c.self.invariant.valid.names.shows inside is

pub returns-clause-fits : goal.returns-clause-fits
returns-clause-fits c = rw (← c.self.view_is) (fits c)
