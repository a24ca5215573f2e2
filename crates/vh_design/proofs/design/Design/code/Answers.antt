use Rattle.std.proofs.Common.{◌≡◌, true}
use Rattle.vh_design.specs.Shape.{Shape}
use Rattle.vh_design.specs.Handed.{shape_of}
use Rattle.vh_design_code.specs.Codes.{fits_code}
use Rattle.vh_design.specs.Validity.{limits_of}
use Rattle.vh_design.proofs.ValidityLemmas.{AllFit-at}
use Rattle.vh_design.proofs.design.Design.code.Goals as goal

-- The design by its parts.
abbrev seen : goal.After-index → Shape
seen c = shape_of c.self.inside.parts

-- It keeps its rule.
fits : (c : goal.After-index) → fits_code (seen c).objects (seen c).exprs (seen c).drivers (limits_of (seen c)) c.index.result.now ≡ true
fits c =
    let d = seen c in
    let inside = rw (← c.self.view_is) at c.requires in
    let is = rw c.number.ensures at c.index.ensures in
    AllFit-at (λ k. fits_code (seen c).objects (seen c).exprs (seen c).drivers (limits_of (seen c))) d.codes c.args.p c.index.result.now c.self.invariant.valid.codes inside is

pub returns-clause-fits : goal.returns-clause-fits
returns-clause-fits c = rw (← c.self.view_is) (fits c)
