use Rattle.std.proofs.Common.{◌≡◌, ◌<◌, Some, length, refl, rules}
use Rattle.std.proofs.lemmas.Option.{slice_get_read}
use Rattle.vh_design_nodes.specs.Fits.{body_number}
use Rattle.vh_design_code.specs.Codes.{fits_code}
use Rattle.vh_design.specs.Shape.{Shape}
use Rattle.vh_design.specs.Handed.{shape_of}
use Rattle.vh_design.specs.Validity.{limits_of}
use Rattle.vh_design.proofs.ValidityLemmas.{AllFit-at, body-inside, body_at-found}
use Rattle.vh_design.proofs.design.Design.body.Goals as goal

-- The body's number, and that it is one.
pub index-requires : goal.index-requires
index-requires c =
    let d : Shape = shape_of c.self.inside.parts in
    let found : body_number d.objects c.args.t ≡ Some c.in-Some.n = cc in
    let inside : c.in-Some.n < length d.bodies = body-inside d c.args.t c.in-Some.n c.self.invariant.valid found in
    search rules

pub returns-clause-value : goal.returns-clause-value
returns-clause-value c =
    let d : Shape = shape_of c.self.inside.parts in
    let found : body_number d.objects c.args.t ≡ Some c.in-Some.n = cc in
    let inside : c.in-Some.n < length d.bodies = body-inside d c.args.t c.in-Some.n c.self.invariant.valid found in
    rw (← c.self.view_is)
    (body_at-found d c.args.t c.in-Some.n c.index.result.now found
    (slice_get_read d.bodies (length d.bodies) c.in-Some.n c.index.result.now refl inside c.index.ensures))

pub returns-clause-fits : goal.returns-clause-fits
returns-clause-fits c =
    let d : Shape = shape_of c.self.inside.parts in
    let found : body_number d.objects c.args.t ≡ Some c.in-Some.n = cc in
    let inside : c.in-Some.n < length d.bodies = body-inside d c.args.t c.in-Some.n c.self.invariant.valid found in
    rw (← c.self.view_is)
    (AllFit-at (λ k. fits_code d.objects d.exprs d.drivers (limits_of d)) d.bodies c.in-Some.n c.index.result.now
    c.self.invariant.valid.bodies inside c.index.ensures)
