use Rattle.std.proofs.Common.{◌≡◌, true}
use Rattle.vh_design.specs.Shape.{Shape}
use Rattle.vh_design.specs.Handed.{shape_of}
use Rattle.vh_design_code.specs.Codes.{fits_statement}
use Rattle.vh_design.proofs.ValidityLemmas.{AllFit-at, stmt_scope}
use Rattle.vh_design.proofs.design.Design.stmt.Goals as goal

-- The design by its parts.
abbrev seen : goal.After-index → Shape
seen c = shape_of c.self.inside.parts

-- It keeps its rule.
fits : (c : goal.After-index) → fits_statement (seen c).objects c.index.result.now ≡ true
fits c =
    let d = seen c in
    let inside = rw (← c.self.view_is) at c.requires in
    let is = c.index.ensures in
    AllFit-at (λ k. fits_statement (seen c).objects) d.stmts c.args.n c.index.result.now c.self.invariant.valid.names.stmts inside is

pub returns-clause-scope : goal.returns-clause-scope
returns-clause-scope c = rw (← c.self.view_is) (stmt_scope (seen c) c.index.result.now (fits c))
