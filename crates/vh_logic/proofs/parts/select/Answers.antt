-- The planes are moved down, and cut.
use Rattle.std.proofs.Common.{◌+◌, ◌≤◌, ap, ◌∙◌, arith, false}
use Rattle.vh_logic.specs.declared.vector.TheConstants.{MAX_WIDTH}
use Rattle.vh_logic.proofs.PlanesLemmas.{digits_with}
use Rattle.vh_logic.proofs.PartsLemmas.{digits_of-part, within-planes}
use Rattle.vh_logic.proofs.parts.select.Goals as goal

pub overflow_shr-a-inside : goal.overflow_shr-a-inside
overflow_shr-a-inside c =
    let inside : c.args.low + c.args.width ≤ c.a.inside.width = within-planes _ _ _ _ _ _ c.a.view_is c.requires.inside in
    let most : c.a.inside.width ≤ MAX_WIDTH = c.a.invariant.1 in
    omega (arith, c.requires.least)

pub overflow_shr-a-inside-2 : goal.overflow_shr-a-inside-2
overflow_shr-a-inside-2 c =
    let inside : c.args.low + c.args.width ≤ c.a.inside.width = within-planes _ _ _ _ _ _ c.a.view_is c.requires.inside in
    let most : c.a.inside.width ≤ MAX_WIDTH = c.a.invariant.1 in
    omega (arith, c.requires.least)

pub from_planes-requires-clause-high : goal.from_planes-requires-clause-high
from_planes-requires-clause-high c =
    let inside : c.args.low + c.args.width ≤ c.a.inside.width = within-planes _ _ _ _ _ _ c.a.view_is c.requires.inside in
    let most : c.a.inside.width ≤ MAX_WIDTH = c.a.invariant.1 in
    omega arith

pub returns-clause-value : goal.returns-clause-value
returns-clause-value c =
    let inside : c.args.low + c.args.width ≤ c.a.inside.width = within-planes _ _ _ _ _ _ c.a.view_is c.requires.inside in
    let most : c.a.inside.width ≤ MAX_WIDTH = c.a.invariant.1 in
    c.from_planes.ensures.value ∙ rw (← c.a.view_is) (ap (λ ds. digits_with ds false) (digits_of-part c.a.inside.width c.a.inside.aval c.a.inside.bval c.args.low c.args.width inside))
