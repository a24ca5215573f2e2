-- A hole is made in the planes, and the planes of the part are put into it.
use Rattle.std.proofs.Common.{◌+◌, ◌≤◌, ap, arith}
use Rattle.std.proofs.lemmas.Nat.{shl_whole}
use Rattle.vh_logic.specs.declared.vector.TheConstants.{MAX_WIDTH}
use Rattle.vh_logic.proofs.PlanesLemmas.{digits_with, ones_below}
use Rattle.vh_logic.proofs.PartsLemmas.{replaced-below, digits_of-replaced, part-planes}
use Rattle.vh_logic.proofs.ArithmeticLemmas.{literal-width}
use Rattle.vh_logic.proofs.parts.replace.Goals as goal

pub overflow_shl-hole : goal.overflow_shl-hole
overflow_shl-hole c =
    let inside : c.args.low + c.part.inside.width ≤ c.a.inside.width = part-planes _ _ _ _ _ _ _ _ _ _ _ c.a.view_is c.part.view_is c.requires in
    let most : c.a.inside.width ≤ MAX_WIDTH = c.a.invariant.1 in
    let one : 1 ≤ c.part.inside.width = c.part.invariant.0 in
    omega arith

pub overflow_shl-result : goal.overflow_shl-result
overflow_shl-result c =
    let inside : c.args.low + c.part.inside.width ≤ c.a.inside.width = part-planes _ _ _ _ _ _ _ _ _ _ _ c.a.view_is c.part.view_is c.requires in
    let most : c.a.inside.width ≤ MAX_WIDTH = c.a.invariant.1 in
    let one : 1 ≤ c.part.inside.width = c.part.invariant.0 in
    omega arith

pub overflow_shl-result-2 : goal.overflow_shl-result-2
overflow_shl-result-2 c =
    let inside : c.args.low + c.part.inside.width ≤ c.a.inside.width = part-planes _ _ _ _ _ _ _ _ _ _ _ c.a.view_is c.part.view_is c.requires in
    let most : c.a.inside.width ≤ MAX_WIDTH = c.a.invariant.1 in
    let one : 1 ≤ c.part.inside.width = c.part.invariant.0 in
    omega arith

pub invariant_of-result : goal.invariant_of-result
invariant_of-result c =
    let inside : c.args.low + c.part.inside.width ≤ c.a.inside.width = part-planes _ _ _ _ _ _ _ _ _ _ _ c.a.view_is c.part.view_is c.requires in
    let most : c.a.inside.width ≤ MAX_WIDTH = c.a.invariant.1 in
    let fits : c.part.inside.width + c.args.low ≤ MAX_WIDTH = omega arith in
    rw (
      c.mask.ensures,
      shl_whole _ c.part.inside.width c.args.low MAX_WIDTH (ones_below c.part.inside.width) fits,
      shl_whole c.part.inside.aval c.part.inside.width c.args.low MAX_WIDTH c.part.invariant.2 fits,
      shl_whole c.part.inside.bval c.part.inside.width c.args.low MAX_WIDTH c.part.invariant.3 fits,
    ) (
      c.a.invariant.0,
      c.a.invariant.1,
      replaced-below c.a.inside.width c.part.inside.width c.args.low c.a.inside.aval c.part.inside.aval c.a.invariant.2 c.part.invariant.2 inside,
      replaced-below c.a.inside.width c.part.inside.width c.args.low c.a.inside.bval c.part.inside.bval c.a.invariant.3 c.part.invariant.3 inside,
    )

pub returns-clause-value : goal.returns-clause-value
returns-clause-value c =
    let inside : c.args.low + c.part.inside.width ≤ c.a.inside.width = part-planes _ _ _ _ _ _ _ _ _ _ _ c.a.view_is c.part.view_is c.requires in
    let most : c.a.inside.width ≤ MAX_WIDTH = c.a.invariant.1 in
    let fits : c.part.inside.width + c.args.low ≤ MAX_WIDTH = omega arith in
    rw (← c.a.view_is, ← c.part.view_is) (rw (
      c.mask.ensures,
      shl_whole _ c.part.inside.width c.args.low MAX_WIDTH (ones_below c.part.inside.width) fits,
      shl_whole c.part.inside.aval c.part.inside.width c.args.low MAX_WIDTH c.part.invariant.2 fits,
      shl_whole c.part.inside.bval c.part.inside.width c.args.low MAX_WIDTH c.part.invariant.3 fits,
    )
    (ap (λ ds. digits_with ds c.a.inside.signed) (digits_of-replaced c.a.inside.width c.a.inside.aval c.a.inside.bval
    c.part.inside.width c.part.inside.aval c.part.inside.bval c.args.low c.part.invariant.2 c.part.invariant.3 inside)))

pub returns-clause-width : goal.returns-clause-width
returns-clause-width c = literal-width _ _ _ _ _ _ c.a.view_is
