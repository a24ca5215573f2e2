-- The planes of the one stand above those of the other.
use Rattle.std.proofs.Common.{◌+◌, ◌≤◌, ap, arith, false}
use Rattle.vh_logic.specs.declared.vector.TheConstants.{MAX_WIDTH}
use Rattle.vh_logic.proofs.PlanesLemmas.{digits_with}
use Rattle.vh_logic.proofs.PartsLemmas.{concat_plane, concat_below, digits_of-concat, room-planes, concat-width}
use Rattle.vh_logic.proofs.parts.concat.Goals as goal

pub overflow_shl-result : goal.overflow_shl-result
overflow_shl-result c =
    let one : 1 ≤ c.high.inside.width = c.high.invariant.0 in
    let room : c.high.inside.width + c.low.inside.width ≤ MAX_WIDTH = room-planes _ _ _ _ _ _ MAX_WIDTH _ _ _ _ c.high.view_is c.low.view_is c.requires in
    omega arith

pub overflow_shl-result-2 : goal.overflow_shl-result-2
overflow_shl-result-2 c =
    let one : 1 ≤ c.high.inside.width = c.high.invariant.0 in
    let room : c.high.inside.width + c.low.inside.width ≤ MAX_WIDTH = room-planes _ _ _ _ _ _ MAX_WIDTH _ _ _ _ c.high.view_is c.low.view_is c.requires in
    omega arith

pub invariant_of-result : goal.invariant_of-result
invariant_of-result c =
    let room : c.high.inside.width + c.low.inside.width ≤ MAX_WIDTH = room-planes _ _ _ _ _ _ MAX_WIDTH _ _ _ _ c.high.view_is c.low.view_is c.requires in
    let one : 1 ≤ c.high.inside.width = c.high.invariant.0 in (
      omega arith,
      room,
      rw (concat_plane c.high.inside.width c.high.inside.aval c.low.inside.width c.low.inside.aval MAX_WIDTH c.high.invariant.2 c.low.invariant.2 room) (concat_below c.high.inside.width c.high.inside.aval c.low.inside.width c.low.inside.aval c.high.invariant.2 c.low.invariant.2),
      rw (concat_plane c.high.inside.width c.high.inside.bval c.low.inside.width c.low.inside.bval MAX_WIDTH c.high.invariant.3 c.low.invariant.3 room) (concat_below c.high.inside.width c.high.inside.bval c.low.inside.width c.low.inside.bval c.high.invariant.3 c.low.invariant.3),
    )

pub returns-clause-value : goal.returns-clause-value
returns-clause-value c =
    let room : c.high.inside.width + c.low.inside.width ≤ MAX_WIDTH = room-planes _ _ _ _ _ _ MAX_WIDTH _ _ _ _ c.high.view_is c.low.view_is c.requires in
    rw (← c.high.view_is, ← c.low.view_is) (rw (
      concat_plane c.high.inside.width c.high.inside.aval c.low.inside.width c.low.inside.aval MAX_WIDTH c.high.invariant.2 c.low.invariant.2 room,
      concat_plane c.high.inside.width c.high.inside.bval c.low.inside.width c.low.inside.bval MAX_WIDTH c.high.invariant.3 c.low.invariant.3 room,
    )
    (ap (λ ds. digits_with ds false) (digits_of-concat c.high.inside.width c.high.inside.aval c.high.inside.bval c.low.inside.width c.low.inside.aval c.low.inside.bval c.low.invariant.2 c.low.invariant.3)))

pub returns-clause-width : goal.returns-clause-width
returns-clause-width c = concat-width _ _ _ _ _ _ _ _ _ _ _ _ c.high.view_is c.low.view_is
