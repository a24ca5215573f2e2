-- Bit `i` of each plane makes digit `i`.
use Rattle.std.proofs.Common.{◌<◌, ◌≤◌, refl, arith}
use Rattle.vh_logic.specs.declared.vector.TheConstants.{MAX_WIDTH}
use Rattle.vh_logic.proofs.PlanesLemmas.{slice_get-digits_of, bit_set, bit_clear}
use Rattle.vh_logic.proofs.ArithmeticLemmas.{width-planes}
use Rattle.vh_logic.proofs.vector.Vec4.digit.Goals as goal

within : (c : goal.After-self) → c.args.i < c.self.inside.width
within c = omega (arith, width-planes _ _ _ _ _ c.self.view_is)

pub overflow_shr-self-inside : goal.overflow_shr-self-inside
overflow_shr-self-inside c = let below : c.self.inside.width ≤ MAX_WIDTH = c.self.invariant.1 in omega (arith, within c)

pub overflow_shr-self-inside-2 : goal.overflow_shr-self-inside-2
overflow_shr-self-inside-2 c = let below : c.self.inside.width ≤ MAX_WIDTH = c.self.invariant.1 in omega (arith, within c)

pub returns-in-true-true : goal.returns-in-true-true
returns-in-true-true c =
    let s = c.self.inside in
    let digit = slice_get-digits_of s.width s.aval s.bval c.args.i (omega (arith, width-planes _ _ _ _ _ c.self.view_is)) in
    rw (← c.self.view_is, digit, bit_set _ _ c.in-true-true.is-0, bit_set _ _ c.in-true-true.is-1) refl

pub returns-in-true-false : goal.returns-in-true-false
returns-in-true-false c =
    let s = c.self.inside in
    let digit = slice_get-digits_of s.width s.aval s.bval c.args.i (omega (arith, width-planes _ _ _ _ _ c.self.view_is)) in
    rw (← c.self.view_is, digit, bit_set _ _ c.in-true-false.is-0, bit_clear _ _ c.in-true-false.is-1) refl

pub returns-in-false-true : goal.returns-in-false-true
returns-in-false-true c =
    let s = c.self.inside in
    let digit = slice_get-digits_of s.width s.aval s.bval c.args.i (omega (arith, width-planes _ _ _ _ _ c.self.view_is)) in
    rw (← c.self.view_is, digit, bit_clear _ _ c.in-false-true.is-0, bit_set _ _ c.in-false-true.is-1) refl

pub returns-in-false-false : goal.returns-in-false-false
returns-in-false-false c =
    let s = c.self.inside in
    let digit = slice_get-digits_of s.width s.aval s.bval c.args.i (omega (arith, width-planes _ _ _ _ _ c.self.view_is)) in
    rw (← c.self.view_is, digit, bit_clear _ _ c.in-false-false.is-0, bit_clear _ _ c.in-false-false.is-1) refl
