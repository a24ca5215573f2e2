-- Each digit of the result is `digit_not` of the digit at its position, which the four pairs of bits show.
use Rattle.std.proofs.Common.{◌+◌, ◌%◌, max, rules, refl}
use Rattle.std.proofs.lemmas.Nat.Bits.{bit_at-lt, bit_at_or, bit_at_xor, bit_at_ones}
use Rattle.vh_logic.specs.Digit.{digit_not}
use Rattle.vh_logic.specs.Planes.{digit_of}
use Rattle.vh_logic.proofs.PlanesLemmas.{map_digits-vector, bounds}
use Rattle.vh_logic.proofs.Tables.{by_2}
use Rattle.vh_logic.proofs.ArithmeticLemmas.{literal-width}
use Rattle.vh_logic.proofs.bitwise.invert.Goals as goal

pub invariant_of-result : goal.invariant_of-result
invariant_of-result c = rw c.mask.ensures (c.a.invariant.0, c.a.invariant.1, search (rules, bounds), c.a.invariant.3)

pub returns-clause-value : goal.returns-clause-value
returns-clause-value c =
    rw c.mask.ensures (map_digits-vector digit_not _ _ _ _ _ _ _ c.a.view_is
    (λ i within. simp (bit_at_or, bit_at_xor, bit_at_ones) (by_2
    (λ x y. digit_not (digit_of x y))
    (λ x y. digit_of (max ((x + 1) % 2) y) y)
    refl _ _ (bit_at-lt _ i) (bit_at-lt _ i))))

pub returns-clause-width : goal.returns-clause-width
returns-clause-width c = literal-width _ _ _ _ _ _ c.a.view_is
