-- A plane marks the positions where the test of the digits fails.
use Rattle.std.proofs.Common.{◌<◌, ◌^◌, ◌+◌, ◌%◌, ap, max, eqb, rules, refl, sym, ◌∙◌}
use Rattle.std.proofs.lemmas.Nat.Bits.{bit_at-lt, bit_at_or, bit_at_xor}
use Rattle.vh_logic.specs.Digit.{is_same}
use Rattle.vh_logic.specs.Digit.{test_digit}
use Rattle.vh_logic.specs.Planes.{digit_of}
use Rattle.vh_logic.proofs.PlanesLemmas.{bounds}
use Rattle.vh_logic.proofs.Tables.{test_by_4}
use Rattle.vh_logic.proofs.ArithmeticLemmas.{widths-planes}
use Rattle.vh_logic.proofs.CompareLemmas.{all_positions-vectors}
use Rattle.vh_logic.proofs.compare.case_equal.Goals as goal

-- The second operand is within the width of the first
below : (c : goal.After-from_test) → (c.b.inside.aval < 2 ^ c.a.inside.width) × (c.b.inside.bval < 2 ^ c.a.inside.width)
below c = rw (← widths-planes _ _ _ _ _ _ _ _ _ _ c.a.view_is c.b.view_is c.requires) (c.b.invariant.2, c.b.invariant.3)

pub returns : goal.returns
returns c =
    let inside = below c in
    c.from_test.ensures ∙ ap test_digit (sym (all_positions-vectors is_same _ _ _ _ _ _ _ _ _ _ _ c.a.view_is c.b.view_is c.requires (search (rules, bounds))
    (λ i within. simp (bit_at_or, bit_at_xor) (test_by_4
    (λ x y z t. is_same (digit_of x y) (digit_of z t))
    (λ x y z t. eqb (max ((x + z) % 2) ((y + t) % 2)) 0)
    refl _ _ _ _ (bit_at-lt _ i) (bit_at-lt _ i) (bit_at-lt _ i) (bit_at-lt _ i)))))
