use Rattle.std.proofs.Common.{◌+◌, ◌%◌, max, rules, refl}
use Rattle.std.proofs.lemmas.Nat.Bits.{bit_at_or, bit_at_xor}
use Rattle.vh_logic.specs.Digit.{digit_xor}
use Rattle.vh_logic.specs.Planes.{digit_of}
use Rattle.vh_logic.proofs.PlanesLemmas.{bounds}
use Rattle.vh_logic.proofs.ArithmeticLemmas.{literal-width}
use Rattle.vh_logic.proofs.BitwiseLemmas.{second-below, zip_by_table}
use Rattle.vh_logic.proofs.bitwise.xor.Goals as goal

pub invariant_of-result : goal.invariant_of-result
invariant_of-result c =
    let second = second-below _ _ _ _ _ _ _ _ _ _ c.a.view_is c.b.view_is c.requires.widths c.b.invariant.2 c.b.invariant.3 in
    (c.a.invariant.0, c.a.invariant.1, search (rules, bounds), search (rules, bounds))

pub returns-clause-value : goal.returns-clause-value
returns-clause-value c =
    zip_by_table digit_xor (λ x y z t. digit_of (max ((x + z) % 2) (max y t)) (max y t))
    refl _ _ _ _ _ _ _ _ _ _ _ _ c.a.view_is c.b.view_is c.requires.widths (λ i within. simp (bit_at_or, bit_at_xor) refl)

pub returns-clause-width : goal.returns-clause-width
returns-clause-width c = literal-width _ _ _ _ _ _ c.a.view_is
