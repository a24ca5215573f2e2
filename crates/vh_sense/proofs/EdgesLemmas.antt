-- Lemmas on `specs/Edges.antt`: no digits don't differ.
use Rattle.std.proofs.Common.{◌≡◌, List, [], ◌∷◌, false, length, refl, arith}
use Rattle.vh_logic.specs.declared.digits.Digit.{Digit}
use Rattle.vh_logic.specs.Vector.{all_positions}
use Rattle.vh_sense.specs.Edges.{differ}

pub differ-none : (old new : List Digit) → length old ≡ 0 → length new ≡ 0 → false ≡ differ old new
unfolding all_positions
differ-none [] [] a b = refl
differ-none [] (d ∷ new) a b = absurd (omega (arith, b))
differ-none (d ∷ old) new a b = absurd (omega (arith, a))
