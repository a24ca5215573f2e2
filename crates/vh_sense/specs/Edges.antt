-- Which change of a vector is an edge, or a change of some of its digits. (IEEE 1364-2005, 9.7.2)
use Rattle.std.specs.Prelude.{ℕ, Bool, false, not, ◌&&◌, ◌==◌, List, length, take, drop, slice_index_or}
use Rattle.vh_logic.specs.declared.digits.Digit.{Digit}
use Rattle.vh_logic.specs.declared.digits.Digit.TheVariants.{Zero, One, X, Z}
use Rattle.vh_logic.specs.Digit.{is_zero, is_one, is_same}
use Rattle.vh_logic.specs.Vector.{Vector, all_positions}
use Rattle.vh_design_code.specs.declared.wait.Edge.{Edge}
use Rattle.vh_design_code.specs.declared.wait.Edge.TheVariants as edge

-- `posedge`: from 0 to 1, x or z, and from x or z to 1. (9.7.2)
abbrev pub is_rising : Digit → Digit → Bool
is_rising Zero new = not (is_zero new)
is_rising One new = false
is_rising X new = is_one new
is_rising Z new = is_one new

-- `negedge`: from 1 to 0, x or z, and from x or z to 0. (9.7.2)
abbrev pub is_falling : Digit → Digit → Bool
is_falling Zero new = false
is_falling One new = not (is_one new)
is_falling X new = is_zero new
is_falling Z new = is_zero new

-- The digit at a position; past the highest a select reads x. (5.2.1)
abbrev pub digit_at : Vector → ℕ → Digit
digit_at v position = slice_index_or v.digits position X

-- The digits of a select, so many from a position on, without those past the highest: these are always x. (5.2.1)
abbrev pub digits_from : Vector → ℕ → ℕ → List Digit
digits_from v low width = take width (drop low v.digits)

-- Are some digits others than before? (own)
abbrev pub differ : List Digit → List Digit → Bool
differ old new = not (length old == length new && all_positions is_same old new)

-- The change of a select that ends a wait: any change of its digits, or an edge of the lowest. (9.7.2)
abbrev pub is_change : Edge → ℕ → ℕ → Vector → Vector → Bool
is_change edge.Any low width old new = differ (digits_from old low width) (digits_from new low width)
is_change edge.Rising low width old new = is_rising (digit_at old low) (digit_at new low)
is_change edge.Falling low width old new = is_falling (digit_at old low) (digit_at new low)
