-- The operators that put vectors together and take them apart.
use Rattle.std.specs.Prelude.{ℕ, ◌+◌, Bool, false, ◌&&◌, if◌then◌else◌, ◌++◌, take, drop, replicate}
use Rattle.vh_logic.specs.declared.digits.Digit.{Digit}
use Rattle.vh_logic.specs.declared.digits.Digit.TheVariants.{Zero}
use Rattle.vh_logic.specs.Vector.{Vector, width_of, highest}

-- `{high, low}` (IEEE 1364-2005, 5.1.14)
abbrev pub concatenation : Vector → Vector → Vector
concatenation high low = record { digits = low.digits ++ high.digits; signed = false }

-- The part of `w` digits from position `low` on (5.2.1)
abbrev pub part_of : Vector → ℕ → ℕ → Vector
part_of a low w = record { digits = take w (drop low a.digits); signed = false }

-- A vector with the digits from position `low` on replaced by those of `part` (5.2.1)
abbrev pub replaced : Vector → ℕ → Vector → Vector
replaced a low part =
    record { digits = take low a.digits ++ (part.digits ++ drop (low + width_of part) a.digits); signed = a.signed }

-- The digit that extends a vector: the highest one of a signed vector in a signed expression, else 0 (5.5.2)
abbrev pub extension : Vector → Bool → Digit
extension a s = if a.signed && s then highest a.digits else Zero

-- A vector cut at the left, or extended, to `w` digits (5.5.2, 5.4.1)
abbrev pub resized : Vector → ℕ → Bool → Vector
resized a w s = record { digits = take w (a.digits ++ replicate w (extension a s)); signed = s }
