-- The shifts. The right operand is read without a sign; an x or z digit in it makes all digits x.
use Rattle.std.specs.Prelude.{ℕ, if◌then◌else◌, List, ◌++◌, take, drop, length, replicate, Option, Some, None}
use Rattle.vh_logic.specs.declared.digits.Digit.{Digit}
use Rattle.vh_logic.specs.declared.digits.Digit.TheVariants.{Zero, X}
use Rattle.vh_logic.specs.Vector.{Vector, highest}
use Rattle.vh_logic.specs.Number.{known_number}

-- The digits moved up by n positions, with zeros below (IEEE 1364-2005, 5.1.12)
abbrev pub moved_up : List Digit → ℕ → List Digit
moved_up ds n = take (length ds) (replicate n Zero ++ ds)

-- The digits moved down by n positions, with `fill` above (5.1.12)
abbrev pub moved_down : Digit → List Digit → ℕ → List Digit
moved_down fill ds n = take (length ds) (drop n ds ++ replicate (length ds) fill)

-- The digits moved by a number of positions, all x where that number is not known (5.1.12)
abbrev pub moved_by : (List Digit → ℕ → List Digit) → List Digit → Option ℕ → List Digit
moved_by move ds None = replicate (length ds) X
moved_by move ds (Some n) = move ds n

-- A vector whose digits are moved by a number of positions (5.1.12)
abbrev pub moved : (List Digit → ℕ → List Digit) → Vector → Option ℕ → Vector
moved move a positions = record { digits = moved_by move a.digits positions; signed = a.signed }

-- `a << b` and `a <<< b` (5.1.12)
abbrev pub shifted_left : Vector → Vector → Vector
shifted_left a b = moved moved_up a (known_number b.digits)

-- `a >> b` (5.1.12)
abbrev pub shifted_right : Vector → Vector → Vector
shifted_right a b = moved (moved_down Zero) a (known_number b.digits)

-- `a >>> b`, which fills with the highest digit where the vector is signed (5.1.12)
abbrev pub shifted_right_signed : Vector → Vector → Vector
shifted_right_signed a b = moved (moved_down (if a.signed then highest a.digits else Zero)) a (known_number b.digits)
