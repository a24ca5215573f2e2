-- The operators that make one digit of all the digits of a vector.
use Rattle.std.specs.Prelude.{if◌then◌else◌, List, [], ◌∷◌}
use Rattle.std.specs.List.{list_any, list_all}
use Rattle.vh_logic.specs.declared.digits.Digit.{Digit}
use Rattle.vh_logic.specs.declared.digits.Digit.TheVariants.{Zero, One, X}
use Rattle.vh_logic.specs.Vector.{Vector}
use Rattle.vh_logic.specs.Digit.{digit_and, digit_or, digit_xor, is_one, is_zero}

-- An operator between all digits, from the highest one down; `unit` is what leaves the other operand as it is (5.1.11)
unfoldable pub reduced : (Digit → Digit → Digit) → Digit → List Digit → Digit
reduced f unit [] = unit
reduced f unit (d ∷ ds) = f d (reduced f unit ds)

-- `&a` (IEEE 1364-2005, 5.1.11)
abbrev pub reduction_and : Vector → Digit
reduction_and a = reduced digit_and One a.digits

-- `|a` (5.1.11)
abbrev pub reduction_or : Vector → Digit
reduction_or a = reduced digit_or Zero a.digits

-- `^a` (5.1.11)
abbrev pub reduction_xor : Vector → Digit
reduction_xor a = reduced digit_xor Zero a.digits

-- Whether a vector is true: a 1 makes it true, all zeros false, and else it is unknown (5.1.9)
abbrev pub truth_of : Vector → Digit
truth_of a = if list_any is_one a.digits then One else (if list_all is_zero a.digits then Zero else X)
