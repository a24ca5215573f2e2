-- What each operator makes of values, a row for each. (IEEE 1364-2005, 5.1)
use Rattle.std.specs.Prelude.{ℕ, ◌*◌, ◌/◌, ◌+◌, ◌-◌, ◌^◌, zero, suc, List, [], ◌∷◌, ◌++◌, false}
use Rattle.vh_logic.specs.declared.digits.Digit.{Digit}
use Rattle.vh_logic.specs.declared.digits.Digit.TheVariants.{Zero, One, X, Z}
use Rattle.vh_logic.specs.Digit.{digit_not, digit_and, digit_or}
use Rattle.vh_logic.specs.Vector.{Vector}
use Rattle.vh_logic.specs.Number.{binary}
use Rattle.vh_logic.specs.Arithmetic.{sum_of, difference_of, product_of, quotient_of, remainder_of, power_of, negative_of}
use Rattle.vh_logic.specs.Bitwise.{bitwise_not, bitwise_and, bitwise_or, bitwise_xor, bitwise_xnor, merged}
use Rattle.vh_logic.specs.Compare.{equality, case_equality, ordering}
use Rattle.vh_logic.specs.Reduce.{reduction_and, reduction_or, reduction_xor, truth_of}
use Rattle.vh_logic.specs.Shift.{shifted_left, shifted_right, shifted_right_signed}
use Rattle.vh_design_nodes.specs.declared.expr.Unary.{Unary}
use Rattle.vh_design_nodes.specs.declared.expr.Unary.TheVariants as unary
use Rattle.vh_design_nodes.specs.declared.expr.Arithmetic.{Arithmetic}
use Rattle.vh_design_nodes.specs.declared.expr.Arithmetic.TheVariants as arithmetic
use Rattle.vh_design_nodes.specs.declared.expr.Shift.{Shift}
use Rattle.vh_design_nodes.specs.declared.expr.Shift.TheVariants as shift
use Rattle.vh_design_nodes.specs.declared.expr.Comparison.{Comparison}
use Rattle.vh_design_nodes.specs.declared.expr.Comparison.TheVariants as comparison
use Rattle.vh_design_nodes.specs.declared.expr.Logic.{Logic}
use Rattle.vh_design_nodes.specs.declared.expr.Logic.TheVariants as logic

-- A value of one digit, without a sign.
abbrev pub of_digit : Digit → Vector
of_digit d = record { digits = d ∷ []; signed = false }

-- The digit that a reduction or `!` makes of a value; of the three others none is asked. (5.1.9 and 5.1.11)
abbrev pub reduction : Unary → Vector → Digit
reduction unary.Plus v = X
reduction unary.Negate v = X
reduction unary.Invert v = X
reduction unary.Not v = digit_not (truth_of v)
reduction unary.And v = reduction_and v
reduction unary.Nand v = digit_not (reduction_and v)
reduction unary.Or v = reduction_or v
reduction unary.Nor v = digit_not (reduction_or v)
reduction unary.Xor v = reduction_xor v
reduction unary.Xnor v = digit_not (reduction_xor v)

-- `+`, `-` and `~`, in the width around them. (5.1.5 and 5.1.10)
abbrev pub signed_of : Unary → Vector → Vector
signed_of unary.Plus v = v
signed_of unary.Negate v = negative_of v
signed_of unary.Invert v = bitwise_not v
signed_of unary.Not v = v
signed_of unary.And v = v
signed_of unary.Nand v = v
signed_of unary.Or v = v
signed_of unary.Nor v = v
signed_of unary.Xor v = v
signed_of unary.Xnor v = v

-- Two values of one width and sign. (5.1.5 and 5.1.10)
abbrev pub arithmetic_of : Arithmetic → Vector → Vector → Vector
arithmetic_of arithmetic.Add a b = sum_of a b
arithmetic_of arithmetic.Subtract a b = difference_of a b
arithmetic_of arithmetic.Multiply a b = product_of a b
arithmetic_of arithmetic.Divide a b = quotient_of a b
arithmetic_of arithmetic.Remainder a b = remainder_of a b
arithmetic_of arithmetic.And a b = bitwise_and a b
arithmetic_of arithmetic.Or a b = bitwise_or a b
arithmetic_of arithmetic.Xor a b = bitwise_xor a b
arithmetic_of arithmetic.Xnor a b = bitwise_xnor a b

-- A shift or a power; the right operand stands alone. (5.1.5 and 5.1.12)
abbrev pub shift_of : Shift → Vector → Vector → Vector
shift_of shift.Left a b = shifted_left a b
shift_of shift.Right a b = shifted_right a b
shift_of shift.SignedLeft a b = shifted_left a b
shift_of shift.SignedRight a b = shifted_right_signed a b
shift_of shift.Power a b = power_of a b

-- Two values of one width and sign compared. (5.1.7 and 5.1.8)
abbrev pub comparison_of : Comparison → Vector → Vector → Digit
comparison_of comparison.Less a b = ordering a b
comparison_of comparison.LessOrEqual a b = digit_not (ordering b a)
comparison_of comparison.Greater a b = ordering b a
comparison_of comparison.GreaterOrEqual a b = digit_not (ordering a b)
comparison_of comparison.Equal a b = equality a b
comparison_of comparison.NotEqual a b = digit_not (equality a b)
comparison_of comparison.CaseEqual a b = case_equality a b
comparison_of comparison.CaseNotEqual a b = digit_not (case_equality a b)

-- `&&` and `||` of what is true, false or unknown. (5.1.9)
abbrev pub logic_of : Logic → Digit → Digit → Digit
logic_of logic.And a b = digit_and a b
logic_of logic.Or a b = digit_or a b

-- `?:` by what its condition is. (5.1.13)
abbrev pub choice_of : Digit → Vector → Vector → Vector
choice_of Zero a b = b
choice_of One a b = a
choice_of X a b = merged a b
choice_of Z a b = merged a b

-- The digits of a value so many times. (5.1.14)
unfoldable pub times : ℕ → List Digit → List Digit
times zero ds = []
times (suc n) ds = ds ++ times n ds

-- `$time`: the time over the unit, a half rounded up, in 64 digits. (17.7.1)
abbrev pub time_in : ℕ → ℕ → ℕ → Vector
time_in time unit precision =
    let ratio = 10 ^ (unit - precision) in
    record { digits = binary 64 ((2 * time + ratio) / (2 * ratio)); signed = false }
