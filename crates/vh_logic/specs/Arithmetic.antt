-- The operators on integers. An x or z digit in an operand, or a result that is not defined, makes all digits x.
use Rattle.std.specs.Prelude.{ℕ, zero, suc, ℤ, pos, negsuc, neg_ℤ, ◌+ℤ◌, ◌-ℤ◌, ◌*ℤ◌, int_div, int_rem, Option, Some, None}
use Rattle.std.specs.Int.{int_pow}
use Rattle.vh_logic.specs.Vector.{Vector, width_of}
use Rattle.vh_logic.specs.Number.{integer_of, vector_of}

-- An operator on two integers, where both are known (IEEE 1364-2005, 5.1.5)
abbrev pub on_both : (ℤ → ℤ → Option ℤ) → Option ℤ → Option ℤ → Option ℤ
on_both f None y = None
on_both f (Some x) None = None
on_both f (Some x) (Some y) = f x y

-- An operator on two vectors, with the width and the sign mark of the first (5.1.5, 5.4.1)
abbrev pub arithmetic : (ℤ → ℤ → Option ℤ) → Vector → Vector → Vector
arithmetic f a b = vector_of (width_of a) a.signed (on_both f (integer_of a) (integer_of b))

-- `x / y` toward zero, not defined for a zero divisor (5.1.5)
abbrev pub quotient : ℤ → ℤ → Option ℤ
quotient x (pos zero) = None
quotient x (pos (suc n)) = Some (int_div x (pos (suc n)))
quotient x (negsuc n) = Some (int_div x (negsuc n))

-- `x % y`, with the sign of x, not defined for a zero divisor (5.1.5)
abbrev pub remainder : ℤ → ℤ → Option ℤ
remainder x (pos zero) = None
remainder x (pos (suc n)) = Some (int_rem x (pos (suc n)))
remainder x (negsuc n) = Some (int_rem x (negsuc n))

-- The power of x by a negative exponent: not defined for 0, of 1 and -1 the power of the exponent's size, of others 0 (5.1.5)
abbrev pub reciprocal_power : ℤ → ℕ → Option ℤ
reciprocal_power (pos zero) n = None
reciprocal_power (pos (suc zero)) n = Some (pos 1)
reciprocal_power (pos (suc (suc k))) n = Some (pos 0)
reciprocal_power (negsuc zero) n = Some (int_pow (negsuc zero) n)
reciprocal_power (negsuc (suc k)) n = Some (pos 0)

-- `x ** y` (5.1.5)
abbrev pub power : ℤ → ℤ → Option ℤ
power x (pos n) = Some (int_pow x n)
power x (negsuc n) = reciprocal_power x (suc n)

-- `a + b` (5.1.5)
abbrev pub sum_of : Vector → Vector → Vector
sum_of a b = arithmetic (λ x y. Some (x +ℤ y)) a b

-- `a - b` (5.1.5)
abbrev pub difference_of : Vector → Vector → Vector
difference_of a b = arithmetic (λ x y. Some (x -ℤ y)) a b

-- `a * b` (5.1.5)
abbrev pub product_of : Vector → Vector → Vector
product_of a b = arithmetic (λ x y. Some (x *ℤ y)) a b

-- `a / b` (5.1.5)
abbrev pub quotient_of : Vector → Vector → Vector
quotient_of a b = arithmetic quotient a b

-- `a % b` (5.1.5)
abbrev pub remainder_of : Vector → Vector → Vector
remainder_of a b = arithmetic remainder a b

-- `a ** b` (5.1.5)
abbrev pub power_of : Vector → Vector → Vector
power_of a b = arithmetic power a b

-- The integer with its sign changed, where it is known (5.1.5)
abbrev pub negated : Option ℤ → Option ℤ
negated None = None
negated (Some z) = Some (neg_ℤ z)

-- `-a` (5.1.5)
abbrev pub negative_of : Vector → Vector
negative_of a = vector_of (width_of a) a.signed (negated (integer_of a))
