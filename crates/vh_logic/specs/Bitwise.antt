-- The operators that work digit by digit (IEEE 1364-2005, 5.1.10).
use Rattle.vh_logic.specs.Vector.{Vector, map_digits, zip_digits}
use Rattle.vh_logic.specs.Digit.{digit_not, digit_and, digit_or, digit_xor, digit_xnor, digit_merge}

-- `~a` (5.1.10)
abbrev pub bitwise_not : Vector → Vector
bitwise_not a = record { digits = map_digits digit_not a.digits; signed = a.signed }

-- `a & b` (5.1.10)
abbrev pub bitwise_and : Vector → Vector → Vector
bitwise_and a b = record { digits = zip_digits digit_and a.digits b.digits; signed = a.signed }

-- `a | b` (5.1.10)
abbrev pub bitwise_or : Vector → Vector → Vector
bitwise_or a b = record { digits = zip_digits digit_or a.digits b.digits; signed = a.signed }

-- `a ^ b` (5.1.10)
abbrev pub bitwise_xor : Vector → Vector → Vector
bitwise_xor a b = record { digits = zip_digits digit_xor a.digits b.digits; signed = a.signed }

-- `a ^~ b` (5.1.10)
abbrev pub bitwise_xnor : Vector → Vector → Vector
bitwise_xnor a b = record { digits = zip_digits digit_xnor a.digits b.digits; signed = a.signed }

-- `c ? a : b` where c is neither true nor false (5.1.13)
abbrev pub merged : Vector → Vector → Vector
merged a b = record { digits = zip_digits digit_merge a.digits b.digits; signed = a.signed }
