-- Selects: which digits of a value an index names. (IEEE 1364-2005, 4.9 and 5.2)
use Rattle.std.specs.Prelude.{ℕ, ◌-◌, List, ◌++◌, take, drop, replicate, Bool, false, if◌then◌else◌, nat_le, nat_lt, ◌^◌, ℤ, pos, negsuc, ◌+ℤ◌, ◌-ℤ◌, int_lt, unsigned_abs, Option, Some, None}
use Rattle.vh_logic.specs.declared.digits.Digit.{Digit}
use Rattle.vh_logic.specs.declared.digits.Digit.TheVariants.{X}
use Rattle.vh_logic.specs.Vector.{Vector}
use Rattle.vh_design_nodes.specs.declared.expr.Range.{Range}

-- So many digits from a position of a value on, and from so many positions below its lowest: x at each that it hasn't.
abbrev pub digits_above : List Digit → ℕ → ℕ → List Digit
digits_above ds position width = take width (drop position ds ++ replicate width X)

abbrev pub digits_below : List Digit → ℕ → ℕ → List Digit
digits_below ds distance width = take width (replicate distance X ++ (ds ++ replicate width X))

-- So many digits from a position on, of which 0 is the lowest.
abbrev pub digits_from : List Digit → ℤ → ℕ → List Digit
digits_from ds position width =
    if int_lt position (pos 0) then digits_below ds (unsigned_abs position) width
    else digits_above ds (unsigned_abs position) width

-- The position of an index in a vector that was declared `[left:right]`.
abbrev pub position_of : Range → ℤ → ℤ
position_of r index = if nat_le r.right r.left then index -ℤ pos r.right else pos r.right -ℤ index

-- The index of the lowest digit of so many, from an index on upwards or downwards.
abbrev pub lowest_index : Range → Bool → ℤ → ℕ → ℤ
lowest_index r up index width =
    if nat_le r.right r.left then (if up then index else index -ℤ pos (width - 1))
    else (if up then index +ℤ pos (width - 1) else index)

-- The digits that an index selects; where the index isn't known, all are x.
abbrev pub selected : List Digit → Range → Bool → Option ℤ → ℕ → Vector
selected ds r up None width = record { digits = replicate width X; signed = false }
selected ds r up (Some index) width =
    record { digits = digits_from ds (position_of r (lowest_index r up index width)) width; signed = false }

-- The address that an index names, where it is known: from 0, and below 2^32. (own)
abbrev pub address_of : Option ℤ → Option ℕ
address_of None = None
address_of (Some (pos n)) = if nat_lt n (2 ^ 32) then Some n else None
address_of (Some (negsuc n)) = None
