-- What an assignment makes of each digit of its object. (IEEE 1364-2005, 5.2.1 and 9.2)
use Rattle.std.specs.Prelude.{ℕ, ◌+◌, ◌-◌, ℤ, pos, negsuc, nat_lt, if◌then◌else◌, Option, Some, None, slice_index_or}
use Rattle.vh_logic.specs.declared.digits.Digit.{Digit}
use Rattle.vh_logic.specs.declared.digits.Digit.TheVariants.{X}
use Rattle.vh_logic.specs.Vector.{Vector, width_of}
use Rattle.vh_proc_assign.specs.declared.piece.Piece.{Piece}
use Rattle.vh_proc_assign.specs.Assigned.{with_digits}

-- An object that takes a piece, or none.
abbrev pub taken : Option Piece → Vector → Vector
taken None old = old
taken (Some p) old = with_digits old p.low p.value

-- The digit of that number, or what the object had.
abbrev pub digit_or : Vector → ℕ → Digit → Digit
digit_or v k had = if nat_lt k (width_of v) then slice_index_or v.digits k X else had

-- The digit that an object has at a position behind an assignment to it from a position on: the one of those assigned that lies as far
-- above their lowest, where there is one, else what it had. Those that begin below the object's lowest digit fall away up to there.
abbrev pub digit_behind : Vector → Digit → ℤ → ℕ → Digit
digit_behind v had (pos position) i = if nat_lt i position then had else digit_or v (i - position) had
digit_behind v had (negsuc n) i = digit_or v (i + (n + 1)) had
