-- What the code keeps of digits and numbers that it reads (own).
use Rattle.std.specs.Prelude.{ℕ, ◌-◌, ◌/◌, ◌%◌, ◌^◌, ◌==◌, ◌≤◌, nat_lt, nat_le, Bool, false, ◌&&◌, ◌||◌, List, ◌++◌, take, length, Option, IfSome}
use Rattle.vh_logic.specs.declared.digits.Digit.{Digit}
use Rattle.vh_logic.specs.Vector.{Vector}
use Rattle.vh_logic.specs.declared.vector.TheConstants.{MAX_WIDTH}
use Rattle.vh_text.specs.declared.pattern.Pattern.{Pattern}
use Rattle.vh_text.specs.declared.number.Number.{Number}
use Rattle.vh_text.specs.declared.literal.Size.{Size}
use Rattle.vh_text.specs.declared.literal.Size.TheVariants.{Absent, Given, Beyond}
use Rattle.vh_text.specs.Digits.{is_held}

-- An unsigned vector of these digits
abbrev pub digits_alone : List Digit → Vector
digits_alone ds = record { digits = ds; signed = false }

-- The lowest digits, as many as a vector has at most, and whether filling gives the others back
abbrev pub pattern_of : List Digit → Pattern
pattern_of ds = record { value = digits_alone (take MAX_WIDTH ds); is_held = is_held MAX_WIDTH ds }

-- A pattern with digits below
abbrev pub pattern_pushed : Pattern → List Digit → Pattern
pattern_pushed p g =
    record {
      value = digits_alone (g ++ take (MAX_WIDTH - length g) p.value.digits);
      is_held = p.is_held && is_held (MAX_WIDTH - length g) p.value.digits;
    }

-- Whether filling gives the digits of a pattern back from their `w` lowest
abbrev pub pattern_held : Pattern → ℕ → Bool
pattern_held p w = p.is_held && is_held w p.value.digits

-- What a vector's greatest width holds of a number, and whether that is all
abbrev pub number_kept : ℕ → Number
number_kept n = record { low = n % 2 ^ MAX_WIDTH; fits = nat_lt n (2 ^ MAX_WIDTH) }

-- Whether `w` digits hold a number of which this is kept
abbrev pub number_held : Number → ℕ → Bool
number_held m w = m.fits && (nat_le MAX_WIDTH w || m.low / 2 ^ w == 0)

-- A width is one of a vector
abbrev pub IsWidth : ℕ → Type 0
IsWidth w = (1 ≤ w) × (w ≤ MAX_WIDTH)

-- The same of a width that there may be
abbrev pub IsWidthIfSome : Option ℕ → Type 0
IsWidthIfSome w = IfSome w IsWidth

-- The same of a size that is given
abbrev pub HasWidth : Size → Type 0
HasWidth Absent = Unit {0}
HasWidth (Given w) = IsWidth w
HasWidth Beyond = Unit {0}
