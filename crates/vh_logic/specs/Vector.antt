-- What contracts see of a vector, and how an operator goes through its positions.
use Rattle.std.specs.Prelude.{ℕ, ◌-◌, Bool, true, ◌&&◌, List, [], ◌∷◌, length, replicate, slice_index_or}
use Rattle.vh_logic.specs.declared.digits.Digit.{Digit}
use Rattle.vh_logic.specs.declared.digits.Digit.TheVariants.{Zero}

-- The digits, lowest first, and whether the vector is signed (IEEE 1364-2005, 4.3)
pub record Vector : Type 0 where
  pub digits : List Digit
  pub signed : Bool

-- How many digits a vector has (4.3)
abbrev pub width_of : Vector → ℕ
width_of v = length v.digits

-- The same digit at each of `w` positions (own)
abbrev pub filled : ℕ → Digit → Bool → Vector
filled w d s = record { digits = replicate w d; signed = s }

-- The highest digit, which is the sign of a signed vector (5.5.2)
abbrev pub highest : List Digit → Digit
highest ds = slice_index_or ds (length ds - 1) Zero

-- An operator on digits at each position of a vector
unfoldable pub map_digits : (Digit → Digit) → List Digit → List Digit
map_digits f [] = []
map_digits f (x ∷ xs) = f x ∷ map_digits f xs

-- An operator on digits at each position of two vectors
unfoldable pub zip_digits : (Digit → Digit → Digit) → List Digit → List Digit → List Digit
zip_digits f [] ys = []
zip_digits f (x ∷ xs) [] = []
zip_digits f (x ∷ xs) (y ∷ ys) = f x y ∷ zip_digits f xs ys

-- A test of digits passes at each position of two vectors
unfoldable pub all_positions : (Digit → Digit → Bool) → List Digit → List Digit → Bool
all_positions f [] ys = true
all_positions f (x ∷ xs) [] = true
all_positions f (x ∷ xs) (y ∷ ys) = f x y && all_positions f xs ys
