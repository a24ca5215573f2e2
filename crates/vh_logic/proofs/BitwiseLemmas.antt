-- What the operators between two vectors, digit by digit, owe their definitions.
use Rattle.std.proofs.Common.{◌≡◌, ℕ, ◌^◌, ◌<◌, ◌∙◌, Bool, true}
use Rattle.std.specs.Int.{bit_at}
use Rattle.std.proofs.lemmas.Nat.Bits.{bit_at-lt}
use Rattle.vh_logic.specs.declared.digits.Digit.{Digit}
use Rattle.vh_logic.specs.Vector.{Vector, width_of, zip_digits}
use Rattle.vh_logic.specs.Planes.{digit_of}
use Rattle.vh_logic.proofs.PlanesLemmas.{Vector-of, digit_at, zip_digits-vectors}
use Rattle.vh_logic.proofs.ArithmeticLemmas.{widths-planes}
use Rattle.vh_logic.proofs.Tables.{same_4, by_4}

-- The planes of the second vector are within the width of the first
pub second-below : (w a b v c d : ℕ) (s t : Bool) (x y : Vector) → Vector-of w a b s ≡ x → Vector-of v c d t ≡ y
    → width_of x ≡ width_of y → c < 2 ^ v → d < 2 ^ v → (c < 2 ^ w) × (d < 2 ^ w)
second-below w a b v c d s t x y e g l h k = rw (← widths-planes w a b v c d s t x y e g l) (h, k)

-- An operator on digits is the table of what the code's words make of the four bits at a position, if all sixteen rows agree
pub zip_by_table : (f : Digit → Digit → Digit) (table : ℕ → ℕ → ℕ → ℕ → Digit)
    → same_4 (λ p q r u. f (digit_of p q) (digit_of r u)) table ≡ true
    → (w a b v c d m n : ℕ) (s t : Bool) (x y : Vector)
    → Vector-of w a b s ≡ x → Vector-of v c d t ≡ y → width_of x ≡ width_of y
    → ((i : ℕ) → i < w → table (bit_at a i) (bit_at b i) (bit_at c i) (bit_at d i) ≡ digit_at m n i)
    → Vector-of w m n s ≡ record { digits = zip_digits f x.digits y.digits; signed = x.signed }
zip_by_table f table rows w a b v c d m n s t x y e g l h =
    zip_digits-vectors f w a b v c d m n s t x y e g l
    (λ i within. by_4 (λ p q r u. f (digit_of p q) (digit_of r u)) table rows _ _ _ _ (bit_at-lt a i) (bit_at-lt b i) (bit_at-lt c i) (bit_at-lt d i) ∙ h i within)
