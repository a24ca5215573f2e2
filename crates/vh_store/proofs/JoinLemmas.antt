-- A vector that is made of two vectors' planes, by the table of what is done to the four bits at a position.
use Rattle.std.proofs.Common.{◌≡◌, ℕ, ◌+◌, ◌*◌, ◌/◌, ◌%◌, ◌<◌, List, [], ◌∷◌, Bool, true, length, refl, ap, arith}
use Rattle.std.specs.Int.{bit_at}
use Rattle.vh_logic.specs.declared.digits.Digit.{Digit}
use Rattle.vh_logic.specs.declared.digits.Digit.TheVariants.{Zero, One, X, Z}
use Rattle.vh_logic.specs.Vector.{Vector, width_of, zip_digits}
use Rattle.vh_logic.specs.Planes.{digit_of, digits_of, plane_of, aval_bit, bval_bit}
use Rattle.vh_logic.proofs.PlanesLemmas.{Vector-of, digit_at}
use Rattle.vh_logic.proofs.BitwiseLemmas.{zip_by_table}
use Rattle.vh_logic.proofs.Tables.{same_4}

even_rest : (m : ℕ) → (0 + 2 * m) % 2 ≡ 0
even_rest m = omega arith

odd_rest : (m : ℕ) → (1 + 2 * m) % 2 ≡ 1
odd_rest m = omega arith

even_half : (m : ℕ) → (0 + 2 * m) / 2 ≡ m
even_half m = omega arith

odd_half : (m : ℕ) → (1 + 2 * m) / 2 ≡ m
odd_half m = omega arith

-- The planes of some digits give the digits back.
pub planes_back : (ds : List Digit) → digits_of (length ds) (plane_of aval_bit ds) (plane_of bval_bit ds) ≡ ds
unfolding digits_of plane_of
planes_back [] = refl
planes_back (Zero ∷ ds) =
    let m = plane_of aval_bit ds in let n = plane_of bval_bit ds in
    rw (even_rest m, even_rest n, even_half m, even_half n) (ap (λ (es : List Digit). Zero ∷ es) (planes_back ds))
planes_back (One ∷ ds) =
    let m = plane_of aval_bit ds in let n = plane_of bval_bit ds in
    rw (odd_rest m, even_rest n, odd_half m, even_half n) (ap (λ (es : List Digit). One ∷ es) (planes_back ds))
planes_back (X ∷ ds) =
    let m = plane_of aval_bit ds in let n = plane_of bval_bit ds in
    rw (odd_rest m, odd_rest n, odd_half m, odd_half n) (ap (λ (es : List Digit). X ∷ es) (planes_back ds))
planes_back (Z ∷ ds) =
    let m = plane_of aval_bit ds in let n = plane_of bval_bit ds in
    rw (even_rest m, odd_rest n, even_half m, odd_half n) (ap (λ (es : List Digit). Z ∷ es) (planes_back ds))

abbrev of_parts : List Digit → Bool → Vector
of_parts ds s = record { digits = ds; signed = s }

pub join_by_table : (f : Digit → Digit → Digit) (table : ℕ → ℕ → ℕ → ℕ → Digit)
    → same_4 (λ p q r s. f (digit_of p q) (digit_of r s)) table ≡ true
    → (x y : Vector) (p q r s m n w : ℕ) (g : Bool)
    → p ≡ plane_of aval_bit x.digits → q ≡ plane_of bval_bit x.digits → r ≡ plane_of aval_bit y.digits → s ≡ plane_of bval_bit y.digits
    → w ≡ width_of x → g ≡ x.signed → width_of x ≡ width_of y
    → ((i : ℕ) → i < w → table (bit_at p i) (bit_at q i) (bit_at r i) (bit_at s i) ≡ digit_at m n i)
    → Vector-of w m n g ≡ record { digits = zip_digits f x.digits y.digits; signed = x.signed }
join_by_table f table rows x y p q r s m n w g ep eq er es ew eg len h =
    let left : Vector-of w p q g ≡ x = rw (ep, eq, ew, eg) (ap (λ (ds : List Digit). of_parts ds x.signed) (planes_back x.digits)) in
    let right : Vector-of (width_of y) r s y.signed ≡ y = rw (er, es) (ap (λ (ds : List Digit). of_parts ds y.signed) (planes_back y.digits)) in
    zip_by_table f table rows w p q (width_of y) r s m n g y.signed x y left right len h
