-- How the digits of a vector follow from its two planes, over any width.
use Rattle.std.proofs.Common.{◌≡◌, ℕ, zero, suc, ◌-◌, ◌/◌, ◌%◌, ◌^◌, ◌<◌, min, List, [], ◌∷◌, length, get_or, replicate, refl, ap, arith, ◌∙◌, sym, Bool, Some}
use Rattle.std.specs.Prelude.{bit_and}
use Rattle.std.specs.Int.{bit_at}
use Rattle.std.specs.List.{slice_get}
use Rattle.std.proofs.lemmas.List.{length-replicate, get_or-replicate}
use Rattle.std.proofs.lemmas.Nat.{or_lt, xor_lt, and_le_l, pow_pos}
use Rattle.std.proofs.lemmas.Nat.Bits.{bit_at_lowest, bit_at-suc, bit_at-lt, bit_at_and, bit_at_ones, bit_at-zero, shr_and_one}
use Rattle.vh_logic.specs.declared.digits.Digit.{Digit}
use Rattle.vh_logic.specs.declared.digits.Digit.TheVariants.{Zero, One, X, Z}
use Rattle.vh_logic.specs.Vector.{Vector, map_digits, zip_digits}
use Rattle.vh_logic.specs.Planes.{digit_of, digits_of}
use Rattle.vh_logic.specs.PlanesBack.{length-digits_of}

-- A bit is 1 at most
min_one : (a i : ℕ) → min (bit_at a i) 1 ≡ bit_at a i
min_one a i = omega (arith, bit_at-lt a i)

-- Digit `i` of two planes
abbrev pub digit_at : ℕ → ℕ → ℕ → Digit
digit_at a b i = digit_of (bit_at a i) (bit_at b i)

pub digit_at-zero : (a b : ℕ) → digit_at a b 0 ≡ digit_of (a % 2) (b % 2)
digit_at-zero a b = rw (bit_at_lowest a, bit_at_lowest b) refl

pub digit_at-suc : (a b i : ℕ) → digit_at a b (suc i) ≡ digit_at (a / 2) (b / 2) i
digit_at-suc a b i = rw (bit_at-suc a i, bit_at-suc b i) refl

-- What holds digit by digit holds of the lists
pub zip_digits-digits_of : (f : Digit → Digit → Digit) (w a b c d m n : ℕ)
    → ((i : ℕ) → i < w → f (digit_at a b i) (digit_at c d i) ≡ digit_at m n i)
    → zip_digits f (digits_of w a b) (digits_of w c d) ≡ digits_of w m n
unfolding zip_digits digits_of
zip_digits-digits_of f zero a b c d m n h = refl
zip_digits-digits_of f (suc w) a b c d m n h =
    let first = h 0 (omega arith) in
    let rest = zip_digits-digits_of f w (a / 2) (b / 2) (c / 2) (d / 2) (m / 2) (n / 2)
    (λ i below. rw (digit_at-suc a b i, digit_at-suc c d i, digit_at-suc m n i) at (h (suc i) (omega arith))) in
    let first' = rw (digit_at-zero a b, digit_at-zero c d, digit_at-zero m n) at first in
    cc

-- Two vectors of one width
pub same_width : (w a b v c d : ℕ) (xs ys : List Digit) → digits_of w a b ≡ xs → digits_of v c d ≡ ys → length xs ≡ length ys → v ≡ w
same_width w a b v c d xs ys e f g =
    sym (length-digits_of v c d) ∙ ap length f ∙ sym g ∙ sym (ap length e) ∙ length-digits_of w a b

-- A vector of these digits
abbrev pub digits_with : List Digit → Bool → Vector
digits_with ds s = record { digits = ds; signed = s }

-- What contracts see of two planes
abbrev pub Vector-of : ℕ → ℕ → ℕ → Bool → Vector
Vector-of w a b s = record { digits = digits_of w a b; signed = s }

-- A vector whose digits are made from those of two vectors
pub zip_digits-vectors : (f : Digit → Digit → Digit) (w a b v c d m n : ℕ) (s t : Bool) (x y : Vector)
    → Vector-of w a b s ≡ x → Vector-of v c d t ≡ y → length x.digits ≡ length y.digits
    → ((i : ℕ) → i < w → f (digit_at a b i) (digit_at c d i) ≡ digit_at m n i)
    → Vector-of w m n s ≡ record { digits = zip_digits f x.digits y.digits; signed = x.signed }
zip_digits-vectors f w a b v c d m n s t x y e g l h =
    let same = same_width w a b v c d x.digits y.digits (ap (λ (z : Vector). z.digits) e) (ap (λ (z : Vector). z.digits) g) l in
    let all : zip_digits f (digits_of w a b) (digits_of v c d) ≡ digits_of w m n = rw same (zip_digits-digits_of f w a b c d m n h) in
    rw (← e, ← g) (ap (λ ds. record { digits = ds; signed = s }) (sym all))

pub and_below : (k a b : ℕ) → a < 2 ^ k → bit_and a b < 2 ^ k
and_below k a b h = omega (arith, and_le_l a b)

pub ones_below : (k : ℕ) → 2 ^ k - 1 < 2 ^ k
ones_below k = omega (arith, pow_pos k)

pub ruleset bounds = (and_below, or_lt, xor_lt, ones_below)

pub map_digits-digits_of : (f : Digit → Digit) (w a b m n : ℕ)
    → ((i : ℕ) → i < w → f (digit_at a b i) ≡ digit_at m n i)
    → map_digits f (digits_of w a b) ≡ digits_of w m n
unfolding map_digits digits_of
map_digits-digits_of f zero a b m n h = refl
map_digits-digits_of f (suc w) a b m n h =
    let first = h 0 (omega arith) in
    let rest = map_digits-digits_of f w (a / 2) (b / 2) (m / 2) (n / 2)
    (λ i below. rw (digit_at-suc a b i, digit_at-suc m n i) at (h (suc i) (omega arith))) in
    let first' = rw (digit_at-zero a b, digit_at-zero m n) at first in
    cc

-- A vector whose digits are made from those of another
pub map_digits-vector : (f : Digit → Digit) (w a b m n : ℕ) (s : Bool) (x : Vector)
    → Vector-of w a b s ≡ x → ((i : ℕ) → i < w → f (digit_at a b i) ≡ digit_at m n i)
    → Vector-of w m n s ≡ record { digits = map_digits f x.digits; signed = x.signed }
map_digits-vector f w a b m n s x e h =
    rw (← e) (ap (λ ds. record { digits = ds; signed = s }) (sym (map_digits-digits_of f w a b m n h)))

-- A list is the digits of two planes if each of its positions is
pub digits_of-positions : (w m n : ℕ) (xs : List Digit) (d : Digit) → length xs ≡ w
    → ((i : ℕ) → i < w → get_or xs i d ≡ digit_at m n i) → digits_of w m n ≡ xs
unfolding digits_of
digits_of-positions zero m n [] d l h = refl
digits_of-positions zero m n (x ∷ xs) d l h = absurd (omega arith)
digits_of-positions (suc w) m n [] d l h = absurd (omega arith)
digits_of-positions (suc w) m n (x ∷ xs) d l h =
    let first = h 0 (omega arith) in
    let rest = digits_of-positions w (m / 2) (n / 2) xs d (omega arith)
    (λ i below. rw (digit_at-suc m n i) at (h (suc i) (omega arith))) in
    let first' = rw (digit_at-zero m n) at first in
    cc

pub get_or-digits_of : (w a b i : ℕ) (d : Digit) → i < w → get_or (digits_of w a b) i d ≡ digit_at a b i
unfolding digits_of
get_or-digits_of zero a b i d h = absurd (omega arith)
get_or-digits_of (suc w) a b zero d h = sym (digit_at-zero a b)
get_or-digits_of (suc w) a b (suc i) d h = get_or-digits_of w (a / 2) (b / 2) i d (omega arith) ∙ sym (digit_at-suc a b i)

pub slice_get-digits_of : (w a b i : ℕ) → i < w → slice_get (digits_of w a b) i ≡ Some (digit_at a b i)
unfolding digits_of
slice_get-digits_of zero a b i h = absurd (omega arith)
slice_get-digits_of (suc w) a b zero h = ap Some (sym (digit_at-zero a b))
slice_get-digits_of (suc w) a b (suc i) h = slice_get-digits_of w (a / 2) (b / 2) i (omega arith) ∙ ap Some (sym (digit_at-suc a b i))

-- What the code reads of a bit
pub bit_set : (a i : ℕ) → bit_and (a / 2 ^ i) 1 ≡ 1 → bit_at a i ≡ 1
bit_set a i h = sym (shr_and_one a i) ∙ h

pub bit_clear : (a i : ℕ) → (bit_and (a / 2 ^ i) 1 ≡ 1 → ⊥) → bit_at a i ≡ 0
bit_clear a i h = let n : bit_at a i ≡ 1 → ⊥ = λ e. h (shr_and_one a i ∙ e) in omega (arith, bit_at-lt a i)

-- Bits above the width do not count
pub digits_of-same : (w a b c d : ℕ) → ((i : ℕ) → i < w → digit_at a b i ≡ digit_at c d i) → digits_of w a b ≡ digits_of w c d
digits_of-same w a b c d h =
    digits_of-positions w a b (digits_of w c d) Zero (length-digits_of w c d)
    (λ i below. get_or-digits_of w c d i Zero below ∙ sym (h i below))

pub digits_of-mask : (w a b : ℕ) → digits_of w (bit_and a (2 ^ w - 1)) (bit_and b (2 ^ w - 1)) ≡ digits_of w a b
digits_of-mask w a b =
    digits_of-same w _ _ _ _ (λ i below. simp (bit_at_and, bit_at_ones) (rw (min_one a i, min_one b i) refl))

-- The same digit at each position
pub digits_of-filled : (w m n : ℕ) (d : Digit) → ((i : ℕ) → i < w → digit_at m n i ≡ d) → digits_of w m n ≡ replicate w d
digits_of-filled w m n d h =
    digits_of-positions w m n (replicate w d) d (length-replicate w d) (λ i below. get_or-replicate w i d d below ∙ sym (h i below))

pub digits_of-zeros : (w : ℕ) → digits_of w 0 0 ≡ replicate w Zero
digits_of-zeros w = digits_of-filled w 0 0 Zero (λ i below. rw bit_at-zero refl)

pub digits_of-ones : (w : ℕ) → digits_of w (2 ^ w - 1) 0 ≡ replicate w One
digits_of-ones w = digits_of-filled w _ 0 One (λ i below. rw (bit_at-zero, bit_at_ones) refl)

pub digits_of-xs : (w : ℕ) → digits_of w (2 ^ w - 1) (2 ^ w - 1) ≡ replicate w X
digits_of-xs w = digits_of-filled w _ _ X (λ i below. rw bit_at_ones refl)

pub digits_of-zs : (w : ℕ) → digits_of w 0 (2 ^ w - 1) ≡ replicate w Z
digits_of-zs w = digits_of-filled w 0 _ Z (λ i below. rw (bit_at-zero, bit_at_ones) refl)
