-- Shifts and parts: where a position of the result comes from, in the lists of digits and in the planes.
use Rattle.std.proofs.Common.{◌≡◌, ℕ, ◌+◌, ◌-◌, ◌*◌, ◌/◌, ◌%◌, ◌^◌, ◌<◌, ◌≤◌, min, List, ◌++◌, length, get_or, take, drop, replicate, refl, ap, arith, ◌∙◌, sym, Bool, false, Some, None, inl, inr, length-append, length-drop, eqb}
use Rattle.std.specs.Prelude.{bit_and, bit_or, bit_xor}
use Rattle.std.specs.Int.{bit_at}
use Rattle.std.proofs.lemmas.List.{length-replicate, get_or-replicate, length-take, get_or-take, get_or-drop, get_or_append_left, get_or-append_right}
use Rattle.std.proofs.lemmas.Nat.{and_mask, shr-shr, shr_below, shr_le, shl_below, shl_whole, or_shifted, or_lt, xor_lt, pow_pos, pow-add}
use Rattle.std.proofs.Math.Pow.{pow_mono}
use Rattle.std.proofs.Math.Nat.{mul-le-mul_right}
use Rattle.std.proofs.lemmas.Nat.Bits.{bit_at-lt, bit_at_and, bit_at_or, bit_at_xor, bit_at_ones, bit_at_ones_above, bit_at-zero, bit_at_above, bit_at_cat_low, bit_at_cat_high}
use Rattle.std.proofs.lemmas.Bool.{cases_lt, cond-false, ne_eqb}
use Rattle.vh_logic.specs.declared.digits.Digit.{Digit}
use Rattle.vh_logic.specs.declared.digits.Digit.TheVariants.{Zero}
use Rattle.vh_logic.specs.Vector.{Vector, width_of, highest}
use Rattle.vh_logic.specs.Number.{known_number, binary}
use Rattle.vh_logic.specs.Shift.{moved_up, moved_down, shifted_right, shifted_right_signed}
use Rattle.vh_logic.specs.Planes.{digits_of}
use Rattle.vh_logic.specs.PlanesBack.{length-digits_of}
use Rattle.vh_logic.proofs.PlanesLemmas.{digit_at, digits_of-positions, get_or-digits_of, Vector-of, digits_with, ones_below}
use Rattle.vh_logic.proofs.NumberLemmas.{known_number-planes, digits_of-binary}
use Rattle.vh_logic.proofs.ArithmeticLemmas.{width-planes}

-- ---- bits of shifted planes
bit_at-shr : (a n i : ℕ) → bit_at (a / 2 ^ n) i ≡ bit_at a (n + i)
bit_at-shr a n i = ap (λ m. m % 2) (shr-shr a n i)

bit_at-mod : (a p i : ℕ) → i < p → bit_at (a % 2 ^ p) i ≡ bit_at a i
bit_at-mod a p i h = rw (← and_mask a p, bit_at_and, bit_at_ones p i h) (omega (arith, bit_at-lt a i))

bit_at-shl_low : (a n i : ℕ) → i < n → bit_at (a * 2 ^ n) i ≡ 0
bit_at-shl_low a n i h =
    let e : a * 2 ^ n + 0 ≡ a * 2 ^ n = omega arith in ap (λ m. bit_at m i) (sym e) ∙ bit_at_cat_low a n 0 i h ∙ bit_at-zero i

bit_at-shl_high : (a n i : ℕ) → n ≤ i → bit_at (a * 2 ^ n) i ≡ bit_at a (i - n)
bit_at-shl_high a n i h =
    let e : a * 2 ^ n + 0 ≡ a * 2 ^ n = omega arith in ap (λ m. bit_at m i) (sym e) ∙ bit_at_cat_high a n 0 i (pow_pos n) h

-- ---- positions of moved digits
get_or-moved_up_low : (ds : List Digit) (n i : ℕ) (d : Digit) → i < length ds → i < n → get_or (moved_up ds n) i d ≡ Zero
get_or-moved_up_low ds n i d h k =
    get_or-take (length ds) (replicate n Zero ++ ds) i d h
    ∙ get_or_append_left (replicate n Zero) ds d i (rw length-replicate k) ∙ get_or-replicate n i Zero d k

get_or-moved_up_high : (ds : List Digit) (n i : ℕ) (d : Digit) → i < length ds → n ≤ i → get_or (moved_up ds n) i d ≡ get_or ds (i - n) d
get_or-moved_up_high ds n i d h k =
    get_or-take (length ds) (replicate n Zero ++ ds) i d h
    ∙ get_or-append_right (replicate n Zero) ds n i d (length-replicate n Zero) k

length-moved_up : (ds : List Digit) (n : ℕ) → length (moved_up ds n) ≡ length ds
length-moved_up ds n = length-take (length ds) (replicate n Zero ++ ds) ∙ omega (arith, length-append (replicate n Zero) ds)

get_or-moved_down_low : (fill : Digit) (ds : List Digit) (n i : ℕ) (d : Digit) → i < length ds → n + i < length ds
    → get_or (moved_down fill ds n) i d ≡ get_or ds (n + i) d
get_or-moved_down_low fill ds n i d h k =
    get_or-take (length ds) (drop n ds ++ replicate (length ds) fill) i d h
    ∙ get_or_append_left (drop n ds) (replicate (length ds) fill) d i (omega (arith, length-drop n ds))
    ∙ get_or-drop n ds i d

get_or-moved_down_high : (fill : Digit) (ds : List Digit) (n i : ℕ) (d : Digit) → i < length ds → length ds ≤ n + i
    → get_or (moved_down fill ds n) i d ≡ fill
get_or-moved_down_high fill ds n i d h k =
    get_or-take (length ds) (drop n ds ++ replicate (length ds) fill) i d h
    ∙ get_or-append_right (drop n ds) (replicate (length ds) fill) (length ds - n) i d (length-drop n ds) (omega arith)
    ∙ get_or-replicate (length ds) (i - (length ds - n)) fill d (omega arith)

length-moved_down : (fill : Digit) (ds : List Digit) (n : ℕ) → length (moved_down fill ds n) ≡ length ds
length-moved_down fill ds n =
    length-take (length ds) (drop n ds ++ replicate (length ds) fill)
    ∙ omega (arith, length-append (drop n ds) (replicate (length ds) fill), length-replicate (length ds) fill)

-- ---- the same of planes
pub digits_of-moved_up : (w a b n m k : ℕ)
    → ((i : ℕ) → i < w → i < n → digit_at m k i ≡ Zero)
    → ((i : ℕ) → i < w → n ≤ i → digit_at m k i ≡ digit_at a b (i - n))
    → digits_of w m k ≡ moved_up (digits_of w a b) n
digits_of-moved_up w a b n m k low high =
    let size : length (digits_of w a b) ≡ w = length-digits_of w a b in
    digits_of-positions w m k (moved_up (digits_of w a b) n) Zero (length-moved_up (digits_of w a b) n ∙ size)
    (λ i h. elim (cases_lt i n) [
      | inl l ↦ get_or-moved_up_low (digits_of w a b) n i Zero (omega arith) l ∙ sym (low i h l)
      | inr l ↦ get_or-moved_up_high (digits_of w a b) n i Zero (omega arith) l ∙ get_or-digits_of w a b (i - n) Zero (omega arith) ∙ sym (high i h l)
    ])

pub digits_of-moved_down : (fill : Digit) (w a b n m k : ℕ)
    → ((i : ℕ) → i < w → n + i < w → digit_at m k i ≡ digit_at a b (n + i))
    → ((i : ℕ) → i < w → w ≤ n + i → digit_at m k i ≡ fill)
    → digits_of w m k ≡ moved_down fill (digits_of w a b) n
digits_of-moved_down fill w a b n m k low high =
    let size : length (digits_of w a b) ≡ w = length-digits_of w a b in
    digits_of-positions w m k (moved_down fill (digits_of w a b) n) Zero (length-moved_down fill (digits_of w a b) n ∙ size)
    (λ i h. elim (cases_lt (n + i) w) [
      | inl l ↦
          get_or-moved_down_low fill (digits_of w a b) n i Zero (omega arith) (omega arith) ∙ get_or-digits_of w a b (n + i) Zero l ∙ sym (low i h l)
      | inr l ↦ get_or-moved_down_high fill (digits_of w a b) n i Zero (omega arith) (omega arith) ∙ sym (high i h l)
    ])

-- The number of positions
pub positions_known : (w a b : ℕ) (s : Bool) (x : Vector) → Vector-of w a b s ≡ x → a < 2 ^ w → b ≡ 0 → known_number x.digits ≡ Some a
positions_known w a b s x e h z = rw (← e, z) (known_number-planes w a 0 h (pow_pos w))

pub positions_unknown : (w a b : ℕ) (s : Bool) (x : Vector) → Vector-of w a b s ≡ x → a < 2 ^ w → b < 2 ^ w → (b ≡ 0 → ⊥) → known_number x.digits ≡ None
positions_unknown w a b s x e h k n = rw (← e) (known_number-planes w a b h k ∙ cond-false (eqb b 0) _ _ (ne_eqb b 0 n))

-- ---- the code's shifts
shl_bit : (w p a n i : ℕ) → w ≤ p → i < w → bit_at (bit_and (a * 2 ^ n % 2 ^ p) (2 ^ w - 1)) i ≡ bit_at (a * 2 ^ n) i
shl_bit w p a n i le h =
    rw (bit_at_and, bit_at_ones w i h, bit_at-mod (a * 2 ^ n) p i (omega arith)) (omega (arith, bit_at-lt (a * 2 ^ n) i))

pub digits_of-shl : (w p a b n : ℕ) → w ≤ p
    → digits_of w (bit_and (a * 2 ^ n % 2 ^ p) (2 ^ w - 1)) (bit_and (b * 2 ^ n % 2 ^ p) (2 ^ w - 1)) ≡ moved_up (digits_of w a b) n
digits_of-shl w p a b n le =
    digits_of-moved_up w a b n _ _
    (λ i h l. rw (shl_bit w p a n i le h, shl_bit w p b n i le h, bit_at-shl_low a n i l, bit_at-shl_low b n i l) refl)
    (λ i h l. rw (shl_bit w p a n i le h, shl_bit w p b n i le h, bit_at-shl_high a n i l, bit_at-shl_high b n i l) refl)

pub digits_of-shl_all : (w a b n : ℕ) → w ≤ n → digits_of w 0 0 ≡ moved_up (digits_of w a b) n
digits_of-shl_all w a b n le = digits_of-moved_up w a b n 0 0 (λ i h l. rw bit_at-zero refl) (λ i h l. absurd (omega arith))

pub digits_of-shr : (w a b n : ℕ) → a < 2 ^ w → b < 2 ^ w → digits_of w (a / 2 ^ n) (b / 2 ^ n) ≡ moved_down Zero (digits_of w a b) n
digits_of-shr w a b n ha hb =
    digits_of-moved_down Zero w a b n _ _
    (λ i h l. rw (bit_at-shr a n i, bit_at-shr b n i) refl)
    (λ i h l. rw (bit_at-shr a n i, bit_at-shr b n i, bit_at_above a w (n + i) ha l, bit_at_above b w (n + i) hb l) refl)

pub digits_of-shr_all : (w a b n : ℕ) → w ≤ n → digits_of w 0 0 ≡ moved_down Zero (digits_of w a b) n
digits_of-shr_all w a b n le = digits_of-moved_down Zero w a b n 0 0 (λ i h l. absurd (omega arith)) (λ i h l. rw bit_at-zero refl)

pub highest-digits_of : (w a b : ℕ) → 1 ≤ w → highest (digits_of w a b) ≡ digit_at a b (w - 1)
highest-digits_of w a b h = rw (length-digits_of w a b) (get_or-digits_of w a b (w - 1) Zero (omega arith))

-- With the highest digit above
pub digits_of-sshr : (w a b n k m p : ℕ) → 1 ≤ w → n ≡ min k (w - 1)
    → ((i : ℕ) → i < w → bit_at m i ≡ bit_at a (min (i + n) (w - 1)))
    → ((i : ℕ) → i < w → bit_at p i ≡ bit_at b (min (i + n) (w - 1)))
    → digits_of w m p ≡ moved_down (highest (digits_of w a b)) (digits_of w a b) k
digits_of-sshr w a b n k m p one least ha hb =
    rw (highest-digits_of w a b one) (digits_of-moved_down (digit_at a b (w - 1)) w a b k m p
    (λ i h l. let e : min (i + n) (w - 1) ≡ k + i = omega arith in rw (ha i h, hb i h, e) refl)
    (λ i h l. let e : min (i + n) (w - 1) ≡ w - 1 = omega arith in rw (ha i h, hb i h, e) refl))

-- The highest bit of a plane
pub top_set : (a k : ℕ) → a / 2 ^ k ≡ 1 → bit_at a k ≡ 1
top_set a k h = ap (λ n. n % 2) h

pub top_clear : (a k : ℕ) → a < 2 ^ (1 + k) → (a / 2 ^ k ≡ 1 → ⊥) → bit_at a k ≡ 0
top_clear a k below n = let h = shr_below a 1 k below in let e : a / 2 ^ k ≡ 0 = omega (arith, n) in ap (λ m. m % 2) e

-- The code's plane with its highest bit above, where that is 1 and where it is 0
pub moved_down-set : (w a n i : ℕ) → 1 ≤ w → a < 2 ^ w → n < w → a / 2 ^ (w - 1) ≡ 1 → i < w
    → bit_at (bit_or (a / 2 ^ n) (bit_xor (2 ^ w - 1) ((2 ^ w - 1) / 2 ^ n))) i ≡ bit_at a (min (i + n) (w - 1))
moved_down-set w a n i one below inside top h =
    rw (bit_at_or, bit_at_xor, bit_at-shr a n i, bit_at-shr (2 ^ w - 1) n i, bit_at_ones w i h) (elim (cases_lt (n + i) w) [
      | inl l ↦
          (let e : min (i + n) (w - 1) ≡ n + i = omega arith in
          rw (bit_at_ones w (n + i) l, e) (omega (arith, bit_at-lt a (n + i))))
      | inr l ↦
          (let e : min (i + n) (w - 1) ≡ w - 1 = omega arith in
          rw (bit_at_ones_above w (n + i) l, bit_at_above a w (n + i) below l, e, top_set a (w - 1) top) refl)
    ])

pub moved_down-clear : (w a n i : ℕ) → 1 ≤ w → a < 2 ^ w → n < w → (a / 2 ^ (w - 1) ≡ 1 → ⊥) → i < w
    → bit_at (a / 2 ^ n) i ≡ bit_at a (min (i + n) (w - 1))
moved_down-clear w a n i one below inside top h =
    let whole : 1 + (w - 1) ≡ w = omega arith in
    let below' : a < 2 ^ (1 + (w - 1)) = rw whole below in
    rw (bit_at-shr a n i) (elim (cases_lt (n + i) w) [
      | inl l ↦ (let e : min (i + n) (w - 1) ≡ n + i = omega arith in rw e refl)
      | inr l ↦
          (let e : min (i + n) (w - 1) ≡ w - 1 = omega arith in
          rw (bit_at_above a w (n + i) below l, e, top_clear a (w - 1) below' top) refl)
    ])

pub moved_down-below : (w a n : ℕ) → a < 2 ^ w → bit_or (a / 2 ^ n) (bit_xor (2 ^ w - 1) ((2 ^ w - 1) / 2 ^ n)) < 2 ^ w
moved_down-below w a n h =
    let some : a / 2 ^ n < 2 ^ w = omega (arith, shr_le a n) in
    let ones : 2 ^ w - 1 < 2 ^ w = ones_below w in
    let part : (2 ^ w - 1) / 2 ^ n < 2 ^ w = omega (arith, shr_le (2 ^ w - 1) n) in
    or_lt w _ _ some (xor_lt w _ _ ones part)

-- The code's plane extended by its highest bit
pub extended-set : (w a v i : ℕ) → 1 ≤ w → a < 2 ^ w → a / 2 ^ (w - 1) ≡ 1 → i < v
    → bit_at (bit_or a (bit_xor (2 ^ v - 1) (2 ^ w - 1))) i ≡ bit_at a (min i (w - 1))
extended-set w a v i one below top h =
    rw (bit_at_or, bit_at_xor, bit_at_ones v i h) (elim (cases_lt i w) [
      | inl l ↦ (let e : min i (w - 1) ≡ i = omega arith in rw (bit_at_ones w i l, e) (omega (arith, bit_at-lt a i)))
      | inr l ↦
          (let e : min i (w - 1) ≡ w - 1 = omega arith in
          rw (bit_at_ones_above w i l, bit_at_above a w i below l, e, top_set a (w - 1) top) refl)
    ])

pub extended-clear : (w a i : ℕ) → 1 ≤ w → a < 2 ^ w → (a / 2 ^ (w - 1) ≡ 1 → ⊥) → bit_at a i ≡ bit_at a (min i (w - 1))
extended-clear w a i one below top =
    let whole : 1 + (w - 1) ≡ w = omega arith in
    let below' : a < 2 ^ (1 + (w - 1)) = rw whole below in
    elim (cases_lt i w) [
      | inl l ↦ (let e : min i (w - 1) ≡ i = omega arith in rw e refl)
      | inr l ↦
          (let e : min i (w - 1) ≡ w - 1 = omega arith in
          rw (bit_at_above a w i below l, e, top_clear a (w - 1) below' top) refl)
    ]

-- No digit is left
pub zeros-moved_up : (w a b n : ℕ) (s : Bool) (x : Vector) → Vector-of w a b s ≡ x → w ≤ n
    → digits_with (binary (width_of x) 0) x.signed ≡ digits_with (moved_up x.digits n) x.signed
zeros-moved_up w a b n s x e le =
    ap (λ ds. digits_with ds x.signed) (ap (λ v. binary v 0) (width-planes w a b s x e) ∙ sym (digits_of-binary w 0)
    ∙ digits_of-shl_all w a b n le ∙ ap (λ (z : Vector). moved_up z.digits n) e)

pub zeros-moved_down : (w a b n : ℕ) (s : Bool) (x : Vector) → Vector-of w a b s ≡ x → w ≤ n
    → digits_with (binary (width_of x) 0) x.signed ≡ digits_with (moved_down Zero x.digits n) x.signed
zeros-moved_down w a b n s x e le =
    ap (λ ds. digits_with ds x.signed) (ap (λ v. binary v 0) (width-planes w a b s x e) ∙ sym (digits_of-binary w 0)
    ∙ digits_of-shr_all w a b n le ∙ ap (λ (z : Vector). moved_down Zero z.digits n) e)

-- ---- `{high, low}`
pub concat_plane : (v a w b p : ℕ) → a < 2 ^ v → b < 2 ^ w → v + w ≤ p → bit_or (a * 2 ^ w % 2 ^ p) b ≡ a * 2 ^ w + b
concat_plane v a w b p ha hb le = rw (shl_whole a v w p ha le) (or_shifted a w b hb)

pub concat_below : (v a w b : ℕ) → a < 2 ^ v → b < 2 ^ w → a * 2 ^ w + b < 2 ^ (v + w)
concat_below v a w b ha hb = rw (pow-add 2 v w) (omega (arith, mul-le-mul_right (2 ^ w) ha))

pub digits_of-concat : (v a b w c d : ℕ) → c < 2 ^ w → d < 2 ^ w
    → digits_of (v + w) (a * 2 ^ w + c) (b * 2 ^ w + d) ≡ digits_of w c d ++ digits_of v a b
digits_of-concat v a b w c d hc hd =
    digits_of-positions (v + w) _ _ (digits_of w c d ++ digits_of v a b) Zero
    (omega (arith, length-append (digits_of w c d) (digits_of v a b), length-digits_of w c d, length-digits_of v a b))
    (λ i h. elim (cases_lt i w) [
      | inl l ↦
          get_or_append_left (digits_of w c d) (digits_of v a b) Zero i (rw length-digits_of l) ∙ get_or-digits_of w c d i Zero l
          ∙ rw (bit_at_cat_low a w c i l, bit_at_cat_low b w d i l) refl
      | inr l ↦
          get_or-append_right (digits_of w c d) (digits_of v a b) w i Zero (length-digits_of w c d) l
          ∙ get_or-digits_of v a b (i - w) Zero (omega arith)
          ∙ rw (bit_at_cat_high a w c i hc l, bit_at_cat_high b w d i hd l) refl
    ])

-- ---- a part of a vector
pub digits_of-part : (w a b low v : ℕ) → low + v ≤ w → digits_of v (a / 2 ^ low) (b / 2 ^ low) ≡ take v (drop low (digits_of w a b))
digits_of-part w a b low v le =
    digits_of-positions v _ _ (take v (drop low (digits_of w a b))) Zero
    (length-take v (drop low (digits_of w a b)) ∙ omega (arith, length-drop low (digits_of w a b), length-digits_of w a b))
    (λ i h.
    get_or-take v (drop low (digits_of w a b)) i Zero h ∙ get_or-drop low (digits_of w a b) i Zero
    ∙ get_or-digits_of w a b (low + i) Zero (omega arith) ∙ rw (bit_at-shr a low i, bit_at-shr b low i) refl)

-- ---- a vector with a part replaced: the code's plane, below, in and above the part
abbrev pub replaced_plane : ℕ → ℕ → ℕ → ℕ → ℕ
replaced_plane v low a q = bit_or (bit_xor (bit_or a ((2 ^ v - 1) * 2 ^ low)) ((2 ^ v - 1) * 2 ^ low)) (q * 2 ^ low)

replaced-under : (v low a q i : ℕ) → i < low → bit_at (replaced_plane v low a q) i ≡ bit_at a i
replaced-under v low a q i h =
    rw (bit_at_or, bit_at_xor, bit_at_or, bit_at-shl_low (2 ^ v - 1) low i h, bit_at-shl_low q low i h) (omega (arith, bit_at-lt a i))

replaced-inside : (v low a q i : ℕ) → low ≤ i → i < low + v → bit_at (replaced_plane v low a q) i ≡ bit_at q (i - low)
replaced-inside v low a q i h l =
    rw (bit_at_or, bit_at_xor, bit_at_or, bit_at-shl_high (2 ^ v - 1) low i h, bit_at-shl_high q low i h, bit_at_ones v (i - low) (omega arith))
    (omega (arith, bit_at-lt a i, bit_at-lt q (i - low)))

replaced-over : (v low a q i : ℕ) → q < 2 ^ v → low + v ≤ i → bit_at (replaced_plane v low a q) i ≡ bit_at a i
replaced-over v low a q i below h =
    rw (
      bit_at_or,
      bit_at_xor,
      bit_at_or,
      bit_at-shl_high (2 ^ v - 1) low i (omega arith),
      bit_at-shl_high q low i (omega arith),
      bit_at_ones_above v (i - low) (omega arith),
      bit_at_above q v (i - low) below (omega arith),
    ) (omega (arith, bit_at-lt a i))

pub replaced-below : (w v low a q : ℕ) → a < 2 ^ w → q < 2 ^ v → low + v ≤ w → replaced_plane v low a q < 2 ^ w
replaced-below w v low a q ha hq le =
    let most : 2 ^ (v + low) ≤ 2 ^ w = pow_mono (omega arith) in
    let hole : (2 ^ v - 1) * 2 ^ low < 2 ^ w = omega (arith, shl_below (2 ^ v - 1) v low (ones_below v)) in
    let part : q * 2 ^ low < 2 ^ w = omega (arith, shl_below q v low hq) in
    or_lt w _ _ (xor_lt w _ _ (or_lt w _ _ ha hole) hole) part

pub digits_of-replaced : (w a b v c d low : ℕ) → c < 2 ^ v → d < 2 ^ v → low + v ≤ w
    → digits_of w (replaced_plane v low a c) (replaced_plane v low b d)
    ≡ take low (digits_of w a b) ++ (digits_of v c d ++ drop (low + length (digits_of v c d)) (digits_of w a b))
digits_of-replaced w a b v c d low hc hd le =
    let size : length (digits_of w a b) ≡ w = length-digits_of w a b in
    let part : length (digits_of v c d) ≡ v = length-digits_of v c d in
    let front : length (take low (digits_of w a b)) ≡ low = length-take low (digits_of w a b) ∙ omega arith in
    digits_of-positions w _ _ (take low (digits_of w a b) ++ (digits_of v c d ++ drop (low + length (digits_of v c d)) (digits_of w a b))) Zero
    (omega (
      arith,
      length-append (take low (digits_of w a b)) (digits_of v c d ++ drop (low + length (digits_of v c d)) (digits_of w a b)),
      length-append (digits_of v c d) (drop (low + length (digits_of v c d)) (digits_of w a b)),
      length-drop (low + length (digits_of v c d)) (digits_of w a b),
    ))
    (λ i h. elim (cases_lt i low) [
      | inl l ↦
          get_or_append_left (take low (digits_of w a b)) (digits_of v c d ++ drop (low + length (digits_of v c d)) (digits_of w a b)) Zero i (omega arith)
          ∙ get_or-take low (digits_of w a b) i Zero l ∙ get_or-digits_of w a b i Zero h
          ∙ rw (replaced-under v low a c i l, replaced-under v low b d i l) refl
      | inr l ↦
          get_or-append_right (take low (digits_of w a b)) (digits_of v c d ++ drop (low + length (digits_of v c d)) (digits_of w a b)) low i Zero front l
          ∙ elim (cases_lt (i - low) v) [
            | inl k ↦
                get_or_append_left (digits_of v c d) (drop (low + length (digits_of v c d)) (digits_of w a b)) Zero (i - low) (omega arith)
                ∙ get_or-digits_of v c d (i - low) Zero k
                ∙ rw (replaced-inside v low a c i l (omega arith), replaced-inside v low b d i l (omega arith)) refl
            | inr k ↦
                (let at : low + length (digits_of v c d) + (i - low - v) ≡ i = omega arith in
                get_or-append_right (digits_of v c d) (drop (low + length (digits_of v c d)) (digits_of w a b)) v (i - low) Zero part k
                ∙ get_or-drop (low + length (digits_of v c d)) (digits_of w a b) (i - low - v) Zero
                ∙ ap (λ n. get_or (digits_of w a b) n Zero) at ∙ get_or-digits_of w a b i Zero h
                ∙ rw (replaced-over v low a c i hc (omega arith), replaced-over v low b d i hd (omega arith)) refl)
          ]
    ])

-- ---- another width
digits_of-extended : (w a b v m p : ℕ) (fill : Digit)
    → ((i : ℕ) → i < v → i < w → digit_at m p i ≡ digit_at a b i)
    → ((i : ℕ) → i < v → w ≤ i → digit_at m p i ≡ fill)
    → digits_of v m p ≡ take v (digits_of w a b ++ replicate v fill)
digits_of-extended w a b v m p fill low high =
    digits_of-positions v m p (take v (digits_of w a b ++ replicate v fill)) Zero
    (length-take v (digits_of w a b ++ replicate v fill) ∙ omega (arith, length-append (digits_of w a b) (replicate v fill), length-replicate v fill))
    (λ i h. get_or-take v (digits_of w a b ++ replicate v fill) i Zero h ∙ elim (cases_lt i w) [
      | inl l ↦
          get_or_append_left (digits_of w a b) (replicate v fill) Zero i (rw length-digits_of l) ∙ get_or-digits_of w a b i Zero l ∙ sym (low i h l)
      | inr l ↦
          get_or-append_right (digits_of w a b) (replicate v fill) w i Zero (length-digits_of w a b) l
          ∙ get_or-replicate v (i - w) fill Zero (omega arith) ∙ sym (high i h l)
    ])

pub digits_of-resized : (w a b v : ℕ) → a < 2 ^ w → b < 2 ^ w → digits_of v a b ≡ take v (digits_of w a b ++ replicate v Zero)
digits_of-resized w a b v ha hb =
    digits_of-extended w a b v a b Zero (λ i h l. refl) (λ i h l. rw (bit_at_above a w i ha l, bit_at_above b w i hb l) refl)

pub digits_of-resized_signed : (w a b v m p : ℕ) → 1 ≤ w
    → ((i : ℕ) → i < v → bit_at m i ≡ bit_at a (min i (w - 1)))
    → ((i : ℕ) → i < v → bit_at p i ≡ bit_at b (min i (w - 1)))
    → digits_of v m p ≡ take v (digits_of w a b ++ replicate v (highest (digits_of w a b)))
digits_of-resized_signed w a b v m p one ha hb =
    rw (highest-digits_of w a b one) (digits_of-extended w a b v m p (digit_at a b (w - 1))
    (λ i h l. let e : min i (w - 1) ≡ i = omega arith in rw (ha i h, hb i h, e) refl)
    (λ i h l. let e : min i (w - 1) ≡ w - 1 = omega arith in rw (ha i h, hb i h, e) refl))

-- ---- what the conditions say of the fields
pub room-planes : (w a b v c d p : ℕ) (s t : Bool) (x y : Vector) → Vector-of w a b s ≡ x → Vector-of v c d t ≡ y
    → width_of x + width_of y ≤ p → w + v ≤ p
room-planes w a b v c d p s t x y e g h = omega (arith, width-planes w a b s x e, width-planes v c d t y g)

pub within-planes : (w a b n : ℕ) (s : Bool) (x : Vector) → Vector-of w a b s ≡ x → n ≤ width_of x → n ≤ w
within-planes w a b n s x e h = omega (arith, width-planes w a b s x e)

pub part-planes : (w a b v c d low : ℕ) (s t : Bool) (x y : Vector) → Vector-of w a b s ≡ x → Vector-of v c d t ≡ y
    → low + width_of y ≤ width_of x → low + v ≤ w
part-planes w a b v c d low s t x y e g h = omega (arith, width-planes w a b s x e, width-planes v c d t y g)

-- An unsigned vector is filled with zeros
pub shifted_right-unsigned : (x y : Vector) → x.signed ≡ false → shifted_right x y ≡ shifted_right_signed x y
shifted_right-unsigned x y e = rw e refl

pub concat-width : (w a b v c d m p : ℕ) (s t : Bool) (x y : Vector) → Vector-of w a b s ≡ x → Vector-of v c d t ≡ y
    → length (digits_of (w + v) m p) ≡ width_of x + width_of y
concat-width w a b v c d m p s t x y e g =
    omega (arith, length-digits_of (w + v) m p, width-planes w a b s x e, width-planes v c d t y g)
