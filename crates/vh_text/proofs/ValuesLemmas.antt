-- What the code of value texts owes its definitions.
use Rattle.std.proofs.Common.{◌≡◌, ℕ, suc, ◌+◌, ◌-◌, ◌*◌, ◌/◌, ◌%◌, ◌^◌, ◌<◌, ◌≤◌, List, [], ◌∷◌, length, take, replicate, refl, ap, arith, ◌∙◌, sym, Bool, true, false, cond, eqb, Option, Some, None, inl, inr}
use Rattle.std.specs.Prelude.{◌&&◌, ◌||◌, not, ℤ, pos, neg_ℤ, ◌+ℤ◌, unsigned_abs}
use Rattle.std.specs.Char.{is_ascii_digit}
use Rattle.std.specs.List.{list_all, list_any}
use Rattle.std.specs.Option.{option_map}
use Rattle.std.specs.Str.{all_ascii_digits}
use Rattle.std.specs.Str.Parse.{digits_value_after}
use Rattle.std.proofs.lemmas.Int.{ints, int_rem_euclid_is}
use Rattle.std.proofs.lemmas.List.{length-take-le, take-take, take_all, take-append-le}
use Rattle.std.proofs.lemmas.Bool.{lt-ltb, le-leb, ltb-true}
use Rattle.std.proofs.lemmas.Bool.Decides.{eqb_tells}
use Rattle.std.proofs.lemmas.Nat.{pow_pos, pow-add, shr_split}
use Rattle.std.proofs.Math.Nat.{mod-eq_of_lt, pow-suc, pow-le-pow_right}
use Rattle.vh_logic.specs.declared.digits.Digit.{Digit}
use Rattle.vh_logic.specs.declared.digits.Digit.TheVariants.{Zero}
use Rattle.vh_logic.specs.declared.vector.TheConstants.{MAX_WIDTH}
use Rattle.vh_logic.specs.Number.{binary, wrapped, signed_integer, vector_of}
use Rattle.vh_logic.specs.Planes.{digits_of}
use Rattle.vh_text.specs.declared.number.Number.{Number}
use Rattle.vh_text.specs.Digits.{character_digits, joined_digits, spelled_digits, characters, decimal_number}
use Rattle.vh_text.specs.Views.{number_kept, digits_alone}
use Rattle.vh_text.specs.Texts.{group_count}
use Rattle.vh_text.specs.Values.{cut_or_padded, is_length, string_value, numeral, is_lower_hex, integer_value}
use Rattle.vh_text.proofs.ViewsLemmas.{base_is, digits_of-binary, character_digits-none, short_or}
use Rattle.vh_text.proofs.LiteralsLemmas.{binary-mod}

-- What literals alone may have
abbrev pub is_literal_mark : ℕ → Bool
is_literal_mark b = eqb b 95 || eqb b 63

or_false : (a b : Bool) → (a || b) ≡ false → (a ≡ false) × (b ≡ false)
or_false true b h = cc
or_false false b h = (refl, h)

pub characters-plain : (bs : List ℕ) → list_any is_literal_mark bs ≡ false → characters bs ≡ bs
characters-plain [] h = refl
characters-plain (b ∷ bs) h =
    let parts = or_false (is_literal_mark b) (list_any is_literal_mark bs) h in
    let first = or_false (eqb b 95) (eqb b 63) parts.0 in
    rw (first.0, first.1) (ap (λ (xs : List ℕ). b ∷ xs) (characters-plain bs parts.1))

mark_digits : (k b : ℕ) → 1 ≤ k → k ≤ 4 → is_literal_mark b ≡ true → character_digits k b ≡ None
mark_digits k b least most h =
    let base = base_is k least most in
    elim (eqb_tells b 95) [
      | inl e ↦ let at : b ≡ 95 = e.1 in rw at (character_digits-none k 95 refl refl (omega (arith, base.2)))
      | inr n ↦
          elim (eqb_tells b 63) [
            | inl e ↦ let at : b ≡ 63 = e.1 in rw at (character_digits-none k 63 refl refl (omega (arith, base.2)))
            | inr m ↦ let no : is_literal_mark b ≡ false = rw (n.0, m.0) refl in cc
          ]
    ]

joined_digits-none_right : (a : Option (List Digit)) → joined_digits a None ≡ None
joined_digits-none_right None = refl
joined_digits-none_right (Some a) = refl

or_cases : (P : Type 0) (a b : Bool) → (a || b) ≡ true → (a ≡ true → P) → (b ≡ true → P) → P
or_cases P true b h p q = p refl
or_cases P false b h p q = q h

pub spelled_digits-symbols : (k : ℕ) (bs : List ℕ) → 1 ≤ k → k ≤ 4 → list_any is_literal_mark bs ≡ true → spelled_digits k bs ≡ None
unfolding spelled_digits
spelled_digits-symbols k [] least most h = cc
spelled_digits-symbols k (b ∷ bs) least most h =
    or_cases (joined_digits (spelled_digits k bs) (character_digits k b) ≡ None) (is_literal_mark b) (list_any is_literal_mark bs) h
    (λ e. ap (λ (o : Option (List Digit)). joined_digits (spelled_digits k bs) o) (mark_digits k b least most e) ∙ joined_digits-none_right (spelled_digits k bs))
    (λ e. ap (λ (o : Option (List Digit)). joined_digits o (character_digits k b)) (spelled_digits-symbols k bs least most e))

and_false : (a b : Bool) → b ≡ false → (a && b) ≡ false
and_false true b h = h
and_false false b h = refl

mark_no_digit : (b : ℕ) → is_literal_mark b ≡ true → is_ascii_digit b ≡ false
mark_no_digit b h =
    elim (eqb_tells b 95) [
      | inl e ↦ let at : b ≡ 95 = e.1 in rw at refl
      | inr n ↦
          elim (eqb_tells b 63) [
            | inl e ↦ let at : b ≡ 63 = e.1 in rw at refl
            | inr m ↦ let no : is_literal_mark b ≡ false = rw (n.0, m.0) refl in cc
          ]
    ]

all_digits-symbols : (bs : List ℕ) → list_any is_literal_mark bs ≡ true → all_ascii_digits bs ≡ false
all_digits-symbols [] h = cc
all_digits-symbols (b ∷ bs) h =
    or_cases ((is_ascii_digit b && all_ascii_digits bs) ≡ false) (is_literal_mark b) (list_any is_literal_mark bs) h
    (λ e. ap (λ (t : Bool). t && all_ascii_digits bs) (mark_no_digit b e))
    (λ e. and_false (is_ascii_digit b) (all_ascii_digits bs) (all_digits-symbols bs e))

pub numeral-symbols : (bs : List ℕ) → (length bs ≡ 0 → ⊥) → list_any is_literal_mark bs ≡ true → numeral bs ≡ None
numeral-symbols [] h k = absurd (h refl)
numeral-symbols (b ∷ bs) h k = rw (all_digits-symbols (b ∷ bs) k) refl

pub numeral-plain : (bs : List ℕ) → (length bs ≡ 0 → ⊥) → list_any is_literal_mark bs ≡ false → numeral bs ≡ decimal_number (characters bs)
numeral-plain [] h k = absurd (h refl)
numeral-plain (b ∷ bs) h k = ap (λ (xs : List ℕ). decimal_number xs) (sym (characters-plain (b ∷ bs) k))

-- What is kept of digits is enough to cut or pad them
pub cut_or_padded-take : (w : ℕ) (ds : List Digit) → w ≤ MAX_WIDTH → cut_or_padded w (take MAX_WIDTH ds) ≡ cut_or_padded w ds
cut_or_padded-take w ds h =
    elim (short_or (length ds) MAX_WIDTH) [
      | inl short ↦ ap (λ (xs : List Digit). cut_or_padded w xs) (take_all MAX_WIDTH ds short)
      | inr long ↦
          let len : length (take MAX_WIDTH ds) ≡ MAX_WIDTH = length-take-le MAX_WIDTH ds (omega arith) in
          ap (λ (xs : List Digit). digits_alone xs)
          (take-append-le w (take MAX_WIDTH ds) (replicate w Zero) (omega (arith, len)) ∙ take-take w MAX_WIDTH ds h ∙ sym (take-append-le w ds (replicate w Zero) (omega arith)))
    ]

pub is_length-is : (k : ℕ) (bs : List ℕ) → 0 < length bs → length bs ≤ group_count k MAX_WIDTH → is_length k bs ≡ true
is_length-is k bs some short = rw (lt-ltb 0 (length bs) some, le-leb (length bs) (group_count k MAX_WIDTH) short) refl

pub string_value-is : (k w : ℕ) (bs : List ℕ) (ds : List Digit) → is_length k bs ≡ true → spelled_digits k bs ≡ Some ds
    → string_value k w bs ≡ Some (cut_or_padded w ds)
string_value-is k w bs ds fits e = rw (fits, e) refl

pub from_number : (o : Option ℕ) (m : Number) → Some m ≡ option_map number_kept o → (n : ℕ) × (o ≡ Some n) × (m ≡ number_kept n)
from_number None m h = cc
from_number (Some n) m h = (n, refl, cc)

pub not_false : (b : Bool) → not b ≡ false → b ≡ true
not_false true h = refl
not_false false h = cc

-- A number that fits is kept
pub kept-fits : (m : Number) (n : ℕ) → m ≡ number_kept n → m.fits ≡ true → m.low ≡ n
kept-fits m n e fits =
    let below : n < 2 ^ MAX_WIDTH = ltb-true n (2 ^ MAX_WIDTH) (sym (ap (λ (x : Number). x.fits) e) ∙ fits) in
    ap (λ (x : Number). x.low) e ∙ mod-eq_of_lt below

-- An integer modulo 2 ^ w
wrapped_is : (w k m : ℕ) (z : ℤ) → z +ℤ pos (k * 2 ^ w) ≡ pos m → wrapped w z ≡ m % 2 ^ w
wrapped_is w k m z e = ap (λ (y : ℤ). unsigned_abs y) (int_rem_euclid_is z (pos (2 ^ w)) (2 ^ w) k m (pow_pos w) refl e)

pow_multiple : (w p : ℕ) → w ≤ p → 2 ^ p ≡ 2 ^ (p - w) * 2 ^ w
pow_multiple w p h = let e : p ≡ p - w + w = omega arith in ap (λ k. 2 ^ k) e ∙ pow-add 2 (p - w) w

pub digits_of-positive : (w n : ℕ) → digits_of w n 0 ≡ binary w (wrapped w (signed_integer false n))
digits_of-positive w n =
    digits_of-binary w n ∙ sym (ap (λ m. binary w m) (wrapped_is w 0 n (pos n) (omega (arith, ints))) ∙ binary-mod w w n (omega arith))

pub digits_of-negative : (w n word : ℕ) → w ≤ MAX_WIDTH → (word + n) % 2 ^ MAX_WIDTH ≡ 0 → digits_of w word 0 ≡ binary w (wrapped w (signed_integer true n))
digits_of-negative w n word h none =
    let q : ℕ = (word + n) / 2 ^ MAX_WIDTH in
    let whole : q * (2 ^ (MAX_WIDTH - w) * 2 ^ w) ≡ word + n = rw (← pow_multiple w MAX_WIDTH h) (let e = shr_split (word + n) MAX_WIDTH in omega arith) in
    let same : wrapped w (neg_ℤ (pos n)) ≡ word % 2 ^ w = wrapped_is w (q * 2 ^ (MAX_WIDTH - w)) word (neg_ℤ (pos n)) (omega (arith, ints, whole)) in
    digits_of-binary w word ∙ sym (ap (λ m. binary w m) same ∙ binary-mod w w word (omega arith))

-- The number that hexadecimal digits write when they follow those of n
abbrev pub hex_after : ℕ → List ℕ → Option ℕ
hex_after n cs = cond (list_all is_lower_hex cs) (Some (digits_value_after 16 n cs)) None

-- Fewer hexadecimal digits than a plane has leave room for one more
pub room : (n i : ℕ) → n < 16 ^ i → i < group_count 4 MAX_WIDTH → 16 * n + 16 ≤ 2 ^ MAX_WIDTH
room n i h k =
    let power : 16 ^ suc i ≡ 16 * 16 ^ i = rw pow-suc (omega arith) in
    let most : 16 ^ suc i ≤ 16 ^ group_count 4 MAX_WIDTH = pow-le-pow_right {n = 16} (omega arith) {i = suc i} {j = group_count 4 MAX_WIDTH} (omega arith) in
    omega (arith, most, power)

pub integer_value-is : (w : ℕ) (negative : Bool) (most n : ℕ) → n ≤ most
    → integer_value w negative most (Some n) ≡ Some (vector_of w false (Some (signed_integer negative n)))
integer_value-is w negative most n h = rw (le-leb n most h) refl
