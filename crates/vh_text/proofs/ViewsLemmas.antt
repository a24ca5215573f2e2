-- How digits are read, kept and filled.
use Rattle.std.proofs.Common.{◌≡◌, ℕ, zero, suc, ◌+◌, ◌-◌, ◌*◌, ◌/◌, ◌%◌, ◌^◌, ◌<◌, ◌≤◌, List, [], ◌∷◌, ◌++◌, length, take, drop, replicate, get_or, refl, ap, arith, ◌∙◌, sym, subst, Bool, true, false, cond, eqb, Option, Some, None, append_assoc, append-nil, ◌⊎◌, inl, inr}
use Rattle.std.specs.Prelude.{◌&&◌, IsSome}
use Rattle.std.specs.Char.{digit_value}
use Rattle.std.specs.List.{list_all}
use Rattle.std.specs.Option.{option_map}
use Rattle.std.proofs.lemmas.List.{length-drop, length-append, length-take, length-take-le, take-take, take_all, drop_all, take-append-drop, take-append-le, drop-append-le, take-replicate, length-replicate, get_or-append-add, drop_at, drop-drop}
use Rattle.std.proofs.lemmas.List.Folds.{list_all-append}
use Rattle.std.proofs.lemmas.Bool.{eq-eqb, ne_eqb, lt-ltb, le-ltb}
use Rattle.std.proofs.lemmas.Bool.Decides.{leb_tells, eqb_tells}
use Rattle.std.proofs.Math.Seq.{take-append-add}
use Rattle.std.proofs.Math.Pow.{pow_mono}
use Rattle.vh_logic.specs.declared.digits.Digit.{Digit}
use Rattle.vh_logic.specs.declared.digits.Digit.TheVariants.{Zero, One, X, Z}
use Rattle.vh_logic.specs.Digit.{is_same}
use Rattle.vh_logic.specs.Vector.{Vector, highest}
use Rattle.vh_logic.specs.declared.vector.TheConstants.{MAX_WIDTH}
use Rattle.vh_logic.specs.Number.{binary}
use Rattle.vh_logic.specs.Planes.{digit_of, digits_of}
use Rattle.vh_logic.specs.PlanesBack.{by_bit}
use Rattle.vh_logic.proofs.Tables.{same_digit}
use Rattle.vh_text.specs.declared.pattern.Pattern.{Pattern}
use Rattle.vh_text.specs.Symbols.{is_x_letter, is_z_letter}
use Rattle.vh_text.specs.Digits.{character_digits, joined_digits, spelled_digits, question_as_z, characters, spelled_characters, fill_of, is_held}
use Rattle.vh_text.specs.Views.{digits_alone, pattern_of, pattern_pushed}

pub digits_of-binary : (w n : ℕ) → digits_of w n 0 ≡ binary w n
unfolding digits_of binary
digits_of-binary zero n = refl
digits_of-binary (suc w) n =
    let first : digit_of (n % 2) 0 ≡ cond (eqb (n % 2) 0) Zero One = by_bit (λ x. digit_of x 0 ≡ cond (eqb x 0) Zero One) refl refl (n % 2) (omega arith) in
    let rest = digits_of-binary w (n / 2) in
    cc

-- A group's base, as the code computes it
pub base_is : (k : ℕ) → 1 ≤ k → k ≤ 4 → (1 * 2 ^ k % 4294967296 ≡ 2 ^ k) × (2 ≤ 2 ^ k) × (2 ^ k ≤ 16)
base_is k least most =
    let low : 2 ^ 1 ≤ 2 ^ k = pow_mono least in
    let high : 2 ^ k ≤ 2 ^ 4 = pow_mono most in
    (omega arith, omega arith, omega arith)

-- A character that is no letter
pub character_digits-number : (k c : ℕ) → is_x_letter c ≡ false → is_z_letter c ≡ false → digit_value c < 2 ^ k
    → character_digits k c ≡ Some (binary k (digit_value c))
character_digits-number k c not_x not_z h = rw (not_x, not_z, lt-ltb (digit_value c) (2 ^ k) h) refl

pub character_digits-none : (k c : ℕ) → is_x_letter c ≡ false → is_z_letter c ≡ false → 2 ^ k ≤ digit_value c → character_digits k c ≡ None
character_digits-none k c not_x not_z h = rw (not_x, not_z, le-ltb (digit_value c) (2 ^ k) h) refl

-- Filling a list that is no longer than the width
take-filled : (ds : List Digit) (w m : ℕ) (f : Digit) → length ds ≤ w → w ≤ length ds + m → take w (ds ++ replicate m f) ≡ ds ++ replicate (w - length ds) f
take-filled [] w m f h k = let e : w ≡ w - 0 = omega arith in take-replicate w m f (omega arith) ∙ ap (λ n. replicate n f) e
take-filled (d ∷ ds) zero m f h k = absurd (omega arith)
take-filled (d ∷ ds) (suc w) m f h k =
    let e : suc w - suc (length ds) ≡ w - length ds = omega arith in
    ap (λ (xs : List Digit). d ∷ xs) (take-filled ds w m f (omega arith) (omega arith) ∙ ap (λ n. ds ++ replicate n f) (sym e))

filled-length : (w : ℕ) (ds : List Digit) (f : Digit) → length ds ≤ w → length (ds ++ replicate (w - length ds) f) ≡ w
filled-length w ds f h = omega (arith, length-append ds (replicate (w - length ds) f), length-replicate (w - length ds) f)

pub sized_digits-filled : (w : ℕ) (ds rest : List Digit) (f : Digit) → length ds ≤ w
    → take w ((ds ++ replicate (w - length ds) f) ++ rest) ≡ take w (ds ++ replicate w f)
sized_digits-filled w ds rest f h =
    let len : length (ds ++ replicate (w - length ds) f) ≡ w = filled-length w ds f h in
    take-append-le w _ rest (omega (arith, len)) ∙ take_all w _ (omega (arith, len)) ∙ sym (take-filled ds w w f h (omega arith))

pub sized_digits-same : (w : ℕ) (ds cs rest : List Digit) (f : Digit) → length ds ≤ w → cs ≡ ds ++ replicate (w - length ds) f
    → take w (cs ++ rest) ≡ take w (ds ++ replicate w f)
sized_digits-same w ds cs rest f h e = ap (λ (xs : List Digit). take w (xs ++ rest)) e ∙ sized_digits-filled w ds rest f h

-- Underscores say nothing, and `?` is z
pub characters-symbol : (b : ℕ) (bs : List ℕ) → b ≡ 95 → characters (b ∷ bs) ≡ characters bs
characters-symbol b bs e = rw (eq-eqb b 95 e) refl

pub characters-next : (b : ℕ) (bs : List ℕ) → (b ≡ 95 → ⊥) → characters (b ∷ bs) ≡ question_as_z b ∷ characters bs
characters-next b bs e = rw (ne_eqb b 95 e) refl

pub spelled_characters-first : (b : ℕ) (bs : List ℕ) → IsSome (spelled_characters (b ∷ bs)) → b ≡ 95 → ⊥
spelled_characters-first b bs h e = let P : ℕ → Type 0 = λ n. IsSome (spelled_characters (n ∷ bs)) in let f = subst P e h in cc

-- A text that begins with a digit, by its first byte
pub characters-first : (bs rest : List ℕ) (b : ℕ) → bs ≡ b ∷ rest → IsSome (spelled_characters bs) → characters bs ≡ question_as_z b ∷ characters rest
characters-first bs rest b e begun =
    let P : List ℕ → Type 0 = λ xs. IsSome (spelled_characters xs) in
    ap (λ (xs : List ℕ). characters xs) e ∙ characters-next b rest (spelled_characters-first b rest (subst P e begun))

joined_digits-none : (a b : Option (List Digit)) → joined_digits (joined_digits a None) b ≡ None
joined_digits-none None b = refl
joined_digits-none (Some a) b = refl

joined_digits-some : (a : Option (List Digit)) (g ds : List Digit) → joined_digits (joined_digits a (Some g)) (Some ds) ≡ joined_digits a (Some (g ++ ds))
joined_digits-some None g ds = refl
joined_digits-some (Some a) g ds = ap Some (append_assoc a g ds)

pub joined_digits-nil : (a : Option (List Digit)) → joined_digits a (Some []) ≡ a
joined_digits-nil None = refl
joined_digits-nil (Some a) = ap Some (append-nil a)

pub spelled_digits-nil : (k : ℕ) → spelled_digits k [] ≡ Some []
unfolding spelled_digits
spelled_digits-nil k = refl

-- One more character, which has no digits, or has these
pub spelled_digits-stop : (k c : ℕ) (cs : List ℕ) (more : Option (List Digit)) → character_digits k c ≡ None
    → joined_digits (spelled_digits k (c ∷ cs)) more ≡ None
unfolding spelled_digits
spelled_digits-stop k c cs more e =
    ap (λ (g : Option (List Digit)). joined_digits (joined_digits (spelled_digits k cs) g) more) e ∙ joined_digits-none (spelled_digits k cs) more

pub spelled_digits-more : (k c : ℕ) (cs : List ℕ) (g ds : List Digit) → character_digits k c ≡ Some g
    → joined_digits (spelled_digits k (c ∷ cs)) (Some ds) ≡ joined_digits (spelled_digits k cs) (Some (g ++ ds))
unfolding spelled_digits
spelled_digits-more k c cs g ds e =
    ap (λ (g : Option (List Digit)). joined_digits (joined_digits (spelled_digits k cs) g) (Some ds)) e ∙ joined_digits-some (spelled_digits k cs) g ds

-- What a call that reads one character tells of it
pub from_some : (o : Option (List Digit)) (v : Vector) → Some v ≡ option_map digits_alone o → (o ≡ Some v.digits) × (v ≡ digits_alone v.digits)
from_some None v h = cc
from_some (Some ds) v h =
    let e : v ≡ digits_alone ds = cc in
    let same = ap (λ (x : Vector). x.digits) e in
    (ap Some (sym same), e ∙ ap digits_alone (sym same))

pub from_none : (o : Option (List Digit)) → None ≡ option_map digits_alone o → o ≡ None
from_none None h = refl
from_none (Some ds) h = cc

-- The digit that fills goes on
fill-fill : (d : Digit) → fill_of (fill_of d) ≡ fill_of d
fill-fill Zero = refl
fill-fill One = refl
fill-fill X = refl
fill-fill Z = refl

and_both : (a b : Bool) → (a && b) ≡ true → (a ≡ true) × (b ≡ true)
and_both true b h = (refl, h)
and_both false b h = cc

list_all-get : (p : Digit → Bool) (xs : List Digit) (i : ℕ) (d : Digit) → list_all p xs ≡ true → i < length xs → p (get_or xs i d) ≡ true
list_all-get p [] i d h k = absurd (omega arith)
list_all-get p (x ∷ xs) zero d h k = (and_both _ _ h).0
list_all-get p (x ∷ xs) (suc i) d h k = list_all-get p xs i d (and_both _ _ h).1 (omega arith)

pub highest-append : (xs ys : List Digit) → 0 < length ys → highest (xs ++ ys) ≡ highest ys
highest-append xs ys h =
    let e : length (xs ++ ys) - 1 ≡ length xs + (length ys - 1) = omega (arith, length-append xs ys) in
    ap (λ n. get_or (xs ++ ys) n Zero) e ∙ get_or-append-add xs ys (length ys - 1) Zero

highest-all : (f : Digit) (xs : List Digit) → 0 < length xs → list_all (is_same f) xs ≡ true → f ≡ highest xs
highest-all f xs h all = same_digit f (highest xs) (list_all-get (is_same f) xs (length xs - 1) Zero all (omega arith))

highest-drop : (k : ℕ) (xs : List Digit) → k < length xs → highest xs ≡ highest (drop k xs)
highest-drop k xs h =
    let some : 0 < length (drop k xs) = omega (arith, length-drop k xs) in
    ap highest (sym (take-append-drop k xs)) ∙ highest-append (take k xs) (drop k xs) some

abbrev fills : ℕ → List Digit → Digit
fills w ds = fill_of (highest (take w ds))

is_held-short : (w : ℕ) (ds : List Digit) → length ds ≤ w → is_held w ds ≡ true
is_held-short w ds h = rw (drop_all w ds h) refl

k_or : (k w : ℕ) → k ≤ w → (k ≡ w) ⊎ (k < w)
k_or k w h = elim (eqb_tells k w) [ inl e ↦ inl e.1 | inr n ↦ let ne : k ≡ w → ⊥ = n.1 in inr (omega arith) ]

pub short_or : (n w : ℕ) → (n ≤ w) ⊎ (w < n)
short_or n w = elim (leb_tells n w) [ inl h ↦ inl h.1 | inr h ↦ inr h.1 ]

-- Where the digits up to `w` are filled from `k`, the same digit fills above them
fills-same : (k w : ℕ) (ds : List Digit) → k ≤ w → w < length ds → is_held k (take w ds) ≡ true → fills k ds ≡ fills w ds
fills-same k w ds le short held =
    elim (k_or k w le) [
      | inl e ↦ ap (λ n. fills n ds) e
      | inr lt ↦
          let len : length (take w ds) ≡ w = length-take-le w ds (omega arith) in
          let some : 0 < length (drop k (take w ds)) = omega (arith, len, length-drop k (take w ds)) in
          let low : highest (take k (take w ds)) ≡ highest (take k ds) = ap highest (take-take k w ds le) in
          let end : fills k (take w ds) ≡ highest (drop k (take w ds)) = highest-all (fills k (take w ds)) (drop k (take w ds)) some held in
          let all : fill_of (highest (take w ds)) ≡ fill_of (fills k (take w ds)) = ap fill_of (highest-drop k (take w ds) (omega (arith, len)) ∙ sym end) in
          ap fill_of (sym low) ∙ sym (all ∙ fill-fill (highest (take k (take w ds))))
    ]

held_cases : (a b c : Bool) → (a ≡ true → b ≡ c) → (a && b) ≡ (c && a)
held_cases true b true h = h refl
held_cases true b false h = h refl
held_cases false b true h = refl
held_cases false b false h = refl

-- Filling from fewer digits asks for more
pub is_held-take : (k w : ℕ) (ds : List Digit) → k ≤ w → is_held k ds ≡ (is_held w ds && is_held k (take w ds))
is_held-take k w ds le =
    elim (short_or (length ds) w) [
      | inl short ↦ rw (is_held-short w ds short, take_all w ds short) refl
      | inr long ↦
          let len : length (take w ds) ≡ w = length-take-le w ds (omega arith) in
          let parts : drop k ds ≡ drop k (take w ds) ++ drop w ds =
          ap (λ (xs : List Digit). drop k xs) (sym (take-append-drop w ds)) ∙ drop-append-le k (take w ds) (drop w ds) (omega (arith, len)) in
          let low : fills k ds ≡ fills k (take w ds) = ap (λ (xs : List Digit). fill_of (highest xs)) (sym (take-take k w ds le)) in
          let same = fills-same k w ds le long in
          ap (λ (xs : List Digit). list_all (is_same (fills k ds)) xs) parts
          ∙ list_all-append (is_same (fills k ds)) (drop k (take w ds)) (drop w ds)
          ∙ ap (λ (f : Digit). list_all (is_same f) (drop k (take w ds)) && list_all (is_same (fills k ds)) (drop w ds)) low
          ∙ held_cases (is_held k (take w ds)) (list_all (is_same (fills k ds)) (drop w ds)) (is_held w ds)
          (λ held. ap (λ (f : Digit). list_all (is_same f) (drop w ds)) (same held))
    ]

-- Digits below
take-below : (g ds : List Digit) (w : ℕ) → length g ≤ w → take w (g ++ ds) ≡ g ++ take (w - length g) ds
take-below g ds w h =
    let e : w ≡ length g + (w - length g) = omega arith in
    ap (λ n. take n (g ++ ds)) e ∙ take-append-add g ds (w - length g)

drop-below : (g ds : List Digit) (w : ℕ) → length g ≤ w → drop w (g ++ ds) ≡ drop (w - length g) ds
drop-below g ds w h =
    let e : w ≡ length g + (w - length g) = omega arith in
    ap (λ n. drop n (g ++ ds)) e ∙ sym (drop-drop (w - length g) (length g) (g ++ ds))
    ∙ ap (λ (xs : List Digit). drop (w - length g) xs) (drop_at g ds (length g) refl)

is_held-below : (g ds : List Digit) (w : ℕ) → length g < w → 0 < length ds → is_held w (g ++ ds) ≡ is_held (w - length g) ds
is_held-below g ds w h some =
    let low : 0 < length (take (w - length g) ds) = omega (arith, length-take (w - length g) ds) in
    let same : highest (take w (g ++ ds)) ≡ highest (take (w - length g) ds) =
    ap highest (take-below g ds w (omega arith)) ∙ highest-append g (take (w - length g) ds) low in
    ap (λ (d : Digit). list_all (is_same (fill_of d)) (drop w (g ++ ds))) same
    ∙ ap (λ (xs : List Digit). list_all (is_same (fills (w - length g) ds)) xs) (drop-below g ds w (omega arith))

pub pattern_of-pushed : (ds g : List Digit) → length g ≤ 4 → 0 < length ds → pattern_pushed (pattern_of ds) g ≡ pattern_of (g ++ ds)
pattern_of-pushed ds g most some =
    let kept : take (MAX_WIDTH - length g) (take MAX_WIDTH ds) ≡ take (MAX_WIDTH - length g) ds = take-take (MAX_WIDTH - length g) MAX_WIDTH ds (omega arith) in
    let value : g ++ take (MAX_WIDTH - length g) (take MAX_WIDTH ds) ≡ take MAX_WIDTH (g ++ ds) =
    ap (λ (xs : List Digit). g ++ xs) kept ∙ sym (take-below g ds MAX_WIDTH (omega arith)) in
    let held : (is_held MAX_WIDTH ds && is_held (MAX_WIDTH - length g) (take MAX_WIDTH ds)) ≡ is_held MAX_WIDTH (g ++ ds) =
    sym (is_held-below g ds MAX_WIDTH (omega arith) some ∙ is_held-take (MAX_WIDTH - length g) MAX_WIDTH ds (omega arith)) in
    ap (λ (xs : List Digit). record { value = digits_alone xs; is_held = is_held MAX_WIDTH ds && is_held (MAX_WIDTH - length g) (take MAX_WIDTH ds) }) value
    ∙ ap (λ (b : Bool). record { value = digits_alone (take MAX_WIDTH (g ++ ds)); is_held = b }) held

-- The digits of one character
pub pattern_of-short : (v : Vector) → v ≡ digits_alone v.digits → length v.digits ≤ 4 → record { value = v; is_held = true } ≡ pattern_of v.digits
pattern_of-short v e h =
    let all : take MAX_WIDTH v.digits ≡ v.digits = take_all MAX_WIDTH v.digits (omega arith) in
    let held : is_held MAX_WIDTH v.digits ≡ true = is_held-short MAX_WIDTH v.digits (omega arith) in
    let value : v ≡ digits_alone (take MAX_WIDTH v.digits) = e ∙ ap digits_alone (sym all) in
    let p : Pattern → Pattern = λ q. q in
    ap (λ (x : Vector). p (record { value = x; is_held = true })) value
    ∙ ap (λ (b : Bool). p (record { value = digits_alone (take MAX_WIDTH v.digits); is_held = b })) (sym held)

-- A text of which one character has no digits
pub spelled_digits-none : (k c : ℕ) (cs : List ℕ) → character_digits k c ≡ None → spelled_digits k (c ∷ cs) ≡ None
spelled_digits-none k c cs e = sym (joined_digits-nil (spelled_digits k (c ∷ cs))) ∙ spelled_digits-stop k c cs (Some []) e

-- A text by its first character
pub spelled_digits-first : (k c : ℕ) (cs : List ℕ) (g : List Digit) → character_digits k c ≡ Some g
    → spelled_digits k (c ∷ cs) ≡ joined_digits (spelled_digits k cs) (Some g)
spelled_digits-first k c cs g e =
    sym (joined_digits-nil (spelled_digits k (c ∷ cs))) ∙ spelled_digits-more k c cs g [] e ∙ ap (λ (xs : List Digit). joined_digits (spelled_digits k cs) (Some xs)) (append-nil g)
