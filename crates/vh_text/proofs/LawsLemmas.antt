-- That the texts of a value are read as its digits.
use Rattle.std.proofs.Common.{◌≡◌, ℕ, suc, ◌+◌, ◌*◌, ◌/◌, ◌%◌, ◌^◌, ◌<◌, ◌≤◌, List, [], ◌∷◌, ◌++◌, length, drop, replicate, get_or, refl, ap, arith, ◌∙◌, sym, Bool, true, false, cond, eqb, ltb, Option, Some, None, inl, inr, append_assoc, append-nil}
use Rattle.std.specs.Prelude.{◌&&◌, not}
use Rattle.std.specs.List.{list_all, position, prefix_len}
use Rattle.std.specs.Fmt.{digits}
use Rattle.std.specs.Str.Parse.{digits_value}
use Rattle.std.proofs.lemmas.Fmt.{digits_is_IsNumeral}
use Rattle.std.proofs.lemmas.List.{length-append, take_all, take-append-le, take_at, drop_at}
use Rattle.std.proofs.lemmas.Bool.{lt-ltb, ne_eqb}
use Rattle.std.proofs.lemmas.Bool.Decides.{eqb_tells}
use Rattle.std.proofs.Math.Nat.{pow-suc}
use Rattle.std.proofs.Math.Pow.{pow_mono}
use Rattle.vh_logic.specs.declared.digits.Digit.{Digit}
use Rattle.vh_logic.specs.declared.digits.Digit.TheVariants.{Zero, One, X, Z}
use Rattle.vh_logic.specs.Vector.{Vector}
use Rattle.vh_logic.specs.declared.vector.TheConstants.{MAX_WIDTH}
use Rattle.vh_logic.specs.Number.{binary, number_of}
use Rattle.vh_logic.specs.Planes.{digit_of, digits_of, plane_of, aval_bit, bval_bit}
use Rattle.vh_text.specs.Texts.{groups_text, group_count, character_text, digits_text, vector_text}
use Rattle.vh_text.specs.Digits.{character_digits, joined_digits, spelled_digits}
use Rattle.vh_text.specs.Views.{digits_alone}
use Rattle.vh_text.specs.Values.{string_value, cut_or_padded, is_lower_hex, has_plane_form, plane_value, planes_value, parted_value}
use Rattle.vh_text.proofs.HexLemmas.{text-hex, text-length, text-first, text-zero}
use Rattle.vh_text.proofs.ValuesLemmas.{is_length-is, string_value-is}

-- Joined parts, in any order of joining
joined_digits-assoc : (a b c : Option (List Digit)) → joined_digits (joined_digits a b) c ≡ joined_digits a (joined_digits b c)
joined_digits-assoc None b c = refl
joined_digits-assoc (Some a) None c = refl
joined_digits-assoc (Some a) (Some b) None = refl
joined_digits-assoc (Some a) (Some b) (Some c) = ap Some (append_assoc a b c)

joined_digits-end : (a : Option (List Digit)) → joined_digits a (Some []) ≡ a
joined_digits-end None = refl
joined_digits-end (Some a) = ap Some (append-nil a)

spelled_digits-append : (k : ℕ) (xs ys : List ℕ) → spelled_digits k (xs ++ ys) ≡ joined_digits (spelled_digits k ys) (spelled_digits k xs)
unfolding spelled_digits
spelled_digits-append k [] ys = sym (joined_digits-end (spelled_digits k ys))
spelled_digits-append k (x ∷ xs) ys =
    ap (λ (o : Option (List Digit)). joined_digits o (character_digits k x)) (spelled_digits-append k xs ys)
    ∙ joined_digits-assoc (spelled_digits k ys) (spelled_digits k xs) (character_digits k x)

-- One digit, written and read
spelled_digit : (d : Digit) → spelled_digits 1 (character_text (d ∷ [])) ≡ Some (d ∷ [])
unfolding spelled_digits binary number_of
spelled_digit Zero = refl
spelled_digit One = refl
spelled_digit X = refl
spelled_digit Z = refl

length-digit : (d : Digit) → length (character_text (d ∷ [])) ≡ 1
length-digit Zero = refl
length-digit One = refl
length-digit X = refl
length-digit Z = refl

-- All digits, written and read
spelled_digits-binary : (ds : List Digit) → spelled_digits 1 (groups_text (length ds) 1 ds) ≡ Some ds
unfolding groups_text spelled_digits
spelled_digits-binary [] = refl
spelled_digits-binary (d ∷ ds) =
    spelled_digits-append 1 (groups_text (length ds) 1 ds) (character_text (d ∷ []))
    ∙ ap (λ (o : Option (List Digit)). joined_digits o (spelled_digits 1 (groups_text (length ds) 1 ds))) (spelled_digit d)
    ∙ ap (λ (o : Option (List Digit)). joined_digits (Some (d ∷ [])) o) (spelled_digits-binary ds)

length-binary : (ds : List Digit) → length (groups_text (length ds) 1 ds) ≡ length ds
unfolding groups_text
length-binary [] = refl
length-binary (d ∷ ds) =
    length-append (groups_text (length ds) 1 ds) (character_text (d ∷ [])) ∙ omega (arith, length-binary ds, length-digit d)

digits_text-binary : (v : Vector) → digits_text 1 v ≡ groups_text (length v.digits) 1 v.digits
digits_text-binary v = let e : group_count 1 (length v.digits) ≡ length v.digits = omega arith in ap (λ n. groups_text n 1 v.digits) e

cut_or_padded-whole : (ds : List Digit) → cut_or_padded (length ds) ds ≡ digits_alone ds
cut_or_padded-whole ds =
    ap (λ (xs : List Digit). digits_alone xs) (take-append-le (length ds) ds (replicate (length ds) Zero) (omega arith) ∙ take_all (length ds) ds (omega arith))

pub binary_back : (v : Vector) → 1 ≤ length v.digits → length v.digits ≤ MAX_WIDTH
    → string_value 1 (length v.digits) (digits_text 1 v) ≡ Some (digits_alone v.digits)
binary_back v least most =
    let ds = v.digits in
    let text : List ℕ = groups_text (length ds) 1 ds in
    let fits = is_length-is 1 text (omega (arith, length-binary ds)) (omega (arith, length-binary ds)) in
    ap (λ (bs : List ℕ). string_value 1 (length ds) bs) (digits_text-binary v)
    ∙ string_value-is 1 (length ds) text ds fits (spelled_digits-binary ds)
    ∙ ap (λ (x : Vector). Some x) (cut_or_padded-whole ds)

-- The text of a plane, read again
plane_form : (cs : List ℕ) → 0 < length cs → length cs ≤ group_count 4 MAX_WIDTH → (get_or cs 0 0 ≡ 48 → ⊥) → has_plane_form cs ≡ true
plane_form cs some short first = rw (is_length-is 4 cs some short, ne_eqb (get_or cs 0 0) 48 first) refl

plane_value-is : (cs : List ℕ) → has_plane_form cs ≡ true → list_all is_lower_hex cs ≡ true → plane_value cs ≡ Some (digits_value 16 cs)
plane_value-is cs form hex = rw (form, hex) refl

plane_back : (n : ℕ) → n < 2 ^ MAX_WIDTH → plane_value (digits 16 false n) ≡ Some n
plane_back n h =
    let numeral = digits_is_IsNumeral 16 false (omega arith) (omega arith) n (omega arith) in
    let form : has_plane_form (digits 16 false n) ≡ true =
    elim (eqb_tells n 0) [
      | inl e ↦ let none : n ≡ 0 = e.1 in rw (none, text-zero) refl
      | inr e ↦ let some : n ≡ 0 → ⊥ = e.1 in plane_form (digits 16 false n) numeral.0.0 (text-length n h) (text-first n (omega arith) h)
    ] in
    plane_value-is (digits 16 false n) form (text-hex n) ∙ ap (λ m. Some m) numeral.1

-- The colon between two planes
no_colon : (c : ℕ) → is_lower_hex c ≡ true → eqb c 58 ≡ false
no_colon c h =
    elim (eqb_tells c 58) [
      | inl e ↦ let at : c ≡ 58 = e.1 in let no : is_lower_hex c ≡ false = rw at refl in cc
      | inr e ↦ e.0
    ]

and_both : (a b : Bool) → (a && b) ≡ true → (a ≡ true) × (b ≡ true)
and_both true b h = (refl, h)
and_both false b h = cc

before-colon : (xs ys : List ℕ) → list_all is_lower_hex xs ≡ true → prefix_len (λ x. not (eqb x 58)) (xs ++ (58 ∷ ys)) ≡ length xs
before-colon [] ys h = refl
before-colon (x ∷ xs) ys h =
    let parts = and_both (is_lower_hex x) (list_all is_lower_hex xs) h in
    rw (no_colon x parts.0, before-colon xs ys parts.1) (omega arith)

place_found : (n m : ℕ) → n < m → cond (ltb n m) (Some n) None ≡ Some n
place_found n m h = rw (lt-ltb n m h) refl

colon_position : (xs ys : List ℕ) → list_all is_lower_hex xs ≡ true → position (λ b. eqb b 58) (xs ++ (58 ∷ ys)) ≡ Some (length xs)
colon_position xs ys h =
    let at = before-colon xs ys h in
    let inside : length xs < length (xs ++ (58 ∷ ys)) = omega (arith, length-append xs (58 ∷ ys)) in
    ap (λ n. cond (ltb n (length (xs ++ (58 ∷ ys)))) (Some n) None) at ∙ place_found (length xs) (length (xs ++ (58 ∷ ys))) inside

after-colon : (xs ys : List ℕ) → drop (length xs + 1) (xs ++ (58 ∷ ys)) ≡ ys
after-colon xs ys =
    let front : length (xs ++ (58 ∷ [])) ≡ length xs + 1 = length-append xs (58 ∷ []) in
    ap (λ (zs : List ℕ). drop (length xs + 1) zs) (sym (append_assoc xs (58 ∷ []) ys)) ∙ drop_at (xs ++ (58 ∷ [])) ys (length xs + 1) front

-- Two planes give the digits that they hold
aval_bit-le : (d : Digit) → aval_bit d ≤ 1
aval_bit-le Zero = omega arith
aval_bit-le One = omega arith
aval_bit-le X = omega arith
aval_bit-le Z = omega arith

bval_bit-le : (d : Digit) → bval_bit d ≤ 1
bval_bit-le Zero = omega arith
bval_bit-le One = omega arith
bval_bit-le X = omega arith
bval_bit-le Z = omega arith

digit_of-bits : (d : Digit) → digit_of (aval_bit d) (bval_bit d) ≡ d
digit_of-bits Zero = refl
digit_of-bits One = refl
digit_of-bits X = refl
digit_of-bits Z = refl

bit_split : (b p : ℕ) → b ≤ 1 → ((b + 2 * p) % 2 ≡ b) × ((b + 2 * p) / 2 ≡ p)
bit_split b p h = (omega arith, omega arith)

digits_of-planes : (ds : List Digit) → digits_of (length ds) (plane_of aval_bit ds) (plane_of bval_bit ds) ≡ ds
unfolding digits_of plane_of
digits_of-planes [] = refl
digits_of-planes (d ∷ ds) =
    let a = bit_split (aval_bit d) (plane_of aval_bit ds) (aval_bit-le d) in
    let b = bit_split (bval_bit d) (plane_of bval_bit ds) (bval_bit-le d) in
    rw (a.0, a.1, b.0, b.1, digit_of-bits d, digits_of-planes ds) refl

plane_of-lt : (bit : Digit → ℕ) → ((d : Digit) → bit d ≤ 1) → (ds : List Digit) → plane_of bit ds < 2 ^ length ds
unfolding plane_of
plane_of-lt bit h [] = omega arith
plane_of-lt bit h (d ∷ ds) =
    let power : 2 ^ suc (length ds) ≡ 2 * 2 ^ length ds = rw pow-suc (omega arith) in
    omega (arith, power, h d, plane_of-lt bit h ds)

plane-fits : (bit : Digit → ℕ) → ((d : Digit) → bit d ≤ 1) → (ds : List Digit) → length ds ≤ MAX_WIDTH → plane_of bit ds < 2 ^ MAX_WIDTH
plane-fits bit h ds short = let most : 2 ^ length ds ≤ 2 ^ MAX_WIDTH = pow_mono short in omega (arith, most, plane_of-lt bit h ds)

planes_at : (w : ℕ) (xs ys : List ℕ) (a b : ℕ) → list_all is_lower_hex xs ≡ true → plane_value xs ≡ Some a → plane_value ys ≡ Some b
    → parted_value w (xs ++ (58 ∷ ys)) (position (λ c. eqb c 58) (xs ++ (58 ∷ ys))) ≡ Some (digits_alone (digits_of w a b))
planes_at w xs ys a b hex e f =
    ap (λ (o : Option ℕ). parted_value w (xs ++ (58 ∷ ys)) o) (colon_position xs ys hex)
    ∙ ap (λ (zs : List ℕ). planes_value w (plane_value zs) (plane_value (drop (length xs + 1) (xs ++ (58 ∷ ys))))) (take_at xs (58 ∷ ys) (length xs) refl)
    ∙ ap (λ (zs : List ℕ). planes_value w (plane_value xs) (plane_value zs)) (after-colon xs ys)
    ∙ ap (λ (o : Option ℕ). planes_value w o (plane_value ys)) e
    ∙ ap (λ (o : Option ℕ). planes_value w (Some a) o) f

pub planes_back : (v : Vector) → length v.digits ≤ MAX_WIDTH
    → parted_value (length v.digits) (vector_text v) (position (λ b. eqb b 58) (vector_text v)) ≡ Some (digits_alone v.digits)
planes_back v short =
    let ds = v.digits in
    let a : ℕ = plane_of aval_bit ds in
    let b : ℕ = plane_of bval_bit ds in
    planes_at (length ds) (digits 16 false a) (digits 16 false b) a b (text-hex a)
    (plane_back a (plane-fits aval_bit aval_bit-le ds short)) (plane_back b (plane-fits bval_bit bval_bit-le ds short))
    ∙ ap (λ (xs : List Digit). Some (digits_alone xs)) (digits_of-planes ds)
