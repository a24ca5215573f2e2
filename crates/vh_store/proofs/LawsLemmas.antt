-- How drivers' digits are joined, position by position and in any order.
use Rattle.std.proofs.Common.{◌≡◌, ◌∙◌, ℕ, zero, suc, ◌+◌, ◌-◌, ◌<◌, ◌≤◌, min, nat_lt, List, [], ◌∷◌, ◌++◌, map, length, take, drop, replicate, get_or, Bool, true, false, ◌&&◌, ⊎_elim, refl, ap, sym, arith, length-append, length-drop}
use Rattle.std.specs.List.{fold}
use Rattle.std.specs.Prelude.{slice_index_or}
use Rattle.std.proofs.lemmas.List.{length-replicate, length-take, get_or-replicate, get_or-take, get_or-drop, get_or_append_left, get_or-append_right, get_or_past}
use Rattle.std.proofs.lemmas.List.Sums.{fold-append}
use Rattle.std.proofs.lemmas.Bool.{ltb-true, ltb-false, lt-ltb, cases_lt}
use Rattle.vh_logic.specs.declared.digits.Digit.{Digit}
use Rattle.vh_logic.specs.declared.digits.Digit.TheVariants.{Z}
use Rattle.vh_logic.specs.Vector.{Vector, width_of, filled, zip_digits}
use Rattle.vh_logic.specs.Digit.{is_same}
use Rattle.vh_logic.proofs.Tables.{same_digit, all_digits, at_digit}
use Rattle.vh_design_nodes.specs.declared.object.NetType.{NetType}
use Rattle.vh_design_nodes.specs.declared.object.NetType.TheVariants as net
use Rattle.vh_design_nodes.proofs.FitsLemmas.{and_left}
use Rattle.vh_store.specs.declared.net.Driven.{Driven}
use Rattle.vh_store.specs.Resolution.{wire_digit, wired_and_digit, wired_or_digit, digit_joined, digits_inside, placed, with_driver}
use Rattle.vh_store.specs.Laws.{digit_given, JoinsDigits, HasNoOrder}

-- Two digits that are joined one after the other may change positions.
abbrev swaps : (Digit → Digit → Digit) → Digit → Digit → Digit → Bool
swaps f c d e = is_same (f (f c d) e) (f (f c e) d)

by-table : (f : Digit → Digit → Digit) → all_digits (λ c. all_digits (λ d. all_digits (swaps f c d))) ≡ true
    → (c d e : Digit) → f (f c d) e ≡ f (f c e) d
by-table f rows c d e =
    same_digit _ _ (at_digit (swaps f c d) (at_digit (λ d. all_digits (swaps f c d)) (at_digit (λ c. all_digits (λ d. all_digits (swaps f c d))) rows c) d) e)

swapped : (t : NetType) (c d e : Digit) → digit_joined t (digit_joined t c d) e ≡ digit_joined t (digit_joined t c e) d
swapped net.Wire c d e = by-table wire_digit refl c d e
swapped net.Tri c d e = by-table wire_digit refl c d e
swapped net.Wand c d e = by-table wired_and_digit refl c d e
swapped net.TriAnd c d e = by-table wired_and_digit refl c d e
swapped net.Wor c d e = by-table wired_or_digit refl c d e
swapped net.TriOr c d e = by-table wired_or_digit refl c d e

-- So may vectors.
all-swapped : (t : NetType) (xs ys zs : List Digit)
    → zip_digits (digit_joined t) (zip_digits (digit_joined t) xs ys) zs ≡ zip_digits (digit_joined t) (zip_digits (digit_joined t) xs zs) ys
unfolding zip_digits
all-swapped t [] ys zs = refl
all-swapped t (a ∷ xs) [] [] = refl
all-swapped t (a ∷ xs) [] (c ∷ zs) = refl
all-swapped t (a ∷ xs) (b ∷ ys) [] = refl
all-swapped t (a ∷ xs) (b ∷ ys) (c ∷ zs) =
    ap (λ (d : Digit). d ∷ zip_digits (digit_joined t) (zip_digits (digit_joined t) xs ys) zs) (swapped t a b c)
    ∙ ap (λ (ds : List Digit). digit_joined t (digit_joined t a c) b ∷ ds) (all-swapped t xs ys zs)

abbrev of_parts : List Digit → Bool → Vector
of_parts ds s = record { digits = ds; signed = s }

pub has-no-order : HasNoOrder
has-no-order t u c d before after =
    let F = with_driver t u in
    let v = fold F u before in
    fold-append F u before (c ∷ d ∷ after)
    ∙ ap (λ (ds : List Digit). fold F (of_parts ds v.signed) after)
    (all-swapped t v.digits (placed u c).digits (placed u d).digits)
    ∙ sym (fold-append F u before (d ∷ c ∷ after))

-- Digits at a position of what is joined.
joined-at : (t : NetType) (xs ys : List Digit) (i : ℕ) → length xs ≡ length ys → i < length xs
    → slice_index_or (zip_digits (digit_joined t) xs ys) i Z ≡ digit_joined t (slice_index_or xs i Z) (slice_index_or ys i Z)
unfolding zip_digits
joined-at t [] ys i same inside = absurd (omega arith)
joined-at t (a ∷ xs) [] i same inside = absurd (omega arith)
joined-at t (a ∷ xs) (b ∷ ys) zero same inside = refl
joined-at t (a ∷ xs) (b ∷ ys) (suc i) same inside = joined-at t xs ys i (omega arith) (omega arith)

length-joined : (f : Digit → Digit → Digit) (xs ys : List Digit) → length xs ≡ length ys → length (zip_digits f xs ys) ≡ length xs
unfolding zip_digits
length-joined f [] ys same = refl
length-joined f (a ∷ xs) [] same = absurd (omega arith)
length-joined f (a ∷ xs) (b ∷ ys) same = ap suc (length-joined f xs ys (omega arith))

-- A driver's digits inside its net.
abbrev inside : ℕ → Driven → List Digit
inside w d = (digits_inside w d).digits

length-put : (us ps : List Digit) (low : ℕ) → low + length ps ≤ length us
    → length (take low us ++ (ps ++ drop (low + length ps) us)) ≡ length us
length-put us ps low fits =
    let a = length-append (take low us) (ps ++ drop (low + length ps) us) in
    let b = length-append ps (drop (low + length ps) us) in
    omega (arith, a, b, length-take low us, length-drop (low + length ps) us)

length-inside : (w : ℕ) (d : Driven) → length (inside w d) ≡ min (width_of d.value - d.below) (w - d.low)
length-inside w d =
    length-take (min (width_of d.value - d.below) (w - d.low)) (drop d.below d.value.digits)
    ∙ omega (arith, length-drop d.below d.value.digits)

abbrev fits : ℕ → Driven → Bool
fits w d = nat_lt d.low w && nat_lt d.below (width_of d.value)

width-by : (b : Bool) (u : Vector) (d : Driven) → fits (width_of u) d ≡ b → width_of (placed u d) ≡ width_of u
width-by true u d is =
    let low = ltb-true d.low (width_of u) (and_left (nat_lt d.low (width_of u)) (nat_lt d.below (width_of d.value)) is) in
    rw is (length-put u.digits (inside (width_of u) d) d.low (omega (arith, low, length-inside (width_of u) d)))
width-by false u d is = rw is refl

width-placed : (u : Vector) (d : Driven) → width_of (placed u d) ≡ width_of u
width-placed u d = width-by (fits (width_of u) d) u d refl

-- The digit at a position of a row of z into which some digits are put.
under : (w low i : ℕ) (ps : List Digit) → low < w → i < low
    → get_or (take low (replicate w Z) ++ (ps ++ drop (low + length ps) (replicate w Z))) i Z ≡ Z
under w low i ps inside below =
    let all : length (replicate w Z) ≡ w = length-replicate w Z in
    let front = length-take low (replicate w Z) in
    get_or_append_left (take low (replicate w Z)) _ Z i (omega (arith, all, front))
    ∙ (get_or-take low (replicate w Z) i Z below ∙ get_or-replicate w i Z Z (omega arith))

over : (w low i : ℕ) (ps : List Digit) → low + length ps ≤ w → low ≤ i → i < w
    → get_or (take low (replicate w Z) ++ (ps ++ drop (low + length ps) (replicate w Z))) i Z ≡ get_or ps (i - low) Z
over w low i ps whole from inside =
    let all : length (replicate w Z) ≡ w = length-replicate w Z in
    let front : length (take low (replicate w Z)) ≡ low = length-take low (replicate w Z) ∙ omega (arith, all) in
    get_or-append_right (take low (replicate w Z)) _ low i Z front from
    ∙ ⊎_elim
    (λ (here : i - low < length ps). get_or_append_left ps _ Z (i - low) here)
    (λ (past : length ps ≤ i - low).
    get_or-append_right ps (drop (low + length ps) (replicate w Z)) (length ps) (i - low) Z refl past
    ∙ (get_or-drop (low + length ps) (replicate w Z) (i - low - length ps) Z
    ∙ (get_or-replicate w (low + length ps + (i - low - length ps)) Z Z (omega arith)
    ∙ sym (get_or_past ps (i - low) Z past))))
    (cases_lt (i - low) (length ps))

-- Past a driver's digits it has none.
of-inside : (w : ℕ) (d : Driven) (j : ℕ) → j < w - d.low → get_or (inside w d) j Z ≡ get_or d.value.digits (d.below + j) Z
of-inside w d j room =
    ⊎_elim
    (λ (here : j < width_of d.value - d.below).
    get_or-take (min (width_of d.value - d.below) (w - d.low)) (drop d.below d.value.digits) j Z (omega arith)
    ∙ get_or-drop d.below d.value.digits j Z)
    (λ (past : width_of d.value - d.below ≤ j).
    get_or_past (inside w d) j Z (omega (arith, length-inside w d))
    ∙ sym (get_or_past d.value.digits (d.below + j) Z (omega arith)))
    (cases_lt j (width_of d.value - d.below))

given-by : (b : Bool) (i : ℕ) (d : Driven) → nat_lt i d.low ≡ b → (i < d.low → digit_given i d ≡ Z)
    × (d.low ≤ i → digit_given i d ≡ get_or d.value.digits (d.below + (i - d.low)) Z)
given-by true i d is = ((λ below. rw is refl), (λ above. let below = ltb-true i d.low is in absurd (omega arith)))
given-by false i d is = ((λ below. let above = ltb-false i d.low is in absurd (omega arith)), (λ above. rw is refl))

placed-by : (b : Bool) (w : ℕ) (g : Bool) (d : Driven) (i : ℕ) → fits (width_of (filled w Z g)) d ≡ b → i < w
    → get_or (placed (filled w Z g) d).digits i Z ≡ digit_given i d
placed-by true w g d i is within =
    let all : width_of (filled w Z g) ≡ w = length-replicate w Z in
    let low = ltb-true d.low _ (and_left (nat_lt d.low (width_of (filled w Z g))) (nat_lt d.below (width_of d.value)) is) in
    let given = given-by (nat_lt i d.low) i d refl in
    let ps = inside (width_of (filled w Z g)) d in
    let long = length-inside (width_of (filled w Z g)) d in
    rw is (⊎_elim
    (λ (below : i < d.low). under w d.low i ps (omega (arith, all, low)) below ∙ sym (given.0 below))
    (λ (above : d.low ≤ i).
    over w d.low i ps (omega (arith, all, low, long)) above within
    ∙ (of-inside (width_of (filled w Z g)) d (i - d.low) (omega (arith, all)) ∙ sym (given.1 above)))
    (cases_lt i d.low))
placed-by false w g d i is within =
    let all : width_of (filled w Z g) ≡ w = length-replicate w Z in
    let given = given-by (nat_lt i d.low) i d refl in
    rw is (get_or-replicate w i Z Z within ∙ sym (⊎_elim
    (λ (below : i < d.low). given.0 below)
    (λ (above : d.low ≤ i). given.1 above
    ∙ get_or_past d.value.digits (d.below + (i - d.low)) Z (outside above))
    (cases_lt i d.low)))
  where
    outside : d.low ≤ i → width_of d.value ≤ d.below + (i - d.low)
    outside above =
        let all : width_of (filled w Z g) ≡ w = length-replicate w Z in
        let low : nat_lt d.low (width_of (filled w Z g)) ≡ true = lt-ltb d.low (width_of (filled w Z g)) (omega (arith, all)) in
        let none : nat_lt d.below (width_of d.value) ≡ false = sym (ap (λ (b : Bool). b && nat_lt d.below (width_of d.value)) low) ∙ is in
        let over = ltb-false d.below (width_of d.value) none in
        omega arith

digit-placed : (w : ℕ) (g : Bool) (d : Driven) (i : ℕ) → i < w → slice_index_or (placed (filled w Z g) d).digits i Z ≡ digit_given i d
digit-placed w g d i within = placed-by (fits (width_of (filled w Z g)) d) w g d i refl within

-- Each digit of a resolution.
digits-from : (t : NetType) (w : ℕ) (g : Bool) (v : Vector) (ds : List Driven) (i : ℕ) → width_of v ≡ w → i < w
    → slice_index_or (fold (with_driver t (filled w Z g)) v ds).digits i Z
    ≡ fold (digit_joined t) (slice_index_or v.digits i Z) (map (digit_given i) ds)
digits-from t w g v [] i same within = refl
digits-from t w g v (d ∷ ds) i same within =
    let u = filled w Z g in
    let wide : width_of (placed u d) ≡ w = width-placed u d ∙ length-replicate w Z in
    digits-from t w g (with_driver t u v d) ds i
    (length-joined (digit_joined t) v.digits (placed u d).digits (same ∙ sym wide) ∙ same) within
    ∙ ap (λ (e : Digit). fold (digit_joined t) e (map (digit_given i) ds))
    (joined-at t v.digits (placed u d).digits i (same ∙ sym wide) (omega (arith, same))
    ∙ ap (λ (e : Digit). digit_joined t (slice_index_or v.digits i Z) e) (digit-placed w g d i within))

pub joins-digits : JoinsDigits
joins-digits t w g ds i within =
    digits-from t w g (filled w Z g) ds i (length-replicate w Z) within
    ∙ ap (λ (e : Digit). fold (digit_joined t) e (map (digit_given i) ds)) (get_or-replicate w i Z Z within)
