-- Lemmas on `specs/Texts.antt`: the columns of the greatest number of a width, and the number of known digits.
use Rattle.std.proofs.Common.{◌≡◌, ◌∙◌, ◌<◌, ◌≤◌, ◌+◌, ◌-◌, ◌*◌, ◌/◌, ◌^◌, ◌==◌, ◌&&◌, nat_le, ℕ, zero, suc, Bool, true, false, List, length, get_or, drop, Some, slice_get, refl, sym, ap, arith}
use Rattle.std.specs.Fmt.{decimal, digits}
use Rattle.std.proofs.lemmas.Bool.{eqb-true, eqb-false, leb-true}
use Rattle.std.proofs.lemmas.List.{at_drop_more, drop_all, length-drop}
use Rattle.std.proofs.lemmas.Option.{slice_get_within, get_or_from_slice_get}
use Rattle.std.proofs.Math.Pow.{pow_mono}
use Rattle.vh_logic.specs.declared.digits.Digit.{Digit}
use Rattle.vh_logic.specs.declared.vector.TheConstants.{MAX_WIDTH}
use Rattle.vh_logic.specs.Number.{number_of, digit_value}
use Rattle.vh_design_nodes.proofs.FitsLemmas.{and_left, and_right}
use Rattle.vh_eval.proofs.SelectsLemmas.{number_below, value_most}

-- A test of each number below one, and what it says of each.
all_below : ℕ → (ℕ → Bool) → Bool
all_below zero test = true
all_below (suc n) test = test n && all_below n test

test_by : (b : Bool) (n : ℕ) (test : ℕ → Bool) (k : ℕ) → (k == n) ≡ b → test n ≡ true → k < suc n
    → (k < n → test k ≡ true) → test k ≡ true
test_by true n test k is here lt below = ap test (eqb-true k n is) ∙ here
test_by false n test k is here lt below = let apart = eqb-false k n is in below (omega (arith, apart))

test_below : (n : ℕ) (test : ℕ → Bool) (k : ℕ) → all_below n test ≡ true → k < n → test k ≡ true
unfolding all_below
test_below zero test k h lt = absurd (omega arith)
test_below (suc n) test k h lt =
    test_by (k == n) n test k refl (and_left (test n) (all_below n test) h) lt
    (test_below n test k (and_right (test n) (all_below n test) h))

has_columns : ℕ → Bool
has_columns w = (w * 1233 / 4096 + 1) == length (decimal (2 ^ w - 1))

all_have_columns : all_below (MAX_WIDTH + 1) has_columns ≡ true
unfolding all_below has_columns digits
all_have_columns = refl

-- The greatest number of a width has so many columns.
pub columns_are : (w : ℕ) → w ≤ MAX_WIDTH → w * 1233 / 4096 + 1 ≡ length (decimal (2 ^ w - 1))
unfolding has_columns
columns_are w most = eqb-true (w * 1233 / 4096 + 1) (length (decimal (2 ^ w - 1))) (test_below (MAX_WIDTH + 1) has_columns w all_have_columns (omega arith))

-- The number of the digits from a place on.
known_below : (ds : List Digit) (k n : ℕ) → 1 ≤ k → length ds ≤ MAX_WIDTH → n ≡ number_of (drop k ds) → n < 2 ^ 63
known_below ds k n some most is =
    let less = number_below (drop k ds) in
    let size : 2 ^ length (drop k ds) ≤ 2 ^ 63 = pow_mono {i = length (drop k ds)} {j = 63} (omega (arith, length-drop k ds)) in
    omega (arith, is, less, size)

pub known_twice : (ds : List Digit) (k n : ℕ) → 1 ≤ k → length ds ≤ MAX_WIDTH → n ≡ number_of (drop k ds) → 2 * n < 2 ^ 64
known_twice ds k n some most is = let less = known_below ds k n some most is in omega (arith, less)

pub known_fits : (ds : List Digit) (k n : ℕ) (d : Digit) → 1 ≤ k → length ds ≤ MAX_WIDTH → n ≡ number_of (drop k ds)
    → 2 * n + digit_value d < 2 ^ 64
known_fits ds k n d some most is =
    let less = known_below ds k n some most is in let bit = value_most d in omega (arith, less, bit)

pub known_more : (ds : List Digit) (k n : ℕ) (d : Digit) → slice_get ds k ≡ Some d → n ≡ number_of (drop (k + 1) ds)
    → 2 * n + digit_value d ≡ number_of (drop k ds)
unfolding number_of
known_more ds k n d at is =
    let inside = slice_get_within ds k d at in
    let more : number_of (drop k ds) ≡ digit_value (get_or ds k d) + 2 * number_of (drop (k + 1) ds) =
    at_drop_more number_of ds k d inside in
    let here : get_or ds k d ≡ d = get_or_from_slice_get ds k d d at in
    let same : digit_value (get_or ds k d) ≡ digit_value d = ap digit_value here in
    omega (arith, more, same, is)

pub known_none : (ds : List Digit) (k : ℕ) → k ≡ length ds → 0 ≡ number_of (drop k ds)
unfolding number_of
known_none ds k is = sym (ap number_of (drop_all k ds (omega (arith, is))))

is_below : ℕ → Bool
is_below k = nat_le (10 ^ k) (10 ^ 17)

all_are_below : all_below 18 is_below ≡ true
unfolding all_below is_below
all_are_below = refl

-- A unit is at most so many times the precision.
pub ratio_most : (k : ℕ) → k ≤ 17 → 10 ^ k ≤ 10 ^ 17
unfolding is_below
ratio_most k most = leb-true (10 ^ k) (10 ^ 17) (test_below 18 is_below k all_are_below (omega arith))
