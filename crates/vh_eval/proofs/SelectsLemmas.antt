-- Lemmas on `specs/Selects.antt`: digits beside a value, and the number of a value's digits.
use Rattle.std.proofs.Common.{◌≡◌, ◌∙◌, ◌≤◌, ◌<◌, ◌+◌, ◌*◌, ◌-◌, ◌^◌, ◌++◌, ◌∷◌, [], ℕ, zero, suc, List, length, take, drop, replicate, Bool, true, false, if◌then◌else◌, Some, None, refl, sym, ap, subst, arith}
use Rattle.std.proofs.lemmas.List.{take-append-le, take-replicate, take_all, length-drop, length-replicate}
use Rattle.std.proofs.lemmas.Grind.{pow_more}
use Rattle.std.proofs.Math.ListN.{drop_of_length-le}
use Rattle.std.proofs.Math.Seq.{take-append-add}
use Rattle.vh_logic.specs.declared.digits.Digit.{Digit}
use Rattle.vh_logic.specs.declared.digits.Digit.TheVariants.{Zero, One, X, Z}
use Rattle.vh_logic.specs.Number.{number_of, digit_value, all_known, known_number}
use Rattle.vh_logic.specs.declared.vector.TheConstants.{MAX_WIDTH}
use Rattle.vh_design_nodes.specs.declared.expr.Select.{Select}
use Rattle.vh_design_nodes.specs.declared.expr.Select.TheVariants as select
use Rattle.vh_design_nodes.specs.Widths.{select_width}
use Rattle.vh_eval.specs.Selects.{digits_above, digits_below}

-- A number is below the power of two of its digits.
pub value_most : (d : Digit) → digit_value d ≤ 1
value_most Zero = omega arith
value_most One = omega arith
value_most X = omega arith
value_most Z = omega arith

pub number_below : (ds : List Digit) → number_of ds < 2 ^ length ds
unfolding number_of
number_below [] = omega arith
number_below (d ∷ ds) =
    let one = value_most d in
    let rest = number_below ds in
    let more : length (d ∷ ds) ≡ length ds + 1 = omega arith in
    let twice : 2 ^ length (d ∷ ds) ≡ 2 ^ length ds * 2 = ap (λ (n : ℕ). 2 ^ n) more ∙ pow_more 2 (length ds) in
    omega (arith, twice)

known_is : (b : Bool) (m n : ℕ) → (if b then Some m else None) ≡ Some n → m ≡ n
known_is true m n is = cc
known_is false m n is = cc

-- So is the number of a value that has one.
pub known_below : (ds : List Digit) (n : ℕ) → known_number ds ≡ Some n → n < 2 ^ length ds
known_below ds n is =
    subst (λ (m : ℕ). m < 2 ^ length ds) (known_is (all_known ds) (number_of ds) n is) (number_below ds)

-- How many of the same digit are behind others makes no difference, where enough are.
pub enough : (xs : List Digit) (m n k : ℕ) → m ≤ n → m ≤ k → take m (xs ++ replicate n X) ≡ take m (xs ++ replicate k X)
enough xs zero n k h i = refl
enough [] (suc m) n k h i = take-replicate (suc m) n X h ∙ sym (take-replicate (suc m) k X i)
enough (x ∷ xs) (suc m) n k h i = ap (λ (t : List Digit). x ∷ t) (enough xs m n k (omega arith) (omega arith))

-- All x, where the position is above the value.
pub above_past : (ds : List Digit) (position width : ℕ) → length ds ≤ position → digits_above ds position width ≡ replicate width X
above_past ds position width past = rw (drop_of_length-le ds past) (take-replicate width width X (omega arith))

-- Those that the value has, and x above.
pub above_partly : (ds : List Digit) (position width there : ℕ) → there ≡ length ds - position → there ≤ width
    → digits_above ds position width ≡ take there (drop position ds) ++ replicate (width - there) X
above_partly ds position width there is partly =
    let len : length (drop position ds) ≡ there = length-drop position ds ∙ sym is in
    let sum : width ≡ length (drop position ds) + (width - there) = omega arith in
    ap (λ (w : ℕ). take w (drop position ds ++ replicate width X)) sum
    ∙ take-append-add (drop position ds) (replicate width X) (width - there)
    ∙ ap (λ (t : List Digit). drop position ds ++ t) (take-replicate (width - there) width X (omega arith))
    ∙ ap (λ (t : List Digit). t ++ replicate (width - there) X) (sym (take_all there (drop position ds) (omega arith)))

-- All x, where the value is further up.
pub below_past : (ds : List Digit) (distance width : ℕ) → width ≤ distance → digits_below ds distance width ≡ replicate width X
below_past ds distance width past =
    let len = length-replicate distance X in
    take-append-le width (replicate distance X) (ds ++ replicate width X) (omega arith)
    ∙ take-replicate width distance X past

-- So many x, and the value's digits above.
pub below_partly : (ds : List Digit) (distance width : ℕ) → distance ≤ width
    → digits_below ds distance width ≡ replicate distance X ++ digits_above ds 0 (width - distance)
below_partly ds distance width partly =
    let len = length-replicate distance X in
    let sum : width ≡ length (replicate distance X) + (width - distance) = omega arith in
    ap (λ (w : ℕ). take w (replicate distance X ++ (ds ++ replicate width X))) sum
    ∙ take-append-add (replicate distance X) (ds ++ replicate width X) (width - distance)
    ∙ ap (λ (t : List Digit). replicate distance X ++ t) (enough ds (width - distance) width (width - distance) (omega arith) (omega arith))

-- A select of some digits names as many of any value.
pub select_least : (w : ℕ) (x : Select) → 1 ≤ select_width w x → 1 ≤ select_width 1 x
select_least w select.Whole h = omega arith
select_least w (select.Bit range index) h = h
select_least w (select.Slice range lowest width) h = h
select_least w (select.Indexed up range base width) h = h

pub select_most : (w : ℕ) (x : Select) → select_width w x ≤ MAX_WIDTH → select_width 1 x ≤ MAX_WIDTH
select_most w select.Whole h = omega arith
select_most w (select.Bit range index) h = h
select_most w (select.Slice range lowest width) h = h
select_most w (select.Indexed up range base width) h = h
