-- What an assignment makes of each digit.
use Rattle.std.proofs.Common.{◌≡◌, ◌∙◌, ℕ, suc, ◌+◌, ◌-◌, ◌<◌, ◌≤◌, pos, negsuc, ◌++◌, length, take, drop, get_or, Bool, true, false, cond, nat_lt, refl, ap, arith, length-drop}
use Rattle.std.proofs.lemmas.List.{length-take, get_or-take, get_or-drop, get_or_append_left, get_or-append_right}
use Rattle.std.proofs.lemmas.Bool.{ltb-true, ltb-false, lt-ltb, le-ltb}
use Rattle.vh_base.specs.declared.orders.Object.{Object}
use Rattle.vh_logic.specs.declared.digits.Digit.TheVariants.{X}
use Rattle.vh_logic.specs.Vector.{Vector, width_of}
use Rattle.vh_logic.specs.Parts.{part_of}
use Rattle.vh_proc_assign.specs.Pieces.{piece_above, piece_below}
use Rattle.vh_proc_assign.specs.Assigned.{with_digits}
use Rattle.vh_proc_laws.specs.Digits.{taken, digit_or, digit_behind}
use Rattle.vh_proc_laws.specs.Laws.{AssignsDigits}

-- Below where the digits begin, among them, and above.
low-kept : (old v : Vector) (low i : ℕ) → low < width_of old → i < low → get_or (with_digits old low v).digits i X ≡ get_or old.digits i X
low-kept old v low i inside below =
    let front = length-take low old.digits in
    get_or-take (width_of old) (take low old.digits ++ (v.digits ++ drop (low + width_of v) old.digits)) i X (omega arith)
    ∙ (get_or_append_left (take low old.digits) (v.digits ++ drop (low + width_of v) old.digits) X i (omega (arith, front))
    ∙ get_or-take low old.digits i X below)

from-low : (old v : Vector) (low i : ℕ) → low < width_of old → low ≤ i → i < width_of old
    → get_or (with_digits old low v).digits i X ≡ cond (nat_lt (i - low) (width_of v)) (get_or v.digits (i - low) X) (get_or old.digits i X)
from-low old v low i inside above within =
    let front : length (take low old.digits) ≡ low = length-take low old.digits ∙ omega arith in
    get_or-take (width_of old) (take low old.digits ++ (v.digits ++ drop (low + width_of v) old.digits)) i X within
    ∙ (get_or-append_right (take low old.digits) (v.digits ++ drop (low + width_of v) old.digits) low i X front above
    ∙ by (nat_lt (i - low) (width_of v)) refl)
  where
    by : (b : Bool) → nat_lt (i - low) (width_of v) ≡ b
        → get_or (v.digits ++ drop (low + width_of v) old.digits) (i - low) X ≡ cond b (get_or v.digits (i - low) X) (get_or old.digits i X)
    by true is = get_or_append_left v.digits (drop (low + width_of v) old.digits) X (i - low) (ltb-true (i - low) (width_of v) is)
    by false is =
        let past : width_of v ≤ i - low = ltb-false (i - low) (width_of v) is in
        let at : low + width_of v + (i - low - width_of v) ≡ i = omega arith in
        get_or-append_right v.digits (drop (low + width_of v) old.digits) (width_of v) (i - low) X refl past
        ∙ (get_or-drop (low + width_of v) old.digits (i - low - width_of v) X ∙ ap (λ (k : ℕ). get_or old.digits k X) at)

above-by : (o : Object) (old v : Vector) (p i : ℕ) → i < width_of old → (b : Bool) → nat_lt p (width_of old) ≡ b
    → get_or (taken (piece_above o (width_of old) v p) old).digits i X ≡ digit_behind v (get_or old.digits i X) (pos p) i
above-by o old v p i within true is = rw is (by (nat_lt i p) refl)
  where
    by : (c : Bool) → nat_lt i p ≡ c → get_or (with_digits old p v).digits i X ≡ cond c (get_or old.digits i X) (digit_or v (i - p) (get_or old.digits i X))
    by true below = low-kept old v p i (ltb-true p (width_of old) is) (ltb-true i p below)
    by false above = from-low old v p i (ltb-true p (width_of old) is) (ltb-false i p above) within
above-by o old v p i within false is =
    let past : width_of old ≤ p = ltb-false p (width_of old) is in
    rw (is, lt-ltb i p (omega arith)) refl

-- What is left of digits that begin so far below.
part-width : (v : Vector) (n : ℕ) → n < width_of v → width_of (part_of v n (width_of v - n)) ≡ width_of v - n
part-width v n h = length-take (width_of v - n) (drop n v.digits) ∙ omega (arith, length-drop n v.digits)

below-by : (o : Object) (old v : Vector) (n i : ℕ) → i < width_of old → (b : Bool) → nat_lt (n + 1) (width_of v) ≡ b
    → get_or (taken (piece_below o v (n + 1)) old).digits i X ≡ digit_or v (i + (n + 1)) (get_or old.digits i X)
below-by o old v n i within true is =
    let inside : n + 1 < width_of v = ltb-true (n + 1) (width_of v) is in
    let part = part_of v (n + 1) (width_of v - (n + 1)) in
    let wide = part-width v (n + 1) inside in
    let at : i - 0 ≡ i = omega arith in
    rw is (from-low old part 0 i (omega arith) (omega arith) within
    ∙ (ap (λ (k : ℕ). cond (nat_lt k (width_of part)) (get_or part.digits k X) (get_or old.digits i X)) at
    ∙ by (nat_lt i (width_of part)) refl))
  where
    by : (b : Bool) → nat_lt i (width_of (part_of v (n + 1) (width_of v - (n + 1)))) ≡ b
        → cond b (get_or (part_of v (n + 1) (width_of v - (n + 1))).digits i X) (get_or old.digits i X)
        ≡ cond (nat_lt (i + (n + 1)) (width_of v)) (get_or v.digits (i + (n + 1)) X) (get_or old.digits i X)
    by true here =
        let inside : n + 1 < width_of v = ltb-true (n + 1) (width_of v) is in
        let wide = part-width v (n + 1) inside in
        let less = ltb-true i _ here in
        let all : nat_lt (i + (n + 1)) (width_of v) ≡ true = lt-ltb (i + (n + 1)) (width_of v) (omega (arith, wide, less)) in
        let at : n + 1 + i ≡ i + (n + 1) = omega arith in
        rw all (get_or-take (width_of v - (n + 1)) (drop (n + 1) v.digits) i X (omega (arith, wide, less))
        ∙ (get_or-drop (n + 1) v.digits i X ∙ ap (λ (k : ℕ). get_or v.digits k X) at))
    by false here =
        let inside : n + 1 < width_of v = ltb-true (n + 1) (width_of v) is in
        let wide = part-width v (n + 1) inside in
        let more = ltb-false i _ here in
        let none : nat_lt (i + (n + 1)) (width_of v) ≡ false = le-ltb (i + (n + 1)) (width_of v) (omega (arith, wide, more)) in
        rw none refl
below-by o old v n i within false is =
    let past : width_of v ≤ n + 1 = ltb-false (n + 1) (width_of v) is in
    let none : nat_lt (i + (n + 1)) (width_of v) ≡ false = le-ltb (i + (n + 1)) (width_of v) (omega arith) in
    rw (is, none) refl

pub assigns-digits : AssignsDigits
assigns-digits o old v (pos p) i within = rw (le-ltb p 0 (omega arith)) (above-by o old v p i within (nat_lt p (width_of old)) refl)
assigns-digits o old v (negsuc n) i within =
    let one : suc n ≡ n + 1 = omega arith in
    ap (λ (k : ℕ). get_or (taken (piece_below o v k) old).digits i X) one ∙ below-by o old v n i within (nat_lt (n + 1) (width_of v)) refl
