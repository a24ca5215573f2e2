-- Which digits a constant select names. (IEEE 1364-2005, 5.2.1)
use Rattle.std.specs.Prelude.{ℕ, ◌+◌, ◌-◌, ◌^◌, Bool, true, false, if◌then◌else◌, ◌&&◌, nat_le, Option, Some, None, Result, Ok, Err, ℤ, pos, negsuc}
use Rattle.vh_base.specs.declared.faults.DesignFault.TheVariants.{N3}
use Rattle.vh_base.specs.declared.place.Place.{Place}
use Rattle.vh_logic.specs.declared.vector.TheConstants.{MAX_WIDTH}
use Rattle.vh_logic.specs.Vector.{Vector}
use Rattle.vh_logic.specs.Number.{integer_of}
use Rattle.vh_design_nodes.specs.declared.expr.Range.{Range}
use Rattle.vh_design_nodes.specs.declared.expr.Select.{Select}
use Rattle.vh_design_nodes.specs.declared.expr.Select.TheVariants as select
use Rattle.vh_eval.specs.Selects.{digits_from, position_of, selected}
use Rattle.vh_bind.specs.Steps.{Fault}

-- What comes of something, or the first fault.
abbrev pub Outcome : Type 0 → Type 0
Outcome A = Result A Fault

abbrev pub with_ok : {A B : Type 0} → Outcome A → (A → Outcome B) → Outcome B
with_ok (Ok a) f = f a
with_ok (Err fault) f = Err fault

-- What needs something that is passed over is passed over too.
abbrev pub with_some : {A B : Type 0} → Option A → (A → Outcome (Option B)) → Outcome (Option B)
with_some None f = Ok None
with_some (Some a) f = f a

-- A number of a range: anything else is out of it, also what has an x or a z.
abbrev pub integer_in : Place → ℕ → ℕ → Option ℤ → Outcome (Option ℕ)
integer_in place low high None = Err (N3, place)
integer_in place low high (Some (pos n)) =
    if nat_le low n && nat_le n high then Ok (Some n) else Err (N3, place)
integer_in place low high (Some (negsuc n)) = Err (N3, place)

abbrev pub number_in : Place → ℕ → ℕ → Option Vector → Outcome (Option ℕ)
number_in place low high v = with_some v (λ n. integer_in place low high (integer_of n))

-- The greatest bound. (own)
abbrev pub most_bound : ℕ
most_bound = 2 ^ 31 - 1

-- A value that has a name, with the bounds of its digits.
abbrev pub Bounded : Type 0
Bounded = Range × Vector

-- One digit, by an index.
abbrev pub bit_of : Option Bounded → Option Vector → Outcome (Option Vector)
bit_of v index =
    with_some v (λ b. with_some index (λ i. Ok (Some (selected b.1.digits b.0 true (integer_of i) 1))))

-- So many from an index on.
abbrev pub indexed_of : Place → Bool → Option Bounded → Option Vector → Option Vector → Outcome (Option Vector)
indexed_of place up v base width =
    with_ok (number_in place 1 MAX_WIDTH width) (λ w.
    with_some v (λ b. with_some base (λ i. with_some w (λ n.
    Ok (Some (selected b.1.digits b.0 up (integer_of i) n))))))

-- Do the bounds of a part go the way of the declared ones?
abbrev pub goes_with : Range → ℕ → ℕ → Bool
goes_with r left right = if nat_le r.right r.left then nat_le right left else nat_le left right

abbrev pub span : ℕ → ℕ → ℕ
span left right = (left - right) + (right - left) + 1

-- The digits between two bounds, which go the way of the declared ones.
abbrev pub slice_of : Place → Bounded → ℕ → ℕ → Outcome (Option Vector)
slice_of place b left right =
    if goes_with b.0 left right && nat_le (span left right) MAX_WIDTH then
    Ok (Some (record {
      digits = digits_from b.1.digits (position_of b.0 (pos right)) (span left right);
      signed = false;
    }))
    else Err (N3, place)

abbrev pub part_of : Place → Option Bounded → Option Vector → Option Vector → Outcome (Option Vector)
part_of place v left right =
    with_ok (number_in place 0 most_bound left) (λ l. with_ok (number_in place 0 most_bound right) (λ r.
    with_some v (λ b. with_some l (λ from. with_some r (λ to. slice_of place b from to)))))

-- The same of an object's digits: which of them. (5.2.1)
abbrev pub slice_select : Place → Range → ℕ → ℕ → Outcome (Option Select)
slice_select place r left right =
    if goes_with r left right && nat_le (span left right) MAX_WIDTH then
    Ok (Some (select.Slice r right (span left right)))
    else Err (N3, place)

abbrev pub part_select : Place → Range → Option Vector → Option Vector → Outcome (Option Select)
part_select place r left right =
    with_ok (number_in place 0 most_bound left) (λ l. with_ok (number_in place 0 most_bound right) (λ t.
    with_some l (λ from. with_some t (λ to. slice_select place r from to))))
