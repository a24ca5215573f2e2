-- The value of an expression, of each kind by the values of its parts. (IEEE 1364-2005, clause 5, in this
-- project's profile)
use Rattle.std.specs.Prelude.{ℕ, zero, suc, List, [], ◌∷◌, max, Bool, true, false, if◌then◌else◌, ◌&&◌, ◌==◌, Option, Some, None, slice_get, unwrap_or, length, pos}
use Rattle.vh_logic.specs.declared.digits.Digit.{Digit}
use Rattle.vh_logic.specs.declared.digits.Digit.TheVariants.{X}
use Rattle.vh_logic.specs.Vector.{Vector, filled}
use Rattle.vh_logic.specs.Number.{integer_of}
use Rattle.vh_logic.specs.Parts.{resized, concatenation}
use Rattle.vh_logic.specs.Reduce.{truth_of}
use Rattle.vh_design_nodes.specs.declared.expr.Unary.{Unary}
use Rattle.vh_design_nodes.specs.declared.expr.Arithmetic.{Arithmetic}
use Rattle.vh_design_nodes.specs.declared.expr.Shift.{Shift}
use Rattle.vh_design_nodes.specs.declared.expr.Comparison.{Comparison}
use Rattle.vh_design_nodes.specs.declared.expr.Logic.{Logic}
use Rattle.vh_design_nodes.specs.declared.expr.Link.{Link}
use Rattle.vh_design_nodes.specs.declared.expr.ExprKind.{ExprKind}
use Rattle.vh_design_nodes.specs.declared.expr.ExprKind.TheVariants as kind
use Rattle.vh_design_nodes.specs.declared.expr.ExprNode.{ExprNode}
use Rattle.vh_design_nodes.specs.declared.expr.Select.{Select}
use Rattle.vh_design_nodes.specs.declared.expr.Select.TheVariants as select
use Rattle.vh_design_nodes.specs.declared.expr.Selected.{Selected}
use Rattle.vh_design_nodes.specs.declared.object.ObjectInfo.{ObjectInfo}
use Rattle.vh_design_nodes.specs.Widths.{width_of, signed_of, object_width, object_signed, is_reduction}
use Rattle.vh_design.specs.Shape.{Shape}
use Rattle.vh_store.specs.Contents.{Contents, found, shown, result_of}
use Rattle.vh_eval.specs.Operators.{of_digit, reduction, signed_of as sign_changed, arithmetic_of, shift_of, comparison_of, logic_of, choice_of, times, time_in}
use Rattle.vh_eval.specs.Selects.{selected, digits_from, position_of, address_of}

-- The value of an expression in a context of a width and a sign. (5.4 and 5.5)
abbrev pub Valuation : Type 0
Valuation = ℕ → ℕ → Bool → Vector

-- Its value where nothing around it asks for more. (5.4.1)
abbrev pub alone : Valuation → List ExprNode → ℕ → Vector
alone part ns e = part e (width_of ns e) (signed_of ns e)

-- A whole object.
abbrev pub whole : Contents → ℕ → Vector
whole s o = shown s (record { id = o; word = None })

-- The word of a memory at an index; all x where the memory has none there. (5.2.2)
abbrev pub word_or_x : Option ℕ → List ObjectInfo → Contents → ℕ → Vector
word_or_x None os s m = filled (object_width os m) X (object_signed os m)
word_or_x (Some at) os s m =
    unwrap_or (found s (record { id = m; word = Some at })) (filled (object_width os m) X (object_signed os m))

-- What is selected from: an object, or a word of a memory. (5.2)
abbrev pub chosen_at : Valuation → Shape → Contents → ℕ → Option ℕ → Vector
chosen_at part d s o None = whole s o
chosen_at part d s o (Some index) = word_or_x (address_of (integer_of (alone part d.exprs index))) d.objects s o

-- Digits of it, by an index that stands alone. (5.2.1)
abbrev pub select_value : Valuation → List ExprNode → Vector → Select → Vector
select_value part ns v select.Whole = v
select_value part ns v (select.Bit range index) =
    selected v.digits range true (integer_of (alone part ns index)) 1
select_value part ns v (select.Slice range lowest width) =
    record { digits = digits_from v.digits (position_of range (pos lowest)) width; signed = false }
select_value part ns v (select.Indexed up range base width) =
    selected v.digits range up (integer_of (alone part ns base)) width

abbrev pub selected_value : Valuation → Shape → Contents → Selected → Vector
selected_value part d s x = select_value part d.exprs (chosen_at part d s x.of.object x.of.word) x.select

-- A chain of operators whose operands have the width and the sign around them: from the left. (5.1.5 and 5.1.10)
abbrev pub arithmetic_chain : Valuation → ℕ → Bool → Vector → List (Link Arithmetic) → Vector
arithmetic_chain part w g v [] = v
arithmetic_chain part w g v (l ∷ ls) = arithmetic_chain part w g (arithmetic_of l.op v (part l.part w g)) ls

-- Shifts and powers: each operand behind the first stands alone. (5.1.5 and 5.1.12)
abbrev pub shift_chain : Valuation → List ExprNode → Vector → List (Link Shift) → Vector
shift_chain part ns v [] = v
shift_chain part ns v (l ∷ ls) = shift_chain part ns (shift_of l.op v (alone part ns l.part)) ls

-- The digit that a comparison of two expressions gives: both have the greater of the two widths, and are signed
-- if both are. (5.1.7, 5.1.8 and 5.5.2)
abbrev pub compared : Valuation → List ExprNode → ℕ → Comparison → ℕ → Digit
compared part ns a op b =
    let w = max (width_of ns a) (width_of ns b) in
    let g = signed_of ns a && signed_of ns b in
    comparison_of op (part a w g) (part b w g)

-- Each further operand is compared with the digit so far, which is unsigned.
abbrev pub comparison_chain : Valuation → List ExprNode → Digit → List (Link Comparison) → Digit
comparison_chain part ns d [] = d
comparison_chain part ns d (l ∷ ls) =
    let w = width_of ns l.part in
    comparison_chain part ns (comparison_of l.op (resized (of_digit d) w false) (part l.part w false)) ls

abbrev pub compared_all : Valuation → List ExprNode → ℕ → List (Link Comparison) → Digit
compared_all part ns first [] = truth_of (alone part ns first)
compared_all part ns first (l ∷ ls) = comparison_chain part ns (compared part ns first l.op l.part) ls

-- Whether operands are true, from the left. (5.1.9)
abbrev pub logic_chain : Valuation → List ExprNode → Digit → List (Link Logic) → Digit
logic_chain part ns d [] = d
logic_chain part ns d (l ∷ ls) = logic_chain part ns (logic_of l.op d (truth_of (alone part ns l.part))) ls

-- A concatenation, the highest part first. (5.1.14)
abbrev pub joined : Valuation → List ExprNode → Vector → List ℕ → Vector
joined part ns v [] = v
joined part ns v (e ∷ es) = joined part ns (concatenation v (alone part ns e)) es

-- An operator on one operand: a reduction and `!` stand alone, the others go by the context. (5.1.9 to 5.1.11)
abbrev pub unary_value : Valuation → List ExprNode → Unary → ℕ → ℕ → Bool → Vector
unary_value part ns op a w g =
    if is_reduction op then resized (of_digit (reduction op (alone part ns a))) w g else sign_changed op (part a w g)

-- The value of a kind of expression that the context only widens, a row for each: `part` has the values of the
-- expressions before this one. (5.1.14, 5.2 and 5.4) The four kinds whose operands go by the context have none.
abbrev pub own_value : Valuation → Shape → Contents → ℕ → ExprKind → Vector
own_value part d s e (kind.Literal v) = v
own_value part d s e (kind.Selected x) = selected_value part d s x
own_value part d s e (kind.Unary op a) = filled 1 X false
own_value part d s e (kind.Arithmetic first rest) = filled 1 X false
own_value part d s e (kind.Shift first rest) = filled 1 X false
own_value part d s e (kind.Comparison first rest) = of_digit (compared_all part d.exprs first rest)
own_value part d s e (kind.Logic first rest) =
    of_digit (logic_chain part d.exprs (truth_of (alone part d.exprs first)) rest)
own_value part d s e (kind.Choice condition a b) = filled 1 X false
own_value part d s e (kind.Join first rest) = joined part d.exprs (alone part d.exprs first) rest
own_value part d s e (kind.Repeat count a) =
    record { digits = times count (alone part d.exprs a).digits; signed = false }
own_value part d s e (kind.WithSign a signed) = record (alone part d.exprs a) { signed = signed }
own_value part d s e (kind.Time unit) = time_in s.time unit d.precision
own_value part d s e (kind.Call function result arguments) = result_of s e
own_value part d s e (kind.SysCall o) = result_of s e

-- A kind of expression in a context, a row for each: the context's width and sign go down to the operands that
-- they determine; any other stands alone. (5.4 and 5.5)
abbrev pub kind_value : Valuation → Shape → Contents → ℕ → ExprKind → ℕ → Bool → Vector
kind_value part d s e (kind.Unary op a) w g = unary_value part d.exprs op a w g
kind_value part d s e (kind.Arithmetic first rest) w g = arithmetic_chain part w g (part first w g) rest
kind_value part d s e (kind.Shift first rest) w g = shift_chain part d.exprs (part first w g) rest
kind_value part d s e (kind.Choice condition a b) w g =
    choice_of (truth_of (alone part d.exprs condition)) (part a w g) (part b w g)
kind_value part d s e (kind.Literal v) w g = resized (own_value part d s e (kind.Literal v)) w g
kind_value part d s e (kind.Selected x) w g = resized (own_value part d s e (kind.Selected x)) w g
kind_value part d s e (kind.Comparison first rest) w g = resized (own_value part d s e (kind.Comparison first rest)) w g
kind_value part d s e (kind.Logic first rest) w g = resized (own_value part d s e (kind.Logic first rest)) w g
kind_value part d s e (kind.Join first rest) w g = resized (own_value part d s e (kind.Join first rest)) w g
kind_value part d s e (kind.Repeat count a) w g = resized (own_value part d s e (kind.Repeat count a)) w g
kind_value part d s e (kind.WithSign a signed) w g = resized (own_value part d s e (kind.WithSign a signed)) w g
kind_value part d s e (kind.Time unit) w g = resized (own_value part d s e (kind.Time unit)) w g
kind_value part d s e (kind.Call function result arguments) w g =
    resized (own_value part d s e (kind.Call function result arguments)) w g
kind_value part d s e (kind.SysCall o) w g = resized (own_value part d s e (kind.SysCall o)) w g

abbrev pub node_value : Valuation → Shape → Contents → ℕ → Option ExprNode → ℕ → Bool → Vector
node_value part d s e None w g = filled w X g
node_value part d s e (Some n) w g = kind_value part d s e n.kind w g

-- The value of an expression whose number is below k, in a context.
unfoldable pub value_below : ℕ → Shape → Contents → Valuation
value_below zero d s e w g = filled w X g
value_below (suc k) d s e w g =
    elim (e == k) [
      | true ↦ node_value (value_below k d s) d s e (slice_get d.exprs e) w g
      | false ↦ value_below k d s e w g
    ]

-- The value of an expression of a design, in a store, in a context of a width and a sign.
abbrev pub value_of : Shape → Contents → Valuation
value_of d s = value_below (length d.exprs) d s
