-- The digits that an assignment changes. (IEEE 1364-2005, 5.2 and 9.2)
use Rattle.std.specs.Prelude.{ℕ, ◌+◌, ◌-◌, List, [], ◌∷◌, ◌++◌, true, if◌then◌else◌, nat_lt, ℤ, pos, int_lt, unsigned_abs, Option, Some, None}
use Rattle.std.specs.Option.{option_map, option_and_then}
use Rattle.vh_base.specs.declared.orders.Object.{Object}
use Rattle.vh_logic.specs.Parts.{part_of, resized}
use Rattle.vh_logic.specs.Vector.{Vector, width_of as digits_in}
use Rattle.vh_design_nodes.specs.declared.expr.Chosen.{Chosen}
use Rattle.vh_design_nodes.specs.declared.expr.Select.{Select}
use Rattle.vh_design_nodes.specs.declared.expr.Select.TheVariants as select
use Rattle.vh_design_nodes.specs.declared.expr.Selected.{Selected}
use Rattle.vh_design_nodes.specs.declared.object.ObjectInfo.{ObjectInfo}
use Rattle.vh_design_nodes.specs.Widths.{selected_width, object_width}
use Rattle.vh_design_code.specs.declared.target.Input.{Input}
use Rattle.vh_design_code.specs.declared.target.Output.{Output}
use Rattle.vh_design.specs.Shape.{Shape}
use Rattle.vh_store.specs.Contents.{Contents, found, shown}
use Rattle.vh_eval.specs.Selects.{position_of, lowest_index, address_of}
use Rattle.vh_proc_assign.specs.declared.piece.Piece.{Piece}
use Rattle.vh_proc_assign.specs.Values.{integer_alone, right_side}

-- The object of a target, or the word of the memory at its index; none where the index isn't known. (5.2.2)
abbrev pub word_of : ℕ → ℕ → Object
word_of memory at = record { id = memory; word = Some at }

abbrev pub chosen_at : Shape → Contents → ℕ → Option ℕ → Option Object
chosen_at d s o None = Some (record { id = o; word = None })
chosen_at d s o (Some index) = option_map (word_of o) (address_of (integer_alone d s index))

abbrev pub object_of : Shape → Contents → Chosen → Option Object
object_of d s c = chosen_at d s c.object c.word

-- The position in the object, 0 being its lowest digit, where a target's digits begin; none where its index isn't
-- known. (5.2.1)
abbrev pub position_in : Shape → Contents → Select → Option ℤ
position_in d s select.Whole = Some (pos 0)
position_in d s (select.Bit range index) =
    option_map (λ i. position_of range (lowest_index range true i 1)) (integer_alone d s index)
position_in d s (select.Slice range lowest width) = Some (position_of range (pos lowest))
position_in d s (select.Indexed up range base width) =
    option_map (λ i. position_of range (lowest_index range up i width)) (integer_alone d s base)

-- What an object of so many digits takes of others that begin at a position of it, or so many positions below its lowest
-- digit: those below fall away, and none is left where all are outside. (5.2.1)
abbrev pub piece_above : Object → ℕ → Vector → ℕ → Option Piece
piece_above o width v position =
    if nat_lt position width then Some (record { object = o; low = position; value = v }) else None

abbrev pub piece_below : Object → Vector → ℕ → Option Piece
piece_below o v distance =
    if nat_lt distance (digits_in v)
    then Some (record { object = o; low = 0; value = part_of v distance (digits_in v - distance) })
    else None

abbrev pub piece_at : Object → ℕ → Vector → ℤ → Option Piece
piece_at o width v position =
    if int_lt position (pos 0) then piece_below o v (unsigned_abs position) else piece_above o width v (unsigned_abs position)

-- What a target takes. (5.2 and 9.2)
abbrev pub piece_in : Shape → Contents → Select → Vector → Object → Vector → Option Piece
piece_in d s it v o old = option_and_then (piece_at o (digits_in old) v) (position_in d s it)

abbrev pub piece_of : Shape → Contents → Selected → Vector → Option Piece
piece_of d s t v =
    option_and_then (λ o. option_and_then (piece_in d s t.select v o) (found s o)) (object_of d s t.of)

-- How many digits targets have side by side.
unfoldable pub digits_of : List ObjectInfo → List Selected → ℕ
digits_of os [] = 0
digits_of os (t ∷ ts) = selected_width os t + digits_of os ts

-- What targets take of a value, the first one its highest digits. (5.1.14 and 9.2)
abbrev pub listed : Option Piece → List Piece
listed None = []
listed (Some p) = p ∷ []

unfoldable pub pieces_of : Shape → Contents → List Selected → Vector → List Piece
pieces_of d s [] v = []
pieces_of d s (t ∷ ts) v =
    listed (piece_of d s t (part_of v (digits_of d.objects ts) (selected_width d.objects t))) ++ pieces_of d s ts v

-- What the variables of a task or function take at the begin of a call, in order. (10.2.2)
abbrev pub whole : ℕ → Selected
whole o = record { of = record { object = o; word = None }; select = select.Whole }

abbrev pub input_value : Shape → Contents → Input → Vector
input_value d s i = right_side d s i.value (object_width d.objects i.variable)

unfoldable pub pieces_in : Shape → Contents → List Input → List Piece
pieces_in d s [] = []
pieces_in d s (i ∷ is) = listed (piece_of d s (whole i.variable) (input_value d s i)) ++ pieces_in d s is

-- What the targets of its outputs take at its end, in order: each the value of its variable, extended or cut. (10.2.2)
abbrev pub extended : Vector → ℕ → Vector
extended v width = resized v width v.signed

abbrev pub output_value : Shape → Contents → Output → Vector
output_value d s o = extended (shown s (record { id = o.variable; word = None })) (digits_of d.objects o.targets)

unfoldable pub pieces_out : Shape → Contents → List Output → List Piece
pieces_out d s [] = []
pieces_out d s (o ∷ os) = pieces_of d s o.targets (output_value d s o) ++ pieces_out d s os
