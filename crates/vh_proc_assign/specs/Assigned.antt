-- What assignments make of the values of objects, and which changes they make. (IEEE 1364-2005, 9.2)
use Rattle.std.specs.Prelude.{ℕ, ◌+◌, List, [], ◌∷◌, ◌++◌, take, drop, Bool, if◌then◌else◌, ◌&&◌, ◌==◌, Option, Some, None, slice_get}
use Rattle.vh_base.specs.declared.orders.Object.{Object}
use Rattle.vh_logic.specs.Compare.{case_equality}
use Rattle.vh_logic.specs.Digit.{is_one}
use Rattle.vh_logic.specs.Vector.{Vector, width_of}
use Rattle.vh_design_nodes.specs.Fits.{same_sign}
use Rattle.vh_design_code.specs.declared.change.Change.{Change}
use Rattle.vh_design_code.specs.declared.change.Layer.TheVariants as layer
use Rattle.vh_design_code.specs.declared.change.Made.{Made}
use Rattle.vh_store.specs.declared.store.DriverPosition.{DriverPosition}
use Rattle.vh_store.specs.Contents.{Contents, shown, written, whole, put_at, with_driven}
use Rattle.vh_proc_assign.specs.declared.piece.Piece.{Piece}

-- A value with others of its digits from a position on; those above its highest digit fall away. (5.2.1)
abbrev pub with_digits : Vector → ℕ → Vector → Vector
with_digits old low v = record {
  digits = take (width_of old) (take low old.digits ++ (v.digits ++ drop (low + width_of v) old.digits));
  signed = old.signed;
}

-- An object takes a piece, and others do so in order. (9.2)
abbrev pub with_piece : Piece → Contents → Contents
with_piece p s = written p.object (with_digits (shown s p.object) p.low p.value) s

unfoldable pub with_pieces : List Piece → Contents → Contents
with_pieces [] s = s
with_pieces (p ∷ ps) s = with_pieces ps (with_piece p s)

-- The change that an object shows; none where it shows the same digits as before. (own)
abbrev pub is_same_value : Vector → Vector → Bool
is_same_value a b = (width_of a == width_of b && same_sign a.signed b.signed) && is_one (case_equality a b)

abbrev pub change_of : Object → Vector → Vector → Change
change_of o old new = record { object = o; old = old; new = new }

abbrev pub made_of : Object → Vector → Vector → List Made
made_of o old new =
    if is_same_value old new then []
    else record { object = o; change = Some (change_of o old new); layer = layer.Plain } ∷ []

-- What pieces in order change. (9.2)
abbrev pub made_by : Piece → Contents → List Made
made_by p s = made_of p.object (shown s p.object) (shown (with_piece p s) p.object)

unfoldable pub made_in_turn : List Piece → Contents → List Made
made_in_turn [] s = []
made_in_turn (p ∷ ps) s = made_by p s ++ made_in_turn ps (with_piece p s)

-- What a driver changes that takes a value. (6.1)
abbrev pub made_at : Option DriverPosition → Contents → Contents → List Made
made_at None old new = []
made_at (Some p) old new = made_of (whole p.object) (shown old (whole p.object)) (shown new (whole p.object))

abbrev pub made_by_driver : ℕ → Vector → Contents → List Made
made_by_driver x v s = made_at (slice_get s.drivers x) s (with_driven x v s)

-- What a put without a force changes. (27.32)
abbrev pub made_by_put : Object → Vector → Contents → List Made
made_by_put o v s = made_of o (shown s o) (shown (put_at o v s) o)
