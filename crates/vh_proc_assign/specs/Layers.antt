-- What force, release and procedural assigns make of the values of objects, and which changes they make. (IEEE
-- 1364-2005, 9.3)
use Rattle.std.specs.Prelude.{ℕ, List, [], ◌∷◌, length, Bool, true, false, if◌then◌else◌, Option, Some, None}
use Rattle.vh_base.specs.declared.orders.Object.{Object}
use Rattle.vh_logic.specs.Vector.{Vector}
use Rattle.vh_design_nodes.specs.Widths.{object_width}
use Rattle.vh_design_code.specs.declared.change.Change.{Change}
use Rattle.vh_design_code.specs.declared.change.Layer.{Layer}
use Rattle.vh_design_code.specs.declared.change.Layer.TheVariants as layer
use Rattle.vh_design_code.specs.declared.change.Made.{Made}
use Rattle.vh_design_code.specs.Operations.{fits_force}
use Rattle.vh_design.specs.Shape.{Shape}
use Rattle.vh_store.specs.Contents.{Contents, shown, whole, forced, released, procedural, is_forced, force_of, assign_of}
use Rattle.vh_proc_assign.specs.Assigned.{is_same_value, change_of, made_of, with_digits}
use Rattle.vh_proc_assign.specs.Values.{right_side}

-- The value of an expression as an object takes it, with the object's width and sign.
abbrev pub value_for : Shape → Contents → ℕ → ℕ → Vector
value_for d s o e = with_digits (shown s (whole o)) 0 (right_side d s e (object_width d.objects o))

-- The change of an object that showed one value and shows another; none where it shows the same.
abbrev pub change_between : Object → Vector → Vector → Option Change
change_between o old new = if is_same_value old new then None else Some (change_of o old new)

-- What is told of an object that was forced or released, also where it shows the same as before.
abbrev pub layer_made : Layer → ℕ → Contents → Contents → List Made
layer_made l o old new =
    record { object = whole o; change = change_between (whole o) (shown old (whole o)) (shown new (whole o)); layer = l } ∷ []

-- `force`: the value is evaluated at once. (9.3.2)
abbrev pub with_force : Shape → ℕ → ℕ → Contents → Contents
with_force d o e s = forced o (value_for d s o e) (Some e) s

abbrev pub force_made : Shape → ℕ → ℕ → Contents → List Made
force_made d o e s = layer_made layer.Force o s (with_force d o e s)

-- `release`: nothing is told of an object that isn't forced. (9.3.2; the latter is own)
abbrev pub release_made : ℕ → Contents → List Made
release_made o s = if is_forced s o then layer_made layer.Release o s (released o s) else []

-- `assign` and `deassign`. (9.3.1)
abbrev pub with_assign : Shape → ℕ → ℕ → Contents → Contents
with_assign d o e s = procedural o (value_for d s o e) e s

abbrev pub shown_made : ℕ → Contents → Contents → List Made
shown_made o old new = made_of (whole o) (shown old (whole o)) (shown new (whole o))

abbrev pub listed_change : ℕ → Option Change → List Made
listed_change o None = []
listed_change o (Some c) = record { object = whole o; change = Some c; layer = layer.Plain } ∷ []

-- The expression that the force of an object follows, or its procedural assign: none where none is in force, or
-- where a put gave the value. (9.3)
abbrev pub expr_of : Bool → Contents → ℕ → Option ℕ
expr_of true s o = force_of s o
expr_of false s o = assign_of s o

abbrev pub with_layer : Bool → Shape → ℕ → ℕ → Contents → Contents
with_layer true d o e s = with_force d o e s
with_layer false d o e s = with_assign d o e s

-- It is followed: a force or assign that is in force takes the present value of its expression, one of the design's;
-- where none is in force, nothing is done. (9.3; the latter is own)
abbrev pub followed_by : Option ℕ → Bool → Shape → ℕ → Contents → Contents
followed_by None force d o s = s
followed_by (Some e) force d o s = if fits_force d.objects (length d.exprs) o e then with_layer force d o e s else s

abbrev pub with_follow : Bool → Shape → ℕ → Contents → Contents
with_follow force d o s = followed_by (expr_of force s o) force d o s

-- That is no force of its own: it is told where the object shows another value. (own)
abbrev pub follow_made : Bool → Shape → ℕ → Contents → List Made
follow_made force d o s = shown_made o s (with_follow force d o s)
