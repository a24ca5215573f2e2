-- What a store holds before all: every digit of every variable is x, and every digit of every driver z.
-- (IEEE 1364-2005, 4.2.2; the latter is own)
use Rattle.std.specs.Prelude.{◌≡◌, ℕ, List, [], ◌∷◌, ◌++◌, length, map, replicate, Bool, true, false, if◌then◌else◌, Option, Some, None, slice_get}
use Rattle.std.specs.List.{fold}
use Rattle.vh_logic.specs.declared.digits.Digit.TheVariants.{X, Z}
use Rattle.vh_logic.specs.Vector.{Vector, filled}
use Rattle.vh_logic.specs.Parts.{resized}
use Rattle.vh_design_nodes.specs.declared.expr.ExprKind.{ExprKind}
use Rattle.vh_design_nodes.specs.declared.expr.ExprKind.TheVariants as kind
use Rattle.vh_design_nodes.specs.declared.expr.ExprNode.{ExprNode}
use Rattle.vh_design_nodes.specs.declared.object.Detail.{Detail}
use Rattle.vh_design_nodes.specs.declared.object.Detail.TheVariants as detail
use Rattle.vh_design_nodes.specs.declared.object.ObjectInfo.{ObjectInfo}
use Rattle.vh_design_nodes.specs.declared.object.NetType.{NetType}
use Rattle.vh_design_nodes.specs.declared.object.NetType.TheVariants as type
use Rattle.vh_design_nodes.specs.declared.driver.DriverInfo.{DriverInfo}
use Rattle.vh_design_nodes.specs.Fits.{lowest_of}
use Rattle.vh_design_nodes.specs.Kinds.{is_memory, is_net}
use Rattle.vh_design.specs.Shape.{Shape}
use Rattle.vh_store.specs.declared.net.Driven.{Driven}
use Rattle.vh_store.specs.declared.store.DriverPosition.{DriverPosition}
use Rattle.vh_store.specs.Contents.{Assigned, variable, memory, net, Record, plain, with_record, Contents, answered}

-- X at each digit of an object.
abbrev pub unknown : ObjectInfo → Vector
unknown i = filled i.width X i.signed

-- The value of a number or a string that stands in an expression.
abbrev pub literal_in : ExprKind → Option Vector
literal_in (kind.Literal v) = Some v
literal_in _ = None

-- The number at a detail's expression: a parameter's value, and a constant's.
abbrev pub literal_at : Option ExprNode → Option Vector
literal_at None = None
literal_at (Some n) = literal_in n.kind

abbrev pub constant_in : List ExprNode → Detail → Option Vector
constant_in ns detail.Plain = None
constant_in ns (detail.Net type) = None
constant_in ns (detail.Port output index) = None
constant_in ns (detail.Module name) = None
constant_in ns (detail.Memory lowest) = None
constant_in ns (detail.Value e) = literal_at (slice_get ns e)
constant_in ns (detail.Call systf result args) = None
constant_in ns (detail.Routine body) = None

-- Z at each digit of a net.
abbrev pub undriven : ObjectInfo → Vector
undriven i = filled i.width Z i.signed

-- The type of a net.
abbrev pub table_of : Detail → NetType
table_of detail.Plain = type.Wire
table_of (detail.Net t) = t
table_of (detail.Port output index) = type.Wire
table_of (detail.Module name) = type.Wire
table_of (detail.Memory lowest) = type.Wire
table_of (detail.Value e) = type.Wire
table_of (detail.Call systf result args) = type.Wire
table_of (detail.Routine body) = type.Wire

-- Parameters and constants have their value from the beginning, in the object's width and sign; all else is x.
abbrev pub first_value : ObjectInfo → Option Vector → Vector
first_value i None = unknown i
first_value i (Some v) = resized v i.width i.signed

abbrev pub opening_base : List ExprNode → ObjectInfo → Assigned
opening_base ns i =
    if is_memory i.kind then memory (lowest_of i.detail) (replicate i.words (unknown i))
    else if is_net i.kind then net (record { table = table_of i.detail; undriven = undriven i; drivers = [] })
    else variable (first_value i (constant_in ns i.detail))

abbrev pub opening_record : List ExprNode → ObjectInfo → Record
opening_record ns i = plain (opening_base ns i)

-- Objects, and where their drivers are.
pub record Wired : Type 0 where
  pub records : List Record
  pub drivers : List DriverPosition

-- A driver is z at each digit, behind those that its net has.
abbrev pub opening_driver : DriverInfo → Driven
opening_driver x = record { low = x.low; below = x.below; value = filled x.width Z false }

abbrev pub one_driver_more : DriverInfo → Assigned → Assigned
one_driver_more x (variable v) = variable v
one_driver_more x (memory lowest words) = memory lowest words
one_driver_more x (net n) = net (record n { drivers = n.drivers ++ opening_driver x ∷ [] })

abbrev pub with_one_driver : DriverInfo → Record → Record
with_one_driver x r = record r { base = one_driver_more x r.base }

abbrev pub count_in : Assigned → ℕ
count_in (variable v) = 0
count_in (memory lowest words) = 0
count_in (net n) = length n.drivers

abbrev pub count_at : Option Record → ℕ
count_at None = 0
count_at (Some r) = count_in r.base

abbrev pub wired : Wired → DriverInfo → Wired
wired w x = record {
  records = with_record (slice_get w.records x.object) x.object (with_one_driver x) w.records;
  drivers = w.drivers ++ record { object = x.object; index = count_at (slice_get w.records x.object) } ∷ [];
}

-- Each object has its record, and each driver in turn comes to its net.
abbrev pub opening_wired : Shape → Wired
opening_wired d = fold wired (record { records = map (opening_record d.exprs) d.objects; drivers = [] }) d.drivers

-- Does a call stand there, of a function or of a user system function?
abbrev pub is_call : ExprKind → Bool
is_call (kind.Call function result arguments) = true
is_call (kind.SysCall o) = true
is_call _ = false

-- What a call has answered before it was made: x in its width.
abbrev pub first_result : ExprNode → Option Vector
first_result n = if is_call n.kind then Some (filled n.width X n.signed) else None

abbrev pub result_at : Option ExprNode → Option Vector
result_at None = None
result_at (Some n) = first_result n

-- The store of a design at time 0.
pub record IsOpening (d : Shape) (s : Contents) : Type 0 where
  pub records : s.records ≡ (opening_wired d).records
  pub drivers : s.drivers ≡ (opening_wired d).drivers
  pub results : (e : ℕ) → answered s e ≡ result_at (slice_get d.exprs e)
  pub time : s.time ≡ 0
