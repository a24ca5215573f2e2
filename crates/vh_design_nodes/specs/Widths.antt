-- The width and the sign of an expression where nothing around it asks for more. (IEEE 1364-2005, 5.4.1 and
-- 5.5.1, in this project's profile)
use Rattle.std.specs.Prelude.{ℕ, ◌+◌, ◌*◌, List, map, max, min, Bool, true, false, if◌then◌else◌, ◌&&◌, slice_get, unwrap_or}
use Rattle.std.specs.List.{fold, list_all}
use Rattle.std.specs.Option.{option_map}
use Rattle.vh_logic.specs.declared.vector.TheConstants.{MAX_WIDTH}
use Rattle.vh_logic.specs.Vector.{width_of as vector_width}
use Rattle.vh_design_nodes.specs.declared.driver.DriverInfo.{DriverInfo}
use Rattle.vh_design_nodes.specs.declared.expr.ExprKind.{ExprKind}
use Rattle.vh_design_nodes.specs.declared.expr.ExprKind.TheVariants as kind
use Rattle.vh_design_nodes.specs.declared.expr.ExprNode.{ExprNode}
use Rattle.vh_design_nodes.specs.declared.expr.Link.{Link}
use Rattle.vh_design_nodes.specs.declared.expr.Select.{Select}
use Rattle.vh_design_nodes.specs.declared.expr.Select.TheVariants as select
use Rattle.vh_design_nodes.specs.declared.expr.Selected.{Selected}
use Rattle.vh_design_nodes.specs.declared.expr.Unary.{Unary}
use Rattle.vh_design_nodes.specs.declared.expr.Unary.TheVariants as unary
use Rattle.vh_design_nodes.specs.declared.object.ObjectInfo.{ObjectInfo}

-- The width of an expression by its number, and whether it is signed.
abbrev pub width_of : List ExprNode → ℕ → ℕ
width_of ns e = unwrap_or (option_map (λ n. n.width) (slice_get ns e)) 1

abbrev pub signed_of : List ExprNode → ℕ → Bool
signed_of ns e = unwrap_or (option_map (λ n. n.signed) (slice_get ns e)) false

-- The same of an object.
abbrev pub object_width : List ObjectInfo → ℕ → ℕ
object_width os o = unwrap_or (option_map (λ i. i.width) (slice_get os o)) 1

abbrev pub object_signed : List ObjectInfo → ℕ → Bool
object_signed os o = unwrap_or (option_map (λ i. i.signed) (slice_get os o)) false

-- The width of a driver.
abbrev pub driver_width : List DriverInfo → ℕ → ℕ
driver_width ds x = unwrap_or (option_map (λ d. d.width) (slice_get ds x)) 1

-- The greatest of some widths; the sum, one above the greatest width where it is more than that.
abbrev pub widest : List ExprNode → ℕ → List ℕ → ℕ
widest ns w parts = fold (λ best e. max best (width_of ns e)) w parts

abbrev pub summed : List ExprNode → ℕ → List ℕ → ℕ
summed ns w parts = fold (λ sum e. min (sum + width_of ns e) (MAX_WIDTH + 1)) w parts

-- Are all of them signed?
abbrev pub all_signed : List ExprNode → List ℕ → Bool
all_signed ns parts = list_all (λ e. signed_of ns e) parts

-- The operands of a chain behind the first.
abbrev pub operands : {Op : Type 0} → List (Link Op) → List ℕ
operands links = map (λ l. l.part) links

-- Does the operator give one digit?
abbrev pub is_reduction : Unary → Bool
is_reduction unary.Plus = false
is_reduction unary.Negate = false
is_reduction unary.Invert = false
is_reduction unary.Not = true
is_reduction unary.And = true
is_reduction unary.Nand = true
is_reduction unary.Or = true
is_reduction unary.Nor = true
is_reduction unary.Xor = true
is_reduction unary.Xnor = true

-- How many digits a select names of so many.
abbrev pub select_width : ℕ → Select → ℕ
select_width all select.Whole = all
select_width all (select.Bit range index) = 1
select_width all (select.Slice range lowest width) = width
select_width all (select.Indexed up range base width) = width

-- Does it name all digits, so that the sign stays?
abbrev pub is_whole : Select → Bool
is_whole select.Whole = true
is_whole (select.Bit range index) = false
is_whole (select.Slice range lowest width) = false
is_whole (select.Indexed up range base width) = false

-- The width of what is read or assigned to.
abbrev pub selected_width : List ObjectInfo → Selected → ℕ
selected_width os s = select_width (object_width os s.of.object) s.select

-- The width, a row for each kind: arithmetic and bitwise operators have the greatest of their operands, a shift
-- and a power the left one's, a choice the greater of its branches, a concatenation the sum; comparisons,
-- logical operators and reductions 1.
abbrev pub kind_width : List ExprNode → List ObjectInfo → ExprKind → ℕ
kind_width ns os (kind.Literal v) = vector_width v
kind_width ns os (kind.Selected s) = selected_width os s
kind_width ns os (kind.Unary op e) = if is_reduction op then 1 else width_of ns e
kind_width ns os (kind.Arithmetic first rest) = widest ns (width_of ns first) (operands rest)
kind_width ns os (kind.Shift first rest) = width_of ns first
kind_width ns os (kind.Comparison first rest) = 1
kind_width ns os (kind.Logic first rest) = 1
kind_width ns os (kind.Choice condition left right) = max (width_of ns left) (width_of ns right)
kind_width ns os (kind.Join first rest) = summed ns (width_of ns first) rest
kind_width ns os (kind.Repeat count e) = min (count * width_of ns e) (MAX_WIDTH + 1)
kind_width ns os (kind.WithSign e signed) = width_of ns e
kind_width ns os (kind.Time unit) = 64
kind_width ns os (kind.Call function result arguments) = object_width os result
kind_width ns os (kind.SysCall o) = object_width os o

-- The sign: that of all operands that the context reaches; selects, concatenations, comparisons and logical
-- results are unsigned.
abbrev pub kind_signed : List ExprNode → List ObjectInfo → ExprKind → Bool
kind_signed ns os (kind.Literal v) = v.signed
kind_signed ns os (kind.Selected s) = is_whole s.select && object_signed os s.of.object
kind_signed ns os (kind.Unary op e) = if is_reduction op then false else signed_of ns e
kind_signed ns os (kind.Arithmetic first rest) = signed_of ns first && all_signed ns (operands rest)
kind_signed ns os (kind.Shift first rest) = signed_of ns first
kind_signed ns os (kind.Comparison first rest) = false
kind_signed ns os (kind.Logic first rest) = false
kind_signed ns os (kind.Choice condition left right) = signed_of ns left && signed_of ns right
kind_signed ns os (kind.Join first rest) = false
kind_signed ns os (kind.Repeat count e) = false
kind_signed ns os (kind.WithSign e signed) = signed
kind_signed ns os (kind.Time unit) = false
kind_signed ns os (kind.Call function result arguments) = object_signed os result
kind_signed ns os (kind.SysCall o) = false
