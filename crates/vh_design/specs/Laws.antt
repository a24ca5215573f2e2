-- What the rules mean for the numbers of a design, rule by rule. (own)
use Rattle.std.specs.Prelude.{◌≡◌, ◌<◌, ◌≤◌, ℕ, Bool, List, [], ◌∷◌, All, IfSome, Option, Some, None, slice_get}
use Rattle.vh_design_nodes.specs.declared.driver.DriverInfo.{DriverInfo}
use Rattle.vh_design_nodes.specs.declared.expr.Access.{Access}
use Rattle.vh_design_nodes.specs.declared.expr.Access.TheVariants as access
use Rattle.vh_design_nodes.specs.declared.expr.ExprKind.{ExprKind}
use Rattle.vh_design_nodes.specs.declared.expr.ExprKind.TheVariants as kind
use Rattle.vh_design_nodes.specs.declared.expr.ExprNode.{ExprNode}
use Rattle.vh_design_nodes.specs.declared.expr.Select.{Select}
use Rattle.vh_design_nodes.specs.declared.expr.Select.TheVariants as select
use Rattle.vh_design_nodes.specs.declared.expr.Selected.{Selected}
use Rattle.vh_design_nodes.specs.declared.fits.TheConstants.{MOST_UNIT}
use Rattle.vh_design_nodes.specs.declared.object.Kind.{Kind}
use Rattle.vh_design_nodes.specs.declared.object.ObjectInfo.{ObjectInfo}
use Rattle.vh_design_nodes.specs.Kinds.{is_variable, is_memory, is_function, is_system_function, is_net}
use Rattle.vh_design.specs.Shape.{Shape}
use Rattle.vh_design_nodes.specs.Fits.{IsOfKind, may_be}
use Rattle.vh_design.specs.Validity.{IsMeasured, IsValid}
use Rattle.vh_design_nodes.specs.Widths.{operands}

-- Some expressions, with that of a word's address where there is one.
abbrev pub with_address : Option ℕ → List ℕ → List ℕ
with_address None parts = parts
with_address (Some at) parts = at ∷ parts

-- The expressions by which something is read or assigned to.
abbrev pub select_exprs : Select → List ℕ
select_exprs select.Whole = []
select_exprs (select.Bit range index) = index ∷ []
select_exprs (select.Slice range lowest width) = []
select_exprs (select.Indexed up range base width) = base ∷ []

abbrev pub selected_exprs : Selected → List ℕ
selected_exprs s = with_address s.of.word (select_exprs s.select)

-- The expressions that an expression is made of.
abbrev pub parts_of : ExprKind → List ℕ
parts_of (kind.Literal v) = []
parts_of (kind.Selected s) = selected_exprs s
parts_of (kind.Unary op part) = part ∷ []
parts_of (kind.Arithmetic first rest) = first ∷ operands rest
parts_of (kind.Shift first rest) = first ∷ operands rest
parts_of (kind.Comparison first rest) = first ∷ operands rest
parts_of (kind.Logic first rest) = first ∷ operands rest
parts_of (kind.Choice condition left right) = condition ∷ left ∷ right ∷ []
parts_of (kind.Join first rest) = first ∷ rest
parts_of (kind.Repeat count part) = part ∷ []
parts_of (kind.WithSign part signed) = part ∷ []
parts_of (kind.Time unit) = []
parts_of (kind.Call function result arguments) = arguments
parts_of (kind.SysCall o) = []

-- An object that is read or changed, and the test that its kind passes.
pub record Read : Type 0 where
  pub object : ℕ
  pub test : Kind → Bool

abbrev pub read : ℕ → (Kind → Bool) → Read
read o test = record { object = o; test = test }

abbrev pub read_word : Access → ℕ → Option ℕ → Read
read_word access o None = read o (may_be access)
read_word access o (Some at) = read o is_memory

abbrev pub read_selected : Access → Selected → Read
read_selected access s = read_word access s.of.object s.of.word

-- The objects that an expression reads by itself.
abbrev pub reads_of : ExprKind → List Read
reads_of (kind.Literal v) = []
reads_of (kind.Selected s) = read_selected access.Read s ∷ []
reads_of (kind.Unary op part) = []
reads_of (kind.Arithmetic first rest) = []
reads_of (kind.Shift first rest) = []
reads_of (kind.Comparison first rest) = []
reads_of (kind.Logic first rest) = []
reads_of (kind.Choice condition left right) = []
reads_of (kind.Join first rest) = []
reads_of (kind.Repeat count part) = []
reads_of (kind.WithSign part signed) = []
reads_of (kind.Time unit) = []
reads_of (kind.Call function result arguments) = read function is_function ∷ read result is_variable ∷ []
reads_of (kind.SysCall o) = read o is_system_function ∷ []

-- The parts of an expression have lesser numbers.
abbrev pub PartsComeBefore : Type 0
PartsComeBefore = (d : Shape) (e : ℕ) (n : ExprNode) → IsValid d → slice_get d.exprs e ≡ Some n
    → All (λ p. p < e) (parts_of n.kind)

-- The objects that it reads are of kinds that may stand there.
abbrev pub ReadsFit : Type 0
ReadsFit = (d : Shape) (e : ℕ) (n : ExprNode) → IsValid d → slice_get d.exprs e ≡ Some n
    → All (λ r. IsOfKind d.objects r.test r.object) (reads_of n.kind)

-- Its width, one that a vector may have, and its sign are those that its parts give.
abbrev pub NodesAreMeasured : Type 0
NodesAreMeasured = (d : Shape) (e : ℕ) (n : ExprNode) → IsValid d → slice_get d.exprs e ≡ Some n → IsMeasured d n

-- A time unit is not below the precision, nor above 100 s.
abbrev pub UnitsFit : Type 0
UnitsFit = (d : Shape) (e : ℕ) (n : ExprNode) (unit : ℕ) → IsValid d → slice_get d.exprs e ≡ Some n
    → n.kind ≡ kind.Time unit → (unit ≤ MOST_UNIT) × (d.precision ≤ unit)

-- The scope of an object has a lesser number.
abbrev pub ScopesComeBefore : Type 0
ScopesComeBefore = (d : Shape) (o : ℕ) (i : ObjectInfo) → IsValid d → slice_get d.objects o ≡ Some i
    → IfSome i.parent (λ p. p < o)

-- A driver is one of a net.
abbrev pub DriversAreOfNets : Type 0
DriversAreOfNets = (d : Shape) (x : ℕ) (i : DriverInfo) → IsValid d → slice_get d.drivers x ≡ Some i
    → IsOfKind d.objects is_net i.object

-- The precision is not above 100 s.
abbrev pub PrecisionFits : Type 0
PrecisionFits = (d : Shape) → IsValid d → d.precision ≤ MOST_UNIT
