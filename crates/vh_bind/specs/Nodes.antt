-- Nodes of each kind of expression. (IEEE 1364-2005, 5.1, 5.4 and 5.5)
use Rattle.std.specs.Prelude.{ℕ, ◌≤◌, List, [], ◌∷◌, ◌++◌, length, false, not, if◌then◌else◌, nat_le, nat_lt, Option, Some, None, Ok, Err}
use Rattle.std.specs.List.{fold}
use Rattle.vh_logic.specs.declared.vector.TheConstants.{MAX_WIDTH}
use Rattle.vh_base.specs.declared.faults.DesignFault.TheVariants.{N3, N11}
use Rattle.vh_base.specs.declared.place.Place.{Place}
use Rattle.vh_logic.specs.declared.digits.Digit.TheVariants.{Zero}
use Rattle.vh_logic.specs.Vector.{Vector, filled}
use Rattle.vh_logic.specs.Parts.{concatenation}
use Rattle.vh_logic.specs.Planes.{digits_of}
use Rattle.vh_design_nodes.specs.declared.expr.Unary.{Unary}
use Rattle.vh_design_nodes.specs.declared.expr.Unary.TheVariants as to
use Rattle.vh_design_nodes.specs.declared.expr.Arithmetic.{Arithmetic}
use Rattle.vh_design_nodes.specs.declared.expr.Arithmetic.TheVariants as arithmetic
use Rattle.vh_design_nodes.specs.declared.expr.Shift.{Shift}
use Rattle.vh_design_nodes.specs.declared.expr.Shift.TheVariants as shift
use Rattle.vh_design_nodes.specs.declared.expr.Comparison.{Comparison}
use Rattle.vh_design_nodes.specs.declared.expr.Comparison.TheVariants as comparison
use Rattle.vh_design_nodes.specs.declared.expr.Logic.{Logic}
use Rattle.vh_design_nodes.specs.declared.expr.Logic.TheVariants as logic
use Rattle.vh_design_nodes.specs.declared.expr.Link.{Link}
use Rattle.vh_design_nodes.specs.declared.expr.ExprKind.{ExprKind}
use Rattle.vh_design_nodes.specs.declared.expr.ExprKind.TheVariants as kind
use Rattle.vh_design_nodes.specs.declared.expr.ExprNode.{ExprNode}
use Rattle.vh_design_nodes.specs.declared.object.ObjectInfo.{ObjectInfo}
use Rattle.vh_design_nodes.specs.Widths.{kind_width, kind_signed}
use Rattle.vh_design_nodes.specs.Fits.{is_width, fits_node}
use Rattle.vh_design.specs.Validity.{AllFit}
use Rattle.vh_ast.specs.declared.operator.Unary.{Unary as UnaryOperator}
use Rattle.vh_ast.specs.declared.operator.Unary.TheVariants as sign
use Rattle.vh_ast.specs.declared.operator.Binary.{Binary}
use Rattle.vh_ast.specs.declared.operator.Binary.TheVariants as by
use Rattle.vh_bind.specs.declared.operators.Operator.{Operator}
use Rattle.vh_bind.specs.declared.operators.Operator.TheVariants as operator
use Rattle.vh_bind.specs.declared.nodes.TheConstants.{MOST_EXPRS}
use Rattle.vh_bind.specs.declared.scope.Mode.{Mode}
use Rattle.vh_bind.specs.Steps.{Nodes, Step, refused}
use Rattle.vh_bind.specs.Scopes.{Scope, objects_of, precision_of}

-- A node with the width and the sign that its parts and what it reads give. (5.4.1 and 5.5.1)
abbrev pub node_of : Mode → Scope → Nodes → ExprKind → ExprNode
node_of m s ns k = record {
  kind = k;
  width = kind_width ns (objects_of m s) k;
  signed = kind_signed ns (objects_of m s) k;
}

-- One node more, under the next number: its width is from 1 to 64. (5.4.1)
abbrev pub pushed : Mode → Scope → Place → ExprKind → Step (Option ℕ)
pushed m s place k = λ ns.
    if not (is_width (kind_width ns (objects_of m s) k)) then Err (N3, place)
    else (if nat_lt (length ns) MOST_EXPRS then Ok (Some (length ns), ns ++ node_of m s ns k ∷ [])
    else Err (N11, place))

-- Nodes of which each has its parts before it, and reads of these objects what it may.
pub record AreSound (os : List ObjectInfo) (precision : ℕ) (ns : Nodes) : Type 0 where
  pub fit : AllFit (fits_node ns os precision) ns
  pub small : length ns ≤ MOST_EXPRS

-- The same of the objects that an expression may read there.
abbrev pub IsSound : Mode → Scope → Nodes → Type 0
IsSound m s ns = AreSound (objects_of m s) (precision_of m s) ns

-- A unary operator. (Table 5-1)
abbrev pub unary_of : UnaryOperator → Unary
unary_of sign.Plus = to.Plus
unary_of sign.Minus = to.Negate
unary_of sign.Not = to.Not
unary_of sign.Invert = to.Invert
unary_of sign.ReduceAnd = to.And
unary_of sign.ReduceNand = to.Nand
unary_of sign.ReduceOr = to.Or
unary_of sign.ReduceNor = to.Nor
unary_of sign.ReduceXor = to.Xor
unary_of sign.ReduceXnor = to.Xnor

-- A binary operator, by the kind of its chain. (Table 5-1)
abbrev pub operator_of : Binary → Operator
operator_of by.Power = operator.Shift shift.Power
operator_of by.Times = operator.Arithmetic arithmetic.Multiply
operator_of by.Divide = operator.Arithmetic arithmetic.Divide
operator_of by.Modulus = operator.Arithmetic arithmetic.Remainder
operator_of by.Plus = operator.Arithmetic arithmetic.Add
operator_of by.Minus = operator.Arithmetic arithmetic.Subtract
operator_of by.ShiftLeft = operator.Shift shift.Left
operator_of by.ShiftRight = operator.Shift shift.Right
operator_of by.ArithmeticShiftLeft = operator.Shift shift.SignedLeft
operator_of by.ArithmeticShiftRight = operator.Shift shift.SignedRight
operator_of by.Less = operator.Comparison comparison.Less
operator_of by.LessEqual = operator.Comparison comparison.LessOrEqual
operator_of by.Greater = operator.Comparison comparison.Greater
operator_of by.GreaterEqual = operator.Comparison comparison.GreaterOrEqual
operator_of by.LogicalEqual = operator.Comparison comparison.Equal
operator_of by.LogicalUnequal = operator.Comparison comparison.NotEqual
operator_of by.CaseEqual = operator.Comparison comparison.CaseEqual
operator_of by.CaseUnequal = operator.Comparison comparison.CaseNotEqual
operator_of by.And = operator.Arithmetic arithmetic.And
operator_of by.Xor = operator.Arithmetic arithmetic.Xor
operator_of by.Xnor = operator.Arithmetic arithmetic.Xnor
operator_of by.Or = operator.Arithmetic arithmetic.Or
operator_of by.AndAnd = operator.Logic logic.And
operator_of by.OrOr = operator.Logic logic.Or

-- It, as one of such a chain.
abbrev pub as_arithmetic : Operator → Option Arithmetic
as_arithmetic (operator.Arithmetic op) = Some op
as_arithmetic (operator.Shift op) = None
as_arithmetic (operator.Comparison op) = None
as_arithmetic (operator.Logic op) = None

abbrev pub as_shift : Operator → Option Shift
as_shift (operator.Arithmetic op) = None
as_shift (operator.Shift op) = Some op
as_shift (operator.Comparison op) = None
as_shift (operator.Logic op) = None

abbrev pub as_comparison : Operator → Option Comparison
as_comparison (operator.Arithmetic op) = None
as_comparison (operator.Shift op) = None
as_comparison (operator.Comparison op) = Some op
as_comparison (operator.Logic op) = None

abbrev pub as_logic : Operator → Option Logic
as_logic (operator.Arithmetic op) = None
as_logic (operator.Shift op) = None
as_logic (operator.Comparison op) = None
as_logic (operator.Logic op) = Some op

-- The operators of a chain with the operands behind them. (All are of one kind where the tree is one of the
-- grammar's.)
abbrev pub with_link : {Op : Type 0} → Option Op → ℕ → List (Link Op) → List (Link Op)
with_link None e links = links
with_link (Some op) e links = record { op = op; part = e } ∷ links

abbrev pub links_by : {Op : Type 0} → (Operator → Option Op) → List Operator → List ℕ → List (Link Op)
links_by pick [] es = []
links_by pick (o ∷ os) [] = []
links_by pick (o ∷ os) (e ∷ es) = with_link (pick o) e (links_by pick os es)

-- A chain, by its first operator. (5.1.2)
abbrev pub chain_kind : Operator → List Operator → ℕ → List ℕ → ExprKind
chain_kind (operator.Arithmetic op) os first rest = kind.Arithmetic first (links_by as_arithmetic os rest)
chain_kind (operator.Shift op) os first rest = kind.Shift first (links_by as_shift os rest)
chain_kind (operator.Comparison op) os first rest = kind.Comparison first (links_by as_comparison os rest)
chain_kind (operator.Logic op) os first rest = kind.Logic first (links_by as_logic os rest)

abbrev pub chained : Mode → Scope → Place → List Operator → ℕ → List ℕ → Step (Option ℕ)
chained m s place [] first rest = λ ns. Ok (Some first, ns)
chained m s place (o ∷ os) first rest = pushed m s place (chain_kind o (o ∷ os) first rest)

-- A concatenation: one of nothing has no width. (5.1.14)
abbrev pub joined : Mode → Scope → Place → List ℕ → Step (Option ℕ)
joined m s place [] = refused N3 place
joined m s place (e ∷ es) = pushed m s place (kind.Join e es)

-- So many times a concatenation. (5.1.14)
abbrev pub repeated : Mode → Scope → Place → ℕ → ℕ → Step (Option ℕ)
repeated m s place count e =
    if nat_le count MAX_WIDTH then pushed m s place (kind.Repeat count e) else refused N3 place

-- A string as a number: 8 digits a byte, the last byte lowest; an empty one has 8 digits. (3.6 and 4.2.3)
abbrev pub byte_value : ℕ → Vector
byte_value b = record { digits = digits_of 8 b 0; signed = false }

abbrev pub with_byte : Vector → ℕ → Vector
with_byte v b = concatenation v (byte_value b)

abbrev pub text_value : List ℕ → Vector
text_value [] = filled 8 Zero false
text_value (b ∷ bs) = fold with_byte (byte_value b) bs

abbrev pub text_pushed : Mode → Scope → Place → List ℕ → Step (Option ℕ)
text_pushed m s place bytes =
    if nat_le (length bytes) 8 then pushed m s place (kind.Literal (text_value bytes)) else refused N3 place
