-- Which objects an expression reads; a memory counts with all its words. (IEEE 1364-2005, 5.2 and 9.3.2)
use Rattle.std.specs.Prelude.{ℕ, zero, suc, Bool, true, false, ◌||◌, ◌==◌, List, Option, Some, None, length, slice_get}
use Rattle.std.specs.List.{list_any}
use Rattle.vh_design_nodes.specs.declared.expr.ExprKind.{ExprKind}
use Rattle.vh_design_nodes.specs.declared.expr.ExprKind.TheVariants as kind
use Rattle.vh_design_nodes.specs.declared.expr.ExprNode.{ExprNode}
use Rattle.vh_design.specs.Laws.{parts_of}

-- The object whose value an expression itself reads, where it reads one: whole, in part, or a word of it. A call of a
-- function reads none beside its arguments; one of a user system function can't stand in a force or an assign.
abbrev pub object_in : ExprKind → Option ℕ
object_in (kind.Literal v) = None
object_in (kind.Selected s) = Some s.of.object
object_in (kind.Unary op e) = None
object_in (kind.Arithmetic first rest) = None
object_in (kind.Shift first rest) = None
object_in (kind.Comparison first rest) = None
object_in (kind.Logic first rest) = None
object_in (kind.Choice condition a b) = None
object_in (kind.Join first rest) = None
object_in (kind.Repeat count e) = None
object_in (kind.WithSign e signed) = None
object_in (kind.Time unit) = None
object_in (kind.Call function result arguments) = None
object_in (kind.SysCall o) = None

-- Is the object this one?
abbrev pub is_the : ℕ → Option ℕ → Bool
is_the o None = false
is_the o (Some object) = object == o

-- An expression reads what it reads itself, and what its parts read.
abbrev pub kind_reads : (ℕ → Bool) → ℕ → ExprKind → Bool
kind_reads part o k = is_the o (object_in k) || list_any part (parts_of k)

abbrev pub node_reads : (ℕ → Bool) → ℕ → Option ExprNode → Bool
node_reads part o None = false
node_reads part o (Some n) = kind_reads part o n.kind

-- Does the expression, of a number below k, read the object?
unfoldable pub reads_below : ℕ → List ExprNode → ℕ → ℕ → Bool
reads_below zero ns o e = false
reads_below (suc k) ns o e =
    elim (e == k) [
      | true ↦ node_reads (reads_below k ns o) o (slice_get ns e)
      | false ↦ reads_below k ns o e
    ]

-- Does the expression read the object, or a word of it?
abbrev pub reads : List ExprNode → ℕ → ℕ → Bool
reads ns o e = reads_below (length ns) ns o e
