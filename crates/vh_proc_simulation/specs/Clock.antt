-- Which expressions read the present time. (IEEE 1364-2005, 17.7)
use Rattle.std.specs.Prelude.{ℕ, zero, suc, Bool, true, false, ◌||◌, ◌==◌, List, Option, Some, None, length, slice_get}
use Rattle.std.specs.List.{list_any}
use Rattle.vh_design_nodes.specs.declared.expr.ExprKind.{ExprKind}
use Rattle.vh_design_nodes.specs.declared.expr.ExprKind.TheVariants as kind
use Rattle.vh_design_nodes.specs.declared.expr.ExprNode.{ExprNode}
use Rattle.vh_design.specs.Laws.{parts_of}

-- Is it `$time`?
abbrev pub is_clock : ExprKind → Bool
is_clock (kind.Time unit) = true
is_clock _ = false

-- It is, or a part of it reads the time.
abbrev pub kind_asks : (ℕ → Bool) → ExprKind → Bool
kind_asks part k = is_clock k || list_any part (parts_of k)

abbrev pub node_asks : (ℕ → Bool) → Option ExprNode → Bool
node_asks part None = false
node_asks part (Some n) = kind_asks part n.kind

-- Does the expression, of a number below k, read the time?
unfoldable pub asks_below : ℕ → List ExprNode → ℕ → Bool
asks_below zero ns e = false
asks_below (suc k) ns e =
    elim (e == k) [
      | true ↦ node_asks (asks_below k ns) (slice_get ns e)
      | false ↦ asks_below k ns e
    ]

-- Does the expression read the time?
abbrev pub asks_time : List ExprNode → ℕ → Bool
asks_time ns e = asks_below (length ns) ns e
