-- Which operands an evaluation may go on to. (own)
use Rattle.std.specs.Prelude.{◌≡◌, ◌<◌, ◌≤◌, ℕ, List, length, true, Some, slice_get}
use Rattle.vh_design.specs.Shape.{Shape}
use Rattle.vh_logic.specs.declared.vector.TheConstants.{MAX_WIDTH}
use Rattle.vh_design_nodes.specs.declared.expr.ExprKind.{ExprKind}
use Rattle.vh_design_nodes.specs.declared.expr.ExprNode.{ExprNode}
use Rattle.vh_design_nodes.specs.Fits.{fits_kind}
use Rattle.vh_design_nodes.specs.Widths.{kind_width, width_of}

-- Each has a number below that of the expression.
abbrev pub AreBefore : ℕ → List ℕ → Type 0
AreBefore e parts = (k part : ℕ) → slice_get parts k ≡ Some part → part < e

-- And none is wider than the context.
abbrev pub AreReady : List ExprNode → ℕ → ℕ → List ℕ → Type 0
AreReady ns e w parts = (k part : ℕ) → slice_get parts k ≡ Some part → (part < e) × (width_of ns part ≤ w)

-- The expression of this number may be of this kind, which is no wider than the context.
pub record FitsContext (d : Shape) (e : ℕ) (kind : ExprKind) (width : ℕ) : Type 0 where
  pub known : e < length d.exprs
  pub fits : fits_kind d.objects d.precision e kind ≡ true
  pub least : 1 ≤ kind_width d.exprs d.objects kind
  pub wide : kind_width d.exprs d.objects kind ≤ width
  pub small : width ≤ MAX_WIDTH
