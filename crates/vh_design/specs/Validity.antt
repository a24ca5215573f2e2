-- Which parts make a design. (own)
use Rattle.std.specs.Prelude.{◌≡◌, ◌<◌, ◌≤◌, ◌^◌, ℕ, List, Bool, true, length, nat_le, Option, Some, slice_get}
use Rattle.std.specs.Option.{option_and_then}
use Rattle.vh_logic.specs.declared.vector.TheConstants.{MAX_WIDTH}
use Rattle.vh_design_nodes.specs.declared.expr.ExprNode.{ExprNode}
use Rattle.vh_design_nodes.specs.declared.object.Detail.{Detail}
use Rattle.vh_design_nodes.specs.declared.fits.TheConstants.{MOST_UNIT}
use Rattle.vh_design_nodes.specs.Fits.{body_number, fits_detail, fits_object, fits_node, fits_driver}
use Rattle.vh_design_nodes.specs.Widths.{kind_width, kind_signed}
use Rattle.vh_design_code.specs.declared.code.Code.{Code}
use Rattle.vh_design_code.specs.declared.codes.Limits.{Limits}
use Rattle.vh_design_code.specs.declared.show.ShowCall.{ShowCall}
use Rattle.vh_design_code.specs.Codes.{fits_code, fits_wait, fits_show, fits_statement}
use Rattle.vh_design.specs.Shape.{Shape}

-- Each element passes a test of its number and itself.
abbrev pub AllFit : {T : Type 0} → (ℕ → T → Bool) → List T → Type 0
AllFit {T} test xs = (k : ℕ) (x : T) → slice_get xs k ≡ Some x → test k x ≡ true

-- How many waits, display calls and statements there are, and the precision.
abbrev pub limits_of : Shape → Limits
limits_of d = record {
  waits = length d.waits;
  shows = length d.shows;
  stmts = length d.stmts;
  precision = d.precision;
}

-- Each of these codes may stand in the design.
abbrev pub CodesFit : Shape → List Code → Type 0
CodesFit d cs = AllFit (λ k. fits_code d.objects d.exprs d.drivers (limits_of d)) cs

-- Each of its display calls may.
abbrev pub CallsFit : Shape → Type 0
CallsFit d = AllFit (λ s. fits_show d.objects (length d.exprs) d.precision) d.shows

-- The rules, of all objects, expressions and drivers, and of the precision.
pub record NodesFit (d : Shape) : Type 0 where
  pub objects : AllFit (fits_object (length d.exprs) (length d.bodies) d.objects) d.objects
  pub exprs : AllFit (fits_node d.exprs d.objects d.precision) d.exprs
  pub drivers : AllFit (λ x. fits_driver d.objects) d.drivers
  pub precise : nat_le d.precision MOST_UNIT ≡ true

-- Of all waits, display calls and statements.
pub record NamesFit (d : Shape) : Type 0 where
  pub waits : AllFit (λ w. fits_wait d.objects) d.waits
  pub shows : CallsFit d
  pub stmts : AllFit (λ n. fits_statement d.objects) d.stmts

-- And of all codes and bodies.
pub record IsValid (d : Shape) : Type 0 where
  pub nodes : NodesFit d
  pub names : NamesFit d
  pub codes : CodesFit d d.codes
  pub bodies : CodesFit d d.bodies

-- No list has more elements than there are numbers for them.
pub record IsCounted (d : Shape) : Type 0 where
  pub objects : length d.objects < 2 ^ 32
  pub exprs : length d.exprs < 2 ^ 32
  pub drivers : length d.drivers < 2 ^ 32
  pub codes : length d.codes < 2 ^ 32
  pub bodies : length d.bodies < 2 ^ 32
  pub waits : length d.waits < 2 ^ 32
  pub shows : length d.shows < 2 ^ 32
  pub stmts : length d.stmts < 2 ^ 32

-- What each design keeps.
pub record IsDesign (d : Shape) : Type 0 where
  pub valid : IsValid d
  pub counted : IsCounted d

-- The width of an expression is one that a vector may have, and it and the sign are those that its parts give.
pub record IsMeasured (d : Shape) (n : ExprNode) : Type 0 where
  pub width : n.width ≡ kind_width d.exprs d.objects n.kind
  pub least : 1 ≤ n.width
  pub most : n.width ≤ MAX_WIDTH
  pub signed : n.signed ≡ kind_signed d.exprs d.objects n.kind

-- What the detail of an object names is there.
abbrev pub IsThere : Shape → Detail → Type 0
IsThere d it = fits_detail (length d.exprs) (length d.bodies) d.objects it ≡ true

-- The body of a task or function, by its object's number.
abbrev pub body_at : Shape → ℕ → Option Code
body_at d t = option_and_then (λ n. slice_get d.bodies n) (body_number d.objects t)

-- A code may stand in the design.
abbrev pub CodeFits : Shape → Code → Type 0
CodeFits d c = fits_code d.objects d.exprs d.drivers (limits_of d) c ≡ true

-- A display call may.
abbrev pub CallFits : Shape → ShowCall → Type 0
CallFits d s = fits_show d.objects (length d.exprs) d.precision s ≡ true
