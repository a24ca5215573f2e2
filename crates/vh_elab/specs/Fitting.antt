-- Do parts make a design? The rules of `vh_design` as a test. (own)
use Rattle.std.specs.Prelude.{ℕ, ◌+◌, Bool, true, false, ◌&&◌, if◌then◌else◌, List, [], ◌∷◌, length, nat_le, nat_lt}
use Rattle.vh_design_nodes.specs.declared.expr.ExprNode.{ExprNode}
use Rattle.vh_design_nodes.specs.declared.object.ObjectInfo.{ObjectInfo}
use Rattle.vh_design_nodes.specs.declared.fits.TheConstants.{MOST_UNIT}
use Rattle.vh_design_nodes.specs.Fits.{fits_object, fits_node, fits_driver}
use Rattle.vh_design_code.specs.declared.code.Code.{Code}
use Rattle.vh_design_code.specs.Codes.{fits_code, fits_wait, fits_show, fits_statement}
use Rattle.vh_design.specs.Shape.{Shape}
use Rattle.vh_bind.specs.declared.nodes.TheConstants.{MOST_EXPRS}
use Rattle.vh_design.specs.Validity.{limits_of}

-- Each element passes a test of its number and itself, the first having this number.
abbrev pub all_fit : {T : Type 0} → (ℕ → T → Bool) → ℕ → List T → Bool
all_fit test k [] = true
all_fit test k (x ∷ xs) = test k x && all_fit test (k + 1) xs

abbrev pub exprs_fit : List ObjectInfo → ℕ → List ExprNode → Bool
exprs_fit os precision ns = all_fit (fits_node ns os precision) 0 ns

-- Such expressions, of which there are no more than there may be.
abbrev pub are_sound : List ObjectInfo → ℕ → List ExprNode → Bool
are_sound os precision ns = if nat_lt MOST_EXPRS (length ns) then false else exprs_fit os precision ns

abbrev pub codes_fit : Shape → List Code → Bool
codes_fit d cs = all_fit (λ k. fits_code d.objects d.exprs d.drivers (limits_of d)) 0 cs

abbrev pub nodes_fit : Shape → Bool
nodes_fit d =
    all_fit (fits_object (length d.exprs) (length d.bodies) d.objects) 0 d.objects
    && (exprs_fit d.objects d.precision d.exprs
    && (all_fit (λ x. fits_driver d.objects) 0 d.drivers && nat_le d.precision MOST_UNIT))

abbrev pub names_fit : Shape → Bool
names_fit d =
    all_fit (λ w. fits_wait d.objects) 0 d.waits
    && (all_fit (λ s. fits_show d.objects (length d.exprs) d.precision) 0 d.shows
    && all_fit (λ n. fits_statement d.objects) 0 d.stmts)

abbrev pub is_design : Shape → Bool
is_design d = nodes_fit d && (names_fit d && (codes_fit d d.codes && codes_fit d d.bodies))
