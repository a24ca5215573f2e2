-- What an assignment may change, and how many digits it changes. (IEEE 1364-2005, clauses 6 and 9.2, in this
-- project's profile)
use Rattle.std.specs.Prelude.{ℕ, ◌+◌, List, min, Bool, ◌&&◌, nat_lt, length}
use Rattle.std.specs.List.{fold, list_all}
use Rattle.vh_logic.specs.declared.vector.TheConstants.{MAX_WIDTH}
use Rattle.vh_design_nodes.specs.declared.driver.DriverInfo.{DriverInfo}
use Rattle.vh_design_nodes.specs.declared.expr.Access.TheVariants as access
use Rattle.vh_design_nodes.specs.declared.expr.Selected.{Selected}
use Rattle.vh_design_nodes.specs.declared.object.ObjectInfo.{ObjectInfo}
use Rattle.vh_design_nodes.specs.Fits.{has_kind, is_width, is_unit, fits_selected}
use Rattle.vh_design_nodes.specs.Kinds.{is_variable}
use Rattle.vh_design_nodes.specs.Widths.{selected_width, driver_width}
use Rattle.vh_design_code.specs.declared.target.Delay.{Delay}
use Rattle.vh_design_code.specs.declared.target.Input.{Input}
use Rattle.vh_design_code.specs.declared.target.Output.{Output}

-- How many some targets have, one above the greatest width where it is more than that.
abbrev pub targets_width : List ObjectInfo → List Selected → ℕ
targets_width os ts = fold (λ sum t. min (sum + selected_width os t) (MAX_WIDTH + 1)) 0 ts

-- The same of some drivers.
abbrev pub drivers_width : List DriverInfo → List ℕ → ℕ
drivers_width ds xs = fold (λ sum x. min (sum + driver_width ds x) (MAX_WIDTH + 1)) 0 xs

-- A target beside so many expressions: a variable, or a word of a memory, or digits of one.
abbrev pub fits_target : List ObjectInfo → ℕ → Selected → Bool
fits_target os exprs t = fits_selected os exprs access.Assigned t && is_width (selected_width os t)

-- The left side of an assignment: its targets may stand there, and have together a width that a vector may have.
abbrev pub fits_targets : List ObjectInfo → ℕ → List Selected → Bool
fits_targets os exprs ts = list_all (fits_target os exprs) ts && is_width (targets_width os ts)

-- That of a continuous assignment, by its drivers.
abbrev pub fits_drivers : List DriverInfo → List ℕ → Bool
fits_drivers ds xs = list_all (λ x. nat_lt x (length ds)) xs && is_width (drivers_width ds xs)

-- A delay in a design of this precision.
abbrev pub fits_delay : ℕ → ℕ → Delay → Bool
fits_delay exprs precision d = nat_lt d.amount exprs && is_unit precision d.unit

-- What a call writes at its begin, and at its end.
abbrev pub fits_input : List ObjectInfo → ℕ → Input → Bool
fits_input os exprs i = has_kind is_variable os i.variable && nat_lt i.value exprs

abbrev pub fits_output : List ObjectInfo → ℕ → Output → Bool
fits_output os exprs o = has_kind is_variable os o.variable && fits_targets os exprs o.targets
