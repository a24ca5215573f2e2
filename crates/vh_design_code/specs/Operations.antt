-- Which operations may stand in a code. (own: the rules say where numbers and positions point, and which kinds of
-- object may stand where after IEEE 1364-2005, clauses 6, 9, 10 and 17)
use Rattle.std.specs.Prelude.{ℕ, List, map, Bool, true, ◌&&◌, ◌==◌, nat_lt, Option, Some, None, length}
use Rattle.std.specs.List.{list_all}
use Rattle.vh_design_nodes.specs.declared.driver.DriverInfo.{DriverInfo}
use Rattle.vh_design_nodes.specs.declared.expr.ExprNode.{ExprNode}
use Rattle.vh_design_nodes.specs.declared.object.ObjectInfo.{ObjectInfo}
use Rattle.vh_design_nodes.specs.Fits.{has_kind, has_body, is_width, same_sign}
use Rattle.vh_design_nodes.specs.Kinds.{is_variable, is_forcible, is_event, is_disable_target, is_routine, is_system_task, is_system_function}
use Rattle.vh_design_nodes.specs.Widths.{width_of, signed_of, widest, all_signed}
use Rattle.vh_design_code.specs.declared.code.Goes.{Goes}
use Rattle.vh_design_code.specs.declared.code.Goes.TheVariants as goes
use Rattle.vh_design_code.specs.declared.codes.Limits.{Limits}
use Rattle.vh_design_code.specs.declared.operation.Arm.{Arm}
use Rattle.vh_design_code.specs.declared.operation.CaseTest.{CaseTest}
use Rattle.vh_design_code.specs.declared.operation.Drive.{Drive}
use Rattle.vh_design_code.specs.declared.operation.Leave.{Leave}
use Rattle.vh_design_code.specs.declared.operation.Loop.{Loop}
use Rattle.vh_design_code.specs.declared.operation.Loop.TheVariants as turn
use Rattle.vh_design_code.specs.declared.operation.Operation.{Operation}
use Rattle.vh_design_code.specs.declared.operation.Operation.TheVariants as op
use Rattle.vh_design_code.specs.declared.operation.Pause.{Pause}
use Rattle.vh_design_code.specs.declared.operation.Pause.TheVariants as pause
use Rattle.vh_design_code.specs.declared.operation.Returned.{Returned}
use Rattle.vh_design_code.specs.declared.operation.Schedule.{Schedule}
use Rattle.vh_design_code.specs.declared.operation.Single.{Single}
use Rattle.vh_design_code.specs.declared.operation.Single.TheVariants as single
use Rattle.vh_design_code.specs.declared.target.Delay.{Delay}
use Rattle.vh_design_code.specs.declared.target.Input.{Input}
use Rattle.vh_design_code.specs.Targets.{fits_targets, fits_drivers, fits_delay, fits_input, fits_output}

-- Where a code with so many positions may go on.
abbrev pub fits_goes : ℕ → Goes → Bool
fits_goes positions goes.Back = true
fits_goes positions (goes.To place) = nat_lt place positions

-- A delay, where there is one.
abbrev pub fits_delayed : ℕ → ℕ → Option Delay → Bool
fits_delayed exprs precision None = true
fits_delayed exprs precision (Some delay) = fits_delay exprs precision delay

-- A nonblocking assignment.
abbrev pub fits_schedule : List ObjectInfo → ℕ → ℕ → Schedule → Bool
fits_schedule os exprs precision s =
    nat_lt s.value exprs && fits_targets os exprs s.targets && fits_delayed exprs precision s.delay

-- A statement that waits, a row for each kind.
abbrev pub fits_pause : ℕ → Limits → Pause → Bool
fits_pause exprs l (pause.Wait delay) = fits_delay exprs l.precision delay
fits_pause exprs l (pause.Await wait) = nat_lt wait l.waits
fits_pause exprs l (pause.WaitFor condition wait) = nat_lt condition exprs && nat_lt wait l.waits

-- The values of a `case`'s items.
abbrev pub matched : List Arm → List ℕ
matched arms = map (λ a. a.value) arms

abbrev pub fits_arm : ℕ → ℕ → Arm → Bool
fits_arm exprs positions a = nat_lt a.value exprs && fits_goes positions a.to

-- A `case`: its width is the greatest of its subject and values, and it is signed where all of them are.
abbrev pub fits_case : List ExprNode → ℕ → CaseTest → Bool
fits_case ns positions c =
    nat_lt c.subject (length ns) && list_all (fits_arm (length ns) positions) c.arms
    && c.width == widest ns (width_of ns c.subject) (matched c.arms) && is_width c.width
    && same_sign c.signed (signed_of ns c.subject && all_signed ns (matched c.arms))

-- A turn of a loop, a row for each kind.
abbrev pub fits_loop : ℕ → ℕ → Loop → Bool
fits_loop exprs positions (turn.Repeat count done) = nat_lt count exprs && fits_goes positions done
fits_loop exprs positions (turn.Again done) = fits_goes positions done
fits_loop exprs positions turn.Turn = true

-- Where a function's result goes.
abbrev pub fits_result : List ObjectInfo → ℕ → Option Returned → Bool
fits_result os exprs None = true
fits_result os exprs (Some r) = nat_lt r.call exprs && has_kind is_variable os r.variable

-- The end of a call.
abbrev pub fits_leave : List ObjectInfo → ℕ → Leave → Bool
fits_leave os exprs l = list_all (fits_output os exprs) l.outputs && fits_result os exprs l.result

-- The begin of a call, of a task or function that has a body.
abbrev pub fits_enter : List ObjectInfo → ℕ → ℕ → List Input → Bool
fits_enter os exprs routine inputs =
    has_kind is_routine os routine && has_body os routine && list_all (fits_input os exprs) inputs

-- A value, and a net or variable that may be forced, or a variable alone.
abbrev pub fits_force : List ObjectInfo → ℕ → ℕ → ℕ → Bool
fits_force os exprs o value = has_kind is_forcible os o && nat_lt value exprs

abbrev pub fits_write : List ObjectInfo → ℕ → ℕ → ℕ → Bool
fits_write os exprs o value = has_kind is_variable os o && nat_lt value exprs

-- A statement with one instruction, a row for each kind.
abbrev pub fits_single : List ObjectInfo → ℕ → ℕ → Single → Bool
fits_single os exprs shows (single.Show show) = nat_lt show shows
fits_single os exprs shows single.Finish = true
fits_single os exprs shows single.Stop = true
fits_single os exprs shows (single.Trigger o) = has_kind is_event os o
fits_single os exprs shows (single.Disable o) = has_kind is_disable_target os o
fits_single os exprs shows (single.Force o value) = fits_force os exprs o value
fits_single os exprs shows (single.Release o) = has_kind is_forcible os o
fits_single os exprs shows (single.Procedural o value) = fits_write os exprs o value
fits_single os exprs shows (single.Deassign o) = has_kind is_variable os o

-- A continuous assignment.
abbrev pub fits_drive : List DriverInfo → ℕ → Limits → Drive → Bool
fits_drive ds exprs l d =
    fits_drivers ds d.drivers && nat_lt d.value exprs && fits_delayed exprs l.precision d.delay && nat_lt d.wait l.waits

-- An operation of a code with so many positions, a row for each kind.
abbrev pub fits_operation : List ObjectInfo → List ExprNode → List DriverInfo → Limits → ℕ → Operation → Bool
fits_operation os ns ds l positions (op.Assign value targets) =
    nat_lt value (length ns) && fits_targets os (length ns) targets
fits_operation os ns ds l positions (op.Hold value width delay) =
    nat_lt value (length ns) && is_width width && fits_delay (length ns) l.precision delay
fits_operation os ns ds l positions (op.Store targets) = fits_targets os (length ns) targets
fits_operation os ns ds l positions (op.Schedule s) = fits_schedule os (length ns) l.precision s
fits_operation os ns ds l positions (op.Pause p) = fits_pause (length ns) l p
fits_operation os ns ds l positions (op.Test condition otherwise) =
    nat_lt condition (length ns) && fits_goes positions otherwise
fits_operation os ns ds l positions (op.Case c) = fits_case ns positions c
fits_operation os ns ds l positions (op.Loop t) = fits_loop (length ns) positions t
fits_operation os ns ds l positions (op.Fork branches) = list_all (λ b. nat_lt b positions) branches
fits_operation os ns ds l positions op.End = true
fits_operation os ns ds l positions (op.Enter routine inputs) = fits_enter os (length ns) routine inputs
fits_operation os ns ds l positions (op.Leave e) = fits_leave os (length ns) e
fits_operation os ns ds l positions (op.SysCall o) = has_kind is_system_task os o
fits_operation os ns ds l positions (op.SysFunc o) = has_kind is_system_function os o
fits_operation os ns ds l positions (op.Single s) = fits_single os (length ns) l.shows s
fits_operation os ns ds l positions (op.Drive d) = fits_drive ds (length ns) l d
fits_operation os ns ds l positions (op.Initial o value) = fits_write os (length ns) o value
