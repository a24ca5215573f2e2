-- What the rules mean for the codes, waits, display calls and statements of a design, rule by rule. (own)
use Rattle.std.specs.Prelude.{◌≡◌, ◌<◌, ◌≤◌, ℕ, List, [], ◌∷◌, ◌++◌, map, flat_map, All, Option, Some, None, ⊤, length, slice_get, ◌||◌, ◌&&◌}
use Rattle.vh_logic.specs.declared.vector.TheConstants.{MAX_WIDTH}
use Rattle.vh_design_nodes.specs.declared.expr.Access.TheVariants as access
use Rattle.vh_design_nodes.specs.declared.expr.Selected.{Selected}
use Rattle.vh_design_nodes.specs.declared.fits.TheConstants.{MOST_UNIT}
use Rattle.vh_design_nodes.specs.Fits.{IsOfKind}
use Rattle.vh_design_nodes.specs.Kinds.{is_vector, is_variable, is_memory, is_forcible, is_event, is_disable_target, is_routine, is_system_task, is_system_function, is_scope}
use Rattle.vh_design_nodes.specs.Widths.{width_of, signed_of, widest, all_signed}
use Rattle.vh_design_code.specs.declared.code.Code.{Code}
use Rattle.vh_design_code.specs.declared.code.Goes.{Goes}
use Rattle.vh_design_code.specs.declared.code.Goes.TheVariants as goes
use Rattle.vh_design_code.specs.declared.code.Instruction.{Instruction}
use Rattle.vh_design_code.specs.declared.operation.CaseTest.{CaseTest}
use Rattle.vh_design_code.specs.declared.operation.Loop.{Loop}
use Rattle.vh_design_code.specs.declared.operation.Loop.TheVariants as turn
use Rattle.vh_design_code.specs.declared.operation.Operation.{Operation}
use Rattle.vh_design_code.specs.declared.operation.Operation.TheVariants as op
use Rattle.vh_design_code.specs.declared.operation.Pause.{Pause}
use Rattle.vh_design_code.specs.declared.operation.Pause.TheVariants as pause
use Rattle.vh_design_code.specs.declared.operation.Returned.{Returned}
use Rattle.vh_design_code.specs.declared.operation.Single.{Single}
use Rattle.vh_design_code.specs.declared.operation.Single.TheVariants as single
use Rattle.vh_design_code.specs.declared.show.ShowCall.{ShowCall}
use Rattle.vh_design_code.specs.declared.statement.StmtInfo.{StmtInfo}
use Rattle.vh_design_code.specs.declared.target.Delay.{Delay}
use Rattle.vh_design_code.specs.declared.wait.Term.{Term}
use Rattle.vh_design_code.specs.declared.wait.Term.TheVariants as term
use Rattle.vh_design_code.specs.declared.wait.WaitInfo.{WaitInfo}
use Rattle.vh_design_code.specs.Operations.{matched}
use Rattle.vh_design.specs.Laws.{selected_exprs, Read, read, read_selected}
use Rattle.vh_design.specs.Shape.{Shape}
use Rattle.vh_design.specs.Validity.{CodeFits, IsValid}

-- Where a turn of a loop goes on when it is done.
abbrev pub loop_goes : Loop → List Goes
loop_goes (turn.Repeat count done) = done ∷ []
loop_goes (turn.Again done) = done ∷ []
loop_goes turn.Turn = []

-- Where an operation goes on, beside the instruction's next position.
abbrev pub goes_of : Operation → List Goes
goes_of (op.Assign value targets) = []
goes_of (op.Hold value width delay) = []
goes_of (op.Store targets) = []
goes_of (op.Schedule s) = []
goes_of (op.Pause p) = []
goes_of (op.Test condition otherwise) = otherwise ∷ []
goes_of (op.Case c) = map (λ a. a.to) c.arms
goes_of (op.Loop t) = loop_goes t
goes_of (op.Fork branches) = map (λ b. goes.To b) branches
goes_of op.End = []
goes_of (op.Enter routine inputs) = []
goes_of (op.Leave e) = []
goes_of (op.SysCall o) = []
goes_of (op.SysFunc o) = []
goes_of (op.Single s) = []
goes_of (op.Drive d) = []
goes_of (op.Initial o value) = []

-- A position of a code with so many instructions; behind the call is always one.
abbrev pub IsPosition : ℕ → Goes → Type 0
IsPosition positions goes.Back = ⊤
IsPosition positions (goes.To position) = position < positions

-- The object that a target changes, and the test that its kind passes.
abbrev pub change_of : Selected → Read
change_of t = read_selected access.Assigned t

-- The objects that a statement with one label changes or names.
abbrev pub single_changes : Single → List Read
single_changes (single.Show show) = []
single_changes single.Finish = []
single_changes single.Stop = []
single_changes (single.Trigger o) = read o is_event ∷ []
single_changes (single.Disable o) = read o is_disable_target ∷ []
single_changes (single.Force o value) = read o is_forcible ∷ []
single_changes (single.Release o) = read o is_forcible ∷ []
single_changes (single.Procedural o value) = read o is_variable ∷ []
single_changes (single.Deassign o) = read o is_variable ∷ []

-- Those of the end of a call of a function.
abbrev pub result_reads : Option Returned → List Read
result_reads None = []
result_reads (Some r) = read r.variable is_variable ∷ []

-- The objects that an operation changes or names.
abbrev pub changes_of : Operation → List Read
changes_of (op.Assign value targets) = map change_of targets
changes_of (op.Hold value width delay) = []
changes_of (op.Store targets) = map change_of targets
changes_of (op.Schedule s) = map change_of s.targets
changes_of (op.Pause p) = []
changes_of (op.Test condition otherwise) = []
changes_of (op.Case c) = []
changes_of (op.Loop t) = []
changes_of (op.Fork branches) = []
changes_of op.End = []
changes_of (op.Enter routine inputs) = read routine is_routine ∷ map (λ i. read i.variable is_variable) inputs
changes_of (op.Leave e) =
    flat_map (λ o. read o.variable is_variable ∷ map change_of o.targets) e.outputs ++ result_reads e.result
changes_of (op.SysCall o) = read o is_system_task ∷ []
changes_of (op.SysFunc o) = read o is_system_function ∷ []
changes_of (op.Single s) = single_changes s
changes_of (op.Drive d) = []
changes_of (op.Initial o value) = read o is_variable ∷ []

-- The time unit of a delay, where there is one.
abbrev pub delay_units : Option Delay → List ℕ
delay_units None = []
delay_units (Some delay) = delay.unit ∷ []

abbrev pub pause_units : Pause → List ℕ
pause_units (pause.Wait delay) = delay.unit ∷ []
pause_units (pause.Await wait) = []
pause_units (pause.WaitFor condition wait) = []

-- The time units of an operation's delays.
abbrev pub units_of : Operation → List ℕ
units_of (op.Assign value targets) = []
units_of (op.Hold value width delay) = delay.unit ∷ []
units_of (op.Store targets) = []
units_of (op.Schedule s) = delay_units s.delay
units_of (op.Pause p) = pause_units p
units_of (op.Test condition otherwise) = []
units_of (op.Case c) = []
units_of (op.Loop t) = []
units_of (op.Fork branches) = []
units_of op.End = []
units_of (op.Enter routine inputs) = []
units_of (op.Leave e) = []
units_of (op.SysCall o) = []
units_of (op.SysFunc o) = []
units_of (op.Single s) = []
units_of (op.Drive d) = delay_units d.delay
units_of (op.Initial o value) = []

-- The expressions of a delay, a statement that waits, a loop, and a statement with one label.
abbrev pub delay_exprs : Option Delay → List ℕ
delay_exprs None = []
delay_exprs (Some delay) = delay.amount ∷ []

abbrev pub pause_exprs : Pause → List ℕ
pause_exprs (pause.Wait delay) = delay.amount ∷ []
pause_exprs (pause.Await wait) = []
pause_exprs (pause.WaitFor condition wait) = condition ∷ []

abbrev pub loop_exprs : Loop → List ℕ
loop_exprs (turn.Repeat count done) = count ∷ []
loop_exprs (turn.Again done) = []
loop_exprs turn.Turn = []

abbrev pub single_exprs : Single → List ℕ
single_exprs (single.Show show) = []
single_exprs single.Finish = []
single_exprs single.Stop = []
single_exprs (single.Trigger o) = []
single_exprs (single.Disable o) = []
single_exprs (single.Force o value) = value ∷ []
single_exprs (single.Release o) = []
single_exprs (single.Procedural o value) = value ∷ []
single_exprs (single.Deassign o) = []

abbrev pub result_exprs : Option Returned → List ℕ
result_exprs None = []
result_exprs (Some r) = r.call ∷ []

-- The expressions of an operation.
abbrev pub exprs_of : Operation → List ℕ
exprs_of (op.Assign value targets) = value ∷ flat_map selected_exprs targets
exprs_of (op.Hold value width delay) = value ∷ delay.amount ∷ []
exprs_of (op.Store targets) = flat_map selected_exprs targets
exprs_of (op.Schedule s) = s.value ∷ (flat_map selected_exprs s.targets ++ delay_exprs s.delay)
exprs_of (op.Pause p) = pause_exprs p
exprs_of (op.Test condition otherwise) = condition ∷ []
exprs_of (op.Case c) = c.subject ∷ matched c.arms
exprs_of (op.Loop t) = loop_exprs t
exprs_of (op.Fork branches) = []
exprs_of op.End = []
exprs_of (op.Enter routine inputs) = map (λ i. i.value) inputs
exprs_of (op.Leave e) = flat_map (λ o. flat_map selected_exprs o.targets) e.outputs ++ result_exprs e.result
exprs_of (op.SysCall o) = []
exprs_of (op.SysFunc o) = []
exprs_of (op.Single s) = single_exprs s
exprs_of (op.Drive d) = d.value ∷ delay_exprs d.delay
exprs_of (op.Initial o value) = value ∷ []

-- What a wait waits for.
abbrev pub term_read : Term → Read
term_read (term.Digits o low width edge) = read o is_vector
term_read (term.Event o) = read o is_event
term_read (term.Reads o) = read o (λ k. is_vector k || is_memory k)

-- A time unit that a module of the design may have.
pub record IsUnit (d : Shape) (unit : ℕ) : Type 0 where
  pub most : unit ≤ MOST_UNIT
  pub least : d.precision ≤ unit

-- A `case` compares in the greatest width of its subject and values, signed where all of them are.
pub record IsCase (d : Shape) (c : CaseTest) : Type 0 where
  pub width : c.width ≡ widest d.exprs (width_of d.exprs c.subject) (matched c.arms)
  pub least : 1 ≤ c.width
  pub most : c.width ≤ MAX_WIDTH
  pub signed : c.signed ≡ (signed_of d.exprs c.subject && all_signed d.exprs (matched c.arms))

-- The codes of a design, and the bodies, may stand in it.
abbrev pub CodesMayStand : Type 0
CodesMayStand = (d : Shape) (p : ℕ) (c : Code) → IsValid d → slice_get d.codes p ≡ Some c → CodeFits d c

abbrev pub BodiesMayStand : Type 0
BodiesMayStand = (d : Shape) (n : ℕ) (c : Code) → IsValid d → slice_get d.bodies n ≡ Some c → CodeFits d c

-- The positions to which a code goes on are instructions of it.
abbrev pub PositionsAreThere : Type 0
PositionsAreThere = (d : Shape) (c : Code) (k : ℕ) (i : Instruction) → CodeFits d c → slice_get c.instructions k ≡ Some i
    → All (IsPosition (length c.instructions)) (i.next ∷ goes_of i.operation)

-- The expressions that it names are there.
abbrev pub ExpressionsAreThere : Type 0
ExpressionsAreThere = (d : Shape) (c : Code) (k : ℕ) (i : Instruction)
    → CodeFits d c → slice_get c.instructions k ≡ Some i → All (λ e. e < length d.exprs) (exprs_of i.operation)

-- The objects that it changes are of kinds that may stand there.
abbrev pub ChangesFit : Type 0
ChangesFit = (d : Shape) (c : Code) (k : ℕ) (i : Instruction) → CodeFits d c → slice_get c.instructions k ≡ Some i
    → All (λ r. IsOfKind d.objects r.test r.object) (changes_of i.operation)

-- The time units of its delays are not below the precision, nor above 100 s.
abbrev pub DelaysFit : Type 0
DelaysFit = (d : Shape) (c : Code) (k : ℕ) (i : Instruction) → CodeFits d c → slice_get c.instructions k ≡ Some i
    → All (IsUnit d) (units_of i.operation)

-- The width and the sign of a `case` are those that its parts give.
abbrev pub CasesAreMeasured : Type 0
CasesAreMeasured = (d : Shape) (c : Code) (k : ℕ) (i : Instruction) (it : CaseTest)
    → CodeFits d c → slice_get c.instructions k ≡ Some i → i.operation ≡ op.Case it → IsCase d it

-- A wait names objects of kinds that may stand there.
abbrev pub WaitsFit : Type 0
WaitsFit = (d : Shape) (w : ℕ) (i : WaitInfo) → IsValid d → slice_get d.waits w ≡ Some i
    → All (λ t. IsOfKind d.objects (term_read t).test (term_read t).object) i.terms

-- A display call has a scope, and a time unit as above; a statement has a scope.
abbrev pub ShowsFit : Type 0
ShowsFit = (d : Shape) (s : ℕ) (i : ShowCall) → IsValid d → slice_get d.shows s ≡ Some i
    → IsOfKind d.objects is_scope i.scope × IsUnit d i.unit

abbrev pub StatementsFit : Type 0
StatementsFit = (d : Shape) (n : ℕ) (i : StmtInfo) → IsValid d → slice_get d.stmts n ≡ Some i
    → IsOfKind d.objects is_scope i.scope
