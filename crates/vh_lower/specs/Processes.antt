-- The codes of processes that no statement makes: of a declared initial value, and of a continuous assignment. Their
-- instructions belong to no statement. (IEEE 1364-2005, 6.1 and 6.2.1)
use Rattle.std.specs.Prelude.{ℕ, List, [], false, map, Option, Some, None}
use Rattle.vh_design_code.specs.declared.code.Code.{Code}
use Rattle.vh_design_code.specs.declared.operation.Operation.{Operation}
use Rattle.vh_design_code.specs.declared.operation.Operation.TheVariants as op
use Rattle.vh_design_code.specs.declared.target.Delay.{Delay}
use Rattle.vh_ast.specs.Expressions.{ExprTree}
use Rattle.vh_ast.specs.Statements.{DelayTree}
use Rattle.vh_bind_stmt.specs.Calls.{Surroundings}
use Rattle.vh_lower_flow.specs.declared.code_kind.CodeKind.{CodeKind}
use Rattle.vh_lower_flow.specs.declared.code_kind.CodeKind.TheVariants as of
use Rattle.vh_lower_flow.specs.Laid.{code_of}
use Rattle.vh_lower_flow.specs.Trees.{FlowTree, step, sized}
use Rattle.vh_lower.specs.Instructions.{in_row, with_operation}
use Rattle.vh_lower.specs.Making.{Making, ◌>>=◌, pure, reading_from, exprs_so_far}
use Rattle.vh_lower.specs.Statements.{value_of, delay_of}

-- An instruction of such a process, and its code.
abbrev pub plain_instruction : Operation → FlowTree
plain_instruction operation = sized (step (record { operation = operation; origin = record { stmt = None; first = false } }))

abbrev pub plain_instructions : List Operation → List FlowTree
plain_instructions os = map plain_instruction os

abbrev pub plain_code : CodeKind → List Operation → Code
plain_code kind os = code_of kind (in_row (plain_instructions os))

-- A declared initial value: the calls in it, and the assignment.
abbrev pub initial_operations : Surroundings → ℕ → ExprTree → Making (List Operation)
initial_operations w o e = value_of w [] e >>= (λ v. pure (with_operation v.1 (op.Initial o v.0)))

abbrev pub initial_code : Surroundings → ℕ → ExprTree → Making Code
initial_code w o e = initial_operations w o e >>= (λ os. pure (plain_code of.Value os))

-- A continuous assignment behind some calls: it waits for what its right side reads, and not for what its delay reads. (own)
abbrev pub drive_at : List ℕ → ℕ → Option Delay → ℕ → Operation
drive_at drivers value delay wait = op.Drive (record { drivers = drivers; value = value; delay = delay; wait = wait })

abbrev pub drive_behind : Surroundings → List ℕ → List Operation → Option Delay → ExprTree → Making (List Operation)
drive_behind w drivers before delay e =
    exprs_so_far >>= (λ from. value_of w before e >>= (λ v. reading_from from >>= (λ t.
    pure (with_operation v.1 (drive_at drivers v.0 delay t)))))

-- With a delay or without one: the delay's calls come first.
abbrev pub drive_operations : Surroundings → List ℕ → Option DelayTree → ExprTree → Making (List Operation)
drive_operations w drivers None e = drive_behind w drivers [] None e
drive_operations w drivers (Some d) e = delay_of w [] d >>= (λ x. drive_behind w drivers x.1 (Some x.0) e)

abbrev pub drive_code : Surroundings → List ℕ → Option DelayTree → ExprTree → Making Code
drive_code w drivers d e = drive_operations w drivers d e >>= (λ os. pure (plain_code of.Assign os))
