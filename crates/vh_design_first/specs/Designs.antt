-- The design that the registers and initial constructs of the first subset are. Its module is object 0, and its registers
-- follow; its precision is the unit of its delays. (IEEE 1364-2005, 4.2, 9.2.1, 9.7.1, 9.9.1, 17.1 and 17.4.1)
use Rattle.std.specs.Prelude.{ℕ, zero, suc, ◌+◌, List, [], ◌∷◌, ◌++◌, map, length, Bool, true, false, Option, Some, None}
use Rattle.std.specs.List.{flat_map}
use Rattle.vh_base.specs.declared.first.First.{First}
use Rattle.vh_base.specs.declared.first.FirstBit.{FirstBit}
use Rattle.vh_base.specs.declared.first.FirstBit.TheVariants as bit
use Rattle.vh_base.specs.declared.first.FirstCode.{FirstCode}
use Rattle.vh_base.specs.declared.first.FirstCode.TheVariants as step
use Rattle.vh_design_code.specs.declared.code.Code.{Code}
use Rattle.vh_design_code.specs.declared.code.Goes.{Goes}
use Rattle.vh_design_code.specs.declared.code.Goes.TheVariants as goes
use Rattle.vh_design_code.specs.declared.code.Instruction.{Instruction}
use Rattle.vh_design_code.specs.declared.operation.Operation.{Operation}
use Rattle.vh_design_code.specs.declared.operation.Operation.TheVariants as op
use Rattle.vh_design_code.specs.declared.operation.Pause.TheVariants as pause
use Rattle.vh_design_code.specs.declared.operation.Single.TheVariants as single
use Rattle.vh_design_code.specs.declared.show.ShowArg.TheVariants as arg
use Rattle.vh_design_code.specs.declared.show.ShowCall.{ShowCall}
use Rattle.vh_design_code.specs.declared.show.ShowTask.TheVariants as task
use Rattle.vh_design.specs.Shape.{Shape}
use Rattle.vh_logic.specs.declared.digits.Digit.{Digit}
use Rattle.vh_logic.specs.declared.digits.Digit.TheVariants as digit
use Rattle.vh_logic.specs.Vector.{Vector, filled}
use Rattle.vh_logic.specs.Planes.{digits_of}
use Rattle.vh_design_nodes.specs.declared.expr.ExprKind.TheVariants as kind
use Rattle.vh_design_nodes.specs.declared.expr.ExprNode.{ExprNode}
use Rattle.vh_design_nodes.specs.declared.expr.Select.TheVariants as select
use Rattle.vh_design_nodes.specs.declared.expr.Selected.{Selected}
use Rattle.vh_design_nodes.specs.declared.object.Detail.TheVariants as detail
use Rattle.vh_design_nodes.specs.declared.object.Kind.TheVariants as of
use Rattle.vh_design_nodes.specs.declared.object.ObjectInfo.{ObjectInfo}

-- The module, and a register of one digit in it. No order asks for a line yet. (own)
abbrev pub module_info : List ℕ → ObjectInfo
module_info name = record {
  kind = of.Module;
  name = name;
  parent = None;
  width = 1;
  signed = false;
  words = 0;
  line = 1;
  detail = detail.Module name;
}

abbrev pub register_info : List ℕ → ObjectInfo
register_info name = record {
  kind = of.Reg;
  name = name;
  parent = Some 0;
  width = 1;
  signed = false;
  words = 0;
  line = 1;
  detail = detail.Plain;
}

-- The values: the four digits, and behind them the delay of each wait, in 32 digits.
abbrev pub literal : Vector → ℕ → ExprNode
literal v width = record { kind = kind.Literal v; width = width; signed = false }

abbrev pub digit_node : Digit → ExprNode
digit_node x = literal (filled 1 x false) 1

abbrev pub digit_nodes : List ExprNode
digit_nodes = digit_node digit.Zero ∷ digit_node digit.One ∷ digit_node digit.X ∷ digit_node digit.Z ∷ []

abbrev pub value_of : FirstBit → ℕ
value_of bit.Zero = 0
value_of bit.One = 1
value_of bit.X = 2
value_of bit.Z = 3

abbrev pub delay_node : ℕ → ExprNode
delay_node units = literal (record { digits = digits_of 32 units 0; signed = false }) 32

-- The delays and the display calls of steps, in order.
abbrev pub delays_in : FirstCode → List ExprNode
delays_in (step.Wait units) = delay_node units ∷ []
delays_in (step.Assign reg b) = []
delays_in (step.Show text) = []
delays_in step.Finish = []

abbrev pub call_of : List ℕ → ShowCall
call_of text = record { task = task.Display; scope = 0; unit = 0; args = arg.Format text ∷ [] }

abbrev pub calls_in : FirstCode → List ShowCall
calls_in (step.Wait units) = []
calls_in (step.Assign reg b) = []
calls_in (step.Show text) = call_of text ∷ []
calls_in step.Finish = []

-- A step where so many expressions and calls stand before its own.
abbrev pub register : ℕ → Selected
register reg = record { of = record { object = reg + 1; word = None }; select = select.Whole }

abbrev pub operation_of : ℕ → ℕ → FirstCode → Operation
operation_of exprs calls (step.Wait units) = op.Pause (pause.Wait (record { amount = exprs; unit = 0 }))
operation_of exprs calls (step.Assign reg b) = op.Assign (value_of b) (register reg ∷ [])
operation_of exprs calls (step.Show text) = op.Single (single.Show calls)
operation_of exprs calls step.Finish = op.Single single.Finish

abbrev pub instruction_of : Operation → Goes → Instruction
instruction_of it next = record { operation = it; next = next; stmt = None; block = None; first = true }

-- An initial construct: each step goes on at the next, and behind the last the process ends.
unfoldable pub instructions_of : ℕ → ℕ → ℕ → List FirstCode → List Instruction
instructions_of exprs calls place [] = instruction_of op.End goes.Back ∷ []
instructions_of exprs calls place (c ∷ cs) =
    instruction_of (operation_of exprs calls c) (goes.To (place + 1))
    ∷ instructions_of (exprs + length (delays_in c)) (calls + length (calls_in c)) (place + 1) cs

abbrev pub code_of : ℕ → ℕ → List FirstCode → Code
code_of exprs calls cs = record { start = goes.To 0; instructions = instructions_of exprs calls 0 cs; blocks = [] }

unfoldable pub codes_of : ℕ → ℕ → List (List FirstCode) → List Code
codes_of exprs calls [] = []
codes_of exprs calls (b ∷ bs) =
    code_of exprs calls b
    ∷ codes_of (exprs + length (flat_map delays_in b)) (calls + length (flat_map calls_in b)) bs

-- The design.
abbrev pub steps_of : First → List FirstCode
steps_of f = flat_map (λ b. b) f.blocks

abbrev pub first_design : First → Shape
first_design f = record {
  objects = module_info f.name ∷ map register_info f.regs;
  exprs = digit_nodes ++ flat_map delays_in (steps_of f);
  drivers = [];
  codes = codes_of 4 0 f.blocks;
  bodies = [];
  waits = [];
  shows = flat_map calls_in (steps_of f);
  stmts = [];
  precision = 0;
}
