-- The codes of continuous assignments that aren't written as such: of gates, and of output ports. (IEEE 1364-2005, 7.1, 7.2,
-- 7.3 and 12.3.9)
use Rattle.std.specs.Prelude.{ℕ, List, [], map, Bool, if◌then◌else◌, ◌==◌, nat_le, Option, Some, None, Ok, Err}
use Rattle.vh_base.specs.declared.faults.DesignFault.TheVariants.{N7}
use Rattle.vh_base.specs.declared.place.Place.{Place}
use Rattle.vh_design_nodes.specs.declared.expr.Arithmetic.TheVariants as arithmetic
use Rattle.vh_design_nodes.specs.declared.expr.Select.TheVariants as select
use Rattle.vh_design_nodes.specs.Widths.{width_of}
use Rattle.vh_design_code.specs.declared.code.Code.{Code}
use Rattle.vh_design_code.specs.declared.operation.Operation.{Operation}
use Rattle.vh_design_code.specs.declared.target.Delay.{Delay}
use Rattle.vh_ast.specs.declared.instance.GateType.{GateType}
use Rattle.vh_ast.specs.declared.instance.GateType.TheVariants as gate
use Rattle.vh_ast.specs.declared.operator.Unary.TheVariants as sign
use Rattle.vh_ast.specs.Expressions.{ExprTree}
use Rattle.vh_ast.specs.Statements.{DelayTree}
use Rattle.vh_bind.specs.declared.scope.Mode.TheVariants as mode
use Rattle.vh_bind.specs.Scopes.{Scope}
use Rattle.vh_bind.specs.declared.operators.Operator.{Operator}
use Rattle.vh_bind.specs.declared.operators.Operator.TheVariants as operator
use Rattle.vh_bind.specs.Steps.{Step, ◌>>=◌, pure}
use Rattle.vh_bind.specs.Constants.{chain_pushed, selected_pushed, unary_pushed, whole_of}
use Rattle.vh_bind_stmt.specs.Calls.{Surroundings}
use Rattle.vh_lower_flow.specs.declared.code_kind.CodeKind.TheVariants as of
use Rattle.vh_lower.specs.Instructions.{with_operation}
use Rattle.vh_lower.specs.Making as M
use Rattle.vh_lower.specs.Making.{Making, performed, reading_from, exprs_so_far}
use Rattle.vh_lower.specs.Processes.{drive_at, plain_code}
use Rattle.vh_lower.specs.Statements.{value_of, delay_of}

-- The operator that stands between the inputs of a gate; `buf` and `not` have one input. (Tables 7-3 and 7-4)
abbrev pub operator_of : GateType → Option Operator
operator_of gate.And = Some (operator.Arithmetic arithmetic.And)
operator_of gate.Nand = Some (operator.Arithmetic arithmetic.And)
operator_of gate.Or = Some (operator.Arithmetic arithmetic.Or)
operator_of gate.Nor = Some (operator.Arithmetic arithmetic.Or)
operator_of gate.Xor = Some (operator.Arithmetic arithmetic.Xor)
operator_of gate.Xnor = Some (operator.Arithmetic arithmetic.Xor)
operator_of gate.Buf = None
operator_of gate.Not = None

-- How many terminals it has. (N7)
abbrev pub takes : Option Operator → ℕ → Bool
takes None n = n == 2
takes (Some op) n = nat_le 3 n

abbrev pub has_terminals : GateType → ℕ → Bool
has_terminals g n = takes (operator_of g) n

-- The nodes over those of its inputs: of `a & b & c`, say, inverted as often as the gate does.
abbrev pub operators : Option Operator → List ℕ → List Operator
operators None es = []
operators (Some op) es = map (λ e. op) es

abbrev pub inverted : Scope → Place → Option ℕ → Step (Option ℕ)
inverted s place e = unary_pushed mode.Value s place sign.Invert e

abbrev pub finished : Scope → Place → GateType → Option ℕ → Step (Option ℕ)
finished s place gate.And e = pure e
finished s place gate.Or e = pure e
finished s place gate.Xor e = pure e
finished s place gate.Nand e = inverted s place e
finished s place gate.Nor e = inverted s place e
finished s place gate.Xnor e = inverted s place e
finished s place gate.Not e = inverted s place e
finished s place gate.Buf e = inverted s place e >>= inverted s place

abbrev pub of_inputs : Scope → Place → GateType → ℕ → List ℕ → Step (Option ℕ)
of_inputs s place g e es =
    chain_pushed mode.Value s place (operators (operator_of g) es) (Some e) (Some es) >>= finished s place g

-- An input has one digit, or it is N7 at the gate. (own)
abbrev pub one_digit : Place → ℕ × List Operation → Making (ℕ × List Operation)
one_digit place r = λ a. if width_of a.exprs r.0 == 1 then Ok (r, a) else Err (Some (N7, place))

abbrev pub input_of : Surroundings → Place → List Operation → ExprTree → Making (ℕ × List Operation)
input_of w place before e = M.◌>>=◌ (value_of w before e) (one_digit place)

-- The delay of a gate, with the calls that it makes.
abbrev pub gate_delay : Surroundings → List Operation → Option DelayTree → Making (Option Delay × List Operation)
gate_delay w before None = M.pure (None, before)
gate_delay w before (Some d) = M.◌>>=◌ (delay_of w before d) (λ x. M.pure (Some x.0, x.1))

-- Its instruction, behind all calls: it waits for what its inputs read, whose nodes stand from `from` on.
abbrev pub driving_from : List ℕ → ℕ → Option Delay → ℕ × List Operation → Making Code
driving_from drivers from delay v =
    M.◌>>=◌ (reading_from from) (λ t. M.pure (plain_code of.Assign (with_operation v.1 (drive_at drivers v.0 delay t))))

abbrev pub gate_code : Surroundings → Place → GateType → List ℕ → ℕ → Option Delay → ℕ → List ℕ → List Operation → Making Code
gate_code w place g drivers from delay e es before =
    M.◌>>=◌ (performed w before (of_inputs w.scope place g e es)) (driving_from drivers from delay)

-- What an output port drives its outer nets with: the inner net or variable. (12.3.9)
abbrev pub port_code : Surroundings → Place → List ℕ → ℕ → Making Code
port_code w place drivers inner =
    M.◌>>=◌ exprs_so_far (λ from.
    M.◌>>=◌ (performed w [] (selected_pushed w.scope place (whole_of inner) (Some select.Whole)))
    (driving_from drivers from None))
