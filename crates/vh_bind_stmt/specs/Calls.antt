-- Which calls of functions an expression makes, and what it reads. A number is given to each part before the
-- expression that it is part of, so calls stand in the order in which they are performed: inner ones first, and else
-- from left to right. (IEEE 1364-2005, 9.7.5 and 10.4; the order is own)
use Rattle.std.specs.Prelude.{ℕ, zero, suc, ◌+◌, ◌==◌, Bool, List, [], ◌∷◌, ◌++◌, length, drop, if◌then◌else◌, Option, Some, None, slice_get, unwrap_or}
use Rattle.std.specs.List.{flat_map}
use Rattle.std.specs.Option.{option_and_then, option_map}
use Rattle.vh_design_nodes.specs.declared.expr.ExprKind.{ExprKind}
use Rattle.vh_design_nodes.specs.declared.expr.ExprKind.TheVariants as kind
use Rattle.vh_design_nodes.specs.declared.expr.ExprNode.{ExprNode}
use Rattle.vh_design_nodes.specs.declared.expr.Selected.{Selected}
use Rattle.vh_design_nodes.specs.Fits.{body_number}
use Rattle.vh_design_code.specs.declared.operation.Leave.{Leave}
use Rattle.vh_design_code.specs.declared.operation.Returned.{Returned}
use Rattle.vh_design_code.specs.declared.operation.Operation.{Operation}
use Rattle.vh_design_code.specs.declared.operation.Operation.TheVariants as op
use Rattle.vh_design_code.specs.declared.target.Input.{Input}
use Rattle.vh_design_code.specs.declared.target.Output.{Output}
use Rattle.vh_design_code.specs.declared.wait.Term.{Term}
use Rattle.vh_design_code.specs.declared.wait.Term.TheVariants as term
use Rattle.vh_sense.specs.Reads.{object_in}
use Rattle.vh_bind.specs.Steps.{Nodes}
use Rattle.vh_bind.specs.Scopes.{Scope}
use Rattle.vh_bind.specs.Objects.{is_given, is_taken}
use Rattle.vh_bind_stmt.specs.declared.surroundings.Argument.{Argument}

-- Where a statement stands: what an expression sees there, and the arguments of the tasks and functions, by the numbers
-- of their bodies.
pub record Surroundings : Type 0 where
  pub scope : Scope
  pub arguments : List (List Argument)

-- The arguments of a task or function, in order. (10.2 and 10.4)
abbrev pub arguments_of : Surroundings → ℕ → List Argument
arguments_of w routine =
    unwrap_or (option_and_then (λ b. slice_get w.arguments b) (body_number w.scope.objects routine)) []

-- Those that are given a value at the begin of a call, and those that are assigned at its end. (10.2.2)
abbrev pub kept_if : Bool → Argument → List Argument
kept_if b a = if b then a ∷ [] else []

abbrev pub given_of : List Argument → List Argument
given_of all = flat_map (λ (a : Argument). kept_if (is_given a.direction) a) all

abbrev pub taken_of : List Argument → List Argument
taken_of all = flat_map (λ (a : Argument). kept_if (is_taken a.direction) a) all

-- What the begin gives to them,
abbrev pub inputs_of : List Argument → List ℕ → List Input
inputs_of [] es = []
inputs_of (a ∷ more) [] = []
inputs_of (a ∷ more) (e ∷ es) = record { variable = a.variable; value = e } ∷ inputs_of more es

-- And what the end assigns: the variables that are joined in an expression. (10.2.2)
abbrev pub selected_in : ExprKind → Option Selected
selected_in (kind.Selected s) = Some s
selected_in _ = None

abbrev pub selected_as : Option Selected → List Selected
selected_as None = []
selected_as (Some s) = s ∷ []

abbrev pub selected_at : Option ExprNode → List Selected
selected_at None = []
selected_at (Some n) = selected_as (selected_in n.kind)

abbrev pub joined_in : Nodes → ExprKind → List Selected
joined_in ns (kind.Join first rest) = flat_map (λ e. selected_at (slice_get ns e)) (first ∷ rest)
joined_in ns _ = []

abbrev pub joined_at : Nodes → ℕ → List Selected
joined_at ns e = unwrap_or (option_map (λ (n : ExprNode). joined_in ns n.kind) (slice_get ns e)) []

abbrev pub outputs_of : Nodes → List Argument → List ℕ → List Output
outputs_of ns [] es = []
outputs_of ns (a ∷ more) [] = []
outputs_of ns (a ∷ more) (e ∷ es) =
    record { targets = joined_at ns e; variable = a.variable } ∷ outputs_of ns more es

-- The call of a function: its begin, which has what is given to it; and its end, which has what is assigned as well and
-- keeps the result for the expression. Where nothing is assigned one expression is both. (10.4)
abbrev pub begin_of : ℕ → List Argument → List ℕ → List Operation
begin_of function all es =
    if length es == length (given_of all) then op.Enter function (inputs_of (given_of all) es) ∷ [] else []

abbrev pub end_of : Nodes → List Argument → List ℕ → Returned → List Operation
end_of ns all es r =
    if length es == length (given_of all) + length (taken_of all) then
    op.Leave (record { outputs = outputs_of ns (taken_of all) (drop (length (given_of all)) es); result = Some r }) ∷ []
    else []

abbrev pub call_of : Nodes → ℕ → List Argument → List ℕ → Returned → List Operation
call_of ns function all es r = begin_of function all es ++ end_of ns all es r

abbrev pub calls_in : Surroundings → Nodes → ℕ → ExprKind → List Operation
calls_in w ns e (kind.Literal v) = []
calls_in w ns e (kind.Selected s) = []
calls_in w ns e (kind.Unary o part) = []
calls_in w ns e (kind.Arithmetic first rest) = []
calls_in w ns e (kind.Shift first rest) = []
calls_in w ns e (kind.Comparison first rest) = []
calls_in w ns e (kind.Logic first rest) = []
calls_in w ns e (kind.Choice condition a b) = []
calls_in w ns e (kind.Join first rest) = []
calls_in w ns e (kind.Repeat count part) = []
calls_in w ns e (kind.WithSign part signed) = []
calls_in w ns e (kind.Time unit) = []
calls_in w ns e (kind.Call function result arguments) =
    call_of ns function (arguments_of w function) arguments (record { call = e; variable = result })
calls_in w ns e (kind.SysCall o) = op.SysFunc o ∷ []

abbrev pub calls_at : Surroundings → Nodes → ℕ → Option ExprNode → List Operation
calls_at w ns e None = []
calls_at w ns e (Some n) = calls_in w ns e n.kind

-- Of so many expressions from one on.
unfoldable pub calls_of : Surroundings → Nodes → ℕ → ℕ → List Operation
calls_of w ns zero e = []
calls_of w ns (suc k) e = calls_at w ns e (slice_get ns e) ++ calls_of w ns k (e + 1)

-- What they read: a memory counts with all its words. (9.7.5)
abbrev pub read_as : Option ℕ → List Term
read_as None = []
read_as (Some o) = term.Reads o ∷ []

abbrev pub reads_at : Option ExprNode → List Term
reads_at None = []
reads_at (Some n) = read_as (object_in n.kind)

unfoldable pub reads_of : Nodes → ℕ → ℕ → List Term
reads_of ns zero e = []
reads_of ns (suc k) e = reads_at (slice_get ns e) ++ reads_of ns k (e + 1)
