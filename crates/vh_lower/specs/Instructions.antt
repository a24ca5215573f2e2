-- The instructions of a statement, and the turns of its loops. (IEEE 1364-2005, clause 9; own: a test behind the body of a loop
-- stands there once more, since it begins no execution of the loop)
use Rattle.std.specs.Prelude.{ℕ, List, [], ◌∷◌, ◌++◌, map, Bool, true, false, Some}
use Rattle.vh_design_nodes.specs.declared.expr.Selected.{Selected}
use Rattle.vh_design_nodes.specs.declared.object.ObjectInfo.{ObjectInfo}
use Rattle.vh_design_code.specs.declared.operation.Operation.{Operation}
use Rattle.vh_design_code.specs.declared.operation.Operation.TheVariants as op
use Rattle.vh_design_code.specs.declared.target.Delay.{Delay}
use Rattle.vh_design_code.specs.Targets.{targets_width}
use Rattle.vh_lower_flow.specs.declared.flow.Gate.{Gate}
use Rattle.vh_lower_flow.specs.declared.flow.Origin.{Origin}
use Rattle.vh_lower_flow.specs.Trees.{FlowTree, flows, row, step, choice, turns, sized}

-- The first instruction of a statement's execution, and any further one.
abbrev pub origin_of : ℕ → Bool → Origin
origin_of n first = record { stmt = Some n; first = first }

abbrev pub instruction : ℕ → Bool → Operation → FlowTree
instruction n first operation = sized (step (record { operation = operation; origin = origin_of n first }))

abbrev pub in_row : List FlowTree → FlowTree
in_row fs = sized (row (flows fs))

abbrev pub nothing : FlowTree
nothing = in_row []

-- Matched of a statement in a row: further ones, or from the first on.
abbrev pub further : ℕ → List Operation → List FlowTree
further n os = map (instruction n false) os

abbrev pub from_first : ℕ → List Operation → List FlowTree
from_first n [] = []
from_first n (o ∷ os) = instruction n true o ∷ further n os

abbrev pub instructions : ℕ → List Operation → FlowTree
instructions n os = in_row (from_first n os)

-- Behind some calls, an instruction that goes on in one of two ways: it is the first where there are no calls.
abbrev pub is_empty : List Operation → Bool
is_empty [] = true
is_empty (o ∷ os) = false

abbrev pub choice_of : Gate → Origin → FlowTree → FlowTree → FlowTree
choice_of g m holds fails = sized (choice g m holds fails)

abbrev pub gated : ℕ → List Operation → Gate → FlowTree → FlowTree → FlowTree
gated n calls g holds fails = in_row (from_first n calls ++ choice_of g (origin_of n (is_empty calls)) holds fails ∷ [])

-- A gate that isn't the first instruction, behind calls that aren't either.
abbrev pub gated_further : ℕ → List Operation → Gate → FlowTree → FlowTree → FlowTree
gated_further n calls g holds fails = in_row (further n calls ++ choice_of g (origin_of n false) holds fails ∷ [])

-- The turns of a loop: its body, the calls that its gate needs, and the gate again.
abbrev pub again : ℕ → List Operation → Gate → List FlowTree → FlowTree
again n calls g body = sized (turns (in_row (body ++ further n calls)) g (origin_of n false))

-- The instructions of a blocking assignment: with a delay its first instruction reads the value, and its second one the indexes of
-- the target. (9.2.1; own for the indexes)
abbrev pub with_operation : List Operation → Operation → List Operation
with_operation os o = os ++ o ∷ []

abbrev pub delayed_in : List Operation → List Operation → ℕ → ℕ → Delay → List Selected → List Operation
delayed_in before calls value width delay targets =
    with_operation (with_operation before (op.Hold value width delay) ++ calls) (op.Store targets)

abbrev pub delayed : List ObjectInfo → List Operation → List Operation → ℕ → Delay → List Selected → List Operation
delayed os before calls value delay targets = delayed_in before calls value (targets_width os targets) delay targets

-- Matched of a statement, and the statement behind them.
abbrev pub behind_operations : ℕ → List Operation → FlowTree → FlowTree
behind_operations n os body = in_row (instructions n os ∷ body ∷ [])
