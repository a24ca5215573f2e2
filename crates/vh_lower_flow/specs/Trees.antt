-- Bound statements as plain trees, and how many instructions they have. (IEEE 1364-2005, clauses 9 and 10)
use Rattle.std.specs.Prelude.{ℕ, ◌+◌, List, [], ◌∷◌}
use Rattle.vh_lower_flow.specs.declared.flow.CaseHead.{CaseHead}
use Rattle.vh_lower_flow.specs.declared.flow.Gate.{Gate}
use Rattle.vh_lower_flow.specs.declared.flow.Origin.{Origin}
use Rattle.vh_lower_flow.specs.declared.flow.Step.{Step}

mutual
  -- A statement, with the number of its instructions.
  pub data FlowTree : Type 0 where
    flow : ℕ → FormTree → FlowTree

  -- What it is: an instruction; one statement after another; an instruction, and one of two statements behind it; the turns of a
  -- loop, each with an instruction behind it; a `case` (9.5); a named block (9.8); a `fork` (9.8.2).
  pub data FormTree : Type 0 where
    step : Step → FormTree
    row : Flows → FormTree
    choice : Gate → Origin → FlowTree → FlowTree → FormTree
    turns : FlowTree → Gate → Origin → FormTree
    case_of : CaseHead → Origin → CaseItems → FlowTree → FormTree
    block : ℕ → FlowTree → FormTree
    fork : Origin → Flows → FormTree

  -- Statements in a row.
  pub data Flows : Type 0 where
    no_flow : Flows
    one_flow : FlowTree → Flows → Flows

  -- The statements of a `case` in source order, each with its values.
  pub data CaseItems : Type 0 where
    no_item : CaseItems
    one_item : List ℕ → FlowTree → CaseItems → CaseItems

-- Statements of a list.
abbrev pub flows : List FlowTree → Flows
flows [] = no_flow
flows (f ∷ fs) = one_flow f (flows fs)

pub record ItemTree : Type 0 where
  pub matched : List ℕ
  pub body : FlowTree

abbrev pub case_items : List ItemTree → CaseItems
case_items [] = no_item
case_items (i ∷ is) = one_item i.matched i.body (case_items is)

-- How many instructions a statement has.
abbrev pub size_of : FlowTree → ℕ
size_of (flow n form) = n

abbrev pub row_size : Flows → ℕ
row_size no_flow = 0
row_size (one_flow f fs) = size_of f + row_size fs

abbrev pub items_size : CaseItems → ℕ
items_size no_item = 0
items_size (one_item matched f is) = size_of f + items_size is

-- Each branch of a `fork` has an instruction more, which ends it.
abbrev pub branches_size : Flows → ℕ
branches_size no_flow = 0
branches_size (one_flow f fs) = size_of f + 1 + branches_size fs

-- How many it has by its form: a row and a block have none of their own.
abbrev pub instructions_in : FormTree → ℕ
instructions_in (step s) = 1
instructions_in (row fs) = row_size fs
instructions_in (choice g m holds fails) = 1 + size_of holds + size_of fails
instructions_in (turns body g m) = size_of body + 1
instructions_in (case_of h m is default) = 1 + items_size is + size_of default
instructions_in (block o body) = size_of body
instructions_in (fork m branches) = 1 + branches_size branches

abbrev pub sized : FormTree → FlowTree
sized form = flow (instructions_in form) form
