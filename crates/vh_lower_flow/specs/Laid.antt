-- The flat code of a tree: its instructions in their order, each with the positions where it goes on. (IEEE 1364-2005, clauses 9
-- and 10; one instruction for each row of the statements' table)
use Rattle.std.specs.Prelude.{ℕ, ◌+◌, ◌-◌, ◌==◌, List, [], ◌∷◌, ◌++◌, map, length, false, if◌then◌else◌, Option, Some, None}
use Rattle.vh_design_code.specs.declared.code.Block.{Block}
use Rattle.vh_design_code.specs.declared.code.Code.{Code}
use Rattle.vh_design_code.specs.declared.code.Goes.{Goes}
use Rattle.vh_design_code.specs.declared.code.Goes.TheVariants as goes
use Rattle.vh_design_code.specs.declared.code.Instruction.{Instruction}
use Rattle.vh_design_code.specs.declared.operation.Arm.{Arm}
use Rattle.vh_design_code.specs.declared.operation.CaseTest.{CaseTest}
use Rattle.vh_design_code.specs.declared.operation.Loop.TheVariants as turn
use Rattle.vh_design_code.specs.declared.operation.Operation.{Operation}
use Rattle.vh_design_code.specs.declared.operation.Operation.TheVariants as op
use Rattle.vh_lower_flow.specs.declared.code_kind.CodeKind.{CodeKind}
use Rattle.vh_lower_flow.specs.declared.code_kind.CodeKind.TheVariants as of
use Rattle.vh_lower_flow.specs.declared.flow.CaseHead.{CaseHead}
use Rattle.vh_lower_flow.specs.declared.flow.Gate.{Gate}
use Rattle.vh_lower_flow.specs.declared.flow.Gate.TheVariants as gate
use Rattle.vh_lower_flow.specs.declared.flow.Origin.{Origin}
use Rattle.vh_lower_flow.specs.Trees.{FlowTree, flow, FormTree, step, row, choice, turns, case_of, block, fork, Flows, no_flow, one_flow, CaseItems, no_item, one_item, size_of, items_size}

-- The instructions and the named blocks of a code so far.
pub record Laid : Type 0 where
  pub instructions : List Instruction
  pub blocks : List Block

abbrev pub empty : Laid
empty = record { instructions = []; blocks = [] }

-- The position of the next instruction.
abbrev pub position_in : Laid → ℕ
position_in so = length so.instructions

abbrev pub with_instruction : Instruction → Laid → Laid
with_instruction i so = record so { instructions = so.instructions ++ i ∷ [] }

abbrev pub with_block : ℕ → Option ℕ → Goes → Laid → Laid
with_block object around after so =
    record so { blocks = so.blocks ++ record { object = object; around = around; after = after } ∷ [] }

-- An instruction, where it goes on, and the innermost block that it stands in.
abbrev pub instruction_of : Operation → Origin → Goes → Option ℕ → Instruction
instruction_of operation m next inner = record {
  operation = operation;
  next = next;
  stmt = m.stmt;
  block = inner;
  first = m.first;
}

-- Where a statement of so many instructions begins: at its first instruction, or behind it where it has none.
abbrev pub start_at : ℕ → ℕ → Goes → Goes
start_at position size after = if size == 0 then after else goes.To position

-- An instruction that goes on there, or else behind it.
abbrev pub gate_of : Gate → Goes → Operation
gate_of (gate.Test condition) otherwise = op.Test condition otherwise
gate_of (gate.Repeat count) otherwise = op.Loop (turn.Repeat count otherwise)
gate_of gate.Again otherwise = op.Loop (turn.Again otherwise)
gate_of gate.Turn otherwise = op.Loop turn.Turn

-- The values of a `case`'s items, each with the statement that it leads to, where the first of these has that position. (9.5)
abbrev pub arm_to : Goes → ℕ → Arm
arm_to to value = record { value = value; to = to }

abbrev pub arms_from : ℕ → Goes → CaseItems → List Arm
arms_from position after no_item = []
arms_from position after (one_item matched f is) =
    map (arm_to (start_at position (size_of f) after)) matched ++ arms_from (position + size_of f) after is

abbrev pub case_test : CaseHead → List Arm → CaseTest
case_test h arms = record { kind = h.kind; subject = h.subject; arms = arms; width = h.width; signed = h.signed }

-- Where the branches of a `fork` begin, where the first has that position: the end of each is an instruction behind it. (9.8.2)
abbrev pub branches_from : ℕ → Flows → List ℕ
branches_from position no_flow = []
branches_from position (one_flow f fs) = position ∷ branches_from (position + size_of f + 1) fs

-- The end of an `initial` or of a branch.
abbrev pub end_of : Instruction
end_of = instruction_of op.End (record { stmt = None; first = false }) goes.Back None

-- An instruction that goes on at a statement of so many instructions behind it, or at one of so many behind that.
abbrev pub with_choice : Gate → Origin → ℕ → ℕ → Goes → Option ℕ → Laid → Laid
with_choice g m holds fails after inner so =
    let first = position_in so + 1 in
    with_instruction (instruction_of (gate_of g (start_at (first + holds) fails after)) m (start_at first holds after) inner) so

-- The test of a `case`, whose statements stand behind it, the one where no value fits last. (9.5)
abbrev pub with_case : CaseHead → Origin → CaseItems → ℕ → Goes → Option ℕ → Laid → Laid
with_case h m is default after inner so =
    let first = position_in so + 1 in
    with_instruction (instruction_of (op.Case (case_test h (arms_from first after is))) m
    (start_at (first + items_size is) default after) inner) so

-- A `fork`, whose branches stand behind it. (9.8.2)
abbrev pub with_fork : Origin → Flows → Goes → Option ℕ → Laid → Laid
with_fork m branches after inner so =
    with_instruction (instruction_of (op.Fork (branches_from (position_in so + 1) branches)) m after inner) so

abbrev mutual
  -- The code so far with the instructions of a statement, which goes on there, in that block.
  pub laid : FlowTree → Goes → Option ℕ → Laid → Laid
  laid (flow size form) after inner so = form_laid size form after inner so

  -- A row for each form; of so many instructions.
  pub form_laid : ℕ → FormTree → Goes → Option ℕ → Laid → Laid
  form_laid size (step s) after inner so = with_instruction (instruction_of s.operation s.origin after inner) so
  form_laid size (row fs) after inner so = row_laid size fs after inner so
  form_laid size (choice g m holds fails) after inner so =
      laid fails after inner (laid holds after inner
      (with_choice g m (size_of holds) (size_of fails) after inner so))
  form_laid size (turns body g m) after inner so =
      let first = position_in so in
      with_instruction (instruction_of (gate_of g after) m (goes.To first) inner)
      (laid body (goes.To (first + size_of body)) inner so)
  form_laid size (case_of h m is default) after inner so =
      laid default after inner (items_laid is after inner (with_case h m is (size_of default) after inner so))
  form_laid size (block object body) after inner so =
      laid body after (Some (length so.blocks)) (with_block object inner after so)
  form_laid size (fork m branches) after inner so = branches_laid branches (with_fork m branches after inner so)

  -- One after another: each goes on at the next of the row that has an instruction, or behind the row, which has so many
  -- instructions.
  pub row_laid : ℕ → Flows → Goes → Option ℕ → Laid → Laid
  row_laid size no_flow after inner so = so
  row_laid size (one_flow f fs) after inner so =
      let rest = size - size_of f in
      row_laid rest fs after inner (laid f (start_at (position_in so + size_of f) rest after) inner so)

  -- The statements of a `case`. (9.5)
  pub items_laid : CaseItems → Goes → Option ℕ → Laid → Laid
  items_laid no_item after inner so = so
  items_laid (one_item matched f is) after inner so = items_laid is after inner (laid f after inner so)

  -- The branches of a `fork`, each with its end, outside of all blocks: those around the fork have begun it. (9.8.2; own)
  pub branches_laid : Flows → Laid → Laid
  branches_laid no_flow so = so
  branches_laid (one_flow f fs) so =
      branches_laid fs (with_instruction end_of (laid f (goes.To (position_in so + size_of f)) None so))

-- A code that begins there.
abbrev pub code_from : Goes → Laid → Code
code_from start so = record { start = start; instructions = so.instructions; blocks = so.blocks }

-- A turn of an `always`, before its statement. (9.9.2)
abbrev pub turn_of : ℕ → Instruction
turn_of size = instruction_of (op.Loop turn.Turn) (record { stmt = None; first = false }) (start_at 1 size (goes.To 0)) None

-- The code of a statement, by what it is of.
abbrev pub code_of : CodeKind → FlowTree → Code
code_of of.Initial f = code_from (goes.To 0) (with_instruction end_of (laid f (goes.To (size_of f)) None empty))
code_of of.Always f = code_from (goes.To 0) (laid f (goes.To 0) None (with_instruction (turn_of (size_of f)) empty))
code_of of.Body f = code_from (start_at 0 (size_of f) goes.Back) (laid f goes.Back None empty)
code_of of.Value f = code_from (start_at 0 (size_of f) goes.Back) (laid f goes.Back None empty)
code_of of.Assign f =
    let again = start_at 0 (size_of f) goes.Back in
    code_from again (laid f again None empty)
