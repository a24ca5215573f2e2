-- At which positions a code goes on: at its own alone. (own: those rules of `vh_design_code` that name no object)
use Rattle.std.specs.Prelude.{◌≡◌, ℕ, List, Bool, true, false, ◌&&◌, nat_lt, length, ⊤}
use Rattle.std.specs.List.{list_all, enumerate_from}
use Rattle.vh_design_nodes.specs.Fits.{before}
use Rattle.vh_design_code.specs.declared.code.Block.{Block}
use Rattle.vh_design_code.specs.declared.code.Code.{Code}
use Rattle.vh_design_code.specs.declared.code.Instruction.{Instruction}
use Rattle.vh_design_code.specs.declared.operation.Loop.{Loop}
use Rattle.vh_design_code.specs.declared.operation.Loop.TheVariants as turn
use Rattle.vh_design_code.specs.declared.operation.Operation.{Operation}
use Rattle.vh_design_code.specs.declared.operation.Operation.TheVariants as op
use Rattle.vh_design_code.specs.Operations.{fits_goes}
use Rattle.vh_lower_flow.specs.Trees.{FlowTree, flow, FormTree, step, row, choice, turns, case_of, block, fork, Flows, no_flow, one_flow, CaseItems, no_item, one_item, instructions_in}

-- Where a turn of a loop goes on, of a code with so many positions.
abbrev pub loop_within : ℕ → Loop → Bool
loop_within positions (turn.Repeat count done) = fits_goes positions done
loop_within positions (turn.Again done) = fits_goes positions done
loop_within positions turn.Turn = true

-- Where an operation goes on, beside the position behind it.
abbrev pub operation_within : ℕ → Operation → Bool
operation_within positions (op.Assign value targets) = true
operation_within positions (op.Hold value width delay) = true
operation_within positions (op.Store targets) = true
operation_within positions (op.Schedule s) = true
operation_within positions (op.Pause p) = true
operation_within positions (op.Test condition otherwise) = fits_goes positions otherwise
operation_within positions (op.Case c) = list_all (λ a. fits_goes positions a.to) c.arms
operation_within positions (op.Loop t) = loop_within positions t
operation_within positions (op.Fork branches) = list_all (λ b. nat_lt b positions) branches
operation_within positions op.End = true
operation_within positions (op.Enter routine inputs) = true
operation_within positions (op.Leave e) = true
operation_within positions (op.SysCall o) = true
operation_within positions (op.SysFunc o) = true
operation_within positions (op.Single s) = true
operation_within positions (op.Drive d) = true
operation_within positions (op.Initial o value) = true

abbrev pub instruction_within : ℕ → ℕ → Instruction → Bool
instruction_within positions blocks i =
    operation_within positions i.operation && fits_goes positions i.next && before blocks i.block

-- A named block, by its number: the one around it has a lesser number.
abbrev pub block_within : ℕ → ℕ → Block → Bool
block_within positions k b = before k b.around && fits_goes positions b.after

abbrev pub blocks_within : ℕ → List Block → Bool
blocks_within positions bs = list_all (λ b. block_within positions b.0 b.1) (enumerate_from 0 bs)

-- A code that goes on at its own positions alone, in its own blocks.
abbrev pub is_closed : Code → Bool
is_closed c =
    fits_goes (length c.instructions) c.start
    && list_all (instruction_within (length c.instructions) (length c.blocks)) c.instructions
    && blocks_within (length c.instructions) c.blocks

-- An operation that goes on behind itself alone.
abbrev pub is_plain : Operation → Bool
is_plain (op.Assign value targets) = true
is_plain (op.Hold value width delay) = true
is_plain (op.Store targets) = true
is_plain (op.Schedule s) = true
is_plain (op.Pause p) = true
is_plain (op.Test condition otherwise) = false
is_plain (op.Case c) = false
is_plain (op.Loop t) = false
is_plain (op.Fork branches) = false
is_plain op.End = true
is_plain (op.Enter routine inputs) = true
is_plain (op.Leave e) = true
is_plain (op.SysCall o) = true
is_plain (op.SysFunc o) = true
is_plain (op.Single s) = true
is_plain (op.Drive d) = true
is_plain (op.Initial o value) = true

-- A tree that counts its instructions, each of which goes on behind itself.
abbrev mutual
  pub IsMeasured : FlowTree → Type 0
  IsMeasured (flow n form) = (n ≡ instructions_in form) × FormMeasured form

  pub FormMeasured : FormTree → Type 0
  FormMeasured (step s) = is_plain s.operation ≡ true
  FormMeasured (row fs) = AllMeasured fs
  FormMeasured (choice g m holds fails) = IsMeasured holds × IsMeasured fails
  FormMeasured (turns body g m) = IsMeasured body
  FormMeasured (case_of h m is default) = ItemsMeasured is × IsMeasured default
  FormMeasured (block o body) = IsMeasured body
  FormMeasured (fork m branches) = AllMeasured branches

  pub AllMeasured : Flows → Type 0
  AllMeasured no_flow = ⊤
  AllMeasured (one_flow f fs) = IsMeasured f × AllMeasured fs

  pub ItemsMeasured : CaseItems → Type 0
  ItemsMeasured no_item = ⊤
  ItemsMeasured (one_item matched f is) = IsMeasured f × ItemsMeasured is
