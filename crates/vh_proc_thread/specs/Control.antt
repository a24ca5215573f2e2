-- What a thread has still to do, and what becomes of it. (IEEE 1364-2005, 9.6, 9.8 and 10.2 to 10.4)
use Rattle.std.specs.Prelude.{◌≡◌, ◌<◌, ◌≤◌, ⊤, ℕ, zero, suc, ◌+◌, ◌-◌, List, [], ◌∷◌, drop, filter, length, Bool, true, false, not, ◌&&◌, ◌||◌, ◌==◌, nat_lt, Option, Some, None, is_some, IfSome, unwrap_or, slice_get, if◌then◌else◌}
use Rattle.std.specs.List.{AllByRecursion}
use Rattle.std.specs.Option.{option_map, option_map_or, option_and_then}
use Rattle.vh_design_code.specs.declared.code.Block.{Block}
use Rattle.vh_design_code.specs.declared.code.Code.{Code}
use Rattle.vh_design_code.specs.declared.code.Goes.{Goes}
use Rattle.vh_design_code.specs.declared.code.Goes.TheVariants as goes
use Rattle.vh_design_code.specs.declared.code.Instruction.{Instruction}
use Rattle.vh_design_code.specs.declared.operation.Operation.{Operation}
use Rattle.vh_design_code.specs.declared.operation.Operation.TheVariants as op
use Rattle.vh_design.specs.Shape.{Shape}
use Rattle.vh_design.specs.Validity.{body_at}
use Rattle.vh_design_nodes.specs.Fits.{has_body}
use Rattle.vh_proc_thread.specs.declared.call.Call.{Call}
use Rattle.vh_proc_thread.specs.declared.call.CallFault.{CallFault}
use Rattle.vh_proc_thread.specs.declared.call.CallFault.TheVariants as fault
use Rattle.vh_proc_thread.specs.declared.call.Repeat.{Repeat}
use Rattle.vh_proc_thread.specs.Blocks.{block_of}

-- The calls that it is in, with the code that it began in, each at the label that it performed last, and the repeats that it
-- is inside, each the innermost first; where it goes on behind the last label; the process of the design whose code it
-- runs outside of tasks and functions; and how many calls stood around it where it began. (own)
pub record Control : Type 0 where
  pub root : ℕ
  pub outer : ℕ
  pub calls : List Call
  pub repeats : List Repeat
  pub goes : Goes

-- The code of a task or function, or else of the process. (own)
abbrev pub code_of : Shape → ℕ → Option ℕ → Option Code
code_of d root None = slice_get d.codes root
code_of d root (Some routine) = body_at d routine

-- The label at which a call stands. (own)
abbrev pub instruction_of : Shape → ℕ → Call → Option Instruction
instruction_of d root c = option_and_then (λ k. slice_get k.instructions c.position) (code_of d root c.routine)

-- Where a call goes on behind its instruction. (own)
abbrev pub behind : Shape → ℕ → Call → Goes
behind d root c = unwrap_or (option_map (λ i. i.next) (instruction_of d root c)) goes.Back

-- The calls in which the next label is performed, where the innermost goes on there: at a position of its code, or back, behind
-- the call in the one around it. What goes back from the code that it began in has ended. (10.2, 10.4)
unfoldable pub gone : Shape → ℕ → Goes → List Call → List Call
gone d root (goes.To k) [] = []
gone d root (goes.To k) (c ∷ cs) = record c { position = k } ∷ cs
gone d root goes.Back [] = []
gone d root goes.Back (c ∷ []) = []
gone d root goes.Back (c ∷ e ∷ cs) = gone d root (behind d root e) (e ∷ cs)

-- A thread stands in the calls and blocks of the label that it performed last until it performs the next one, also where
-- nothing of these is left to do. (own)
abbrev pub standing : Shape → Control → List Call
standing d t = gone d t.root t.goes t.calls

-- The next label of a thread; one that has ended has none. (own)
abbrev pub next_of : Shape → Control → Option Instruction
next_of d t = option_and_then (instruction_of d t.root) (slice_get (standing d t) 0)

abbrev pub goes_on : Goes → Control → Control
goes_on goes t = record t { goes = goes }

-- A code from its start, in a task or function or in none. (own)
abbrev pub start_of : Shape → ℕ → Option ℕ → Goes
start_of d root routine = unwrap_or (option_map (λ k. k.start) (code_of d root routine)) goes.Back

abbrev pub call_at : Option ℕ → ℕ → Call
call_at routine k = record { routine = routine; position = k; block = None }

-- A process of the design at its beginning. (9.9)
abbrev pub process_of : Shape → ℕ → Control
process_of d p = record { root = p; outer = 0; calls = call_at None 0 ∷ []; repeats = []; goes = start_of d p None }

-- How many calls it is in, with those around it where it began. (own)
abbrev pub depth_of : Control → ℕ
depth_of t = t.outer + (length t.calls - 1)

-- The innermost call is in that block of its code. (own)
abbrev pub in_block : Option ℕ → List Call → List Call
in_block block [] = []
in_block block (c ∷ cs) = record c { block = block } ∷ cs

abbrev pub block_at : Option Instruction → Option ℕ
block_at i = option_and_then (λ j. j.block) i

abbrev pub standing_in : Option ℕ → Control → Control
standing_in block t = record t { calls = in_block block t.calls }

-- It performs its next label: it has left the calls that it goes back from, and is in the block of the instruction. Where it
-- isn't said to go on, it performs the same one again. (own)
abbrev pub position_of : List Call → Goes
position_of [] = goes.Back
position_of (c ∷ cs) = goes.To c.position

abbrev pub settled : Shape → Control → Control
settled d t = record t { calls = standing d t; goes = position_of (standing d t) }

abbrev pub arrived : Shape → Control → Control
arrived d t = standing_in (block_at (next_of d t)) (settled d t)

-- A branch of a fork that it stands at. (9.8.2; own: the number of nested calls is that of the parent)
abbrev pub routine_of : Control → Option ℕ
routine_of t = option_and_then (λ c. c.routine) (slice_get t.calls 0)

abbrev pub branch_of : ℕ → Control → Control
branch_of k t = record {
  root = t.root;
  outer = depth_of t;
  calls = call_at (routine_of t) k ∷ [];
  repeats = [];
  goes = goes.To k;
}

-- It calls a task or function. (10.2, 10.4)
abbrev pub called : Shape → ℕ → Control → Control
called d routine t =
    record t { calls = call_at (Some routine) 0 ∷ t.calls; goes = start_of d t.root (Some routine) }

-- It begins a repeat in a block of its code, with so many turns behind the first. (9.6)
abbrev pub repeat_in : Option ℕ → ℕ → ℕ → Repeat
repeat_in block depth n = record { depth = depth; block = block; left = n }

abbrev pub repeating : Option ℕ → ℕ → Control → Control
repeating block n t = record t { repeats = repeat_in block (length t.calls) n ∷ t.repeats }

-- The innermost repeat takes a turn, or has none left and is over. (9.6)
abbrev pub has_turn : List Repeat → Bool
has_turn [] = false
has_turn (r ∷ rs) = nat_lt 0 r.left

abbrev pub turned : List Repeat → List Repeat
turned [] = []
turned (r ∷ rs) = if nat_lt 0 r.left then (record r { left = r.left - 1 } ∷ rs) else rs

abbrev pub repeat_turned : Control → Control
repeat_turned t = record t { repeats = turned t.repeats }

-- Whether a call is one of this task, and the block of that object in which it stands. (10.3)
abbrev pub is_routine : ℕ → Option ℕ → Bool
is_routine target None = false
is_routine target (Some routine) = routine == target

abbrev pub is_call_of : ℕ → Call → Bool
is_call_of target c = is_routine target c.routine

abbrev pub blocks_of : Shape → ℕ → Call → List Block
blocks_of d root c = unwrap_or (option_map (λ k. k.blocks) (code_of d root c.routine)) []

abbrev pub block_around : Shape → ℕ → ℕ → Call → Option Block
block_around d root target c = block_of (blocks_of d root c) target c.block

abbrev pub is_within : Shape → ℕ → ℕ → Call → Bool
is_within d root target c = is_call_of target c || is_some (block_around d root target c)

-- The outermost call that passes a test, with those around it. (own)
abbrev pub or_these : List Call → List Call → List Call
or_these [] cs = cs
or_these (c ∷ cs) ds = c ∷ cs

abbrev pub outermost : (Call → Bool) → List Call → List Call
outermost test [] = []
outermost test (c ∷ cs) = or_these (outermost test cs) (if test c then c ∷ cs else [])

-- Whether the thread is inside the block or task. (10.3)
abbrev pub is_inside : Shape → ℕ → Control → Bool
is_inside d target t = nat_lt 0 (length (outermost (is_within d t.root target) t.calls))

-- Whether a repeat is inside it, by how many calls there are up to the outermost, and that one's blocks. (own)
abbrev pub repeats_within : List Block → ℕ → ℕ → Repeat → Bool
repeats_within bs depth target r = nat_lt depth r.depth || (r.depth == depth && is_some (block_of bs target r.block))

-- Behind the label that ends a call, from there on: the calls on the way, which the indexes of its outputs make, have labels
-- of their own that begin and end them. (10.2)
abbrev pub ends_call : Operation → Bool
ends_call (op.Leave l) = true
ends_call _ = false

abbrev pub begins_call : Operation → Bool
begins_call (op.Enter routine inputs) = true
begins_call _ = false

-- How many calls are open behind a label, of so many before it; none where it ends the one that is looked for. (own)
abbrev pub open_behind : ℕ → Operation → Option ℕ
open_behind n o = if ends_call o then (if n == 0 then None else Some (n - 1)) else Some (if begins_call o then n + 1 else n)

abbrev pub end_by : (ℕ → Goes → Goes) → ℕ → Instruction → Goes
end_by further n i = option_map_or (λ m. further m i.next) (open_behind n i.operation) i.next

abbrev pub end_at : (ℕ → Goes → Goes) → ℕ → Option Instruction → Goes
end_at further n None = goes.Back
end_at further n (Some i) = end_by further n i

unfoldable pub end_from : ℕ → List Instruction → ℕ → Goes → Goes
end_from zero is n to = goes.Back
end_from (suc k) is n goes.Back = goes.Back
end_from (suc k) is n (goes.To at) = end_at (end_from k is) n (slice_get is at)

-- Behind the end of the call at which the innermost one stands. (own)
abbrev pub instructions_of : Shape → ℕ → Call → List Instruction
instructions_of d root c = unwrap_or (option_map (λ k. k.instructions) (code_of d root c.routine)) []

abbrev pub behind_end : Shape → ℕ → List Call → Goes
behind_end d root [] = goes.Back
behind_end d root (c ∷ cs) =
    let is = instructions_of d root c in end_from (length is) is 0 (behind d root c)

-- A disable of the block or task: it goes on behind the outermost. Behind a task's call that is behind the end of the
-- call, whose outputs aren't written. (10.3)
abbrev pub without_call : Shape → Control → Control
without_call d t = record t { calls = drop 1 t.calls; goes = behind_end d t.root (drop 1 t.calls) }

abbrev pub left_task : Shape → List Call → Control → Control
left_task d cs t = without_call d (record t {
  calls = cs;
  repeats = filter (λ r. nat_lt r.depth (length cs)) t.repeats;
})

abbrev pub without_block : Block → Control → Control
without_block b t = goes_on b.after (standing_in b.around t)

abbrev pub left_block : Shape → ℕ → List Call → List Block → Option Block → Control → Control
left_block d target cs bs None t = record t { calls = cs }
left_block d target cs bs (Some b) t = without_block b (record t {
  calls = cs;
  repeats = filter (λ r. not (repeats_within bs (length cs) target r)) t.repeats;
})

abbrev pub left : Shape → ℕ → Control → List Call → Control
left d target t [] = t
left d target t (c ∷ cs) =
    if is_call_of target c
    then left_task d (c ∷ cs) t
    else left_block d target (c ∷ cs) (blocks_of d t.root c) (block_around d t.root target c) t

abbrev pub disabled : Shape → ℕ → Control → Control
disabled d target t = left d target t (outermost (is_within d t.root target) t.calls)

-- The thread runs codes that are there. (own)
abbrev pub HasBody : Shape → Call → Type 0
HasBody d c = IfSome c.routine (λ r. has_body d.objects r ≡ true)

pub record Runs (d : Shape) (t : Control) : Type 0 where
  pub root : t.root < length d.codes
  pub calls : AllByRecursion (HasBody d) t.calls

-- Why a call isn't begun: the thread is in 256 calls, or memory ran out. (own)
abbrev pub HasCause : Control → CallFault → Type 0
HasCause t fault.TooDeep = 256 ≤ depth_of t
HasCause t fault.NoMemory = ⊤
