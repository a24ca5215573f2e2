-- The processes of a simulation. (IEEE 1364-2005, 9.8, 9.9 and 11.4; the numbers and the faults are own)
use Rattle.std.specs.Prelude.{ℕ, ◌+◌, ◌-◌, List, [], ◌∷◌, map, length, nat_lt, if◌then◌else◌, Option, Some, None, unwrap_or, Result, Ok}
use Rattle.std.specs.BTreeMap.{is_at, insert_entry}
use Rattle.std.specs.List.{range_with_len, AllByRecursion}
use Rattle.std.specs.Map.{lookup, set_value, remove_entry}
use Rattle.std.specs.Option.{option_map}
use Rattle.std.specs.Ordering.{nat_cmp}
use Rattle.vh_base.specs.Checks.{unless, with_ok}
use Rattle.vh_base.specs.declared.faults.Fault.{Fault}
use Rattle.vh_base.specs.declared.faults.Fault.TheVariants as fault
use Rattle.vh_base.specs.declared.limits.TheConstants.{MOST_NUMBERS}
use Rattle.vh_design_code.specs.declared.change.Made.{Made}
use Rattle.vh_design_code.specs.declared.code.Goes.{Goes}
use Rattle.vh_design_code.specs.declared.code.Goes.TheVariants as goes
use Rattle.vh_design_code.specs.declared.code.Instruction.{Instruction}
use Rattle.vh_design.specs.Shape.{Shape}
use Rattle.vh_store.specs.Contents.{Contents}
use Rattle.vh_sense.specs.Sensitivity.{Sensitivity}
use Rattle.vh_queue.specs.declared.region.Region.TheVariants as region
use Rattle.vh_queue.specs.declared.work.Work.TheVariants as work
use Rattle.vh_queue.specs.Events.{Events}
use Rattle.vh_proc_thread.specs.Control.{Runs, next_of, process_of, branch_of}
use Rattle.vh_proc_turn.specs.declared.next.Next.{Next}
use Rattle.vh_proc_turn.specs.declared.process.Process.{Process}
use Rattle.vh_proc_turn.specs.Own.{going, arriving, with_entry}

-- The processes that haven't ended, by rising number, and the least number that no process has had: one of the
-- design has its number there, and a branch of a fork gets the next.
pub record Processes : Type 0 where
  pub all : List (ℕ × Process)
  pub next : ℕ

-- What a label of a process may change.
pub record World : Type 0 where
  pub processes : Processes
  pub store : Contents
  pub sense : Sensitivity
  pub queue : Events

abbrev pub world_of : Processes → Contents → Sensitivity → Events → World
world_of ps s w q = record { processes = ps; store = s; sense = w; queue = q }

-- What a fork, a join and a resumption change of it, and what a disable does.
pub record Queued : Type 0 where
  pub processes : Processes
  pub queue : Events

pub record Scheduled : Type 0 where
  pub processes : Processes
  pub sense : Sensitivity
  pub queue : Events

abbrev pub queued : Processes → Events → Queued
queued ps q = record { processes = ps; queue = q }

abbrev pub scheduled : Processes → Sensitivity → Events → Scheduled
scheduled ps w q = record { processes = ps; sense = w; queue = q }

-- What a label comes to: the world after it, what it changed, forced or released in order, and what the process does
-- next; or a fault in its position; or, of a process without a label, nothing.
pub record Step : Type 0 where
  pub world : World
  pub made : List Made
  pub next : Next

abbrev pub step_with : World → List Made → Next → Step
step_with w ms n = record { world = w; made = ms; next = n }

abbrev pub Outcome : Type 0
Outcome = Result Step (Option Fault)

-- The process of a number; with another in its position; without it.
abbrev pub process_at : ℕ → Processes → Option Process
process_at p ps = lookup (is_at (nat_cmp p)) ps.all

abbrev pub with_process : ℕ → Process → Processes → Processes
with_process p t ps = record ps { all = set_value (is_at (nat_cmp p)) ps.all t }

abbrev pub without_process : ℕ → Processes → Processes
without_process p ps = record ps { all = remove_entry (is_at (nat_cmp p)) ps.all }

-- The processes of a design before all, each at its beginning. (9.9)
abbrev pub opening_process : Shape → ℕ → Process
opening_process d k =
    record { thread = process_of d k; parent = None; left = 0; held = None; entry = None; updates = [] }

abbrev pub opening : Shape → Processes
opening d = record {
  all = map (λ k. (k, opening_process d k)) (range_with_len 0 (length d.codes));
  next = length d.codes;
}

-- Each runs codes that are there. (own)
abbrev pub AllRun : Shape → Processes → Type 0
AllRun d ps = AllByRecursion (λ e. Runs d e.1.thread) ps.all

-- The process of a number is changed; where none has it, nothing is.
abbrev pub changed_in : Option Process → ℕ → (Process → Process) → Processes → Processes
changed_in None p change ps = ps
changed_in (Some t) p change ps = with_process p (change t) ps

abbrev pub changed : ℕ → (Process → Process) → Processes → Processes
changed p change ps = changed_in (process_at p ps) p change ps

-- It performs a label; it goes on there; its evaluation entry is noted, so that a `disable` finds it; it waits for so many branches; one of
-- these has ended. (9.8.2)
abbrev pub arrived_in : Shape → ℕ → Processes → Processes
arrived_in d p ps = changed p (arriving d) ps

abbrev pub gone_on : ℕ → Goes → Processes → Processes
gone_on p goes ps = changed p (going goes) ps

abbrev pub with_serial : ℕ → Process → Process
with_serial serial t = record t { entry = Some serial }

abbrev pub noted : ℕ → ℕ → Processes → Processes
noted p serial ps = changed p (with_serial serial) ps

abbrev pub with_left : ℕ → Process → Process
with_left n t = record t { left = n }

abbrev pub one_less : Process → Process
one_less t = record t { left = t.left - 1 }

-- Where it goes on behind the label at which it stands. (own)
abbrev pub goes_behind : Option Instruction → Goes
goes_behind i = unwrap_or (option_map (λ j. j.next) i) goes.Back

-- A process gets an evaluation entry, now. (11.4)
abbrev pub evaluated_now : ℕ → Events → Result Events (Option Fault)
evaluated_now p q = with_entry q.time region.Active (work.Evaluate p) q

abbrev pub resumed : ℕ → Queued → Result Queued (Option Fault)
resumed p b = with_ok (evaluated_now p b.queue) (λ q. Ok (queued (noted p b.queue.next b.processes) q))

-- Branches of a fork begin in order, each a process of the next number with an entry. (9.8.2)
abbrev pub branch : ℕ → Process → ℕ → ℕ → Process
branch p t serial position =
    record { thread = branch_of position t.thread; parent = Some p; left = 0; held = None; entry = Some serial; updates = [] }

abbrev pub with_branch : ℕ → Process → Processes → Processes
with_branch k t ps = record { all = insert_entry nat_cmp ps.all k t; next = k + 1 }

abbrev pub branch_in : Option Process → ℕ → ℕ → ℕ → Processes → Processes
branch_in None p serial position ps = ps
branch_in (Some t) p serial position ps = with_branch ps.next (branch p t serial position) ps

abbrev pub branch_begun : ℕ → ℕ → Queued → Result Queued (Option Fault)
branch_begun p position b =
    unless (nat_lt MOST_NUMBERS b.processes.next) (Some fault.F3)
    (with_ok (evaluated_now b.processes.next b.queue) (λ q.
    Ok (queued (branch_in (process_at p b.processes) p b.queue.next position b.processes) q)))

unfoldable pub branches_begun : ℕ → List ℕ → Queued → Result Queued (Option Fault)
branches_begun p [] b = Ok b
branches_begun p (k ∷ ks) b = with_ok (branch_begun p k b) (branches_begun p ks)

-- A branch has ended; with the last one its parent goes on behind the fork. (9.8.2)
abbrev pub one_joined : Shape → ℕ → Process → Queued → Result Queued (Option Fault)
one_joined d p t b =
    if nat_lt 1 t.left then Ok b
    else resumed p (queued (gone_on p (goes_behind (next_of d t.thread)) b.processes) b.queue)

abbrev pub joined_in : Shape → Option Process → ℕ → Queued → Result Queued (Option Fault)
joined_in d None p b = Ok b
joined_in d (Some t) p b = one_joined d p t (queued (changed p one_less b.processes) b.queue)

abbrev pub joined : Shape → Option ℕ → Queued → Result Queued (Option Fault)
joined d None b = Ok b
joined d (Some p) b = joined_in d (process_at p b.processes) p b
