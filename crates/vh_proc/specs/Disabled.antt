-- What a `disable` of a named block or task does to the processes of a simulation. (IEEE 1364-2005, 10.3; that each
-- goes on behind the outermost, and in process order, is own)
use Rattle.std.specs.Prelude.{ℕ, List, [], ◌∷◌, ◌++◌, Bool, false, ◌||◌, ◌==◌, if◌then◌else◌, Option, Some, None, Result, Ok}
use Rattle.std.specs.List.{list_any}
use Rattle.vh_base.specs.Checks.{with_ok}
use Rattle.vh_base.specs.declared.faults.Fault.{Fault}
use Rattle.vh_design.specs.Shape.{Shape}
use Rattle.vh_sense.specs.Sensitivity.{without_wait}
use Rattle.vh_queue.specs.Events.{Events, without}
use Rattle.vh_proc_thread.specs.Control.{is_inside, disabled}
use Rattle.vh_proc_turn.specs.declared.process.Process.{Process}
use Rattle.vh_proc.specs.Processes.{Processes, Queued, Scheduled, queued, scheduled, process_at, changed, without_process, resumed}

-- The processes that a disable stops, by rising number: the branches that end with what has begun them, and any others
-- that are inside, which leave the block or task.
pub record Stopped : Type 0 where
  pub ends : List ℕ
  pub leaves : List ℕ

abbrev pub is_among : List ℕ → ℕ → Bool
is_among ps p = list_any (λ q. q == p) ps

abbrev pub is_begun_by : Stopped → Option ℕ → Bool
is_begun_by found None = false
is_begun_by found (Some p) = is_among found.ends p || is_among found.leaves p

abbrev pub begun_by : Stopped → Process → Bool
begun_by found t = is_begun_by found t.parent

-- A branch has a greater number than its parent, so one walk finds them all.
abbrev pub with_stopped : Shape → ℕ → Stopped → ℕ → Process → Stopped
with_stopped d target found p t =
    if begun_by found t then record found { ends = found.ends ++ p ∷ [] }
    else (if is_inside d target t.thread then record found { leaves = found.leaves ++ p ∷ [] } else found)

unfoldable pub stopped_of : Shape → ℕ → Stopped → List (ℕ × Process) → Stopped
stopped_of d target found [] = found
stopped_of d target found (e ∷ es) = stopped_of d target (with_stopped d target found e.0 e.1) es

abbrev pub stopped : Shape → ℕ → Processes → Stopped
stopped d target ps = stopped_of d target (record { ends = []; leaves = [] }) ps.all

-- A stopped process waits for nothing any more. (own: its updates stay)
abbrev pub without_entry : Option ℕ → Events → Events
without_entry None q = q
without_entry (Some serial) q = without serial q

abbrev pub halted : ℕ → Process → Scheduled → Scheduled
halted p t o = record o { sense = without_wait p o.sense; queue = without_entry t.entry o.queue }

-- One of them ends, or goes on behind the outermost such block or call.
abbrev pub ended_in : Option Process → ℕ → Scheduled → Scheduled
ended_in None p o = o
ended_in (Some t) p o = halted p t (record o { processes = without_process p o.processes })

abbrev pub left_by : Shape → ℕ → Process → Process
left_by d target t = record t { thread = disabled d target t.thread; left = 0; entry = None }

abbrev pub left_in : Shape → ℕ → Option Process → ℕ → Scheduled → Scheduled
left_in d target None p o = o
left_in d target (Some t) p o =
    halted p t (record o { processes = changed p (left_by d target) o.processes })

unfoldable pub all_ended : List ℕ → Scheduled → Scheduled
all_ended [] o = o
all_ended (p ∷ ps) o = all_ended ps (ended_in (process_at p o.processes) p o)

unfoldable pub all_left : Shape → ℕ → List ℕ → Scheduled → Scheduled
all_left d target [] o = o
all_left d target (p ∷ ps) o = all_left d target ps (left_in d target (process_at p o.processes) p o)

-- Each that goes on but the one that executes the `disable` gets an evaluation entry, in process order.
abbrev pub resumed_but : ℕ → ℕ → Queued → Result Queued (Option Fault)
resumed_but own p b = if p == own then Ok b else resumed p b

unfoldable pub all_resumed : ℕ → List ℕ → Queued → Result Queued (Option Fault)
all_resumed own [] b = Ok b
all_resumed own (p ∷ ps) b = with_ok (resumed_but own p b) (all_resumed own ps)

abbrev pub all_stopped : Shape → ℕ → Stopped → Scheduled → Scheduled
all_stopped d target found o = all_left d target found.leaves (all_ended found.ends o)

abbrev pub resuming : ℕ → List ℕ → Scheduled → Result Scheduled (Option Fault)
resuming own leaves o =
    with_ok (all_resumed own leaves (queued o.processes o.queue)) (λ b. Ok (scheduled b.processes o.sense b.queue))

abbrev pub disable_all : Shape → ℕ → ℕ → Stopped → Scheduled → Result Scheduled (Option Fault)
disable_all d target own found o = resuming own found.leaves (all_stopped d target found o)
