-- Whom a `disable` stops, and what becomes of these and of all others. (IEEE 1364-2005, 9.8.2 and 10.3)
use Rattle.std.specs.Prelude.{◌≡◌, ℕ, zero, suc, ◌<◌, ◌⊎◌, true, None, Some}
use Rattle.vh_design.specs.Shape.{Shape}
use Rattle.vh_callbacks.specs.Callbacks.{Rise}
use Rattle.vh_queue.specs.Events.{entry_of}
use Rattle.vh_sense.specs.Sensitivity.{Sensitivity, wait_of}
use Rattle.vh_proc_thread.specs.Control.{is_inside, disabled}
use Rattle.vh_proc_turn.specs.declared.process.Process.{Process}
use Rattle.vh_proc.specs.Processes.{Processes, Scheduled, process_at}

-- Each process stands once, by rising numbers below the next one, and what has begun a branch has a lesser number.
pub record AreNumbered (ps : Processes) : Type 0 where
  pub rise : Rise 0 ps.all ps.next
  pub begun : (p q : ℕ) (t : Process) → process_at p ps ≡ Some t → t.parent ≡ Some q → q < p

-- Each that waits stands once, by rising numbers.
abbrev pub WaitsRise : Sensitivity → Type 0
WaitsRise s = (bound : ℕ) × Rise 0 s.waiting bound

-- A process is stopped where it is inside the block or task itself,
abbrev pub IsInside : Shape → ℕ → Processes → ℕ → Type 0
IsInside d target ps p = (t : Process) × (process_at p ps ≡ Some t) × (is_inside d target t.thread ≡ true)

-- Or where what has begun it is stopped, over so many branches. (own: the branches of a `fork` belong to what has begun them)
abbrev pub IsStopped : Shape → ℕ → Processes → ℕ → ℕ → Type 0
IsStopped d target ps zero p = IsInside d target ps p
IsStopped d target ps (suc n) p =
    (t : Process) × (q : ℕ) × (process_at p ps ≡ Some t) × (t.parent ≡ Some q) × IsStopped d target ps n q

-- Of those that are stopped a branch that one of them has begun ends;
abbrev pub Ends : Shape → ℕ → Processes → ℕ → Type 0
Ends d target ps p = (n : ℕ) × IsStopped d target ps (suc n) p

-- Any other leaves the block or task, and goes on behind it.
abbrev pub Leaves : Shape → ℕ → Processes → ℕ → Type 0
Leaves d target ps p = IsInside d target ps p × (Ends d target ps p → ⊥)

-- Nobody else is stopped.
abbrev pub IsUntouched : Shape → ℕ → Processes → ℕ → Type 0
IsUntouched d target ps p = (Ends d target ps p → ⊥) × (Leaves d target ps p → ⊥)

-- What becomes of the processes, their waits and their evaluation entries.
pub record Stops (d : Shape) (target : ℕ) (ps : Processes) (before after : Scheduled) : Type 0 where
  -- a branch that ends is gone
  pub ended : (p : ℕ) → Ends d target ps p → process_at p after.processes ≡ None
  -- one that leaves waits for no branch any more, and goes on behind the outermost such block or call that it is in
  pub left : (p : ℕ) (t : Process) → Leaves d target ps p → process_at p before.processes ≡ Some t
      → (u : Process) × (process_at p after.processes ≡ Some u) × (u.left ≡ 0) × (u.parent ≡ t.parent) × (u.thread ≡ disabled d target t.thread)
  -- any other is as it was
  pub others : (p : ℕ) → IsUntouched d target ps p → process_at p after.processes ≡ process_at p before.processes
  -- neither of them waits
  pub waits : (p : ℕ) → Ends d target ps p ⊎ Leaves d target ps p → wait_of p after.sense ≡ None
  -- and no wait of another is gone
  pub waiting : (p : ℕ) → IsUntouched d target ps p → wait_of p after.sense ≡ wait_of p before.sense
  -- the evaluation entry that one of them had is gone
  pub entries : (p serial : ℕ) (t : Process) → Ends d target ps p ⊎ Leaves d target ps p → process_at p before.processes ≡ Some t
      → t.entry ≡ Some serial → serial < before.queue.next → entry_of serial after.queue ≡ None
  -- and each entry that none of them had stands
  pub standing : (serial : ℕ) → serial < before.queue.next
      → ((p : ℕ) (t : Process) → Ends d target ps p ⊎ Leaves d target ps p → process_at p before.processes ≡ Some t → (t.entry ≡ Some serial) → ⊥)
      → entry_of serial after.queue ≡ entry_of serial before.queue
