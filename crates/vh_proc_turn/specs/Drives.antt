-- What a continuous assignment does to its drivers: each compares its new value with its scheduled update. (IEEE
-- 1364-2005, 6.1; which update stays and which goes is own)
use Rattle.std.specs.Prelude.{◌≡◌, ◌≤◌, IfSome, ℕ, ◌+◌, List, [], ◌∷◌, Bool, false, if◌then◌else◌, ◌==◌, Option, Some, None, Result, Ok}
use Rattle.std.specs.BTreeMap.{is_at, insert_entry}
use Rattle.std.specs.Map.{lookup}
use Rattle.std.specs.Option.{option_and_then}
use Rattle.std.specs.Ordering.{nat_cmp}
use Rattle.vh_base.specs.Checks.{with_ok}
use Rattle.vh_base.specs.declared.faults.Fault.{Fault}
use Rattle.vh_logic.specs.Parts.{part_of}
use Rattle.vh_logic.specs.Vector.{Vector}
use Rattle.vh_design_nodes.specs.declared.driver.DriverInfo.{DriverInfo}
use Rattle.vh_design_nodes.specs.Widths.{driver_width}
use Rattle.vh_store.specs.Contents.{Contents, driven, same_value}
use Rattle.vh_queue.specs.declared.region.Region.{Region}
use Rattle.vh_queue.specs.declared.region.Region.TheVariants as region
use Rattle.vh_queue.specs.declared.work.Work.{Work}
use Rattle.vh_queue.specs.declared.work.Work.TheVariants as work
use Rattle.vh_queue.specs.Events.{Events, work_of, without}
use Rattle.vh_proc_turn.specs.Own.{in_time, with_entry}

-- The serial of the last update of a driver.
abbrev pub update_at : ℕ → List (ℕ × ℕ) → Option ℕ
update_at x us = lookup (is_at (nat_cmp x)) us

-- The last updates of a continuous assignment's drivers, and the queue.
pub record Driving : Type 0 where
  pub updates : List (ℕ × ℕ)
  pub queue : Events

abbrev pub driving : List (ℕ × ℕ) → Events → Driving
driving us q = record { updates = us; queue = q }

-- The value of an update of a driver.
abbrev pub update_value : Work → Option Vector
update_value (work.Evaluate p) = None
update_value (work.Drive x v) = Some v
update_value (work.Assign object low v) = None
update_value (work.Follow object force) = None
update_value (work.Put object v) = None
update_value (work.Strobe n) = None
update_value work.MonitorShow = None
update_value (work.Call callback) = None

abbrev pub value_at : Events → ℕ → Option Vector
value_at q serial = option_and_then update_value (work_of serial q)

-- The value of a driver's scheduled update, where one stands.
abbrev pub scheduled_value : ℕ → Driving → Option Vector
scheduled_value x b = option_and_then (value_at b.queue) (update_at x b.updates)

abbrev pub has_value : Vector → Option Vector → Bool
has_value v None = false
has_value v (Some u) = same_value u v

-- That update goes.
abbrev pub without_entry : Option ℕ → Events → Events
without_entry None q = q
without_entry (Some serial) q = without serial q

abbrev pub without_update : ℕ → Driving → Driving
without_update x b = record b { queue = without_entry (update_at x b.updates) b.queue }

-- An update comes after the delay: now among the active entries, later among the inactive ones. (own)
abbrev pub region_at : ℕ → ℕ → Region
region_at now time = if time == now then region.Active else region.Inactive

abbrev pub noted : ℕ → ℕ → List (ℕ × ℕ) → List (ℕ × ℕ)
noted x serial us = insert_entry nat_cmp us x serial

-- Updates come at present or later, and the store and the queue stand at one time.
pub record AreInTime (s : Contents) (q : Events) (time : Option ℕ) : Type 0 where
  pub later : IfSome time (λ t. s.time ≤ t)
  pub now : s.time ≡ q.time

abbrev pub with_update : Contents → Option ℕ → ℕ → Vector → Driving → Result Driving (Option Fault)
with_update s time x v b =
    in_time time (λ t.
    with_ok (with_entry t (region_at s.time t) (work.Drive x v) b.queue) (λ q.
    Ok (driving (noted x b.queue.next b.updates) q)))

-- Where its driver has the new value already, there is none. (own)
abbrev pub rescheduled : Contents → Option ℕ → ℕ → Vector → Driving → Result Driving (Option Fault)
rescheduled s time x v b = if same_value (driven s x) v then Ok b else with_update s time x v b

-- One of the same value stays, and nothing is done; another one goes. (own)
abbrev pub one_driven : Contents → Option ℕ → ℕ → Vector → Driving → Result Driving (Option Fault)
one_driven s time x v b =
    if has_value v (scheduled_value x b) then Ok b else rescheduled s time x v (without_update x b)

-- How many digits drivers have side by side.
unfoldable pub digits_driven : List DriverInfo → List ℕ → ℕ
digits_driven ds [] = 0
digits_driven ds (x ∷ xs) = driver_width ds x + digits_driven ds xs

-- Each driver in turn takes its digits of a value, the first one the highest; where its update would come at no time,
-- adding it is a fault. (6.1.2)
unfoldable pub all_driven : List DriverInfo → Contents → Option ℕ → List ℕ → Vector → Driving → Result Driving (Option Fault)
all_driven ds s time [] v b = Ok b
all_driven ds s time (x ∷ xs) v b =
    with_ok (one_driven s time x (part_of v (digits_driven ds xs) (driver_width ds x)) b) (all_driven ds s time xs v)
