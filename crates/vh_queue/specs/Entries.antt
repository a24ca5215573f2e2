-- The entries of the event queue: regions, kinds of work, and which of them is due. (IEEE 1364-2005, 11.3)
use Rattle.std.specs.Prelude.{◌≡◌, ⊤, ℕ, ◌≤◌, Bool, true, false, if◌then◌else◌, ◌&&◌, ◌==◌, Option, Some, None}
use Rattle.vh_queue.specs.declared.entry.Entry.{Entry}
use Rattle.vh_queue.specs.declared.region.Region.{Region}
use Rattle.vh_queue.specs.declared.region.Region.TheVariants as region
use Rattle.vh_queue.specs.declared.work.Work.{Work}
use Rattle.vh_queue.specs.declared.work.Work.TheVariants as work

-- The regions in the order in which those of one time are performed. (11.3)
abbrev pub rank : Region → ℕ
rank region.Start = 0
rank region.Active = 1
rank region.Inactive = 2
rank region.Nonblocking = 3
rank region.Monitor = 4

-- Is the work a nonblocking update? (9.2.2)
abbrev pub is_update : Work → Bool
is_update (work.Evaluate process) = false
is_update (work.Drive driver value) = false
is_update (work.Assign object low value) = true
is_update (work.Follow object force) = false
is_update (work.Put object value) = false
is_update (work.Strobe show) = false
is_update work.MonitorShow = false
is_update (work.Call callback) = false

-- Is it a callback?
abbrev pub is_call : Work → Bool
is_call (work.Evaluate process) = false
is_call (work.Drive driver value) = false
is_call (work.Assign object low value) = false
is_call (work.Follow object force) = false
is_call (work.Put object value) = false
is_call (work.Strobe show) = false
is_call work.MonitorShow = false
is_call (work.Call callback) = true

-- Is the time of an entry this one?
abbrev pub is_at : Option ℕ → ℕ → Bool
is_at None now = false
is_at (Some time) now = time == now

-- Does the entry stand in this region at this time?
abbrev pub is_due : Region → ℕ → Entry → Bool
is_due r now e = is_at e.time now && rank e.region == rank r

-- May it be performed once no entry of the start of a time is left?
abbrev pub is_active : Entry → Bool
is_active e = rank e.region == rank region.Active

-- What may be added: nothing of a time that is over;
abbrev pub IsFrom : ℕ → Option ℕ → Type 0
IsFrom now None = ⊤
IsFrom now (Some time) = now ≤ time

-- What is active is of the present time;
abbrev pub IsPresent : Region → ℕ → Option ℕ → Type 0
IsPresent region.Start now time = ⊤
IsPresent region.Active now time = time ≡ Some now
IsPresent region.Inactive now time = ⊤
IsPresent region.Nonblocking now time = ⊤
IsPresent region.Monitor now time = ⊤

-- And only a callback at the start of the next time has no time. (27.33.2, cbNextSimTime)
abbrev pub HasTime : Region → Work → Option ℕ → Type 0
HasTime r w None = (rank r ≡ rank region.Start) × (is_call w ≡ true)
HasTime r w (Some time) = ⊤

-- The entries of that region at that time are active from now on; any other stays.
abbrev pub activated_entry : Region → ℕ → Entry → Entry
activated_entry r now e = if is_due r now e then record e { region = region.Active } else e

-- An entry without a time gets this one where the test holds; any other stays.
abbrev pub time_given : Bool → ℕ → Option ℕ → Option ℕ
time_given gives now None = if gives then Some now else None
time_given gives now (Some time) = Some time

abbrev pub dated_entry : Bool → ℕ → Entry → Entry
dated_entry gives now e = record e { time = time_given gives now e.time }
