-- The event queue: a finite map from serials to entries, kept as the list of its entries by rising
-- serial, with the next serial and the present time. (IEEE 1364-2005, 11.3 and 11.4)
use Rattle.std.specs.Prelude.{◌≡◌, ℕ, ◌+◌, ◌++◌, ◌≤◌, List, [], ◌∷◌, length, map, filter, find, min, Bool, true, false, if◌then◌else◌, not, ◌&&◌, ◌||◌, ◌==◌, nat_le, nat_lt, Option, Some, None}
use Rattle.std.specs.List.{list_any}
use Rattle.std.specs.Option.{option_map}
use Rattle.vh_base.specs.declared.limits.TheConstants.{MOST_ENTRIES, MOST_NUMBERS}
use Rattle.vh_queue.specs.declared.entry.Entry.{Entry}
use Rattle.vh_queue.specs.declared.fault.AddFault.{AddFault}
use Rattle.vh_queue.specs.declared.fault.AddFault.TheVariants as fault
use Rattle.vh_queue.specs.declared.region.Region.{Region}
use Rattle.vh_queue.specs.declared.region.Region.TheVariants as region
use Rattle.vh_queue.specs.declared.work.Work.{Work}
use Rattle.vh_queue.specs.Entries.{rank, is_update, is_at, is_due, is_active, activated_entry, dated_entry}

pub record Events : Type 0 where
  pub entries : List Entry
  pub next : ℕ
  pub time : ℕ

-- No entry stands, none was added, and time is 0.
abbrev pub no_events : Events
no_events = record { entries = []; next = 1; time = 0 }

-- Does an entry stand in this region at the present time?
abbrev pub any_due : Region → Events → Bool
any_due r q = list_any (is_due r q.time) q.entries

-- The second is an active nonblocking update that was added before the first.
abbrev pub is_behind : Entry → Entry → Bool
is_behind e f = (is_active f && is_update f.work) && nat_lt f.serial e.serial

-- May an active entry be picked? A nonblocking update only where no active one has a smaller serial, any
-- other at once. (11.4.1)
abbrev pub is_ready : List Entry → Entry → Bool
is_ready entries e = is_active e && not (is_update e.work && list_any (is_behind e) entries)

-- The entries that may be picked: those of the start of this time, or else the active ones that are ready.
abbrev pub is_eligible : Events → Entry → Bool
is_eligible q e = if any_due region.Start q then is_due region.Start q.time e else is_ready q.entries e

abbrev pub eligible : Events → List Entry
eligible q = filter (is_eligible q) q.entries

-- The entry of a serial, where one stands, and its work.
abbrev pub entry_of : ℕ → Events → Option Entry
entry_of serial q = find (λ e. e.serial == serial) q.entries

abbrev pub work_of : ℕ → Events → Option Work
work_of serial q = option_map (λ e. e.work) (entry_of serial q)

-- All entries but that of the serial.
abbrev pub without : ℕ → Events → Events
without serial q = record q { entries = filter (λ e. not (e.serial == serial)) q.entries }

-- No entry is left.
abbrev pub cleared : Events → Events
cleared q = record q { entries = [] }

-- No entry may be added where 1,048,576 stand, or where 2^63 serials were given. (own)
abbrev pub is_full : Events → Bool
is_full q = nat_le MOST_ENTRIES (length q.entries) || nat_lt MOST_NUMBERS q.next

-- Why no entry is added: none may be, or memory is refused.
abbrev pub HasCause : Bool → AddFault → Type 0
HasCause full fault.Full = full ≡ true
HasCause full fault.NoMemory = full ≡ false

-- One entry more, by the next serial.
abbrev pub added : Option ℕ → Region → Work → Events → Events
added time r w q = record q {
  entries = q.entries ++ record { serial = q.next; time = time; region = r; work = w } ∷ [];
  next = q.next + 1;
}

-- The region whose entries of the present time become active next: the inactive ones, else the
-- nonblocking ones, else those of the monitor region. (11.3)
abbrev pub next_region : Events → Option Region
next_region q =
    if any_due region.Inactive q then Some region.Inactive
    else (if any_due region.Nonblocking q then Some region.Nonblocking
    else (if any_due region.Monitor q then Some region.Monitor else None))

-- The entries of that region at the present time are active from now on.
abbrev pub activated : Region → Events → Events
activated r q = record q { entries = map (activated_entry r q.time) q.entries }

abbrev pub activated_next : Option Region → Events → Events
activated_next None q = q
activated_next (Some r) q = activated r q

-- The least time of an entry.
abbrev pub earlier_of : Option ℕ → Option ℕ → Option ℕ
earlier_of None b = b
earlier_of (Some a) None = Some a
earlier_of (Some a) (Some b) = Some (min a b)

abbrev pub least_time : List Entry → Option ℕ
least_time [] = None
least_time (e ∷ es) = earlier_of e.time (least_time es)

-- Does an entry that isn't of its start stand at a time?
abbrev pub is_beyond_start : ℕ → Entry → Bool
is_beyond_start now e = is_at e.time now && not (rank e.region == rank region.Start)

-- Time goes on to that time. Its inactive entries become active; and where an entry that isn't of its
-- start stands there, each entry without a time gets it.
abbrev pub arrived : Bool → ℕ → Entry → Entry
arrived gives now e = dated_entry gives now (activated_entry region.Inactive now e)

abbrev pub advanced : ℕ → Events → Events
advanced time q = record q { entries = map (arrived (list_any (is_beyond_start time) q.entries) time) q.entries; time = time }

abbrev pub advanced_next : Option ℕ → Events → Events
advanced_next None q = q
advanced_next (Some time) q = advanced time q

-- The entries' serials rise, from low on and below high, so each names one entry.
abbrev pub Rises : ℕ → ℕ → List Entry → Type 0
Rises low high [] = low ≤ high
Rises low high (e ∷ es) = (low ≤ e.serial) × Rises (e.serial + 1) high es
