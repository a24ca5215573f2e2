-- The least and the greatest serial of some entries. (own)
use Rattle.std.specs.Prelude.{ℕ, List, [], ◌∷◌, max, Bool, false, if◌then◌else◌, not, ◌&&◌, nat_lt, Option, Some, None}
use Rattle.vh_queue.specs.declared.entry.Entry.{Entry}
use Rattle.vh_queue.specs.declared.region.Region.TheVariants as region
use Rattle.vh_queue.specs.Entries.{is_update, is_due, is_active}
use Rattle.vh_queue.specs.Events.{earlier_of}
use Rattle.vh_queue.specs.Ranked.{is_of}

abbrev pub least_serial : List Entry → Option ℕ
least_serial [] = None
least_serial (e ∷ es) = earlier_of (Some e.serial) (least_serial es)

abbrev pub later_of : Option ℕ → Option ℕ → Option ℕ
later_of None b = b
later_of (Some a) None = Some a
later_of (Some a) (Some b) = Some (max a b)

abbrev pub greatest_serial : List Entry → Option ℕ
greatest_serial [] = None
greatest_serial (e ∷ es) = later_of (Some e.serial) (greatest_serial es)

-- Is a serial above the other, where there is another?
abbrev pub is_above : Option ℕ → ℕ → Bool
is_above None serial = false
is_above (Some other) serial = nat_lt other serial

-- The last of some numbers.
abbrev pub last_of : List ℕ → Option ℕ
last_of [] = None
last_of (x ∷ []) = Some x
last_of (x ∷ y ∷ ys) = last_of (y ∷ ys)

-- Is it active, and a nonblocking update or none?
abbrev pub is_active_of : Bool → Entry → Bool
is_active_of update e = is_active e && is_of update e

-- May an entry be picked, where a start entry is due or none is, given the first active update?
abbrev pub picked_by : Bool → ℕ → Option ℕ → Entry → Bool
picked_by starts now first e =
    if starts then is_due region.Start now e else is_active e && not (is_update e.work && is_above first e.serial)
