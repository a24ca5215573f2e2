-- How contracts see what is inside: entries as they were added, seen as they are now. (own)
use Rattle.std.specs.Prelude.{◌≡◌, ⊤, ℕ, ◌≤◌, List, [], ◌∷◌, length, map, filter, if◌then◌else◌, Bool, false, ◌&&◌, nat_lt}
use Rattle.std.specs.Map.{values_of}
use Rattle.vh_base.specs.declared.limits.TheConstants.{MOST_ENTRIES}
use Rattle.vh_queue.specs.declared.entry.Entry.{Entry}
use Rattle.vh_queue.specs.declared.index.Index.{Index}
use Rattle.vh_queue.specs.declared.horizons.Horizons.{Horizons}
use Rattle.vh_queue.specs.declared.region.Region.{Region}
use Rattle.vh_queue.specs.declared.region.Region.TheVariants as region
use Rattle.vh_queue.specs.Entries.{is_at, is_due, IsFrom, IsPresent, HasTime, time_given}
use Rattle.vh_queue.specs.Events.{Rises}
use Rattle.vh_queue.specs.Ranked.{Indexes}
use Rattle.vh_queue.specs.Serials.{is_active_of}

-- The regions from which entries become active.
pub data Later (r : Region) : Type 0 where
  inactive : r ≡ region.Inactive → Later r
  nonblocking : r ≡ region.Nonblocking → Later r
  monitor : r ≡ region.Monitor → Later r

-- Up to which serial the entries of a region and the present time were made active.
abbrev pub horizon_of : Horizons → Region → ℕ
horizon_of m region.Start = 0
horizon_of m region.Active = 0
horizon_of m region.Inactive = m.inactive
horizon_of m region.Nonblocking = m.nonblocking
horizon_of m region.Monitor = m.monitor

-- Another horizon for a region.
abbrev pub with_horizon : Region → ℕ → Horizons → Horizons
with_horizon region.Start serial m = m
with_horizon region.Active serial m = m
with_horizon region.Inactive serial m = record m { inactive = serial }
with_horizon region.Nonblocking serial m = record m { nonblocking = serial }
with_horizon region.Monitor serial m = record m { monitor = serial }

-- The horizons once time has gone on to the same time or another one: every inactive entry is active, of the other
-- entries those that were; and where it is given each entry without a time has got it.
abbrev pub horizons_at : Bool → Bool → ℕ → Horizons → Horizons
horizons_at same gives next m = record {
  inactive = next;
  nonblocking = if same then m.nonblocking else 0;
  monitor = if same then m.monitor else 0;
  dated = if gives then next else m.dated;
}

-- An entry that was added as this one, as it is now: it may have become active, or have got a time.
abbrev pub seen_region : ℕ → Horizons → Entry → Region
seen_region now m e = if is_at e.time now && nat_lt e.serial (horizon_of m e.region) then region.Active else e.region

abbrev pub seen : ℕ → Horizons → Entry → Entry
seen now m e = record e { time = time_given (nat_lt e.serial m.dated) now e.time; region = seen_region now m e }

abbrev pub all_seen : ℕ → Horizons → List Entry → List Entry
all_seen now m es = map (seen now m) es

-- Entries by their serials.
abbrev pub by_serial : List Entry → List (ℕ × Entry)
by_serial es = map (λ e. (e.serial, e)) es

-- The entries are such as may stand at the present time.
pub record IsTimely (now : ℕ) (e : Entry) : Type 0 where
  pub from : IsFrom now e.time
  pub present : IsPresent e.region now e.time
  pub timed : HasTime e.region e.work e.time

abbrev pub AreTimely : ℕ → List Entry → Type 0
AreTimely now [] = ⊤
AreTimely now (e ∷ es) = IsTimely now e × AreTimely now es

-- No horizon is above the next serial.
pub record AreHorizons (next : ℕ) (m : Horizons) : Type 0 where
  pub inactive : m.inactive ≤ next
  pub nonblocking : m.nonblocking ≤ next
  pub monitor : m.monitor ≤ next
  pub dated : m.dated ≤ next

-- What holds inside a queue: of its entries by serial, their index, the horizons, and the counts of the start
-- entries that are due and of the active entries that are no updates.
pub record Holds (next now : ℕ) (m : Horizons) (due plain : ℕ) (es : List (ℕ × Entry)) (x : Index) : Type 0 where
  pub keyed : es ≡ by_serial (values_of es)
  pub rises : Rises 1 next (values_of es)
  pub timely : AreTimely now (values_of es)
  pub indexed : Indexes (values_of es) x
  pub horizons : AreHorizons next m
  pub starts : due ≡ length (filter (is_due region.Start now) (all_seen now m (values_of es)))
  pub ready : plain ≡ length (filter (is_active_of false) (all_seen now m (values_of es)))
  pub size : length es ≤ MOST_ENTRIES
