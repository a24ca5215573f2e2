-- What a wheel holds, and what each call makes of it (own).
use Rattle.std.specs.Prelude.{ℕ, zero, suc, ◌≡◌, ◌≤◌, ◌+◌, ◌/◌, min, ◌==◌, Bool, true, false, if◌then◌else◌, List, [], ◌∷◌, ◌++◌, length, slice_index_or, slice_set, count_by, Option, None, Some}
use Rattle.std.specs.List.{list_any}

-- What is held under a node
pub record Entry : Type 0 where
  pub time : ℕ
  pub payload : ℕ

abbrev pub until : ℕ → ℕ → Entry
until t p = record { time = t; payload = p }

-- What is held under each node, and the present time: the last one that was given to `take_due`
pub record Schedule : Type 0 where
  pub entries : List (Option Entry)
  pub present : ℕ

-- What is held under a node
abbrev pub entry_at : ℕ → List (Option Entry) → Option Entry
entry_at x es = slice_index_or es x None

-- Is anything held?
abbrev pub is_held : Option Entry → Bool
is_held None = false
is_held (Some e) = true

-- How many are held
abbrev pub held_in : List (Option Entry) → ℕ
held_in es = count_by is_held es

-- The payload of what may be held
abbrev pub payload_of : Option Entry → Option ℕ
payload_of None = None
payload_of (Some e) = Some e.payload

-- The less of a time and of one that there may be
abbrev pub sooner : ℕ → Option ℕ → ℕ
sooner t None = t
sooner t (Some u) = min t u

-- The least time of what is held
abbrev pub least_time : List (Option Entry) → Option ℕ
least_time [] = None
least_time (None ∷ es) = least_time es
least_time (Some e ∷ es) = Some (sooner e.time (least_time es))

-- An entry of a time
abbrev pub is_of : ℕ → Option Entry → Bool
is_of t None = false
is_of t (Some e) = e.time == t

-- Has something that is held the time?
abbrev pub has_time : ℕ → List (Option Entry) → Bool
has_time t es = list_any (is_of t) es

-- Something under a free node, which may be a new one
pub record Schedules (x : ℕ) (e : Entry) (old new : Schedule) : Type 0 where
  pub free : entry_at x old.entries ≡ None
  pub there : entry_at x new.entries ≡ Some e
  pub entries : new.entries ≡ (if x == length old.entries then old.entries ++ Some e ∷ [] else slice_set old.entries x (Some e))
  pub within : x ≤ length old.entries
  pub present : new.present ≡ old.present

-- Nothing under a node
abbrev pub without : ℕ → List (Option Entry) → List (Option Entry)
without x es = slice_set es x None

abbrev pub after_cancel : ℕ → Schedule → Schedule
after_cancel x s = record { entries = without x s.entries; present = s.present }

-- One of what has the time is taken, and the time is the present one; none exactly where nothing has it
abbrev pub Takes : ℕ → Option ℕ → Schedule → Schedule → Type 0
Takes t None old new = (has_time t old.entries ≡ false) × (new ≡ record { entries = old.entries; present = t })
Takes t (Some p) old new =
    (x : ℕ) × (entry_at x old.entries ≡ Some (record { time = t; payload = p })) × (new ≡ record { entries = without x old.entries; present = t })

-- The moves that are left to a time: the position of the highest byte in which it differs from the present time
unfoldable pub level_from : ℕ → ℕ → ℕ → ℕ
level_from zero now t = 0
level_from (suc k) now t = if now / 256 == t / 256 then 0 else 1 + level_from k (now / 256) (t / 256)

abbrev pub moves_of : ℕ → ℕ → ℕ
moves_of now t = level_from 7 now t

-- The moves that are left to all that is held
abbrev pub moves_in : ℕ → List (Option Entry) → ℕ
moves_in now [] = 0
moves_in now (None ∷ es) = moves_in now es
moves_in now (Some e ∷ es) = moves_of now e.time + moves_in now es

abbrev pub moves_left : Schedule → ℕ
moves_left s = moves_in s.present s.entries
