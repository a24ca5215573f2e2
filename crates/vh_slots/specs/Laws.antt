-- What holds of slots over whole runs of calls.
use Rattle.std.specs.Prelude.{ℕ, ◌≡◌, ◌≢◌, ◌+◌, ◌-◌, ◌*◌, ◌≤◌, false, List, [], ◌∷◌, length, None, IsSome, count_by}
use Rattle.vh_slots.specs.declared.slots.TheConstants.{GENERATIONS}
use Rattle.vh_slots.specs.declared.slots.Key.{Key}
use Rattle.vh_slots.specs.Table.{Table, held, held_count, is_full, is_retired, after_take, after_replace, Gives}

-- A call that changes the table
pub data Call (T : Type 0) : Type 0 where
  Give : Key → T → Call T
  Take : Key → Call T
  Replace : Key → T → Call T

module _ {T : Type 0} where
  -- What a call that is answered makes of the table: the contracts of `give`, `take` and `replace`
  abbrev pub Makes : Call T → Table T → Table T → Type 0
  Makes (Give key v) old new = (is_full old ≡ false) × Gives key v old new
  Makes (Take key) old new = IsSome (held key old) × (new ≡ after_take key old)
  Makes (Replace key v) old new = IsSome (held key old) × (new ≡ after_replace key v old)

  -- Calls, each with the table after it
  abbrev pub IsRun : Table T → List (Call T × Table T) → Type 0
  IsRun t [] = Unit {0}
  IsRun t (m ∷ ms) = Makes m.0 t m.1 × IsRun m.1 ms

  -- The table in the end
  abbrev pub end_of : Table T → List (Call T × Table T) → Table T
  end_of t [] = t
  end_of t (m ∷ ms) = end_of m.1 ms

  -- The call gives another key, or none
  abbrev pub GivesOther : Key → Call T → Type 0
  GivesOther key (Give k v) = k ≢ key
  GivesOther key (Take k) = Unit {0}
  GivesOther key (Replace k v) = Unit {0}

  -- No call gives this key
  abbrev pub NeverGiven : Key → List (Call T × Table T) → Type 0
  NeverGiven key [] = Unit {0}
  NeverGiven key (m ∷ ms) = GivesOther key m.0 × NeverGiven key ms

  -- At most so many values are held after each call
  abbrev pub HoldAtMost : ℕ → List (Call T × Table T) → Type 0
  HoldAtMost n [] = Unit {0}
  HoldAtMost n (m ∷ ms) = (held_count m.1 ≤ n) × HoldAtMost n ms

  -- How many keys are given
  abbrev pub keys_of : Call T → ℕ
  keys_of (Give k v) = 1
  keys_of (Take k) = 0
  keys_of (Replace k v) = 0

  abbrev pub given_count : List (Call T × Table T) → ℕ
  given_count [] = 0
  given_count (m ∷ ms) = keys_of m.0 + given_count ms

  -- A key that was taken is never given again, and finds nothing any more
  pub record IsOver (key : Key) (ms : List (Call T × Table T)) (t : Table T) : Type 0 where
    pub never : NeverGiven key ms
    pub nothing : held key t ≡ None

  -- Slots that aren't retired are at most as many as values were ever held at once, and each retired one cost a key
  -- of each of its generations
  pub record IsBounded (first most given : ℕ) (t : Table T) : Type 0 where
    pub slots : length t.cells ≤ most + count_by is_retired t.cells
    pub keys : count_by is_retired t.cells * (GENERATIONS - first) ≤ given

  -- No slot
  abbrev pub empty : ℕ → ℕ → Table T
  empty limit first = record { cells = []; limit = limit; first = first }
