-- The callbacks with a set of live numbers for each depth from 0, which the frames that stand use: none is
-- without a set, and at first each is empty. Sets are rising lists. (own)
use Rattle.std.specs.Prelude.{◌≡◌, ◌≤◌, ℕ, ◌==◌, List, [], length, Bool, true, not, filter, unwrap_or, slice_get}
use Rattle.std.specs.List.{list_any}
use Rattle.vh_base.specs.declared.limits.TheConstants.{MOST_CALLBACKS}
use Rattle.vh_callbacks.specs.Callbacks.{Callbacks, opening, is_live, IsRising, IsSound}

pub record Registered (B : Type 0) : Type 0 where
  pub callbacks : Callbacks B
  pub sets : List (List ℕ)

-- All numbers but this one.
abbrev pub without_number : ℕ → List ℕ → List ℕ
without_number c numbers = filter (λ d. not (d == c)) numbers

-- Is a number among these?
abbrev pub is_among : ℕ → List ℕ → Bool
is_among c numbers = list_any (λ d. c == d) numbers

-- The set of a depth, of the sets from depth 0 on.
abbrev pub set_at : ℕ → List (List ℕ) → List ℕ
set_at depth sets = unwrap_or (slice_get sets depth) []

-- A set: its numbers rise, and are no more than may be live.
pub record IsSet (numbers : List ℕ) : Type 0 where
  pub rising : IsRising 0 numbers
  pub few : length numbers ≤ MOST_CALLBACKS

module _ {B : Type 0} where
  -- No callback, and each set is empty.
  abbrev pub empty : Registered B
  empty = record { callbacks = opening; sets = [] }

  -- The set of a depth.
  abbrev pub marked : ℕ → Registered B → List ℕ
  marked depth r = set_at depth r.sets

  -- What a registry keeps: its callbacks are sound, and each set is one of live numbers.
  pub record IsMarked (r : Registered B) : Type 0 where
    pub sound : IsSound r.callbacks
    pub sets : (depth : ℕ) → IsSet (marked depth r)
    pub live : (depth c : ℕ) → is_among c (marked depth r) ≡ true → is_live c r.callbacks ≡ true
