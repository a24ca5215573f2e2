-- How contracts see the rows that a table holds. (own)
use Rattle.std.specs.Prelude.{◌≡◌, ◌<◌, ◌^◌, ℕ, List, Vec, map, length}
use Rattle.vh_base.specs.declared.orders.SystfEntry.{SystfEntry}

-- The registrations of some rows, and the names by which the rows are found.
abbrev pub entries_seen : {A : Type 0} → List (Vec ℕ A × SystfEntry) → List SystfEntry
entries_seen rows = map (λ r. r.1) rows

abbrev pub names_seen : {A : Type 0} → List (Vec ℕ A × SystfEntry) → List (List ℕ)
names_seen rows = map (λ r. r.0.items) rows

-- Each row is found by the name of its registration, and there are no more than numbers for them.
pub record IsKept {A : Type 0} (rows : List (Vec ℕ A × SystfEntry)) : Type 0 where
  pub named : names_seen rows ≡ map (λ (e : SystfEntry). e.name) (entries_seen rows)
  pub counted : length rows < 2 ^ 32
