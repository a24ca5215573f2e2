-- How ordered maps hold what is held under nodes, and values under slots (own). A map is seen as what it has under each number.
use Rattle.std.specs.Prelude.{ℕ, ◌≡◌, ◌<◌, ◌≤◌, ◌^◌, Bool, false, ◌==◌, is_some, List, map, length, slice_index_or, Option, None, Some, IfSome}
use Rattle.std.specs.List.{range_with_len}
use Rattle.std.specs.BTreeMap.{BTreeMap, get}
use Rattle.std.specs.Ordering.{nat_cmp}
use Rattle.vh_slots.specs.Table.{Cell, Table, is_free}
use Rattle.vh_wheel.specs.Schedule.{Entry, Schedule}
use Rattle.vh_cases_plain.specs.declared.wheel.Held.{Held}

-- What a map has under a number
abbrev pub under : {X : Type 0} → BTreeMap ℕ X → ℕ → Option X
under m k = get nat_cmp m k

-- What is held, as the schedule has it
abbrev pub entry_of : Option Held → Option Entry
entry_of None = None
entry_of (Some h) = Some (record { time = h.time; payload = h.payload })

-- Under each of the first nodes
abbrev pub entries_in : ℕ → (ℕ → Option Held) → List (Option Entry)
entries_in n f = map (λ k. entry_of (f k)) (range_with_len 0 n)

-- What contracts see
abbrev pub schedule_in : ℕ → ℕ → (ℕ → Option Held) → Schedule
schedule_in n now f = record { entries = entries_in n f; present = now }

-- Nothing is held behind the nodes, and nothing until a time that is past
pub record IsKept (n now : ℕ) (f : ℕ → Option Held) : Type 0 where
  pub few : n ≤ 2 ^ 31
  pub within : (k : ℕ) → n ≤ k → f k ≡ None
  pub later : (k : ℕ) → IfSome (f k) (λ h. now ≤ h.time)

module _ {T : Type 0} where
  -- A slot's generation and value
  abbrev pub cell_at : List ℕ → (ℕ → Option T) → ℕ → Cell T
  cell_at gs f k = record { generation = slice_index_or gs k 0; value = f k }

  abbrev pub cells_in : List ℕ → (ℕ → Option T) → List (Cell T)
  cells_in gs f = map (cell_at gs f) (range_with_len 0 (length gs))

  -- What contracts see
  abbrev pub table_in : List ℕ → (ℕ → Option T) → ℕ → ℕ → Table T
  table_in gs f limit first = record { cells = cells_in gs f; limit = limit; first = first }

  -- No value is held behind the slots
  pub record IsWithin (gs : List ℕ) (f : ℕ → Option T) : Type 0 where
    pub few : length gs < 2 ^ 32
    pub within : (k : ℕ) → length gs ≤ k → f k ≡ None

  -- Is a slot there, and of this generation?
  abbrev pub is_of_generation : ℕ → Option (Cell T) → Bool
  is_of_generation g None = false
  is_of_generation g (Some c) = c.generation == g

  -- Is a slot there, and free?
  abbrev pub is_free_one : Option (Cell T) → Bool
  is_free_one None = false
  is_free_one (Some c) = is_free c

  -- Is a slot there, with a value?
  abbrev pub is_held_one : Option (Cell T) → Bool
  is_held_one None = false
  is_held_one (Some c) = is_some c.value
