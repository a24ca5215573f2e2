-- How slots and a slab hold the cells (own). A slot knows its generation, where its value is, and the free slot behind it.
use Rattle.std.specs.Prelude.{ℕ, ◌≡◌, ◌<◌, ◌^◌, ◌==◌, Bool, true, false, if◌then◌else◌, List, [], ◌∷◌, map, length, Option, Some, None, IsSome, is_some, slice_index_or, count_by}
use Rattle.std.specs.List.{list_any, slice_get}
use Rattle.slab.specs.Slab.{Slab, get, slab_len}
use Rattle.vh_slots.specs.declared.slots.TheConstants.{GENERATIONS}
use Rattle.vh_slots.specs.declared.slots.Key.{Key}
use Rattle.vh_slots.specs.declared.slots.Slot.{Slot}
use Rattle.vh_slots.specs.Table.{Cell, Table}

-- A slot that there is not
abbrev pub nothing : Slot
nothing = record { generation = 0; at = None; next = None }

abbrev pub slot_at : List Slot → ℕ → Slot
slot_at slots i = slice_index_or slots i nothing

-- Where the value under a key is
abbrev pub position_in : ℕ → Option Slot → Option ℕ
position_in g None = None
position_in g (Some s) = if s.generation == g then s.at else None

abbrev pub position_of : List Slot → Key → Option ℕ
position_of slots key = position_in key.generation (slice_get slots key.slot)

-- A list has the number
abbrev pub has : ℕ → List ℕ → Bool
has x xs = list_any (λ y. x == y) xs

-- No number stands in a list twice
abbrev pub IsApart : List ℕ → Type 0
IsApart [] = Unit {0}
IsApart (x ∷ xs) = (has x xs ≡ false) × IsApart xs

-- From a slot on, each free slot knows the next one
abbrev pub Chains : List Slot → Option ℕ → List ℕ → Type 0
Chains slots head [] = head ≡ None
Chains slots head (x ∷ xs) = (head ≡ Some x) × Chains slots (slot_at slots x).next xs

-- A slot past its last generation
abbrev pub is_over : Slot → Bool
is_over s = s.generation == GENERATIONS

module _ {T : Type 0} where
  -- The value at a position
  abbrev pub value_in : Slab T → Option ℕ → Option T
  value_in values None = None
  value_in values (Some k) = get values k

  abbrev pub cell_of : Slab T → Slot → Cell T
  cell_of values s = record { generation = s.generation; value = value_in values s.at }

  -- What contracts see
  abbrev pub table_in : List Slot → Slab T → ℕ → ℕ → Table T
  table_in slots values limit first = record { cells = map (cell_of values) slots; limit = limit; first = first }

  -- What holds of the slots, the slab, the first free slot, the count of retired slots and the first generation
  pub record IsSound (slots : List Slot) (values : Slab T) (head : Option ℕ) (retired first : ℕ) : Type 0 where
    pub few : length slots < 2 ^ 32
    pub begins : first < GENERATIONS
    -- The free slots are those of a chain, each once
    pub free : List ℕ
    pub chain : Chains slots head free
    pub apart : IsApart free
    pub is_free : (i : ℕ) → has i free ≡ true → (i < length slots) × ((slot_at slots i).at ≡ None) × ((slot_at slots i).generation < GENERATIONS)
    pub all_free : (i : ℕ) → i < length slots → (slot_at slots i).at ≡ None → (slot_at slots i).generation < GENERATIONS → has i free ≡ true
    -- A slot with a value has it in the slab, alone, and under a key
    pub held : (i k : ℕ) → (slot_at slots i).at ≡ Some k → IsSome (get values k)
    pub alone : (i j k : ℕ) → (slot_at slots i).at ≡ Some k → (slot_at slots j).at ≡ Some k → i ≡ j
    pub keyed : (i k : ℕ) → (slot_at slots i).at ≡ Some k → (slot_at slots i).generation < GENERATIONS
    -- Counts
    pub count : slab_len values ≡ count_by (λ s. is_some s.at) slots
    pub over : retired ≡ count_by is_over slots
