-- Values under keys, in cells that are used again (own).
use Rattle.std.specs.Prelude.{ℕ, ◌≡◌, ◌+◌, ◌<◌, ◌==◌, nat_le, nat_lt, Bool, true, false, not, ◌&&◌, if◌then◌else◌, List, [], ◌∷◌, ◌++◌, length, Option, Some, None, is_some, slice_set, count_by}
use Rattle.std.specs.List.{list_any, slice_get}
use Rattle.vh_slots.specs.declared.slots.TheConstants.{GENERATIONS}
use Rattle.vh_slots.specs.declared.slots.Key.{Key}
use Rattle.vh_slots.specs.declared.slots.GiveFault.{GiveFault}
use Rattle.vh_slots.specs.declared.slots.GiveFault.TheVariants.{Full, NoMemory}

-- A slot: the generation of its next or present key, and the value under that key
pub record Cell (T : Type 0) : Type 0 where
  pub generation : ℕ
  pub value : Option T

-- The slots by number, how many values may be held at once, and the generation that slots begin with
pub record Table (T : Type 0) : Type 0 where
  pub cells : List (Cell T)
  pub limit : ℕ
  pub first : ℕ

module _ {T : Type 0} where
  -- How many values are held
  abbrev pub held_count : Table T → ℕ
  held_count t = count_by (λ c. is_some c.value) t.cells

  -- As many values are held as may be
  abbrev pub is_full : Table T → Bool
  is_full t = nat_le t.limit (held_count t)

  -- A slot that no key is left for
  abbrev pub is_retired : Cell T → Bool
  is_retired c = c.generation == GENERATIONS

  -- A slot that may hold a value again
  abbrev pub is_free : Cell T → Bool
  is_free c = not (is_some c.value) && nat_lt c.generation GENERATIONS

  -- The value of a cell, if it is of this generation
  abbrev pub value_at : ℕ → Option (Cell T) → Option T
  value_at g None = None
  value_at g (Some c) = if c.generation == g then c.value else None

  -- The value under a key
  abbrev pub held : Key → Table T → Option T
  held key t = value_at key.generation (slice_get t.cells key.slot)

  -- The slots with another cell in place of one
  abbrev pub with_cell : ℕ → Cell T → Table T → Table T
  with_cell i c t = record { cells = slice_set t.cells i c; limit = t.limit; first = t.first }

  -- A value taken: the next key of its slot is of the next generation
  abbrev pub after_take : Key → Table T → Table T
  after_take key t = with_cell key.slot (record { generation = key.generation + 1; value = None }) t

  -- A value under the key of another
  abbrev pub after_replace : Key → T → Table T → Table T
  after_replace key v t = with_cell key.slot (record { generation = key.generation; value = Some v }) t

  -- A value given to a free slot
  pub record Reuses (key : Key) (v : T) (old new : Table T) : Type 0 where
    pub free : slice_get old.cells key.slot ≡ Some (record { generation = key.generation; value = None })
    pub usable : key.generation < GENERATIONS
    pub after : new ≡ after_replace key v old

  -- A value given to a new slot, behind all others
  pub record Opens (key : Key) (v : T) (old new : Table T) : Type 0 where
    pub slot : key.slot ≡ length old.cells
    pub generation : key.generation ≡ old.first
    pub after : new ≡ record { cells = old.cells ++ record { generation = old.first; value = Some v } ∷ []; limit = old.limit; first = old.first }

  -- A free slot is used where there is one
  abbrev pub GivesBy : Bool → Key → T → Table T → Table T → Type 0
  GivesBy true key v old new = Reuses key v old new
  GivesBy false key v old new = Opens key v old new

  abbrev pub Gives : Key → T → Table T → Table T → Type 0
  Gives key v old new = GivesBy (list_any is_free old.cells) key v old new

  -- A value that isn't taken in comes back; it is refused as one too many exactly where it is
  abbrev pub HandsBack : Bool → T → GiveFault T → Type 0
  HandsBack full v (Full w) = (full ≡ true) × (w ≡ v)
  HandsBack full v (NoMemory w) = (full ≡ false) × (w ≡ v)
