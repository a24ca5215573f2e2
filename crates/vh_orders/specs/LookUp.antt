-- How an object is found by an index of names. (own)
use Rattle.std.specs.Prelude.{◌≡◌, ⊤, ℕ, List, [], ◌∷◌, ◌++◌, length, min, Bool, true, not, ◌||◌, ◌==◌, if◌then◌else◌, Option, Some, None, bytes_eq, slice_get}
use Rattle.std.specs.Map.{lookup}
use Rattle.std.specs.Option.{option_and_then}
use Rattle.vh_orders.specs.declared.names.Named.{Named}
use Rattle.vh_orders.specs.declared.look_up.Index.{Index}
use Rattle.vh_orders.specs.Addresses.{IsMemoryOf}
use Rattle.vh_orders.specs.Names.{has_path, is_meant}

-- Has an object a name that is looked for: its own, or those of its words?
abbrev pub is_findable : Named → Bool
is_findable n = has_path n.kind || not (n.words == 0)

-- The place that an index has for a name.
abbrev pub position_in : Index → List ℕ → Option ℕ
position_in i name = lookup (λ k. bytes_eq name k.items) i.positions.entries

-- An index that is whole has the place of each object that can be found, and so no two of these have one name.
abbrev pub IsIndexOf : List Named → Index → Type 0
IsIndexOf names i =
    i.is_whole ≡ true → (j : ℕ) (n : Named) → slice_get names j ≡ Some n → is_findable n ≡ true → position_in i n.name ≡ Some j

abbrev pub IsIndexed : List Named → Option Index → Type 0
IsIndexed names None = ⊤
IsIndexed names (Some i) = IsIndexOf names i

-- An index gets one object more.
abbrev pub Adds : ℕ → Named → Index → Index → Type 0
Adds at n old new = (names : List Named) → length names ≡ at → IsIndexOf names old → IsIndexOf (names ++ n ∷ []) new

-- The place of the object of a name, if a text means that object.
abbrev pub candidate : List ℕ → List ℕ → Index → List Named → Option ℕ
candidate name text i names =
    option_and_then (λ at. option_and_then (λ n. if is_meant text n then Some at else None) (slice_get names at)) (position_in i name)

-- The same of the memory whose word the text would be.
abbrev pub IsMemoryCandidate : List ℕ → Index → List Named → Option ℕ → Type 0
IsMemoryCandidate text i names place =
    (memory : Option (List ℕ)) × IsMemoryOf text memory × (place ≡ option_and_then (λ name. candidate name text i names) memory)

-- The lesser of two positions, where there are any.
abbrev pub lesser : Option ℕ → Option ℕ → Option ℕ
lesser (Some a) (Some b) = Some (min a b)
lesser (Some a) None = Some a
lesser None b = b
