-- The first of a name among some. (own)
use Rattle.std.specs.Prelude.{◌≡◌, ℕ, suc, List, [], ◌∷◌, if◌then◌else◌, bytes_eq, map, Option, Some, None, slice_get}
use Rattle.std.specs.Option.{option_and_then}
use Rattle.std.specs.Map.{lookup}

abbrev pub position_from : ℕ → List (List ℕ) → List ℕ → Option ℕ
position_from n [] name = None
position_from n (x ∷ xs) name = if bytes_eq name x then Some n else position_from (suc n) xs name

-- Its position, from 0.
abbrev pub position_in : List (List ℕ) → List ℕ → Option ℕ
position_in names name = position_from 0 names name

-- The first thing that has a name, by the names of all.
abbrev pub first_named : {A : Type 0} → (A → List ℕ) → List A → List ℕ → Option A
first_named name_of xs name = option_and_then (slice_get xs) (position_in (map name_of xs) name)

-- A table of positions has that of each name.
abbrev pub IsIndexOf : List (List ℕ) → List (List ℕ × ℕ) → Type 0
IsIndexOf names entries = (name : List ℕ) → lookup (bytes_eq name) entries ≡ position_in names name
