-- What is declared in each scope. (IEEE 1364-2005, 12.7)
use Rattle.std.specs.Prelude.{ℕ, List, [], ◌∷◌, ◌++◌, Bool, if◌then◌else◌, ◌==◌, bytes_eq, Option, is_some, unwrap_or}
use Rattle.std.specs.Option.{option_and_then}
use Rattle.std.specs.Map.{lookup}
use Rattle.vh_bind_scope.specs.declared.names.Meaning.{Meaning}

-- The names of one scope, each with what it stands for.
abbrev pub Table : Type 0
Table = List (List ℕ × Meaning)

-- The names of each scope, by the scope's number.
abbrev pub Names : Type 0
Names = List (ℕ × Table)

-- What a name stands for among these.
abbrev pub named : List ℕ → Table → Option Meaning
named name t = lookup (bytes_eq name) t

-- What it stands for in a scope.
abbrev pub meaning_in : Names → ℕ → List ℕ → Option Meaning
meaning_in ns scope name = option_and_then (named name) (lookup (λ s. scope == s) ns)

-- One name more in a scope.
abbrev pub with_name : ℕ → List ℕ × Meaning → Names → Names
with_name scope d [] = (scope, d ∷ []) ∷ []
with_name scope d (s ∷ ns) = if scope == s.0 then (s.0, s.1 ++ d ∷ []) ∷ ns else s ∷ with_name scope d ns

-- Another meaning for a name of a scope.
abbrev pub with_meaning : List ℕ → Meaning → Table → Table
with_meaning name meaning [] = []
with_meaning name meaning (d ∷ t) = if bytes_eq name d.0 then (d.0, meaning) ∷ t else d ∷ with_meaning name meaning t

-- What a declared name stands for is said anew: all else stays.
abbrev pub declared_anew : ℕ → List ℕ → Meaning → Names → Names
declared_anew scope name meaning [] = []
declared_anew scope name meaning (s ∷ ns) =
    if scope == s.0 then (s.0, with_meaning name meaning s.1) ∷ ns else s ∷ declared_anew scope name meaning ns

-- A name is declared in a scope: the first declaration of a name stays.
abbrev pub declared : ℕ → List ℕ → Meaning → Names → Names
declared scope name meaning ns =
    if is_some (meaning_in ns scope name) then ns else with_name scope (name, meaning) ns
