-- Which edges of a graph stand on a cycle. (own)
use Rattle.std.specs.Prelude.{ℕ, suc, List, [], ◌∷◌, Bool, ◌||◌, ◌&&◌, if◌then◌else◌, nat_eq, Option, Some, None}

-- An edge, by what it leads from and to.
abbrev pub Edge : Type 0
Edge = ℕ × ℕ

-- Does a way lead from a node to another one, over some of these edges? One that goes over the first of them leads to its beginning,
-- and on from its end, over the others: no way needs an edge twice. `same` tells which nodes are the same.
unfoldable pub leads : {A : Type 0} → (A → A → Bool) → List (A × A) → A → A → Bool
leads same [] from to = same from to
leads same (e ∷ es) from to = leads same es from to || (leads same es from e.0 && leads same es e.1 to)

-- From its end a way leads back to its beginning.
abbrev pub is_on_cycle : {A : Type 0} → (A → A → Bool) → List (A × A) → A × A → Bool
is_on_cycle same es e = leads same es e.1 e.0

-- The place of the first such edge.
abbrev pub first_from : ℕ → List Edge → List Edge → Option ℕ
first_from n all [] = None
first_from n all (e ∷ es) = if is_on_cycle nat_eq all e then Some n else first_from (suc n) all es

abbrev pub first_on_cycle : List Edge → Option ℕ
first_on_cycle es = first_from 0 es es
