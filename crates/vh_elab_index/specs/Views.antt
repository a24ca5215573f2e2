-- How contracts see what the code holds.
use Rattle.std.specs.Prelude.{ℕ, List, map, Vec}
use Rattle.std.specs.Borrow.{Bor}

abbrev pub names_seen : List (Bor (List ℕ)) → List (List ℕ)
names_seen names = map (λ b. b.now) names

abbrev pub rows_seen : {A : Type 0} → List (Vec ℕ A × ℕ) → List (List ℕ × ℕ)
rows_seen rows = map (λ r. (r.0.items, r.1)) rows
