-- How contracts see what the code holds.
use Rattle.std.specs.Prelude.{ℕ, List, map, Vec}
use Rattle.vh_bind_scope.specs.declared.names.Meaning.{Meaning}
use Rattle.vh_bind_scope.specs.Names.{Table}

-- The names of a scope, as bytes.
abbrev pub table_seen : {A : Type 0} → List (Vec ℕ A × Meaning) → Table
table_seen rows = map (λ r. (r.0.items, r.1)) rows
