-- How contracts see what the code holds.
use Rattle.std.specs.Prelude.{ℕ, List, map, Option, Some, None, Vec}
use Rattle.vh_elab_cycles.specs.declared.edge.Edge as of
use Rattle.vh_elab_cycles.specs.declared.walk.Walk as held
use Rattle.vh_elab_cycles.specs.Cycles.{Edge}
use Rattle.vh_elab_cycles.specs.Laid.{Walk}

abbrev pub edge_seen : of.Edge → Edge
edge_seen e = (e.from, e.to)

abbrev pub edges_seen : List of.Edge → List Edge
edges_seen es = map edge_seen es

abbrev pub rows_seen : {A : Type 0} → List (Vec ℕ A) → List (List ℕ)
rows_seen rows = map (λ r. r.items) rows

abbrev pub walk_seen : held.Walk → Walk
walk_seen w = (w.seen.items, w.waiting.items)

abbrev pub depths_seen : {A : Type 0} → Option (Vec ℕ A) → Option (List ℕ)
depths_seen None = None
depths_seen (Some v) = Some v.items
