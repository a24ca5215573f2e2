-- How deep the nodes of a graph stand. (own)
use Rattle.std.specs.Prelude.{ℕ, zero, suc, ◌+◌, max, List, [], ◌∷◌, length, map, if◌then◌else◌, ◌==◌, Option, Some, None, is_some}
use Rattle.vh_elab_cycles.specs.Cycles.{Edge, first_on_cycle}

-- One more than the greatest depth of the ends of a node's edges; none leads from it: 0.
abbrev pub over_ends : (ℕ → ℕ) → List Edge → ℕ → ℕ
over_ends d [] x = 0
over_ends d (e ∷ es) x = if e.0 == x then max (d e.1 + 1) (over_ends d es x) else over_ends d es x

-- So deep a node stands, up to a bound: how many edges the longest way from it has.
unfoldable pub depth_of : ℕ → List Edge → ℕ → ℕ
depth_of zero es x = 0
depth_of (suc n) es x = over_ends (depth_of n es) es x

-- The depths of some nodes, where no edge stands on a cycle: no way has more edges than there are.
abbrev pub depths_of : List Edge → List ℕ → Option (List ℕ)
depths_of es xs = if is_some (first_on_cycle es) then None else Some (map (depth_of (length es) es) xs)
