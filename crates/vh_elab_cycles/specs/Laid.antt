-- How the code lays out a graph, and goes over it.
use Rattle.std.specs.Prelude.{◌≡◌, ℕ, ◌+◌, ◌-◌, ◌<◌, ◌≤◌, max, min, List, [], ◌∷◌, ◌++◌, length, Bool, true, ◌||◌, ◌==◌, nat_lt, if◌then◌else◌, slice_index_or, slice_set}
use Rattle.vh_elab_cycles.specs.declared.ranks.TheConstants.{NO_RANK}
use Rattle.vh_elab_cycles.specs.Cycles.{Edge}

-- How many nodes there are, at least so many: more than the number of each.
abbrev pub nodes_from : ℕ → List Edge → ℕ
nodes_from n [] = n
nodes_from n (e ∷ es) = nodes_from (max (max n (e.0 + 1)) (e.1 + 1)) es

-- The ends of the edges that begin at a node.
abbrev pub ends_from : List Edge → ℕ → List ℕ
ends_from [] x = []
ends_from (e ∷ es) x = if e.0 == x then e.1 ∷ ends_from es x else ends_from es x

-- A row of ends for each node, with one edge more, and with some.
abbrev pub with_edge : List (List ℕ) → Edge → List (List ℕ)
with_edge rows e = slice_set rows e.0 (slice_index_or rows e.0 [] ++ e.1 ∷ [])

abbrev pub with_edges : List (List ℕ) → List Edge → List (List ℕ)
with_edges rows [] = rows
with_edges rows (e ∷ es) = with_edges (with_edge rows e) es

-- Each node has its row, and each edge leads from and to a node.
pub record IsLaid (es : List Edge) (rows : List (List ℕ)) : Type 0 where
  pub ends : (x : ℕ) → slice_index_or rows x [] ≡ ends_from es x
  pub within : (k : ℕ) (d : Edge) → k < length es → (slice_index_or es k d).0 < length rows × (slice_index_or es k d).1 < length rows

-- Which nodes are seen, and which of them wait.
abbrev pub Walk : Type 0
Walk = List Bool × List ℕ

abbrev pub see : Walk → ℕ → Walk
see w x = if slice_index_or w.0 x true then w else (slice_set w.0 x true, w.1 ++ x ∷ [])

abbrev pub see_all : Walk → List ℕ → Walk
see_all w [] = w
see_all w (x ∷ xs) = see_all (see w x) xs

-- A node that has no rank has the highest: it isn't known to be on no cycle.
abbrev pub rank_of : List ℕ → ℕ → ℕ
rank_of ranks x = slice_index_or ranks x NO_RANK

-- An edge from a node that has a rank leads down.
abbrev pub is_falling : List ℕ → Edge → Bool
is_falling ranks e = nat_lt (rank_of ranks e.1) (rank_of ranks e.0)

abbrev pub may_fall : List ℕ → Edge → Bool
may_fall ranks e = (rank_of ranks e.0 == NO_RANK) || is_falling ranks e

-- The least number of a node, up to a bound.
abbrev pub least_from : ℕ → List Edge → ℕ
least_from n [] = n
least_from n (e ∷ es) = least_from (min (min n e.0) e.1) es

-- No node has a lesser number.
abbrev pub NotBelow : ℕ → List Edge → Type 0
NotBelow base es =
    (k : ℕ) (d : Edge) → k < length es → (base ≤ (slice_index_or es k d).0) × (base ≤ (slice_index_or es k d).1)

-- Edges whose nodes have numbers by so much higher.
abbrev pub raised : ℕ → List Edge → List Edge
raised base [] = []
raised base (e ∷ es) = (e.0 + base, e.1 + base) ∷ raised base es

-- The depth of a node by a table, and by one that begins with this node.
abbrev pub depth_in : List ℕ → ℕ → ℕ
depth_in depths x = slice_index_or depths x 0

abbrev pub depth_behind : ℕ → List ℕ → ℕ → ℕ
depth_behind base depths x = if nat_lt x base then 0 else depth_in depths (x - base)

-- The beginning of an edge is deeper than its end is by a table.
abbrev pub deepened : List ℕ → List ℕ → Edge → List ℕ
deepened depths next e = slice_set next e.0 (max (slice_index_or next e.0 0) (depth_in depths e.1 + 1))

abbrev pub all_deepened : List ℕ → List ℕ → List Edge → List ℕ
all_deepened depths next [] = next
all_deepened depths next (e ∷ es) = all_deepened depths (deepened depths next e) es
