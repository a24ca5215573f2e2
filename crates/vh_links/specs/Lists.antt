-- Lists of nodes, one for each anchor, and what each call makes of them (own).
use Rattle.std.specs.Prelude.{ℕ, ◌+◌, ◌==◌, Bool, not, if◌then◌else◌, List, [], ◌∷◌, ◌++◌, map, filter, Option, None, slice_index_or, slice_set}
use Rattle.std.specs.List.{find, list_any, slice_get}
use Rattle.std.specs.Option.{option_and_then}

-- The nodes of each anchor, in order, and how many nodes there are
pub record Lists : Type 0 where
  pub lists : List (List ℕ)
  pub nodes : ℕ

-- A list has the node
abbrev pub has : ℕ → List ℕ → Bool
has x xs = list_any (λ y. x == y) xs

-- Some list has the node
abbrev pub is_linked : ℕ → Lists → Bool
is_linked x s = list_any (has x) s.lists

-- The list of an anchor
abbrev pub list_of : ℕ → Lists → List ℕ
list_of a s = slice_index_or s.lists a []

-- The lists with another one in an anchor's position
abbrev pub with_list : ℕ → List ℕ → Lists → Lists
with_list a xs s = record { lists = slice_set s.lists a xs; nodes = s.nodes }

-- One node more, in no list
abbrev pub after_add : Lists → Lists
after_add s = record { lists = s.lists; nodes = s.nodes + 1 }

-- A node appended to the list of an anchor
abbrev pub after_push : ℕ → ℕ → Lists → Lists
after_push a x s = with_list a (list_of a s ++ x ∷ []) s

-- A list without a node
abbrev pub without : ℕ → List ℕ → List ℕ
without x xs = filter (λ y. not (x == y)) xs

-- A node taken out of the list that has it
abbrev pub after_unlink : ℕ → Lists → Lists
after_unlink x s = record { lists = map (without x) s.lists; nodes = s.nodes }

-- A list appended to another one, and emptied; nothing where the two are one
abbrev pub after_move : ℕ → ℕ → Lists → Lists
after_move from to s =
    if from == to then s else with_list from [] (with_list to (list_of to s ++ list_of from s) s)

-- The node behind another in a list
abbrev pub behind : ℕ → List ℕ → Option ℕ
behind x [] = None
behind x (y ∷ ys) = if x == y then slice_get ys 0 else behind x ys

-- The node behind another in the list that has it
abbrev pub next_of : ℕ → Lists → Option ℕ
next_of x s = option_and_then (behind x) (find (has x) s.lists)
