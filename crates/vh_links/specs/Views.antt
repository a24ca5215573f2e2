-- How links hold the lists (own). Anchor `a` stands at position `a`, node `x` at the position behind all anchors and the nodes
-- before it. Each position knows the position before it and the next one, and each list is a ring that goes through its anchor.
use Rattle.std.specs.Prelude.{ℕ, ◌≡◌, ◌+◌, ◌-◌, ◌<◌, ◌^◌, ◌==◌, nat_lt, true, false, if◌then◌else◌, List, [], ◌∷◌, map, length, slice_index_or, Option, Some, None}
use Rattle.std.specs.List.{range_with_len}
use Rattle.std.proofs.Common.{zero, suc}
use Rattle.vh_links.specs.declared.links.Link.{Link}
use Rattle.vh_links.specs.Lists.{Lists, has, list_of}

-- The links of a position that there is not
abbrev pub nowhere : Link
nowhere = record { prev = 0; next = 0 }

-- The next position, and the position before
abbrev pub next_at : List Link → ℕ → ℕ
next_at ls i = (slice_index_or ls i nowhere).next

abbrev pub prev_at : List Link → ℕ → ℕ
prev_at ls i = (slice_index_or ls i nowhere).prev

-- The nodes from the next position on up to an anchor, `k` at most
unfoldable pub nodes_from : ℕ → ℕ → List Link → ℕ → List ℕ
nodes_from zero anchors ls i = []
nodes_from (suc k) anchors ls i =
    if nat_lt (next_at ls i) anchors
    then []
    else (next_at ls i - anchors) ∷ nodes_from k anchors ls (next_at ls i)

-- What contracts see
abbrev pub lists_in : ℕ → List Link → Lists
lists_in anchors ls = record {
  lists = map (λ a. nodes_from (length ls) anchors ls a) (range_with_len 0 anchors);
  nodes = length ls - anchors;
}

-- From position `i` the links go through the nodes of a list to position `j`, and back
abbrev pub Goes : ℕ → List Link → ℕ → List ℕ → ℕ → Type 0
Goes anchors ls i [] j = (next_at ls i ≡ j) × (prev_at ls j ≡ i)
Goes anchors ls i (x ∷ xs) j =
    (next_at ls i ≡ anchors + x) × (prev_at ls (anchors + x) ≡ i) × Goes anchors ls (anchors + x) xs j

-- No node stands in a list twice
abbrev pub IsApart : List ℕ → Type 0
IsApart [] = Unit {0}
IsApart (x ∷ xs) = (has x xs ≡ false) × IsApart xs

-- Each position has a next position, and one before it
pub record IsClosed (ls : List Link) : Type 0 where
  pub next : (i : ℕ) → i < length ls → next_at ls i < length ls
  pub prev : (i : ℕ) → i < length ls → prev_at ls i < length ls

-- The links hold these lists
pub record Holds (anchors : ℕ) (ls : List Link) (s : Lists) : Type 0 where
  -- A list for each anchor, a position for each anchor and each node, and numbers that fit
  pub count : length s.lists ≡ anchors
  pub size : length ls ≡ anchors + s.nodes
  pub fits : s.nodes < 2 ^ 32
  -- Links lead to positions
  pub closed : IsClosed ls
  -- Each list is a ring
  pub ring : (a : ℕ) → a < anchors → Goes anchors ls a (list_of a s) a
  -- Its nodes are nodes, in no other list, and once in it
  pub inside : (a x : ℕ) → has x (list_of a s) ≡ true → x < s.nodes
  pub once : (a b x : ℕ) → has x (list_of a s) ≡ true → has x (list_of b s) ≡ true → a ≡ b
  pub apart : (a : ℕ) → IsApart (list_of a s)

-- A position is linked to another, and nothing else changes
pub record Joins (i j : ℕ) (old new : List Link) : Type 0 where
  pub size : length new ≡ length old
  pub next : (k : ℕ) → next_at new k ≡ (if k == i then j else next_at old k)
  pub prev : (k : ℕ) → prev_at new k ≡ (if k == j then i else prev_at old k)

-- Each position is a ring of its own
abbrev pub AreRings : ℕ → List Link → Type 0
AreRings n ls = (length ls ≡ n) × ((i : ℕ) → i < n → (next_at ls i ≡ i) × (prev_at ls i ≡ i))

-- The node at a position, if no anchor stands there
abbrev pub node_of : ℕ → ℕ → Option ℕ
node_of anchors position = if nat_lt position anchors then None else Some (position - anchors)
