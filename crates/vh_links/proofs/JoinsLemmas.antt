-- What holds of links that go through the nodes of a list, when a position is joined to another.
use Rattle.std.proofs.Common.{◌≡◌, ℕ, zero, suc, ◌+◌, ◌-◌, ◌<◌, ◌≤◌, List, [], ◌∷◌, ◌++◌, length, refl, ap, arith, ◌∙◌, sym, true, false}
use Rattle.std.proofs.lemmas.Bool.{lt-ltb, le-ltb, eq-eqb, ne_eqb}
use Rattle.vh_links.specs.declared.links.Link.{Link}
use Rattle.vh_links.specs.Lists.{has}
use Rattle.vh_links.specs.Views.{next_at, prev_at, nodes_from, Goes, IsApart, Joins}
use Rattle.vh_links.proofs.ListsLemmas.{has-head, has-tail}

-- What a join writes, and what it leaves
pub next-same : (i j : ℕ) (ls ms : List Link) → Joins i j ls ms → next_at ms i ≡ j
next-same i j ls ms h = h.next i ∙ rw (eq-eqb i i refl) refl

pub next-other : (i j k : ℕ) (ls ms : List Link) → Joins i j ls ms → (k ≡ i → ⊥) → next_at ms k ≡ next_at ls k
next-other i j k ls ms h ne = h.next k ∙ rw (ne_eqb k i ne) refl

pub prev-same : (i j : ℕ) (ls ms : List Link) → Joins i j ls ms → prev_at ms j ≡ i
prev-same i j ls ms h = h.prev j ∙ rw (eq-eqb j j refl) refl

pub prev-other : (i j k : ℕ) (ls ms : List Link) → Joins i j ls ms → (k ≡ j → ⊥) → prev_at ms k ≡ prev_at ls k
prev-other i j k ls ms h ne = h.prev k ∙ rw (ne_eqb k j ne) refl

-- A position is none of the nodes of a list
abbrev pub Misses : ℕ → ℕ → List ℕ → Type 0
Misses A i xs = (x : ℕ) → has x xs ≡ true → A + x ≡ i → ⊥

pub misses-head : (A i x : ℕ) (xs : List ℕ) → Misses A i (x ∷ xs) → A + x ≡ i → ⊥
misses-head A i x xs h = h x (has-head x xs)

pub misses-tail : (A i x : ℕ) (xs : List ℕ) → Misses A i (x ∷ xs) → Misses A i xs
misses-tail A i x xs h y k = h y (has-tail y x xs k)

-- An anchor is no node, and a node is none of a list that lacks it
pub misses-anchor : (A i : ℕ) (xs : List ℕ) → i < A → Misses A i xs
misses-anchor A i xs h x k e = omega (arith, e)

pub misses-node : (A x : ℕ) (xs : List ℕ) → has x xs ≡ false → Misses A (A + x) xs
misses-node A x xs h y k e =
    let same : y ≡ x = omega (arith, e) in
    let there : has x xs ≡ true = sym (ap (λ n. has n xs) same) ∙ k in
    cc

-- The position of the last node of a list, or the position before the list
abbrev pub last_position : ℕ → ℕ → List ℕ → ℕ
last_position A i [] = i
last_position A i (x ∷ xs) = last_position A (A + x) xs

pub last-other : (A i k : ℕ) (xs : List ℕ) → (i ≡ k → ⊥) → Misses A k xs → last_position A i xs ≡ k → ⊥
last-other A i k [] ne h = ne
last-other A i k (x ∷ xs) ne h = last-other A (A + x) k xs (misses-head A k x xs h) (misses-tail A k x xs h)

pub prev-last : (A : ℕ) (ls : List Link) (i : ℕ) (xs : List ℕ) (j : ℕ) → Goes A ls i xs j → prev_at ls j ≡ last_position A i xs
prev-last A ls i [] j g = g.1
prev-last A ls i (x ∷ xs) j g = prev-last A ls (A + x) xs j g.2

-- A join of two positions beside a list leaves it
pub goes-on : (A : ℕ) (ls ms : List Link) (i : ℕ) (xs : List ℕ) (j l u : ℕ) → Goes A ls i xs j → Joins l u ls ms
    → (i ≡ l → ⊥) → Misses A l xs → (j ≡ u → ⊥) → Misses A u xs → Goes A ms i xs j
goes-on A ls ms i [] j l u g h ne ml nu mu = (next-other l u i ls ms h ne ∙ g.0, prev-other l u j ls ms h nu ∙ g.1)
goes-on A ls ms i (x ∷ xs) j l u g h ne ml nu mu = (
  next-other l u i ls ms h ne ∙ g.0,
  prev-other l u (A + x) ls ms h (misses-head A u x xs mu) ∙ g.1,
  goes-on A ls ms (A + x) xs j l u g.2 h (misses-head A l x xs ml) (misses-tail A l x xs ml) nu (misses-tail A u x xs mu),
)

-- A join of the last position of a list to another leads the list there
pub goes-to : (A : ℕ) (ls ms : List Link) (i : ℕ) (xs : List ℕ) (j u : ℕ) → Goes A ls i xs j → Joins (last_position A i xs) u ls ms
    → Misses A i xs → IsApart xs → Misses A u xs → Goes A ms i xs u
goes-to A ls ms i [] j u g h mi ap mu = (next-same i u ls ms h, prev-same i u ls ms h)
goes-to A ls ms i (x ∷ xs) j u g h mi apart mu =
    let l : ℕ = last_position A (A + x) xs in
    let ne : i ≡ l → ⊥ = λ e. last-other A (A + x) i xs (misses-head A i x xs mi) (misses-tail A i x xs mi) (sym e) in (
      next-other l u i ls ms h ne ∙ g.0,
      prev-other l u (A + x) ls ms h (misses-head A u x xs mu) ∙ g.1,
      goes-to A ls ms (A + x) xs j u g.2 h (misses-node A x xs apart.0) apart.1 (misses-tail A u x xs mu),
    )

-- Two lists, one behind the other
pub goes-append : (A : ℕ) (ls : List Link) (i : ℕ) (xs : List ℕ) (y : ℕ) (ys : List ℕ) (j : ℕ)
    → Goes A ls i xs (A + y) → Goes A ls (A + y) ys j → Goes A ls i (xs ++ y ∷ ys) j
goes-append A ls i [] y ys j g h = (g.0, g.1, h)
goes-append A ls i (x ∷ xs) y ys j g h = (g.0, g.1, goes-append A ls (A + x) xs y ys j g.2 h)

pub goes-split : (A : ℕ) (ls : List Link) (i : ℕ) (xs : List ℕ) (y : ℕ) (ys : List ℕ) (j : ℕ)
    → Goes A ls i (xs ++ y ∷ ys) j → Goes A ls i xs (A + y) × Goes A ls (A + y) ys j
goes-split A ls i [] y ys j g = ((g.0, g.1), g.2)
goes-split A ls i (x ∷ xs) y ys j g = let rest = goes-split A ls (A + x) xs y ys j g.2 in ((g.0, g.1, rest.0), rest.1)

-- The nodes on the way to an anchor are those of the list
pub nodes-on_way : (A : ℕ) (ls : List Link) (k i : ℕ) (xs : List ℕ) (j : ℕ) → Goes A ls i xs j → j < A → length xs ≤ k
    → nodes_from k A ls i ≡ xs
unfolding nodes_from
nodes-on_way A ls zero i [] j g h short = refl
nodes-on_way A ls zero i (x ∷ xs) j g h short = absurd (omega arith)
nodes-on_way A ls (suc k) i [] j g h short = rw (g.0, lt-ltb j A h) refl
nodes-on_way A ls (suc k) i (x ∷ xs) j g h short =
    let far : A ≤ A + x = omega arith in
    let node : A + x - A ≡ x = omega arith in
    let rest = nodes-on_way A ls k (A + x) xs j g.2 h (omega arith) in
    rw (g.0, le-ltb (A + x) A far, node, rest) refl
