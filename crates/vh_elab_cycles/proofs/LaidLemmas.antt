-- Lemmas on `specs/Laid.antt`: each node's row has the ends of its edges, and what falls doesn't come back.
use Rattle.std.proofs.Common.{◌≡◌, ◌≢◌, ◌⊎◌, ◌∙◌, ◌++◌, ◌+◌, ◌≤◌, ◌<◌, ℕ, zero, suc, max, Bool, true, false, cond, eqb, leb, nat_eq, List, [], ◌∷◌, length, Vec, replicate, get_or, refl, sym, ap, subst, inl, inr, arith}
use Rattle.std.specs.List.{list_all}
use Rattle.std.proofs.lemmas.List.{append_assoc, append-nil, length-map, length-set, length-replicate, get_or-set_same, get_or-set_other}
use Rattle.std.proofs.lemmas.Bool.Decides.{Decides-eqb, Decides-ltb, nat_tests}
use Rattle.vh_elab_cycles.specs.Cycles.{Edge, leads, is_on_cycle}
use Rattle.vh_elab_cycles.specs.Laid.{IsLaid, ends_from, is_falling, may_fall, nodes_from, rank_of, with_edge, with_edges}
use Rattle.vh_elab_cycles.specs.Views.{edge_seen, edges_seen, rows_seen}
use Rattle.vh_elab_cycles.specs.declared.edge.Edge as of
use Rattle.vh_elab_cycles.specs.declared.ranks.TheConstants.{NO_RANK}
use Rattle.vh_elab_cycles.proofs.CyclesLemmas.{Kept, and_both, and_parts, leads-kept, or_cases}

-- More than the numbers of an edge's nodes.
abbrev pub Within : ℕ → List Edge → Type 0
Within n [] = Unit {0}
Within n (e ∷ es) = (e.0 < n) × (e.1 < n) × Within n es

nodes-least : (n : ℕ) (es : List Edge) → n ≤ nodes_from n es
nodes-least n [] = omega arith
nodes-least n (e ∷ es) = let rest = nodes-least (max (max n (e.0 + 1)) (e.1 + 1)) es in omega arith

pub nodes-within : (n : ℕ) (es : List Edge) → Within (nodes_from n es) es
nodes-within n [] = tt
nodes-within n (e ∷ es) =
    let rest = nodes-least (max (max n (e.0 + 1)) (e.1 + 1)) es in
    (omega arith, omega arith, nodes-within (max (max n (e.0 + 1)) (e.1 + 1)) es)

pub within-at : (n : ℕ) (es : List Edge) → Within n es → (k : ℕ) (d : Edge) → k < length es
    → ((get_or es k d).0 < n) × ((get_or es k d).1 < n)
within-at n [] w k d h = absurd (omega arith)
within-at n (e ∷ es) w zero d h = (w.0, w.1)
within-at n (e ∷ es) w (suc k) d h = within-at n es w.2 k d (omega arith)

pub within-seen : (n : ℕ) (es : List of.Edge) → Within n (edges_seen es) → (k : ℕ) (d : of.Edge) → k < length es
    → ((get_or es k d).from < n) × ((get_or es k d).to < n)
within-seen n [] w k d h = absurd (omega arith)
within-seen n (e ∷ es) w zero d h = (w.0, w.1)
within-seen n (e ∷ es) w (suc k) d h = within-seen n es w.2 k d (omega arith)

pub within-all : (n : ℕ) (es : List Edge) → ((k : ℕ) (d : Edge) → k < length es → ((get_or es k d).0 < n) × ((get_or es k d).1 < n))
    → Within n es
within-all n [] h = tt
within-all n (e ∷ es) h =
    let first = h zero e (omega arith) in
    (first.0, first.1, within-all n es (λ k d l. h (suc k) d (omega arith)))

pub laid-within : {A : Type 0} (es : List of.Edge) (rows : List (Vec ℕ A)) → IsLaid (edges_seen es) (rows_seen rows)
    → (k : ℕ) (d : of.Edge) → k < length es → ((get_or es k d).from < length rows) × ((get_or es k d).to < length rows)
laid-within es rows laid =
    let low : Within (length rows) (edges_seen es) =
    subst (λ (n : ℕ). Within n (edges_seen es)) (length-map rows (λ r. r.items)) (within-all (length (rows_seen rows)) (edges_seen es) laid.within) in
    within-seen (length rows) es low

row-same : (rows : List (List ℕ)) (e : Edge) (x : ℕ) (more : List ℕ) → e.0 < length rows
    → get_or (with_edge rows e) x [] ++ more ≡ get_or rows x [] ++ cond (eqb e.0 x) (e.1 ∷ more) more
row-same rows e x more h = at_test (eqb e.0 x) refl
  where
    at_test : (b : Bool) → eqb e.0 x ≡ b
        → get_or (with_edge rows e) x [] ++ more ≡ get_or rows x [] ++ cond b (e.1 ∷ more) more
    at_test true is =
        let same = (Decides-eqb e.0 x).0 is in
        ap (λ y. get_or (with_edge rows e) y [] ++ more) (sym same)
        ∙ ap (λ r. r ++ more) (get_or-set_same rows e.0 (get_or rows e.0 [] ++ e.1 ∷ []) [] h)
        ∙ append_assoc (get_or rows e.0 []) (e.1 ∷ []) more
        ∙ ap (λ y. get_or rows y [] ++ e.1 ∷ more) same
    at_test false is =
        let other : x ≢ e.0 = λ same. absurd (grind (nat_tests, arith, same)) in
        ap (λ r. r ++ more) (get_or-set_other rows e.0 x (get_or rows e.0 [] ++ e.1 ∷ []) [] other)

pub rows-ends : (rows : List (List ℕ)) (es : List Edge) → Within (length rows) es → (x : ℕ)
    → get_or (with_edges rows es) x [] ≡ get_or rows x [] ++ ends_from es x
rows-ends rows [] w x = sym (append-nil (get_or rows x []))
rows-ends rows (e ∷ es) w x =
    let same : length (with_edge rows e) ≡ length rows = length-set rows e.0 (get_or rows e.0 [] ++ e.1 ∷ []) in
    let P : ℕ → Type 0 = λ n. Within n es in
    rows-ends (with_edge rows e) es (subst P (sym same) w.2) x ∙ row-same rows e x (ends_from es x) w.0

pub rows-length : (rows : List (List ℕ)) (es : List Edge) → length (with_edges rows es) ≡ length rows
rows-length rows [] = refl
rows-length rows (e ∷ es) = rows-length (with_edge rows e) es ∙ length-set rows e.0 (get_or rows e.0 [] ++ e.1 ∷ [])

empty-row : (n x : ℕ) → get_or {A = List ℕ} (replicate n []) x [] ≡ []
empty-row zero x = refl
empty-row (suc n) zero = refl
empty-row (suc n) (suc x) = empty-row n x

-- Rows that begin empty, with all edges.
pub laid-rows : (rows : List (List ℕ)) (es : List Edge) → rows ≡ with_edges (replicate (nodes_from 0 es) []) es → IsLaid es rows
laid-rows rows es is =
    let n = nodes_from 0 es in
    let none : List (List ℕ) = replicate n [] in
    let count : length none ≡ n = length-replicate n [] in
    let P : ℕ → Type 0 = λ m. Within m es in
    let size : length rows ≡ n = ap length is ∙ rows-length none es ∙ count in
    record {
      ends = λ x. ap (λ r. get_or r x []) is ∙ rows-ends none es (subst P (sym count) (nodes-within 0 es)) x ∙ ap (λ r. r ++ ends_from es x) (empty-row n x);
      within = within-at (length rows) es (subst P (sym size) (nodes-within 0 es));
    }

-- Where each edge may fall, no way from an edge's end leads as high as its beginning.
all-kept : (ranks : List ℕ) (top : ℕ) → top < NO_RANK → (es : List Edge) → list_all (may_fall ranks) es ≡ true
    → Kept (λ x. leb (rank_of ranks x) top) es
all-kept ranks top low [] h = tt
all-kept ranks top low (e ∷ es) h =
    let both = and_parts (may_fall ranks e) (list_all (may_fall ranks) es) h in
    (kept (or_cases (eqb (rank_of ranks e.0) NO_RANK) (is_falling ranks e) both.0), all-kept ranks top low es both.1)
  where
    kept : (eqb (rank_of ranks e.0) NO_RANK ≡ true) ⊎ (is_falling ranks e ≡ true)
        → leb (rank_of ranks e.0) top ≡ true → leb (rank_of ranks e.1) top ≡ true
    kept (inl none) at = grind (nat_tests, arith)
    kept (inr falls) at = grind (nat_tests, arith)

pub falling-is-on-none : (ranks : List ℕ) (es : List Edge) (e : Edge) → list_all (may_fall ranks) es ≡ true → rank_of ranks e.0 ≤ NO_RANK
    → is_falling ranks e ≡ true → is_on_cycle nat_eq es e ≡ false
falling-is-on-none ranks es e h most falls = at_test (leads nat_eq es e.1 e.0) refl
  where
    at_test : (b : Bool) → leads nat_eq es e.1 e.0 ≡ b → leads nat_eq es e.1 e.0 ≡ false
    at_test false is = is
    at_test true is =
        let down : rank_of ranks e.1 < rank_of ranks e.0 = (Decides-ltb (rank_of ranks e.1) (rank_of ranks e.0)).0 falls in
        let low : rank_of ranks e.1 < NO_RANK = omega arith in
        let here : leb (rank_of ranks e.1) (rank_of ranks e.1) ≡ true = grind (nat_tests, arith) in
        let there = leads-kept (λ x. leb (rank_of ranks x) (rank_of ranks e.1)) es (all-kept ranks (rank_of ranks e.1) low es h) e.1 e.0 is here in
        absurd (grind (nat_tests, arith, there))

pub all-seen : (ranks : List ℕ) (es : List of.Edge) → list_all (λ e. may_fall ranks (edge_seen e)) es ≡ true
    → list_all (may_fall ranks) (edges_seen es) ≡ true
all-seen ranks [] h = refl
all-seen ranks (e ∷ es) h =
    let both = and_parts (may_fall ranks (edge_seen e)) (list_all (λ x. may_fall ranks (edge_seen x)) es) h in
    and_both (may_fall ranks (edge_seen e)) (list_all (may_fall ranks) (edges_seen es)) both.0 (all-seen ranks es both.1)

-- No node has a rank.
pub none-fall : (ranks : List ℕ) → ranks ≡ [] → (es : List Edge) → list_all (may_fall ranks) es ≡ true
none-fall ranks none [] = refl
none-fall ranks none (e ∷ es) =
    and_both (may_fall ranks e) (list_all (may_fall ranks) es) (ap (λ r. may_fall r e) none) (none-fall ranks none es)

pub rank-most : (ranks : List ℕ) (x : ℕ) → get_or ranks x 0 ≤ NO_RANK → rank_of ranks x ≤ NO_RANK
rank-most [] x h = omega arith
rank-most (r ∷ rs) zero h = h
rank-most (r ∷ rs) (suc x) h = rank-most rs x h
