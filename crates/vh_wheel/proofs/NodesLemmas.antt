-- What holds of nodes, and of what is held under them.
use Rattle.std.proofs.Common.{◌≡◌, ℕ, zero, suc, ◌+◌, ◌/◌, ◌<◌, ◌≤◌, ◌≢◌, List, [], ◌∷◌, ◌++◌, length, set, refl, ap, arith, ◌∙◌, sym, subst, true, false, cond, Option, Some, None, inl, inr}
use Rattle.std.specs.Prelude.{IfSome, count_by}
use Rattle.std.proofs.lemmas.Bool.{eq-eqb, ne_eqb, cases_eq, cases_lt}
use Rattle.std.proofs.lemmas.List.Sums.{sum_by-cons}
use Rattle.vh_links.proofs.ListsLemmas.{get_or-map}
use Rattle.vh_wheel.specs.declared.node.Node.{Node}
use Rattle.vh_wheel.specs.Schedule.{Entry, entry_at, is_held, least_time, sooner, has_time, moves_of, moves_in}
use Rattle.vh_wheel.specs.Views.{nowhere, node_at, bucket_at, with_bucket, entry_of, entries_of, HasPosition, ArePlaced, moves_at, moves_of_all}
use Rattle.vh_wheel.proofs.TimesLemmas.{moves-of-bucket}

-- What is held under a node
pub entry-held : (n : Node) → (n.bucket ≡ 2048 → ⊥) → entry_of n ≡ Some (record { time = n.time; payload = n.payload })
entry-held n h = rw (ne_eqb n.bucket 2048 h) refl

pub entry-free : (n : Node) → n.bucket ≡ 2048 → entry_of n ≡ None
entry-free n h = rw (eq-eqb n.bucket 2048 h) refl

pub entry-is : (ns : List Node) (x : ℕ) → entry_at x (entries_of ns) ≡ entry_of (node_at ns x)
entry-is ns x = get_or-map entry_of ns x nowhere

pub entry-moved : (n : Node) (b : ℕ) → (n.bucket ≡ 2048 → ⊥) → (b ≡ 2048 → ⊥) → entry_of (with_bucket b n) ≡ entry_of n
entry-moved n b h k = entry-held (with_bucket b n) k ∙ sym (entry-held n h)

-- Whatever is held is held by a node
node-beyond : (ns : List Node) (x : ℕ) → length ns ≤ x → node_at ns x ≡ nowhere
node-beyond [] x h = refl
node-beyond (n ∷ ns) zero h = absurd (omega arith)
node-beyond (n ∷ ns) (suc x) h = node-beyond ns x (omega arith)

pub held-node : (ns : List Node) (x : ℕ) (e : Entry) → entry_at x (entries_of ns) ≡ Some e
    → (x < length ns) × (bucket_at ns x ≢ 2048) × ((node_at ns x).time ≡ e.time) × ((node_at ns x).payload ≡ e.payload)
held-node ns x e h =
    let is : entry_of (node_at ns x) ≡ Some e = sym (entry-is ns x) ∙ h in
    elim (cases_eq (bucket_at ns x) 2048) [
      | inl b ↦ absurd (let none = sym (entry-free (node_at ns x) b) ∙ is in cc)
      | inr b ↦
          let same = sym (entry-held (node_at ns x) b) ∙ is in
          let inside : x < length ns =
          elim (cases_lt x (length ns)) [
            | inl l ↦ l
            | inr l ↦ absurd (b (ap (λ (n : Node). n.bucket) (node-beyond ns x l)))
          ] in
          (inside, b, ap (λ (o : Option Entry). time_or o) same, ap (λ (o : Option Entry). payload_or o) same)
    ]
  where
    time_or : Option Entry → ℕ
    time_or None = 0
    time_or (Some e) = e.time

    payload_or : Option Entry → ℕ
    payload_or None = 0
    payload_or (Some e) = e.payload

pub node-held : (ns : List Node) (x : ℕ) → (bucket_at ns x ≡ 2048 → ⊥)
    → entry_at x (entries_of ns) ≡ Some (record { time = (node_at ns x).time; payload = (node_at ns x).payload })
node-held ns x b = entry-is ns x ∙ entry-held (node_at ns x) b

-- The least time
pub least-below : (es : List (Option Entry)) (x : ℕ) (e : Entry) → entry_at x es ≡ Some e → (t : ℕ) × (least_time es ≡ Some t) × (t ≤ e.time)
least-below [] x e h = cc
least-below (None ∷ es) zero e h = cc
least-below (None ∷ es) (suc x) e h = least-below es x e h
least-below (Some d ∷ es) zero e h =
    let same : d ≡ e = cc in
    (sooner d.time (least_time es), refl, subst (λ (f : Entry). sooner d.time (least_time es) ≤ f.time) same (sooner-first d.time (least_time es)))
  where
    sooner-first : (t : ℕ) (o : Option ℕ) → sooner t o ≤ t
    sooner-first t None = omega arith
    sooner-first t (Some u) = omega arith
least-below (Some d ∷ es) (suc x) e h =
    let rest = least-below es x e h in
    (sooner d.time (least_time es), refl, sooner-rest d.time (least_time es) rest.0 e.time rest.1 rest.2)
  where
    sooner-rest : (t : ℕ) (o : Option ℕ) (u v : ℕ) → o ≡ Some u → u ≤ v → sooner t o ≤ v
    sooner-rest t None u v h l = cc
    sooner-rest t (Some w) u v h l = let same : w ≡ u = cc in omega arith

pub least-bound : (es : List (Option Entry)) (t : ℕ) → ((x : ℕ) (e : Entry) → entry_at x es ≡ Some e → t ≤ e.time) → (u : ℕ) → least_time es ≡ Some u → t ≤ u
least-bound [] t h u k = cc
least-bound (None ∷ es) t h u k = least-bound es t (λ x e. h (suc x) e) u k
least-bound (Some d ∷ es) t h u k =
    let first : t ≤ d.time = h 0 d refl in
    let both = sooner-bound t d.time (least_time es) first (least-bound es t (λ x e. h (suc x) e)) in
    let same : sooner d.time (least_time es) ≡ u = cc in
    subst (λ v. t ≤ v) same both
  where
    sooner-bound : (t s : ℕ) (o : Option ℕ) → t ≤ s → ((u : ℕ) → o ≡ Some u → t ≤ u) → t ≤ sooner s o
    sooner-bound t s None h k = h
    sooner-bound t s (Some u) h k = let r : t ≤ u = k u refl in omega arith

pub least-is : (es : List (Option Entry)) (x : ℕ) (e : Entry) → entry_at x es ≡ Some e
    → ((y : ℕ) (f : Entry) → entry_at y es ≡ Some f → e.time ≤ f.time) → Some e.time ≡ least_time es
least-is es x e h k =
    let below = least-below es x e h in
    let above = least-bound es e.time k below.0 below.1 in
    let same : e.time ≡ below.0 = omega (arith, above, below.2) in
    ap (λ t. Some t) same ∙ sym below.1

pub least-none : (es : List (Option Entry)) → ((x : ℕ) → entry_at x es ≡ None) → None ≡ least_time es
least-none [] h = refl
least-none (None ∷ es) h = least-none es (λ x. h (suc x))
least-none (Some d ∷ es) h = let no = h 0 in cc

pub later-all : (es : List (Option Entry)) (t : ℕ) → IfSome (least_time es) (λ u. t ≤ u) → (x : ℕ) (e : Entry) → entry_at x es ≡ Some e → t ≤ e.time
later-all es t h x e k =
    let below = least-below es x e k in
    let first : t ≤ below.0 = subst (λ (o : Option ℕ). IfSome o (λ u. t ≤ u)) below.1 h in
    omega (arith, first, below.2)

-- No time among them
pub has-no-time : (es : List (Option Entry)) (t : ℕ) → ((x : ℕ) (e : Entry) → entry_at x es ≡ Some e → e.time ≢ t) → has_time t es ≡ false
has-no-time [] t h = refl
has-no-time (None ∷ es) t h = has-no-time es t (λ x e. h (suc x) e)
has-no-time (Some d ∷ es) t h = rw (ne_eqb d.time t (h 0 d refl)) (has-no-time es t (λ x e. h (suc x) e))

-- As many held as there are
pub all-held : (es : List (Option Entry)) → ((x : ℕ) → x < length es → is_held (entry_at x es) ≡ true) → count_by is_held es ≡ length es
all-held [] h = refl
all-held (o ∷ es) h =
    let first : is_held o ≡ true = h 0 (omega arith) in
    let rest = all-held es (λ x k. h (suc x) (omega arith)) in
    sum_by-cons (λ p. cond (is_held p) 1 0) o es ∙ rw first (omega (arith, rest))

-- The moves of all nodes
pub moves-set : (ns : List Node) (x : ℕ) (n : Node) → x < length ns → moves_of_all (set ns x n) + moves_at (node_at ns x) ≡ moves_of_all ns + moves_at n
moves-set [] x n h = absurd (omega arith)
moves-set (m ∷ ns) zero n h = omega arith
moves-set (m ∷ ns) (suc x) n h = let rest = moves-set ns x n (omega arith) in omega (arith, rest)

pub moves-add : (ns : List Node) (n : Node) → moves_of_all (ns ++ n ∷ []) ≡ moves_of_all ns + moves_at n
moves-add [] n = omega arith
moves-add (m ∷ ns) n = let rest = moves-add ns n in omega (arith, rest)

pub moves-held : (n : Node) → (n.bucket ≡ 2048 → ⊥) → moves_at n ≡ n.bucket / 256
moves-held n h = rw (ne_eqb n.bucket 2048 h) refl

pub moves-free : (n : Node) → n.bucket ≡ 2048 → moves_at n ≡ 0
moves-free n h = rw (eq-eqb n.bucket 2048 h) refl

moves-cons : (p : ℕ) (n : Node) (es : List (Option Entry)) → (n.bucket ≢ 2048 → HasPosition p n) → moves_in p (entry_of n ∷ es) ≡ moves_at n + moves_in p es
moves-cons p n es h =
    elim (cases_eq n.bucket 2048) [
      | inl b ↦ rw (eq-eqb n.bucket 2048 b) (omega arith)
      | inr b ↦
          let position = h b in
          let moves : n.bucket / 256 ≡ moves_of p n.time = ap (λ m. m / 256) position.bucket ∙ moves-of-bucket p n.time position.fits in
          ap (λ (o : Option Entry). moves_in p (o ∷ es)) (entry-held n b) ∙ ap (λ m. m + moves_in p es) (sym moves ∙ sym (moves-held n b))
    ]

pub moves-are : (p : ℕ) (ns : List Node) → ArePlaced p ns → moves_in p (entries_of ns) ≡ moves_of_all ns
moves-are p [] h = refl
moves-are p (n ∷ ns) h =
    moves-cons p n (entries_of ns) (h 0 (omega arith)) ∙ ap (λ m. moves_at n + m) (moves-are p ns (λ x k. h (suc x) (omega arith)))
