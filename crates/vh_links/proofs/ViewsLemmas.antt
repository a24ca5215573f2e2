-- What links hold, and go on holding.
use Rattle.std.proofs.Common.{◌≡◌, ℕ, zero, suc, ◌+◌, ◌-◌, ◌<◌, ◌≤◌, ◌^◌, List, [], ◌∷◌, ◌++◌, length, get_or, set, replicate, refl, ap, arith, ◌∙◌, sym, subst, true, false, Option, ◌⊎◌, inl, inr, append-nil}
use Rattle.std.specs.List.{slice_get}
use Rattle.std.specs.Option.{option_and_then}
use Rattle.std.proofs.lemmas.Bool.{lt-ltb, le-ltb, eq-eqb, ne_eqb}
use Rattle.std.proofs.lemmas.Bool.Decides.{eqb_tells}
use Rattle.std.proofs.lemmas.List.{get_or-set_same, get_or-set_other, length-set, set-get_or, length-append, length-replicate}
use Rattle.std.proofs.lemmas.List.FromFn.{fill_by_all}
use Rattle.std.proofs.lemmas.Map.Steps.{length-le_from_distinct_below}
use Rattle.vh_links.specs.declared.links.Link.{Link}
use Rattle.vh_links.specs.Lists.{Lists, has, is_linked, list_of, with_list, after_add, after_push, after_unlink, after_move, without, behind, next_of}
use Rattle.vh_links.specs.Views.{next_at, prev_at, nodes_from, lists_in, Goes, IsApart, IsClosed, Holds, Joins, node_of, nowhere}
use Rattle.vh_links.proofs.ListsLemmas.{has-head, has-right, has-left, has-parts, has-one, not_one, has-cases, has-without, apart-append, apart-left, apart-right, apart-both, apart-without, parted, without-none, without-at, behind-at, distinct, any-none, any-at, find-only, get_or-map, length-mapped, get_or-copies}
use Rattle.vh_links.proofs.JoinsLemmas.{next-same, prev-same, Misses, misses-anchor, misses-node, misses-head, misses-tail, last_position, last-other, prev-last, goes-on, goes-to, goes-append, goes-split, nodes-on_way}

-- What contracts see of links that hold lists
pub lists_in-is : (A : ℕ) (ls : List Link) (s : Lists) → Holds A ls s → lists_in A ls ≡ s
lists_in-is A ls s h =
    let short : (a : ℕ) → length (list_of a s) ≤ length ls =
    λ a. let most = length-le_from_distinct_below (list_of a s) s.nodes (distinct (list_of a s) (h.apart a)) (λ q e. h.inside a q e) in omega (arith, most, h.size) in
    let same = fill_by_all (λ a. nodes_from (length ls) A ls a) s.lists A [] h.count
    (λ a below. sym (nodes-on_way A ls (length ls) a (list_of a s) a (h.ring a below) below (short a))) in
    let nodes : length ls - A ≡ s.nodes = omega (arith, h.size) in
    ap (λ (xs : List (List ℕ)). record { lists = xs; nodes = length ls - A }) (sym same)
    ∙ ap (λ n. record { lists = s.lists; nodes = n }) nodes

pub holds-seen : (A : ℕ) (ls : List Link) (s : Lists) → Holds A ls s → Holds A ls (lists_in A ls)
holds-seen A ls s h = subst (λ (t : Lists). Holds A ls t) (sym (lists_in-is A ls s h)) h

-- A join between positions leaves links that lead to positions
pub joined-closed : (i j : ℕ) (ls ms : List Link) → Joins i j ls ms → i < length ls → j < length ls → IsClosed ls → IsClosed ms
joined-closed i j ls ms h left right all = record {
  next = λ k below.
      elim (eqb_tells k i) [
        | inl e ↦ let is : next_at ms k ≡ j = h.next k ∙ rw e.0 refl in omega (arith, is, h.size)
        | inr n ↦
            let is : next_at ms k ≡ next_at ls k = h.next k ∙ rw n.0 refl in
            omega (arith, is, h.size, all.next k (omega (arith, h.size)))
      ];
  prev = λ k below.
      elim (eqb_tells k j) [
        | inl e ↦ let is : prev_at ms k ≡ i = h.prev k ∙ rw e.0 refl in omega (arith, is, h.size)
        | inr n ↦
            let is : prev_at ms k ≡ prev_at ls k = h.prev k ∙ rw n.0 refl in
            omega (arith, is, h.size, all.prev k (omega (arith, h.size)))
      ];
}

-- Of each anchor's list, where one is another
pub by_list : (P : ℕ → List ℕ → Type 0) (s : Lists) (a : ℕ) (xs : List ℕ) → a < length s.lists → P a xs
    → ((b : ℕ) → (b ≡ a → ⊥) → P b (list_of b s)) → (b : ℕ) → P b (list_of b (with_list a xs s))
by_list P s a xs below p q b =
    elim (eqb_tells b a) [
      | inl e ↦
          let same : b ≡ a = e.1 in
          let is : list_of b (with_list a xs s) ≡ xs = ap (λ n. list_of n (with_list a xs s)) same ∙ get_or-set_same s.lists a xs [] below in
          subst (λ (zs : List ℕ). P b zs) (sym is) (subst (λ n. P n xs) (sym same) p)
      | inr n ↦
          let ne : b ≡ a → ⊥ = n.1 in
          subst (λ (zs : List ℕ). P b zs) (sym (get_or-set_other s.lists a b xs [] ne)) (q b ne)
    ]

-- No anchor has a node that is in no list
pub free-of : (x : ℕ) (s : Lists) → is_linked x s ≡ false → (a : ℕ) → has x (list_of a s) ≡ false
free-of x s h a = any-none (has x) s.lists a [] h refl

-- An anchor is no node's position
anchor-node : (A b x : ℕ) → b < A → b ≡ A + x → ⊥
anchor-node A b x h e = omega (arith, e)

-- A node that is in one list is in no other
in-other : (A : ℕ) (ls : List Link) (s : Lists) → Holds A ls s → (a b x : ℕ) → (b ≡ a → ⊥) → has x (list_of a s) ≡ true → has x (list_of b s) ≡ false
in-other A ls s h a b x ne k =
    has-cases (has x (list_of b s) ≡ false) x (list_of b s) (λ e. absurd (ne (h.once b a x e k))) (λ e. e)

-- The last position of a list is on no other list's way
last-free : (A a : ℕ) (xs : List ℕ) (b : ℕ) (ys : List ℕ) → a < A → b < A → (b ≡ a → ⊥)
    → ((x : ℕ) → has x xs ≡ true → has x ys ≡ false) → (b ≡ last_position A a xs → ⊥) × Misses A (last_position A a xs) ys
last-free A a xs b ys ha hb ne other = (
  λ e. last-other A a b xs (λ f. ne (sym f)) (misses-anchor A b xs hb) (sym e),
  λ y k e. last-other A a (A + y) xs (λ f. anchor-node A a y ha f)
      (λ z there f.
      let same : z ≡ y = omega (arith, f) in
      let lacks : has y ys ≡ false = other y (sym (ap (λ n. has n xs) same) ∙ there) in
      cc)
      (sym e),
)

-- A node appended to a list
pub holds-push : (A : ℕ) (ls ms ns : List Link) (s : Lists) (a x : ℕ) → Holds A ls s → a < A → x < s.nodes → is_linked x s ≡ false
    → Joins (prev_at ls a) (A + x) ls ms → Joins (A + x) a ms ns → Holds A ns (after_push a x s)
holds-push A ls ms ns s a x h below node unlinked j1 j2 =
    let L : List ℕ = list_of a s in
    let free = free-of x s unlinked in
    let last : prev_at ls a ≡ last_position A a L = prev-last A ls a L a (h.ring a below) in
    let j1' : Joins (last_position A a L) (A + x) ls ms = subst (λ n. Joins n (A + x) ls ms) last j1 in
    let inner : a < length s.lists = omega (arith, h.count) in
    let position : A + x < length ls = omega (arith, h.size) in
    let anchor : a < length ls = omega (arith, h.size) in
    let to_x : Goes A ms a L (A + x) = goes-to A ls ms a L a (A + x) (h.ring a below) j1' (misses-anchor A a L below) (h.apart a) (misses-node A x L (free a)) in
    let on : Goes A ns a L (A + x) =
    goes-on A ms ns a L (A + x) (A + x) a to_x j2 (λ e. anchor-node A a x below e) (misses-node A x L (free a)) (λ e. anchor-node A a x below (sym e)) (misses-anchor A a L below) in
    let own : Goes A ns a (L ++ x ∷ []) a = goes-append A ns a L x [] a on (next-same (A + x) a ms ns j2, prev-same (A + x) a ms ns j2) in
    let others : (b : ℕ) → (b ≡ a → ⊥) → b < A → Goes A ns b (list_of b s) b =
    λ b ne hb.
    let away = last-free A a L b (list_of b s) below hb ne (λ y k. in-other A ls s h a b y ne k) in
    goes-on A ms ns b (list_of b s) b (A + x) a
    (goes-on A ls ms b (list_of b s) b (last_position A a L) (A + x) (h.ring b hb) j1' away.0 away.1 (λ e. anchor-node A b x hb e) (misses-node A x (list_of b s) (free b)))
    j2 (λ e. anchor-node A b x hb e) (misses-node A x (list_of b s) (free b)) ne (misses-anchor A a (list_of b s) below) in
    let was : (b y : ℕ) → has y (list_of b (after_push a x s)) ≡ true → (has y (list_of b s) ≡ true → ⊥) → (b ≡ a) × (y ≡ x) =
    λ b. by_list (λ c zs. (y : ℕ) → has y zs ≡ true → (has y (list_of c s) ≡ true → ⊥) → (c ≡ a) × (y ≡ x)) s a (L ++ x ∷ []) inner
    (λ y k no. has-parts ((a ≡ a) × (y ≡ x)) y L (x ∷ []) k (λ e. absurd (no e)) (λ e. (refl, has-one y x e)))
    (λ c ne y k no. absurd (no k)) b in
    record {
      count = length-set s.lists a (L ++ x ∷ []) ∙ h.count;
      size = j2.size ∙ j1.size ∙ h.size;
      fits = h.fits;
      closed = joined-closed (A + x) a ms ns j2 (omega (arith, j1.size)) (omega (arith, j1.size))
          (joined-closed (prev_at ls a) (A + x) ls ms j1 (h.closed.prev a anchor) position h.closed);
      ring = by_list (λ b zs. b < A → Goes A ns b zs b) s a (L ++ x ∷ []) inner (λ _. own) others;
      inside = λ b y. by_list (λ c zs. has y zs ≡ true → y < s.nodes) s a (L ++ x ∷ []) inner
          (λ k. has-parts (y < s.nodes) y L (x ∷ []) k (λ e. h.inside a y e) (λ e. let same = has-one y x e in omega (arith, same)))
          (λ c ne k. h.inside c y k) b;
      once = λ b c y kb kc.
          has-cases (b ≡ c) y (list_of b s)
          (λ eb. has-cases (b ≡ c) y (list_of c s) (λ ec. h.once b c y eb ec)
          (λ nc. let new = was c y kc (λ e. cc) in let no : has y (list_of b s) ≡ false = ap (λ n. has n (list_of b s)) new.1 ∙ free b in cc))
          (λ nb. has-cases (b ≡ c) y (list_of c s)
          (λ ec. let new = was b y kb (λ e. cc) in let no : has y (list_of c s) ≡ false = ap (λ n. has n (list_of c s)) new.1 ∙ free c in cc)
          (λ nc. (was b y kb (λ e. cc)).0 ∙ sym (was c y kc (λ e. cc)).0));
      apart = by_list (λ b zs. IsApart zs) s a (L ++ x ∷ []) inner
          (apart-append L (x ∷ []) (h.apart a) (refl, tt) (λ y k. not_one y x (λ e. let no : has y L ≡ false = ap (λ n. has n L) e ∙ free a in cc)))
          (λ b ne. h.apart b);
    }

-- A node in a list is one of the nodes, and its position one of the links
pub linked-at : (A : ℕ) (ls : List Link) (s : Lists) → Holds A ls s → (x : ℕ) → is_linked x s ≡ true
    → (a : ℕ) × (a < A) × (has x (list_of a s) ≡ true) × (x < s.nodes) × (A + x < length ls)
linked-at A ls s h x linked =
    let at = any-at (has x) s.lists [] linked in
    let node = h.inside at.0 x at.2 in
    (at.0, omega (arith, at.1, h.count), at.2, node, omega (arith, node, h.size))

-- Where the list of an anchor lets a node go
pub record Parts (A : ℕ) (ls : List Link) (s : Lists) (x a : ℕ) : Type 0 where
  pub anchor : a < A
  pub front : List ℕ
  pub back : List ℕ
  pub list : list_of a s ≡ front ++ x ∷ back
  pub not_front : has x front ≡ false
  pub not_back : has x back ≡ false
  pub to : Goes A ls a front (A + x)
  pub from : Goes A ls (A + x) back a

pub parts-of : (A : ℕ) (ls : List Link) (s : Lists) → Holds A ls s → (x a : ℕ) → a < A → has x (list_of a s) ≡ true → Parts A ls s x a
parts-of A ls s h x a below there =
    let p = parted x (list_of a s) there in
    let ring : Goes A ls a (p.0 ++ x ∷ p.1) a = subst (λ (zs : List ℕ). Goes A ls a zs a) p.2 (h.ring a below) in
    let ways = goes-split A ls a p.0 x p.1 a ring in
    let apart : IsApart (p.0 ++ x ∷ p.1) = subst (λ (zs : List ℕ). IsApart zs) p.2 (h.apart a) in
    record {
      anchor = below;
      front = p.0;
      back = p.1;
      list = p.2;
      not_front = p.3;
      not_back = (apart-right p.0 (x ∷ p.1) apart).0;
      to = ways.0;
      from = ways.1;
    }

-- What each list becomes without a node
pub list_of-unlink : (x : ℕ) (s : Lists) (b : ℕ) → list_of b (after_unlink x s) ≡ without x (list_of b s)
list_of-unlink x s b = get_or-map (without x) s.lists b []

-- The way of a list without one of its nodes
cut-way : (A : ℕ) (ls ms : List Link) (a x : ℕ) (xs ys : List ℕ) → a < A → IsApart (xs ++ x ∷ ys) → Goes A ls a xs (A + x) → Goes A ls (A + x) ys a
    → Joins (prev_at ls (A + x)) (next_at ls (A + x)) ls ms → Goes A ms a (xs ++ ys) a
cut-way A ls ms a x xs [] below apart to from j =
    let last : prev_at ls (A + x) ≡ last_position A a xs = prev-last A ls a xs (A + x) to in
    let j1 : Joins (last_position A a xs) (next_at ls (A + x)) ls ms = subst (λ n. Joins n (next_at ls (A + x)) ls ms) last j in
    let j2 : Joins (last_position A a xs) a ls ms = subst (λ n. Joins (last_position A a xs) n ls ms) from.0 j1 in
    subst (λ (zs : List ℕ). Goes A ms a zs a) (sym (append-nil xs))
    (goes-to A ls ms a xs (A + x) a to j2 (misses-anchor A a xs below) (apart-left xs (x ∷ []) apart) (misses-anchor A a xs below))
cut-way A ls ms a x xs (y ∷ ys) below apart to from j =
    let last : prev_at ls (A + x) ≡ last_position A a xs = prev-last A ls a xs (A + x) to in
    let j1 : Joins (last_position A a xs) (next_at ls (A + x)) ls ms = subst (λ n. Joins n (next_at ls (A + x)) ls ms) last j in
    let j2 : Joins (last_position A a xs) (A + y) ls ms = subst (λ n. Joins (last_position A a xs) n ls ms) from.0 j1 in
    let rest = apart-right xs (x ∷ y ∷ ys) apart in
    let both = apart-both xs (x ∷ y ∷ ys) apart in
    let front-y : has y xs ≡ false =
    has-cases (has y xs ≡ false) y xs (λ e. let no = both y e in let there : has y (x ∷ y ∷ ys) ≡ true = has-right y (x ∷ []) (y ∷ ys) (has-head y ys) in cc) (λ e. e) in
    let back : (z : ℕ) → has z xs ≡ true → has z (y ∷ ys) ≡ false =
    λ z e. has-cases (has z (y ∷ ys) ≡ false) z (y ∷ ys) (λ k. let no = both z e in let there : has z (x ∷ y ∷ ys) ≡ true = has-right z (x ∷ []) (y ∷ ys) k in cc) (λ k. k) in
    let far : (k : ℕ) → has k (y ∷ ys) ≡ true → last_position A a xs ≡ A + k → ⊥ =
    λ k there e. last-other A a (A + k) xs (λ f. anchor-node A a k below f)
    (λ z in_front f.
    let same : z ≡ k = omega (arith, f) in
    let no : has k (y ∷ ys) ≡ false = back k (sym (ap (λ n. has n xs) same) ∙ in_front) in
    cc) e in
    goes-append A ms a xs y ys a
    (goes-to A ls ms a xs (A + x) (A + y) to j2 (misses-anchor A a xs below) (apart-left xs (x ∷ y ∷ ys) apart) (misses-node A y xs front-y))
    (goes-on A ls ms (A + y) ys a (last_position A a xs) (A + y) from.2 j2 (λ e. far y (has-head y ys) (sym e))
    (λ k there e. far k (has-right k (y ∷ []) ys there) (sym e)) (λ e. anchor-node A a y below e) (misses-node A y ys rest.1.0))

-- The position behind a node is on no other list's way
next-away : (A : ℕ) (ls : List Link) (s : Lists) → Holds A ls s → (a x : ℕ) (ys : List ℕ) (b : ℕ) → a < A → b < A → (b ≡ a → ⊥)
    → Goes A ls (A + x) ys a → ((y : ℕ) → has y ys ≡ true → has y (list_of a s) ≡ true)
    → (b ≡ next_at ls (A + x) → ⊥) × Misses A (next_at ls (A + x)) (list_of b s)
next-away A ls s h a x [] b ha hb ne from mine =
    (λ e. ne (e ∙ from.0), λ y k e. anchor-node A a y ha (sym (e ∙ from.0)))
next-away A ls s h a x (z ∷ zs) b ha hb ne from mine = (
  λ e. anchor-node A b z hb (e ∙ from.0),
  λ y k e.
      let same : z ≡ y = omega (arith, e ∙ from.0) in
      let no : has z (list_of b s) ≡ false = in-other A ls s h a b z ne (mine z (has-head z zs)) in
      let there : has z (list_of b s) ≡ true = ap (λ n. has n (list_of b s)) same ∙ k in
      cc,
)

-- A node taken out of its list
pub holds-unlink : (A : ℕ) (ls ms : List Link) (s : Lists) (x a : ℕ) → Holds A ls s → a < A → has x (list_of a s) ≡ true
    → Joins (prev_at ls (A + x)) (next_at ls (A + x)) ls ms → Holds A ms (after_unlink x s)
holds-unlink A ls ms s x a h below there j =
    let p = parts-of A ls s h x a below there in
    let node = h.inside a x there in
    let position : A + x < length ls = omega (arith, node, h.size) in
    let apart : IsApart (p.front ++ x ∷ p.back) = subst (λ (zs : List ℕ). IsApart zs) p.list (h.apart a) in
    let own : Goes A ms a (without x (list_of a s)) a =
    subst (λ (zs : List ℕ). Goes A ms a zs a) (sym (ap (without x) p.list ∙ without-at x p.front p.back p.not_front p.not_back))
    (cut-way A ls ms a x p.front p.back below apart p.to p.from j) in
    let front-in : (y : ℕ) → has y p.front ≡ true → has y (list_of a s) ≡ true =
    λ y e. ap (has y) p.list ∙ has-left y p.front (x ∷ p.back) e in
    let others : (b : ℕ) → (b ≡ a → ⊥) → b < A → Goes A ms b (without x (list_of b s)) b =
    λ b ne hb.
    let free : has x (list_of b s) ≡ false = in-other A ls s h a b x ne there in
    let last : prev_at ls (A + x) ≡ last_position A a p.front = prev-last A ls a p.front (A + x) p.to in
    let away = last-free A a p.front b (list_of b s) below hb ne (λ y k. in-other A ls s h a b y ne (front-in y k)) in
    let next-free = next-away A ls s h a x p.back b below hb ne p.from (λ y k. ap (has y) p.list ∙ has-right y p.front (x ∷ p.back) (has-right y (x ∷ []) p.back k)) in
    subst (λ (zs : List ℕ). Goes A ms b zs b) (sym (without-none x (list_of b s) free))
    (goes-on A ls ms b (list_of b s) b (prev_at ls (A + x)) (next_at ls (A + x)) (h.ring b hb) j
    (λ e. away.0 (e ∙ last)) (λ y k e. away.1 y k (e ∙ last)) next-free.0 next-free.1) in
    record {
      count = length-mapped (without x) s.lists ∙ h.count;
      size = j.size ∙ h.size;
      fits = h.fits;
      closed = joined-closed (prev_at ls (A + x)) (next_at ls (A + x)) ls ms j (h.closed.prev (A + x) position) (h.closed.next (A + x) position) h.closed;
      ring = λ b hb. subst (λ (zs : List ℕ). Goes A ms b zs b) (sym (list_of-unlink x s b))
          (elim (eqb_tells b a) [
            | inl e ↦ subst (λ n. Goes A ms n (without x (list_of n s)) n) (sym e.1) own
            | inr n ↦ others b n.1 hb
          ]);
      inside = λ b y k. h.inside b y (has-without x y (list_of b s) (ap (has y) (sym (list_of-unlink x s b)) ∙ k));
      once = λ b c y kb kc. h.once b c y (has-without x y (list_of b s) (ap (has y) (sym (list_of-unlink x s b)) ∙ kb))
          (has-without x y (list_of c s) (ap (has y) (sym (list_of-unlink x s c)) ∙ kc));
      apart = λ b. subst (λ (zs : List ℕ). IsApart zs) (sym (list_of-unlink x s b)) (apart-without x (list_of b s) (h.apart b));
    }

-- A list that leads away from its anchor has a first node
pub first-node : (A : ℕ) (ls : List Link) (i : ℕ) (xs : List ℕ) (j : ℕ) → Goes A ls i xs j → j < A → node_of A (next_at ls i) ≡ slice_get xs 0
first-node A ls i [] j g h = rw (g.0, lt-ltb j A h) refl
first-node A ls i (x ∷ xs) j g h =
    let far : A ≤ A + x = omega arith in
    let node : A + x - A ≡ x = omega arith in
    rw (g.0, le-ltb (A + x) A far, node) refl

pub next-is : (A : ℕ) (ls : List Link) (s : Lists) → Holds A ls s → (x : ℕ) → is_linked x s ≡ true → node_of A (next_at ls (A + x)) ≡ next_of x s
next-is A ls s h x linked =
    let at = linked-at A ls s h x linked in
    let p = parts-of A ls s h x at.0 at.1 at.2 in
    let found = find-only (has x) s.lists at.0 [] (omega (arith, h.count, at.1)) at.2 (λ j k. h.once j at.0 x k at.2) in
    first-node A ls (A + x) p.back at.0 p.from at.1
    ∙ sym (ap (λ (o : Option (List ℕ)). option_and_then (behind x) o) found ∙ ap (behind x) p.list ∙ behind-at x p.front p.back p.not_front)

-- No list has a node yet
pub holds-new : (A : ℕ) (ls : List Link) → length ls ≡ A → ((i : ℕ) → i < A → (next_at ls i ≡ i) × (prev_at ls i ≡ i))
    → Holds A ls (record { lists = replicate A []; nodes = 0 })
holds-new A ls size own =
    let none : (a : ℕ) → get_or (replicate A []) a [] ≡ [] = λ a. get_or-copies A [] a in
    record {
      count = length-replicate A [];
      size = omega (arith, size);
      fits = omega arith;
      closed = record {
        next = λ i below. let is = (own i (omega (arith, size))).0 in omega (arith, is);
        prev = λ i below. let is = (own i (omega (arith, size))).1 in omega (arith, is);
      };
      ring = λ a below. subst (λ (zs : List ℕ). Goes A ls a zs a) (sym (none a)) (own a below);
      inside = λ a x k. let no : has x (get_or (replicate A []) a []) ≡ false = ap (has x) (none a) in cc;
      once = λ a b x k l. let no : has x (get_or (replicate A []) a []) ≡ false = ap (has x) (none a) in cc;
      apart = λ a. subst (λ (zs : List ℕ). IsApart zs) (sym (none a)) tt;
    }

-- One position more
pub at-before : (ls : List Link) (l : Link) (k : ℕ) → k < length ls → (next_at (ls ++ l ∷ []) k ≡ next_at ls k) × (prev_at (ls ++ l ∷ []) k ≡ prev_at ls k)
at-before [] l k h = absurd (omega arith)
at-before (m ∷ ls) l zero h = (refl, refl)
at-before (m ∷ ls) l (suc k) h = at-before ls l k (omega arith)

pub at-end : (ls : List Link) (l : Link) → (next_at (ls ++ l ∷ []) (length ls) ≡ l.next) × (prev_at (ls ++ l ∷ []) (length ls) ≡ l.prev)
at-end [] l = (refl, refl)
at-end (m ∷ ls) l = at-end ls l

goes-longer : (A : ℕ) (ls : List Link) (l : Link) (i : ℕ) (xs : List ℕ) (j : ℕ) → i < length ls → j < length ls
    → ((x : ℕ) → has x xs ≡ true → A + x < length ls) → Goes A ls i xs j → Goes A (ls ++ l ∷ []) i xs j
goes-longer A ls l i [] j hi hj all g = ((at-before ls l i hi).0 ∙ g.0, (at-before ls l j hj).1 ∙ g.1)
goes-longer A ls l i (x ∷ xs) j hi hj all g =
    let hx = all x (has-head x xs) in (
      (at-before ls l i hi).0 ∙ g.0,
      (at-before ls l (A + x) hx).1 ∙ g.1,
      goes-longer A ls l (A + x) xs j hx hj (λ y k. all y (has-right y (x ∷ []) xs k)) g.2,
    )

position-next : (ls : List Link) (l : Link) → ((i : ℕ) → i < length ls → next_at ls i < length ls) → l.next ≡ length ls
    → (i : ℕ) → i < length (ls ++ l ∷ []) → length (ls ++ l ∷ []) ≡ length ls + 1 → next_at (ls ++ l ∷ []) i < length (ls ++ l ∷ [])
position-next ls l all e i below more =
    elim (eqb_tells i (length ls)) [
      | inl at ↦ let is = ap (next_at (ls ++ l ∷ [])) at.1 ∙ (at-end ls l).0 ∙ e in omega (arith, is, more)
      | inr n ↦
          let ne : i ≡ length ls → ⊥ = n.1 in
          let before : i < length ls = omega (arith, more) in
          let is = (at-before ls l i before).0 in
          omega (arith, is, all i before, more)
    ]

position-prev : (ls : List Link) (l : Link) → ((i : ℕ) → i < length ls → prev_at ls i < length ls) → l.prev ≡ length ls
    → (i : ℕ) → i < length (ls ++ l ∷ []) → length (ls ++ l ∷ []) ≡ length ls + 1 → prev_at (ls ++ l ∷ []) i < length (ls ++ l ∷ [])
position-prev ls l all e i below more =
    elim (eqb_tells i (length ls)) [
      | inl at ↦ let is = ap (prev_at (ls ++ l ∷ [])) at.1 ∙ (at-end ls l).1 ∙ e in omega (arith, is, more)
      | inr n ↦
          let ne : i ≡ length ls → ⊥ = n.1 in
          let before : i < length ls = omega (arith, more) in
          let is = (at-before ls l i before).1 in
          omega (arith, is, all i before, more)
    ]

pub holds-add : (A : ℕ) (ls : List Link) (s : Lists) → Holds A ls s → s.nodes < 2 ^ 32 - 1
    → Holds A (ls ++ record { prev = length ls; next = length ls } ∷ []) (after_add s)
holds-add A ls s h room =
    let l : Link = record { prev = length ls; next = length ls } in
    let more : length (ls ++ l ∷ []) ≡ length ls + 1 = length-append ls (l ∷ []) in
    record {
      count = h.count;
      size = omega (arith, more, h.size);
      fits = omega (arith, room);
      closed = record {
        next = λ i below. position-next ls l h.closed.next refl i below more;
        prev = λ i below. position-prev ls l h.closed.prev refl i below more;
      };
      ring = λ a below.
          let hi : a < length ls = omega (arith, h.size) in
          goes-longer A ls l a (list_of a s) a hi hi (λ x k. let node = h.inside a x k in omega (arith, node, h.size)) (h.ring a below);
      inside = λ a x k. let node = h.inside a x k in omega (arith, node);
      once = h.once;
      apart = h.apart;
    }

-- Nothing to move
pub move-none : (s : Lists) (f t : ℕ) → list_of f s ≡ [] → after_move f t s ≡ s
move-none s f t none =
    elim (eqb_tells f t) [
      | inl e ↦ rw e.0 refl
      | inr n ↦
          let same : set s.lists t (list_of t s ++ list_of f s) ≡ s.lists =
          ap (λ (zs : List ℕ). set s.lists t (list_of t s ++ zs)) none ∙ ap (λ (zs : List ℕ). set s.lists t zs) (append-nil (list_of t s)) ∙ set-get_or s.lists t [] in
          let emptied : set s.lists f [] ≡ s.lists = ap (λ (zs : List ℕ). set s.lists f zs) (sym none) ∙ set-get_or s.lists f [] in
          rw n.0 (ap (λ (xs : List (List ℕ)). record { lists = xs; nodes = s.nodes })
          (ap (λ (xs : List (List ℕ)). set xs f []) same ∙ emptied))
    ]

pub empty-list : (A : ℕ) (ls : List Link) (f : ℕ) (xs : List ℕ) → f < A → Goes A ls f xs f → next_at ls f ≡ f → xs ≡ []
empty-list A ls f [] h g e = refl
empty-list A ls f (x ∷ xs) h g e = absurd (anchor-node A f x h (sym e ∙ g.0))

-- The way of two lists, one behind the other, and of all others
pub record Moves (A : ℕ) (ms : List Link) (s : Lists) (f t : ℕ) : Type 0 where
  pub own : Goes A ms t (list_of t s ++ list_of f s) t
  pub rest : Goes A ms f [] f
  pub others : (b : ℕ) → (b ≡ f → ⊥) → (b ≡ t → ⊥) → b < A → Goes A ms b (list_of b s) b

move-ways : (A : ℕ) (ls m1 m2 m3 : List Link) (s : Lists) (f t : ℕ) (Lf : List ℕ) → Holds A ls s → list_of f s ≡ Lf → f < A → t < A → (f ≡ t → ⊥)
    → (next_at ls f ≡ f → ⊥) → Joins (prev_at ls t) (next_at ls f) ls m1 → Joins (prev_at ls f) t m1 m2 → Joins f f m2 m3 → Moves A m3 s f t
move-ways A ls m1 m2 m3 s f t [] h is hf ht ne some j1 j2 j3 =
    let g : Goes A ls f [] f = subst (λ (zs : List ℕ). Goes A ls f zs f) is (h.ring f hf) in absurd (some g.0)
move-ways A ls m1 m2 m3 s f t (y ∷ ys) h is hf ht ne some j1 j2 j3 =
    let Lt : List ℕ = list_of t s in
    let g : Goes A ls f (y ∷ ys) f = subst (λ (zs : List ℕ). Goes A ls f zs f) is (h.ring f hf) in
    let apart : IsApart (y ∷ ys) = subst (λ (zs : List ℕ). IsApart zs) is (h.apart f) in
    let mine : (x : ℕ) → has x (y ∷ ys) ≡ true → has x (list_of f s) ≡ true = λ x k. ap (has x) is ∙ k in
    let not_t : (x : ℕ) → has x (y ∷ ys) ≡ true → has x Lt ≡ false = λ x k. in-other A ls s h f t x (λ e. ne (sym e)) (mine x k) in
    let not_f : (x : ℕ) → has x Lt ≡ true → has x (y ∷ ys) ≡ false = λ x k. sym (ap (has x) is) ∙ in-other A ls s h t f x ne k in
    let lt : prev_at ls t ≡ last_position A t Lt = prev-last A ls t Lt t (h.ring t ht) in
    let lf : prev_at ls f ≡ last_position A (A + y) ys = prev-last A ls f (y ∷ ys) f g in
    let k1 : Joins (last_position A t Lt) (A + y) ls m1 = subst (λ n. Joins (last_position A t Lt) n ls m1) g.0 (subst (λ n. Joins n (next_at ls f) ls m1) lt j1) in
    let k2 : Joins (last_position A (A + y) ys) t m1 m2 = subst (λ n. Joins n t m1 m2) lf j2 in
    let y-not_t : Misses A (A + y) Lt = misses-node A y Lt (not_t y (has-head y ys)) in
    let y-once : Misses A (A + y) ys = misses-node A y ys apart.0 in
    let from-t = last-free A t Lt f (y ∷ ys) ht hf ne not_f in
    let from-f = last-free A f (y ∷ ys) t Lt hf ht (λ e. ne (sym e)) not_t in
    let t1 : Goes A m1 t Lt (A + y) = goes-to A ls m1 t Lt t (A + y) (h.ring t ht) k1 (misses-anchor A t Lt ht) (h.apart t) y-not_t in
    let f1 : Goes A m1 (A + y) ys f =
    goes-on A ls m1 (A + y) ys f (last_position A t Lt) (A + y) g.2 k1 (misses-head A (last_position A t Lt) y ys from-t.1) (misses-tail A (last_position A t Lt) y ys from-t.1)
    (λ e. anchor-node A f y hf e) y-once in
    let f2 : Goes A m2 (A + y) ys t = goes-to A m1 m2 (A + y) ys f t f1 k2 y-once apart.1 (misses-anchor A t ys ht) in
    let t2 : Goes A m2 t Lt (A + y) =
    goes-on A m1 m2 t Lt (A + y) (last_position A (A + y) ys) t t1 k2 from-f.0 from-f.1 (λ e. anchor-node A t y ht (sym e)) (misses-anchor A t Lt ht) in
    let t3 : Goes A m3 t Lt (A + y) =
    goes-on A m2 m3 t Lt (A + y) f f t2 j3 (λ e. ne (sym e)) (misses-anchor A f Lt hf) (λ e. anchor-node A f y hf (sym e)) (misses-anchor A f Lt hf) in
    let f3 : Goes A m3 (A + y) ys t =
    goes-on A m2 m3 (A + y) ys t f f f2 j3 (λ e. anchor-node A f y hf (sym e)) (misses-anchor A f ys hf) (λ e. ne (sym e)) (misses-anchor A f ys hf) in
    record {
      own = subst (λ (zs : List ℕ). Goes A m3 t (Lt ++ zs) t) (sym is) (goes-append A m3 t Lt y ys t t3 f3);
      rest = (next-same f f m2 m3 j3, prev-same f f m2 m3 j3);
      others = λ b nf nt hb.
          let Lb : List ℕ = list_of b s in
          let away-t = last-free A t Lt b Lb ht hb nt (λ x k. in-other A ls s h t b x nt k) in
          let away-f = last-free A f (y ∷ ys) b Lb hf hb nf (λ x k. in-other A ls s h f b x nf (mine x k)) in
          let y-not_b : Misses A (A + y) Lb = misses-node A y Lb (in-other A ls s h f b y nf (mine y (has-head y ys))) in
          let b1 = goes-on A ls m1 b Lb b (last_position A t Lt) (A + y) (h.ring b hb) k1 away-t.0 away-t.1 (λ e. anchor-node A b y hb e) y-not_b in
          let b2 = goes-on A m1 m2 b Lb b (last_position A (A + y) ys) t b1 k2 away-f.0 away-f.1 nt (misses-anchor A t Lb ht) in
          goes-on A m2 m3 b Lb b f f b2 j3 nf (misses-anchor A f Lb hf) nf (misses-anchor A f Lb hf);
    }

-- A list appended to another, and emptied
pub holds-move : (A : ℕ) (ls m1 m2 m3 : List Link) (s : Lists) (f t : ℕ) → Holds A ls s → f < A → t < A → (f ≡ t → ⊥)
    → (next_at ls f ≡ f → ⊥) → Joins (prev_at ls t) (next_at ls f) ls m1 → Joins (prev_at ls f) t m1 m2 → Joins f f m2 m3
    → Holds A m3 (after_move f t s)
holds-move A ls m1 m2 m3 s f t h hf ht ne some j1 j2 j3 =
    let w = move-ways A ls m1 m2 m3 s f t (list_of f s) h refl hf ht ne some j1 j2 j3 in
    let L : List ℕ = list_of t s ++ list_of f s in
    let s1 : Lists = with_list t L s in
    let moved : after_move f t s ≡ with_list f [] s1 = rw (ne_eqb f t ne) refl in
    let inner-t : t < length s.lists = omega (arith, h.count) in
    let inner-f : f < length s1.lists = omega (arith, length-set s.lists t L, h.count) in
    let by_two : (P : ℕ → List ℕ → Type 0) → P f [] → P t L → ((b : ℕ) → (b ≡ f → ⊥) → (b ≡ t → ⊥) → P b (list_of b s))
    → (b : ℕ) → P b (list_of b (with_list f [] s1)) =
    λ P pf pt po. by_list P s1 f [] inner-f pf
    (λ b nf. by_list (λ c zs. (c ≡ f → ⊥) → P c zs) s t L inner-t (λ no. pt) (λ c nt no. po c no nt) b nf) in
    let came : (b y : ℕ) → has y (list_of b (with_list f [] s1)) ≡ true
    → (b ≡ f → ⊥) × ((c : ℕ) × (has y (list_of c s) ≡ true) × ((c ≡ b) ⊎ ((c ≡ f) × (b ≡ t)))) =
    by_two (λ b zs. (y : ℕ) → has y zs ≡ true → (b ≡ f → ⊥) × ((c : ℕ) × (has y (list_of c s) ≡ true) × ((c ≡ b) ⊎ ((c ≡ f) × (b ≡ t)))))
    (λ y k. cc)
    (λ y k. (
      λ e. ne (sym e),
      has-parts ((c : ℕ) × (has y (list_of c s) ≡ true) × ((c ≡ t) ⊎ ((c ≡ f) × (t ≡ t)))) y (list_of t s) (list_of f s) k
          (λ e. (t, e, inl refl)) (λ e. (f, e, inr (refl, refl))),
    ))
    (λ b nf nt y k. (nf, (b, k, inl refl))) in
    subst (λ (u : Lists). Holds A m3 u) (sym moved) (record {
      count = length-set s1.lists f [] ∙ length-set s.lists t L ∙ h.count;
      size = j3.size ∙ j2.size ∙ j1.size ∙ h.size;
      fits = h.fits;
      closed =
          joined-closed f f m2 m3 j3 (omega (arith, j1.size, j2.size, h.size)) (omega (arith, j1.size, j2.size, h.size))
          (joined-closed (prev_at ls f) t m1 m2 j2 (let k = h.closed.prev f (omega (arith, h.size)) in omega (arith, k, j1.size)) (omega (arith, j1.size, h.size))
          (joined-closed (prev_at ls t) (next_at ls f) ls m1 j1 (h.closed.prev t (omega (arith, h.size))) (h.closed.next f (omega (arith, h.size))) h.closed));
      ring = by_two (λ b zs. b < A → Goes A m3 b zs b) (λ _. w.rest) (λ _. w.own) w.others;
      inside = by_two (λ b zs. (y : ℕ) → has y zs ≡ true → y < s.nodes) (λ y k. cc)
          (λ y k. has-parts (y < s.nodes) y (list_of t s) (list_of f s) k (λ e. h.inside t y e) (λ e. h.inside f y e)) (λ b nf nt y k. h.inside b y k);
      once = λ b c y kb kc.
          let ob = came b y kb in
          let oc = came c y kc in
          let same = h.once ob.1.0 oc.1.0 y ob.1.1 oc.1.1 in
          elim ob.1.2 [
            | inl e ↦ elim oc.1.2 [ inl g ↦ sym e ∙ same ∙ g | inr g ↦ absurd (ob.0 (sym e ∙ same ∙ g.0)) ]
            | inr e ↦ elim oc.1.2 [ inl g ↦ absurd (oc.0 (sym g ∙ sym same ∙ e.0)) | inr g ↦ e.1 ∙ sym g.1 ]
          ];
      apart = by_two (λ b zs. IsApart zs) tt (apart-append (list_of t s) (list_of f s) (h.apart t) (h.apart f) (λ y k. in-other A ls s h t f y ne k))
          (λ b nf nt. h.apart b);
    })

pub move-same : (s : Lists) (f t : ℕ) → f ≡ t → s ≡ after_move f t s
move-same s f t e = rw (eq-eqb f t e) refl

get_or-same : (ls : List Link) (i : ℕ) (l m : Link) → i < length ls → get_or ls i l ≡ get_or ls i m
get_or-same [] i l m h = absurd (omega arith)
get_or-same (x ∷ ls) zero l m h = refl
get_or-same (x ∷ ls) (suc i) l m h = get_or-same ls i l m (omega arith)

-- What the code reads at a position
pub read-at : (ls : List Link) (i : ℕ) (l : Link) → i < length ls → l ≡ get_or ls i l → l ≡ get_or ls i nowhere
read-at ls i l below e = e ∙ get_or-same ls i l nowhere below
