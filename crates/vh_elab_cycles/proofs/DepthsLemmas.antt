-- Lemmas on `specs/Depths.antt`: depths that follow from themselves are those that count, and numbers by so much higher change none.
use Rattle.std.proofs.Common.{◌≡◌, ◌≢◌, ◌∙◌, ◌+◌, ◌-◌, ◌≤◌, ◌<◌, ℕ, zero, suc, max, min, Bool, true, false, ◌||◌, ◌&&◌, cond, eqb, leb, nat_eq, List, [], ◌∷◌, ◌++◌, length, map, replicate, get_or, drop, drop-cons, Option, Some, None, is_some, refl, sym, ap, subst, arith}
use Rattle.std.proofs.lemmas.List.{append_assoc, length-map, map-append, length-set, length-replicate, get_or-set_same, get_or-set_other}
use Rattle.std.proofs.lemmas.Bool.Decides.{Decides-eqb, Decides-ltb, nat_tests}
use Rattle.vh_elab_cycles.specs.Cycles.{Edge, leads, first_from, first_on_cycle}
use Rattle.vh_elab_cycles.specs.Depths.{over_ends, depth_of, depths_of}
use Rattle.vh_elab_cycles.specs.Laid.{NotBelow, all_deepened, deepened, depth_behind, depth_in, least_from, nodes_from, raised}
use Rattle.vh_elab_cycles.specs.Views.{edge_seen, edges_seen}
use Rattle.vh_elab_cycles.specs.declared.edge.Edge as of
use Rattle.vh_elab_cycles.proofs.CyclesLemmas.{same_tests}
use Rattle.vh_elab_cycles.proofs.LaidLemmas.{Within, nodes-within}

-- The same depths of ends, the same of beginnings.
pub over-same : (d f : ℕ → ℕ) → ((y : ℕ) → d y ≡ f y) → (es : List Edge) (x : ℕ) → over_ends d es x ≡ over_ends f es x
over-same d f h [] x = refl
over-same d f h (e ∷ es) x = at_test (eqb e.0 x) (over-same d f h es x)
  where
    at_test : (b : Bool) → over_ends d es x ≡ over_ends f es x
        → cond b (max (d e.1 + 1) (over_ends d es x)) (over_ends d es x) ≡ cond b (max (f e.1 + 1) (over_ends f es x)) (over_ends f es x)
    at_test true rest = let here = h e.1 in omega arith
    at_test false rest = rest

-- The same where they are low enough.
over-upto : (d f : ℕ → ℕ) (n : ℕ) → ((y : ℕ) → f y ≤ n → d y ≡ f y) → (es : List Edge) (x : ℕ) → over_ends f es x ≤ n + 1
    → over_ends d es x ≡ over_ends f es x
over-upto d f n h [] x low = refl
over-upto d f n h (e ∷ es) x low = at_test (eqb e.0 x) (λ l. over-upto d f n h es x l) low
  where
    at_test : (b : Bool) → (over_ends f es x ≤ n + 1 → over_ends d es x ≡ over_ends f es x)
        → cond b (max (f e.1 + 1) (over_ends f es x)) (over_ends f es x) ≤ n + 1
        → cond b (max (d e.1 + 1) (over_ends d es x)) (over_ends d es x) ≡ cond b (max (f e.1 + 1) (over_ends f es x)) (over_ends f es x)
    at_test true rest most =
        let here : d e.1 ≡ f e.1 = h e.1 (omega (arith, most)) in
        let there : over_ends d es x ≡ over_ends f es x = rest (omega (arith, most)) in
        omega (arith, here, there)
    at_test false rest most = rest most

-- Depths that follow from themselves.
pub depths-follow : (D : ℕ → ℕ) (es : List Edge) → ((x : ℕ) → over_ends D es x ≡ D x) → (n x : ℕ) → D x ≤ n → D x ≡ depth_of n es x
unfolding depth_of
depths-follow D es h zero x low = omega (arith, low)
depths-follow D es h (suc n) x low =
    sym (over-upto (depth_of n es) D n (λ y l. sym (depths-follow D es h n y l)) es x (omega (arith, h x, low)) ∙ h x)

at-next : (d : ℕ → ℕ) (n : ℕ) (es : List Edge) → ((y : ℕ) → d y ≡ depth_of n es y) → (x : ℕ)
    → over_ends d es x ≡ depth_of (suc n) es x
unfolding depth_of
at-next d n es h x = over-same d (depth_of n es) h es x

pub depth-next : (d : ℕ → ℕ) (n : ℕ) (es : List Edge) → ((y : ℕ) → d y ≡ depth_of n es y) → (x : ℕ)
    → over_ends d es x ≡ depth_of (n + 1) es x
depth-next d n es h x =
    let one : suc n ≡ n + 1 = omega arith in
    at-next d n es h x ∙ ap (λ (m : ℕ). depth_of m es x) one

pub depth-first : (es : List Edge) (x : ℕ) → depth_of 0 es x ≡ 0
unfolding depth_of
depth-first es x = refl

over-within : (d : ℕ → ℕ) (n : ℕ) → ((y : ℕ) → d y ≤ n) → (es : List Edge) (x : ℕ) → over_ends d es x ≤ n + 1
over-within d n h [] x = omega arith
over-within d n h (e ∷ es) x = at_test (eqb e.0 x) (over-within d n h es x)
  where
    at_test : (b : Bool) → over_ends d es x ≤ n + 1 → cond b (max (d e.1 + 1) (over_ends d es x)) (over_ends d es x) ≤ n + 1
    at_test true rest = let here = h e.1 in omega arith
    at_test false rest = rest

-- None is above the bound.
pub depth-within : (n : ℕ) (es : List Edge) (x : ℕ) → depth_of n es x ≤ n
unfolding depth_of
depth-within zero es x = omega arith
depth-within (suc n) es x = let most = over-within (depth_of n es) n (λ y. depth-within n es y) es x in omega (arith, most)

pub all-depths-within : (n : ℕ) (es : List Edge) (xs : List ℕ) (k : ℕ) → get_or (map (depth_of n es) xs) k 0 ≤ n
all-depths-within n es [] k = omega arith
all-depths-within n es (x ∷ xs) zero = depth-within n es x
all-depths-within n es (x ∷ xs) (suc k) = all-depths-within n es xs k

-- What the code computes of a table.
pub all-deepened : (D next : List ℕ) (es : List Edge) → Within (length next) es → (x : ℕ)
    → get_or (all_deepened D next es) x 0 ≡ max (get_or next x 0) (over_ends (depth_in D) es x)
all-deepened D next [] w x = omega arith
all-deepened D next (e ∷ es) w x =
    let v = max (get_or next e.0 0) (depth_in D e.1 + 1) in
    let same : length (deepened D next e) ≡ length next = length-set next e.0 v in
    let P : ℕ → Type 0 = λ n. Within n es in
    all-deepened D (deepened D next e) es (subst P (sym same) w.2) x ∙ at_test (eqb e.0 x) refl
  where
    at_test : (b : Bool) → eqb e.0 x ≡ b
        → max (get_or (deepened D next e) x 0) (over_ends (depth_in D) es x)
        ≡ max (get_or next x 0) (cond b (max (depth_in D e.1 + 1) (over_ends (depth_in D) es x)) (over_ends (depth_in D) es x))
    at_test true is =
        let same : e.0 ≡ x = (Decides-eqb e.0 x).0 is in
        let here : get_or (deepened D next e) e.0 0 ≡ max (get_or next e.0 0) (depth_in D e.1 + 1) =
        get_or-set_same next e.0 (max (get_or next e.0 0) (depth_in D e.1 + 1)) 0 w.0 in
        let there : get_or (deepened D next e) x 0 ≡ max (get_or next x 0) (depth_in D e.1 + 1) =
        subst (λ (y : ℕ). get_or (deepened D next e) y 0 ≡ max (get_or next y 0) (depth_in D e.1 + 1)) same here in
        omega (arith, there)
    at_test false is =
        let other : x ≢ e.0 = λ same. absurd (grind (nat_tests, arith, same)) in
        let there : get_or (deepened D next e) x 0 ≡ get_or next x 0 =
        get_or-set_other next e.0 x (max (get_or next e.0 0) (depth_in D e.1 + 1)) 0 other in
        omega (arith, there)

none-deep : (n x : ℕ) → get_or {A = ℕ} (replicate n 0) x 0 ≡ 0
none-deep zero x = refl
none-deep (suc n) zero = refl
none-deep (suc n) (suc x) = none-deep n x

pub next-depths : (D next : List ℕ) (es : List Edge) → next ≡ all_deepened D (replicate (nodes_from 0 es) 0) es → (x : ℕ)
    → get_or next x 0 ≡ over_ends (depth_in D) es x
next-depths D next es is x =
    let n = nodes_from 0 es in
    let none : List ℕ = replicate n 0 in
    let count : length none ≡ n = length-replicate n 0 in
    let P : ℕ → Type 0 = λ m. Within m es in
    let all = all-deepened D none es (subst P (sym count) (nodes-within 0 es)) x in
    let least : max 0 (over_ends (depth_in D) es x) ≡ over_ends (depth_in D) es x = omega arith in
    ap (λ (t : List ℕ). get_or t x 0) is ∙ all ∙ ap (λ (m : ℕ). max m (over_ends (depth_in D) es x)) (none-deep n x) ∙ least

-- Numbers by so much higher.
same-raised : (b x y : ℕ) → eqb (x + b) (y + b) ≡ eqb x y
same-raised b x y =
    same_tests (eqb (x + b) (y + b)) (eqb x y)
    (λ h. (Decides-eqb x y).1 (let is = (Decides-eqb (x + b) (y + b)).0 h in omega (arith, is)))
    (λ h. (Decides-eqb (x + b) (y + b)).1 (let is = (Decides-eqb x y).0 h in omega (arith, is)))

over-raised : (b : ℕ) (d f : ℕ → ℕ) → ((y : ℕ) → d (y + b) ≡ f y) → (es : List Edge) (x : ℕ)
    → over_ends d (raised b es) (x + b) ≡ over_ends f es x
over-raised b d f h [] x = refl
over-raised b d f h (e ∷ es) x =
    ap (λ (t : Bool). cond t (max (d (e.1 + b) + 1) (over_ends d (raised b es) (x + b))) (over_ends d (raised b es) (x + b))) (same-raised b e.0 x)
    ∙ at_test (eqb e.0 x) (over-raised b d f h es x)
  where
    at_test : (t : Bool) → over_ends d (raised b es) (x + b) ≡ over_ends f es x
        → cond t (max (d (e.1 + b) + 1) (over_ends d (raised b es) (x + b))) (over_ends d (raised b es) (x + b))
        ≡ cond t (max (f e.1 + 1) (over_ends f es x)) (over_ends f es x)
    at_test true rest = let here = h e.1 in omega (arith, here, rest)
    at_test false rest = rest

pub depth-raised : (b n : ℕ) (es : List Edge) (x : ℕ) → depth_of n (raised b es) (x + b) ≡ depth_of n es x
unfolding depth_of
depth-raised b zero es x = refl
depth-raised b (suc n) es x =
    over-raised b (depth_of n (raised b es)) (depth_of n es) (λ y. depth-raised b n es y) es x

over-below : (b : ℕ) (d : ℕ → ℕ) (es : List Edge) (x : ℕ) → x < b → over_ends d (raised b es) x ≡ 0
over-below b d [] x low = refl
over-below b d (e ∷ es) x low = at_test (eqb (e.0 + b) x) refl (over-below b d es x low)
  where
    at_test : (t : Bool) → eqb (e.0 + b) x ≡ t → over_ends d (raised b es) x ≡ 0
        → cond t (max (d (e.1 + b) + 1) (over_ends d (raised b es) x)) (over_ends d (raised b es) x) ≡ 0
    at_test true is rest = let same = (Decides-eqb (e.0 + b) x).0 is in absurd (omega (arith, same, low))
    at_test false is rest = rest

pub depth-below : (b n : ℕ) (es : List Edge) (x : ℕ) → x < b → depth_of n (raised b es) x ≡ 0
unfolding depth_of
depth-below b zero es x low = refl
depth-below b (suc n) es x low = over-below b (depth_of n (raised b es)) es x low

leads-raised : (b : ℕ) (es : List Edge) (x y : ℕ) → leads nat_eq (raised b es) (x + b) (y + b) ≡ leads nat_eq es x y
unfolding leads
leads-raised b [] x y = same-raised b x y
leads-raised b (e ∷ es) x y =
    let P : Bool → Bool → Bool → Bool = λ p q r. p || (q && r) in
    ap (λ (p : Bool). P p (leads nat_eq (raised b es) (x + b) (e.0 + b)) (leads nat_eq (raised b es) (e.1 + b) (y + b))) (leads-raised b es x y)
    ∙ ap (λ (q : Bool). P (leads nat_eq es x y) q (leads nat_eq (raised b es) (e.1 + b) (y + b))) (leads-raised b es x e.0)
    ∙ ap (λ (r : Bool). P (leads nat_eq es x y) (leads nat_eq es x e.0) r) (leads-raised b es e.1 y)

first-raised : (b k : ℕ) (all es : List Edge) → first_from k (raised b all) (raised b es) ≡ first_from k all es
first-raised b k all [] = refl
first-raised b k all (e ∷ es) =
    ap (λ (t : Bool). cond t (Some k) (first_from (suc k) (raised b all) (raised b es))) (leads-raised b all e.1 e.0)
    ∙ ap (λ (o : Option ℕ). cond (leads nat_eq all e.1 e.0) (Some k) o) (first-raised b (suc k) all es)

pub cycle-raised : (b : ℕ) (es : List Edge) → first_on_cycle (raised b es) ≡ first_on_cycle es
cycle-raised b es = first-raised b 0 es es

pub length-raised : (b : ℕ) (es : List Edge) → length (raised b es) ≡ length es
length-raised b [] = refl
length-raised b (e ∷ es) = ap suc (length-raised b es)

pub raised-more : (b : ℕ) (es : List Edge) (e : Edge) → raised b (es ++ e ∷ []) ≡ raised b es ++ (e.0 + b, e.1 + b) ∷ []
raised-more b [] e = refl
raised-more b (d ∷ es) e = ap (λ r. (d.0 + b, d.1 + b) ∷ r) (raised-more b es e)

-- One edge more, whose numbers are lowered.
pub lowered-more : (b i : ℕ) (d : of.Edge) (low new es : List of.Edge) → i < length es → b ≤ (get_or es i d).from → b ≤ (get_or es i d).to
    → new ≡ low ++ record { from = (get_or es i d).from - b; to = (get_or es i d).to - b } ∷ []
    → raised b (edges_seen new) ++ edges_seen (drop (i + 1) es) ≡ raised b (edges_seen low) ++ edges_seen (drop i es)
lowered-more b i d low new es l from to is =
    ap (λ (v : List of.Edge). raised b (edges_seen v) ++ edges_seen (drop (i + 1) es)) is
    ∙ ap (λ (v : List Edge). raised b v ++ edges_seen (drop (i + 1) es)) (map-append edge_seen low (one ∷ []))
    ∙ ap (λ (v : List Edge). v ++ edges_seen (drop (i + 1) es)) (raised-more b (edges_seen low) (edge_seen one))
    ∙ append_assoc (raised b (edges_seen low)) ((one.from + b, one.to + b) ∷ []) (edges_seen (drop (i + 1) es))
    ∙ ap (λ (e : Edge). raised b (edges_seen low) ++ e ∷ edges_seen (drop (i + 1) es)) back
    ∙ ap (λ (v : List of.Edge). raised b (edges_seen low) ++ edges_seen v) (sym rest)
  where
    one : of.Edge
    one = record { from = (get_or es i d).from - b; to = (get_or es i d).to - b }

    rest : drop i es ≡ get_or es i d ∷ drop (i + 1) es
    rest =
        let next : suc i ≡ i + 1 = omega arith in
        drop-cons es i d l ∙ ap (λ (k : ℕ). get_or es i d ∷ drop k es) next

    back : (one.from + b, one.to + b) ≡ edge_seen (get_or es i d)
    back =
        let left : (get_or es i d).from - b + b ≡ (get_or es i d).from = omega (arith, from) in
        let right : (get_or es i d).to - b + b ≡ (get_or es i d).to = omega (arith, to) in
        ap (λ (n : ℕ). (n, (get_or es i d).to - b + b)) left ∙ ap (λ (n : ℕ). ((get_or es i d).from, n)) right

-- No node is below the least.
least-most : (n : ℕ) (es : List Edge) → least_from n es ≤ n
least-most n [] = omega arith
least-most n (e ∷ es) = let rest = least-most (min (min n e.0) e.1) es in omega (arith, rest)

pub least-below : (n : ℕ) (es : List Edge) → NotBelow (least_from n es) es
least-below n [] k d h = absurd (omega (arith, h))
least-below n (e ∷ es) zero d h = let most = least-most (min (min n e.0) e.1) es in (omega (arith, most), omega (arith, most))
least-below n (e ∷ es) (suc k) d h = least-below (min (min n e.0) e.1) es k d (omega (arith, h))

pub not-below-seen : (b : ℕ) (es : List of.Edge) → NotBelow b (edges_seen es) → (k : ℕ) (d : of.Edge) → k < length es
    → (b ≤ (get_or es k d).from) × (b ≤ (get_or es k d).to)
not-below-seen b [] h k d l = absurd (omega (arith, l))
not-below-seen b (e ∷ es) h zero d l = h 0 (edge_seen e) (omega arith)
not-below-seen b (e ∷ es) h (suc k) d l = not-below-seen b es (λ j c m. h (suc j) c (omega (arith, m))) k d (omega (arith, l))

-- A table that begins with a node.
pub depth-behind : (b : ℕ) (D : List ℕ) (n : ℕ) (es : List Edge) → ((x : ℕ) → get_or D x 0 ≡ depth_of n es x) → (x : ℕ)
    → depth_behind b D x ≡ depth_of n (raised b es) x
depth-behind b D n es h x = at_test (leb (suc x) b) refl
  where
    at_test : (t : Bool) → leb (suc x) b ≡ t → cond t 0 (depth_in D (x - b)) ≡ depth_of n (raised b es) x
    at_test true is =
        sym (depth-below b n es x ((Decides-ltb x b).0 is))
    at_test false is =
        let back : (x - b) + b ≡ x = grind (nat_tests, arith, is) in
        h (x - b) ∙ sym (depth-raised b n es (x - b)) ∙ ap (λ (y : ℕ). depth_of n (raised b es) y) back

pub all-behind : (b : ℕ) (D : List ℕ) (n : ℕ) (es : List Edge) → ((x : ℕ) → get_or D x 0 ≡ depth_of n es x) → (xs : List ℕ)
    → map (depth_behind b D) xs ≡ map (depth_of n (raised b es)) xs
all-behind b D n es h [] = refl
all-behind b D n es h (x ∷ xs) =
    ap (λ (y : ℕ). y ∷ map (depth_behind b D) xs) (depth-behind b D n es h x)
    ∙ ap (λ (ys : List ℕ). depth_of n (raised b es) x ∷ ys) (all-behind b D n es h xs)

-- The answers, by the edges as they are held.
seen-depths : (D : List ℕ) (low : List of.Edge) → ((x : ℕ) → get_or D x 0 ≡ depth_of (length low) (edges_seen low) x)
    → (x : ℕ) → get_or D x 0 ≡ depth_of (length (edges_seen low)) (edges_seen low) x
seen-depths D low h x = h x ∙ ap (λ (n : ℕ). depth_of n (edges_seen low) x) (sym (length-map low edge_seen))

pub no-depths : (b : ℕ) (low : List of.Edge) (es : List Edge) (xs : List ℕ) → raised b (edges_seen low) ≡ es
    → is_some (first_on_cycle (edges_seen low)) ≡ true → None ≡ depths_of es xs
no-depths b low es xs is h =
    subst (λ (v : List Edge). None ≡ depths_of v xs) is
    (sym (ap (λ (t : Bool). cond t None (Some (map (depth_of (length (raised b (edges_seen low))) (raised b (edges_seen low))) xs)))
    (ap is_some (cycle-raised b (edges_seen low)) ∙ h)))

pub depths-are : (b : ℕ) (low : List of.Edge) (es : List Edge) (xs D found : List ℕ) → raised b (edges_seen low) ≡ es
    → is_some (first_on_cycle (edges_seen low)) ≡ false → ((x : ℕ) → get_or D x 0 ≡ depth_of (length low) (edges_seen low) x)
    → found ≡ map (depth_behind b D) xs → Some found ≡ depths_of es xs
depths-are b low es xs D found is none h by =
    let ls : List Edge = edges_seen low in
    subst (λ (v : List Edge). Some found ≡ depths_of v xs) is
    (ap Some (by ∙ all-behind b D (length ls) ls (seen-depths D low h) xs)
    ∙ ap (λ (n : ℕ). Some (map (depth_of n (raised b ls)) xs)) (sym (length-raised b ls))
    ∙ sym (ap (λ (t : Bool). cond t None (Some (map (depth_of (length (raised b ls)) (raised b ls)) xs)))
    (ap is_some (cycle-raised b ls) ∙ none)))

pub depths-low : (b : ℕ) (low edges : List of.Edge) (xs D found : List ℕ) → raised b (edges_seen low) ≡ edges_seen edges
    → ((x : ℕ) → get_or D x 0 ≡ depth_of (length low) (edges_seen low) x)
    → found ≡ map (depth_behind b D) xs → (k : ℕ) → get_or found k 0 ≤ length edges
depths-low b low edges xs D found is h by k =
    let ls : List Edge = edges_seen low in
    let same : found ≡ map (depth_of (length ls) (raised b ls)) xs = by ∙ all-behind b D (length ls) ls (seen-depths D low h) xs in
    let size : length ls ≡ length edges = sym (length-raised b ls) ∙ ap length is ∙ length-map edges edge_seen in
    let most : get_or (map (depth_of (length ls) (raised b ls)) xs) k 0 ≤ length ls = all-depths-within (length ls) (raised b ls) xs k in
    let here : get_or found k 0 ≡ get_or (map (depth_of (length ls) (raised b ls)) xs) k 0 = ap (λ (t : List ℕ). get_or t k 0) same in
    omega (arith, size, most, here)
