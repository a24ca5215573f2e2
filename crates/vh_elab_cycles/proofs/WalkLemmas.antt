-- Lemmas on the walk of `specs/Laid.antt`: what is seen is led to, and when nothing waits all of that is seen.
use Rattle.std.proofs.Common.{◌≡◌, ◌⊎◌, ◌∙◌, ◌++◌, ◌+◌, ◌*◌, ◌≤◌, ◌<◌, ℕ, zero, suc, Bool, true, false, cond, eqb, nat_eq, List, [], ◌∷◌, length, get_or, set, replicate, refl, sym, ap, subst, inl, inr, ⊎_elim, arith}
use Rattle.std.proofs.lemmas.List.{length-append, length-set, length-replicate, get_or_default, get_or-set_same}
use Rattle.vh_elab_cycles.specs.Cycles.{Edge, leads}
use Rattle.vh_elab_cycles.specs.Laid.{Walk, ends_from, see, see_all}
use Rattle.vh_elab_cycles.proofs.LaidLemmas.{Within}
use Rattle.vh_elab_cycles.proofs.CyclesLemmas.{Kept, leads-itself, leads-joined, leads-kept, leads-more, leads-over, same-nodes, same-itself, same_tests}

-- All of some nodes pass a test.
abbrev pub Each : (ℕ → Bool) → List ℕ → Type 0
Each P [] = Unit {0}
Each P (x ∷ xs) = (P x ≡ true) × Each P xs

-- A node is one of some.
abbrev pub In : List ℕ → ℕ → Type 0
In [] x = ⊥
In (y ∷ ys) x = (y ≡ x) ⊎ In ys x

each-push : (P : ℕ → Bool) (xs : List ℕ) (x : ℕ) → Each P xs → P x ≡ true → Each P (xs ++ x ∷ [])
each-push P [] x e h = (h, tt)
each-push P (y ∷ ys) x e h = (e.0, each-push P ys x e.1 h)

each-pop : (P : ℕ → Bool) (xs : List ℕ) (x : ℕ) → Each P (xs ++ x ∷ []) → Each P xs × (P x ≡ true)
each-pop P [] x e = (tt, e.0)
each-pop P (y ∷ ys) x e = let rest = each-pop P ys x e.1 in ((e.0, rest.0), rest.1)

each-weaker : (P Q : ℕ → Bool) → ((x : ℕ) → P x ≡ true → Q x ≡ true) → (xs : List ℕ) → Each P xs → Each Q xs
each-weaker P Q f [] e = tt
each-weaker P Q f (x ∷ xs) e = (f x e.0, each-weaker P Q f xs e.1)

in-push : (xs : List ℕ) (y x : ℕ) → In xs x → In (xs ++ y ∷ []) x
in-push [] y x h = absurd h
in-push (z ∷ zs) y x h = ⊎_elim (λ w. inl w) (λ w. inr (in-push zs y x w)) h

in-last : (xs : List ℕ) (x : ℕ) → In (xs ++ x ∷ []) x
in-last [] x = inl refl
in-last (y ∷ ys) x = inr (in-last ys x)

in-pop : (xs : List ℕ) (y x : ℕ) → In (xs ++ y ∷ []) x → In xs x ⊎ (y ≡ x)
in-pop [] y x h = ⊎_elim (λ w. inr w) (λ w. absurd w) h
in-pop (z ∷ zs) y x h =
    ⊎_elim (λ w. inl (inl w)) (λ w. ⊎_elim (λ v. inl (inr v)) (λ v. inr v) (in-pop zs y x w)) h

-- How many nodes aren't seen.
abbrev pub unseen : List Bool → ℕ
unseen [] = 0
unseen (b ∷ bs) = cond b (unseen bs) (unseen bs + 1)

unseen-set : (bs : List Bool) (x : ℕ) → get_or bs x true ≡ false → unseen (set bs x true) + 1 ≡ unseen bs
unseen-set [] x h = absurd (cc)
unseen-set (true ∷ bs) zero h = absurd (cc)
unseen-set (false ∷ bs) zero h = refl
unseen-set (true ∷ bs) (suc x) h = unseen-set bs x h
unseen-set (false ∷ bs) (suc x) h = ap (λ n. n + 1) (unseen-set bs x h)

seen-set : (bs : List Bool) (x y : ℕ) → get_or bs y false ≡ true → get_or (set bs x true) y false ≡ true
seen-set [] x y h = h
seen-set (b ∷ bs) zero zero h = refl
seen-set (b ∷ bs) zero (suc y) h = h
seen-set (b ∷ bs) (suc x) zero h = h
seen-set (b ∷ bs) (suc x) (suc y) h = seen-set bs x y h

seen-before : (bs : List Bool) (x y : ℕ) → get_or (set bs x true) y false ≡ true → (get_or bs y false ≡ true) ⊎ (x ≡ y)
seen-before [] x y h = inl h
seen-before (b ∷ bs) zero zero h = inr refl
seen-before (b ∷ bs) zero (suc y) h = inl h
seen-before (b ∷ bs) (suc x) zero h = inl h
seen-before (b ∷ bs) (suc x) (suc y) h = ⊎_elim (λ w. inl w) (λ w. inr (ap suc w)) (seen-before bs x y h)

-- Whether a node is seen.
abbrev pub is_seen : Walk → ℕ → Bool
is_seen w x = get_or w.0 x false

-- What more nodes that are seen change.
pub record Grows (w v : Walk) : Type 0 where
  pub sized : length v.0 ≡ length w.0
  pub kept : (x : ℕ) → is_seen w x ≡ true → is_seen v x ≡ true
  pub waits : (x : ℕ) → In w.1 x → In v.1 x
  pub fresh : (x : ℕ) → is_seen v x ≡ true → (is_seen w x ≡ true) ⊎ In v.1 x
  pub less : 2 * unseen v.0 + length v.1 ≤ 2 * unseen w.0 + length w.1

grows-none : (w : Walk) → Grows w w
grows-none w = record { sized = refl; kept = λ x h. h; waits = λ x h. h; fresh = λ x h. inl h; less = omega arith }

grows-twice : (w v u : Walk) → Grows w v → Grows v u → Grows w u
grows-twice w v u g h = record {
  sized = h.sized ∙ g.sized;
  kept = λ x i. h.kept x (g.kept x i);
  waits = λ x i. h.waits x (g.waits x i);
  fresh = λ x i. ⊎_elim (λ j. ⊎_elim (λ k. inl k) (λ k. inr (h.waits x k)) (g.fresh x j)) (λ j. inr j) (h.fresh x i);
  less = let a = g.less in let b = h.less in omega arith;
}

grows-pushed : (w : Walk) (x : ℕ) → get_or w.0 x true ≡ false → Grows w (set w.0 x true, w.1 ++ x ∷ [])
grows-pushed w x h = record {
  sized = length-set w.0 x true;
  kept = λ y i. seen-set w.0 x y i;
  waits = λ y i. in-push w.1 x y i;
  fresh = λ y i. ⊎_elim (λ j. inl j) (λ j. inr (subst (λ (z : ℕ). In (w.1 ++ x ∷ []) z) j (in-last w.1 x))) (seen-before w.0 x y i);
  less = let a = unseen-set w.0 x h in omega (arith, length-append w.1 (x ∷ []));
}

-- One of two walks, by a test.
either : (P : Walk → Type 0) (b : Bool) (w v : Walk) → (b ≡ true → P w) → (b ≡ false → P v) → P (cond b w v)
either P true w v f g = f refl
either P false w v f g = g refl

grows-see : (w : Walk) (x : ℕ) → Grows w (see w x)
grows-see w x =
    either (λ v. Grows w v) (get_or w.0 x true) w (set w.0 x true, w.1 ++ x ∷ []) (λ h. grows-none w) (λ h. grows-pushed w x h)

pub grows-all : (w : Walk) (xs : List ℕ) → Grows w (see_all w xs)
grows-all w [] = grows-none w
grows-all w (x ∷ xs) = grows-twice w (see w x) (see_all (see w x) xs) (grows-see w x) (grows-all (see w x) xs)

-- What is looked at is seen then.
pub see-sees : (w : Walk) (x : ℕ) → x < length w.0 → is_seen (see w x) x ≡ true
see-sees w x l =
    either (λ v. is_seen v x ≡ true) (get_or w.0 x true) w (set w.0 x true, w.1 ++ x ∷ [])
    (λ h. get_or_default w.0 x false true l ∙ h) (λ h. get_or-set_same w.0 x true false l)

-- Some nodes are within so many.
abbrev pub Below : ℕ → List ℕ → Type 0
Below n [] = Unit {0}
Below n (x ∷ xs) = (x < n) × Below n xs

pub all-seen : (w : Walk) (xs : List ℕ) (n : ℕ) → length w.0 ≡ n → Below n xs → Each (is_seen (see_all w xs)) xs
all-seen w [] n size low = tt
all-seen w (x ∷ xs) n size low =
    ((grows-all (see w x) xs).kept x (see-sees w x (omega (arith, size, low.0))), all-seen (see w x) xs n ((grows-see w x).sized ∙ size) low.1)

-- What is seen passes a test.
pub record Sound (P : ℕ → Bool) (w : Walk) : Type 0 where
  pub seen : (x : ℕ) → is_seen w x ≡ true → P x ≡ true
  pub waits : Each P w.1

sound-see : (P : ℕ → Bool) (w : Walk) (x : ℕ) → P x ≡ true → Sound P w → Sound P (see w x)
sound-see P w x h s =
    either (λ v. Sound P v) (get_or w.0 x true) w (set w.0 x true, w.1 ++ x ∷ []) (λ i. s)
    (λ i. record {
      seen = λ y j. ⊎_elim (λ k. s.seen y k) (λ k. sym (ap P k) ∙ h) (seen-before w.0 x y j);
      waits = each-push P w.1 x s.waits h;
    })

pub sound-all : (P : ℕ → Bool) (w : Walk) (xs : List ℕ) → Each P xs → Sound P w → Sound P (see_all w xs)
sound-all P w [] h s = s
sound-all P w (x ∷ xs) h s = sound-all P (see w x) xs h.1 (sound-see P w x h.0 s)

-- A walk from a node: what is seen is led to, and where a node doesn't wait the ends of its edges are seen.
pub record Goes (es : List Edge) (n from : ℕ) (w : Walk) : Type 0 where
  pub sized : length w.0 ≡ n
  pub begun : is_seen w from ≡ true
  pub sound : Sound (leads nat_eq es from) w
  pub closed : (x : ℕ) → is_seen w x ≡ true → Each (is_seen w) (ends_from es x) ⊎ In w.1 x

-- The ends of a node's edges are led to.
ends-led : (es : List Edge) (x : ℕ) → Each (leads nat_eq es x) (ends_from es x)
ends-led [] x = tt
ends-led (e ∷ es) x = at_test (eqb e.0 x) refl (each-weaker (leads nat_eq es x) (leads nat_eq (e ∷ es) x) (λ y h. leads-more e es x y h) (ends_from es x) (ends-led es x))
  where
    at_test : (b : Bool) → eqb e.0 x ≡ b → Each (leads nat_eq (e ∷ es) x) (ends_from es x)
        → Each (leads nat_eq (e ∷ es) x) (cond b (e.1 ∷ ends_from es x) (ends_from es x))
    at_test true is rest =
        let here : leads nat_eq es x e.0 ≡ true = ap (λ y. leads nat_eq es y e.0) (sym (same-nodes e.0 x is)) ∙ leads-itself es e.0 in
        (leads-over e es x e.1 here (leads-itself es e.1), rest)
    at_test false is rest = rest

-- And within so many nodes as those of all edges.
pub ends-below : (n : ℕ) (es : List Edge) (x : ℕ) → Within n es → Below n (ends_from es x)
ends-below n [] x w = tt
ends-below n (e ∷ es) x w = at_test (eqb e.0 x) (ends-below n es x w.2)
  where
    at_test : (b : Bool) → Below n (ends_from es x) → Below n (cond b (e.1 ∷ ends_from es x) (ends_from es x))
    at_test true rest = (w.1, rest)
    at_test false rest = rest

-- Where the ends of each node's edges pass with it, that is kept along each edge.
kept-ends : (P : ℕ → Bool) (es : List Edge) → ((x : ℕ) → P x ≡ true → Each P (ends_from es x)) → Kept P es
kept-ends P [] h = tt
kept-ends P (e ∷ es) h =
    (λ p. first (eqb e.0 e.0) (same-itself e.0) (h e.0 p), kept-ends P es (λ x p. rest (eqb e.0 x) (ends_from es x) (h x p)))
  where
    first : (b : Bool) → b ≡ true → Each P (cond b (e.1 ∷ ends_from es e.0) (ends_from es e.0)) → P e.1 ≡ true
    first true is each = each.0
    first false is each = absurd (cc)

    rest : (b : Bool) (xs : List ℕ) → Each P (cond b (e.1 ∷ xs) xs) → Each P xs
    rest true xs each = each.1
    rest false xs each = each

-- The walk as it begins.
none-seen : (n x : ℕ) → get_or (replicate n false) x false ≡ true → ⊥
none-seen zero x h = absurd (cc)
none-seen (suc n) zero h = absurd (cc)
none-seen (suc n) (suc x) h = none-seen n x h

pub goes-first : (es : List Edge) (n from : ℕ) (w : Walk) → from < n → w ≡ see (replicate n false, []) from → Goes es n from w
goes-first es n from w low is = subst (λ (v : Walk). Goes es n from v) (sym is) begun
  where
    none : Walk
    none = (replicate n false, [])

    begun : Goes es n from (see (replicate n false, []) from)
    begun =
        let size : length (replicate n false) ≡ n = length-replicate n false in
        record {
          sized = (grows-see (replicate n false, []) from).sized ∙ size;
          begun = see-sees (replicate n false, []) from (omega (arith, size, low));
          sound = sound-see (leads nat_eq es from) (replicate n false, []) from (leads-itself es from)
              (record { seen = λ x h. absurd (none-seen n x h); waits = tt });
          closed = λ x h. ⊎_elim (λ i. absurd (none-seen n x i)) (λ i. inr i) ((grows-see (replicate n false, []) from).fresh x h);
        }

-- One step of it.
pub goes-on : (es : List Edge) (n from : ℕ) (seen : List Bool) (rest : List ℕ) (x : ℕ) (v : Walk) → Within n es
    → Goes es n from (seen, rest ++ x ∷ []) → v ≡ see_all (seen, rest) (ends_from es x) → Goes es n from v
goes-on es n from seen rest x v low g is = subst (λ (u : Walk). Goes es n from u) (sym is)
    (record {
      sized = grown.sized ∙ g.sized;
      begun = grown.kept from g.begun;
      sound = sound-all L (seen, rest) (ends_from es x) (each-weaker (leads nat_eq es x) L (λ y h. leads-joined es from x y led.1 h) (ends_from es x) (ends-led es x))
          (record { seen = g.sound.seen; waits = led.0 });
      closed = λ y h. ⊎_elim (λ i. was y i (g.closed y i)) (λ i. inr i) (grown.fresh y h);
    })
  where
    L : ℕ → Bool
    L = leads nat_eq es from

    grown : Grows (seen, rest) (see_all (seen, rest) (ends_from es x))
    grown = grows-all (seen, rest) (ends_from es x)

    led : Each (leads nat_eq es from) rest × (leads nat_eq es from x ≡ true)
    led = each-pop (leads nat_eq es from) rest x g.sound.waits

    marked : Each (is_seen (see_all (seen, rest) (ends_from es x))) (ends_from es x)
    marked = all-seen (seen, rest) (ends_from es x) n g.sized (ends-below n es x low)

    was : (y : ℕ) → get_or seen y false ≡ true → Each (λ z. get_or seen z false) (ends_from es y) ⊎ In (rest ++ x ∷ []) y
        → Each (is_seen (see_all (seen, rest) (ends_from es x))) (ends_from es y) ⊎ In (see_all (seen, rest) (ends_from es x)).1 y
    was y i (inl all) =
        inl (each-weaker (λ z. get_or seen z false) (is_seen (see_all (seen, rest) (ends_from es x))) (λ z k. grown.kept z k) (ends_from es y) all)
    was y i (inr one) =
        ⊎_elim (λ k. inr (grown.waits y k))
        (λ k. inl (subst (λ (z : ℕ). Each (is_seen (see_all (seen, rest) (ends_from es x))) (ends_from es z)) k marked))
        (in-pop rest x y one)

-- And where nothing waits.
pub goes-all : (es : List Edge) (n from to : ℕ) (seen : List Bool) → Goes es n from (seen, []) → get_or seen to false ≡ leads nat_eq es from to
goes-all es n from to seen g =
    same_tests (get_or seen to false) (leads nat_eq es from to) (g.sound.seen to)
    (λ h. leads-kept (λ x. get_or seen x false) es (kept-ends (λ x. get_or seen x false) es closed) from to h g.begun)
  where
    closed : (x : ℕ) → get_or seen x false ≡ true → Each (λ y. get_or seen y false) (ends_from es x)
    closed x h = ⊎_elim (λ w. w) (λ w. absurd w) (g.closed x h)
