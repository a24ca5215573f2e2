-- When what is shown to be left out counts: the tokens before the one that shows it begin the part, and
-- those behind it don't matter.
use Rattle.std.proofs.Common.{◌≡◌, ℕ, zero, suc, ◌+◌, ◌<◌, ◌≤◌, Bool, true, Option, List, [], ◌∷◌, ◌++◌, length, inl, inr, refl, sym, ap, ◌∙◌, arith, length-append}
use Rattle.vh_parse_grammar.specs.Part.{Part, done, tok, seq, bind, act, alt, rep, iter, nested, unless, barred}
use Rattle.vh_parse_grammar.specs.Reading.{Fault, lost, deep, left_out, Out, got, stop, then_, next_is, token_of, past_levels, many, turns, run, reader}
use Rattle.vh_parse_grammar.specs.Sentences.{AfterTurns, NoToken, ShowsHere, Reads, Shows, ReadsAt, MeetsAt, ShowsAt}
use Rattle.vh_parse_grammar.specs.Conditions.{eats, Advances}
use Rattle.vh_parse_grammar.proofs.Size.{weight, Sized, size-less, size-many, size-turns, size-run, size-past, size-reader}
use Rattle.vh_parse_grammar.proofs.Outcomes.{Says_of, one, shorter_mid, run-sound, run-tree, reader-sound, reader-tree}
use Rattle.vh_parse_grammar.proofs.Places.{Late, Cut, cut-run, cut-reader}
use Rattle.vh_parse_grammar.proofs.Starts.{Ended, ended-size, ended-then, ended-back}
use Rattle.vh_parse_grammar.proofs.OmissionsLemmas.{then-got}

-- A reading that goes on at least to where so many tokens are left
abbrev pub Behind : {T A : Type 0} → ℕ → Out T A → Type 0
Behind n (got a rest) = length rest ≤ n
Behind n (stop fault left) = left ≤ n

pub behind-size : {T A : Type 0} (w : ℕ) (ts : List T) (o : Out T A) → Sized w ts o → Behind (length ts) o
behind-size w ts (got a rest) s = omega arith
behind-size w ts (stop lost left) s = s
behind-size w ts (stop deep left) s = s.1
behind-size w ts (stop left_out left) s = s.1

behind-less : {T A : Type 0} (n m : ℕ) (o : Out T A) → n ≤ m → Behind n o → Behind m o
behind-less n m (got a rest) l b = omega arith
behind-less n m (stop fault left) l b = omega arith

behind-then : {T A B : Type 0} (n : ℕ) (o : Out T A) (next : A → List T → Out T B) → Behind n o → ((a : A) (mid : List T) → Behind (length mid) (next a mid)) → Behind n (then_ o next)
behind-then n (got a mid) next b f = behind-less (length mid) n (next a mid) b (f a mid)
behind-then n (stop fault left) next b f = b

behind-here : {T A : Type 0} (class : T → Bool) (ts : List T) (place shown w : ℕ) (o : Out T A) → ShowsHere class ts place shown → Sized w ts o → Behind shown o
behind-here class ts place shown w o h s = rw h.2 (behind-size w ts o s)

-- Where it stands
abbrev pub Inside : {T : Type 0} → List T → ℕ → ℕ → Type 0
Inside ts place shown = (0 < shown) × (shown ≤ place) × (place ≤ length ts)

pub inside-next : {T : Type 0} (class : T → Bool) (rest : List T) → next_is class rest ≡ true → 0 < length rest
inside-next class [] e = cc
inside-next class (t ∷ rest) e = omega arith

pub inside-here : {T : Type 0} (class : T → Bool) (ts : List T) (place shown : ℕ) → ShowsHere class ts place shown → Inside ts place shown
inside-here class ts place shown h = let l : 0 < length ts = inside-next class ts h.0 in let a : place ≡ length ts = h.1 in let b : shown ≡ length ts = h.2 in (omega arith, omega arith, omega arith)

pub inside-mid : {T : Type 0} (ts mid : List T) (place shown : ℕ) → length mid ≤ length ts → Inside mid place shown → Inside ts place shown
inside-mid ts mid place shown l i = let a : place ≤ length mid = i.2 in (i.0, i.1, omega arith)

mid-length : {T A : Type 0} (w : ℕ) (ts mid : List T) (a : A) (o : Out T A) → o ≡ got a mid → Sized w ts o → length mid ≤ length ts
mid-length w ts mid a o e s = let k : Sized w ts (got a mid) = rw e at s in omega arith

-- What stands before the tokens `zs`, the first of which shows it, comes to their end
ended-seq : {T A B : Type 0} (zs mid : List T) (a : A) (o' : Out T A) (next : A → List T → Out T B) → Cut zs o' (got a mid) → length zs ≤ length mid → ((m : List T) → mid ≡ m ++ zs → Ended (next a m)) → ((b : A) → Ended (next b [])) → Ended (then_ o' next)
ended-seq zs mid a (got b []) next c l f g = g b
ended-seq {T} {A} {B} zs mid a (got b (t ∷ m)) next c l f g = let e : (b ≡ a) × (mid ≡ (t ∷ m) ++ zs) = same c in rw e.0 (f (t ∷ m) e.1)
  where
    same : got a mid ≡ got b (t ∷ (m ++ zs)) → (b ≡ a) × (mid ≡ (t ∷ m) ++ zs)
    same q = (cc, cc)
ended-seq zs mid a (stop lost zero) next c l f g = refl
ended-seq zs mid a (stop lost (suc left)) next c l f g = cc
ended-seq zs mid a (stop deep left) next c l f g = cc
ended-seq zs mid a (stop left_out left) next c l f g = cc

-- Nothing but those tokens is there
no-front : {T : Type 0} (us zs : List T) → length zs ≡ length (us ++ zs) → us ≡ []
no-front [] zs e = refl
no-front (u ∷ us) zs e = absurd (omega (arith, length-append us zs))

-- Of two readings that go on alike behind some tokens
pub got-cut : {T A : Type 0} (zs mid : List T) (a : A) (o' o : Out T A) → Cut zs o' o → o ≡ got a mid → length zs < length mid → (t : T) × (m : List T) × (o' ≡ got a (t ∷ m)) × (mid ≡ (t ∷ m) ++ zs)
got-cut zs mid a (got b []) o c e l = let k : Late zs (got a mid) = rw e at c in absurd (omega arith)
got-cut {T} {A} zs mid a (got b (t ∷ m)) o c e l = let q : (b ≡ a) × (mid ≡ (t ∷ m) ++ zs) = same (sym e ∙ c) in (t, m, ap (λ (z : A). got z (t ∷ m)) q.0, q.1)
  where
    same : got a mid ≡ got b (t ∷ (m ++ zs)) → (b ≡ a) × (mid ≡ (t ∷ m) ++ zs)
    same q = (cc, cc)
got-cut zs mid a (stop lost zero) o c e l = let k : Late zs (got a mid) = rw e at c in absurd (omega arith)
got-cut zs mid a (stop lost (suc left)) o c e l = cc
got-cut zs mid a (stop deep left) o c e l = cc
got-cut zs mid a (stop left_out left) o c e l = cc

next-front : {T : Type 0} (class : T → Bool) (us zs : List T) → 0 < length us → next_is class (us ++ zs) ≡ next_is class us
next-front class [] zs l = absurd (omega arith)
next-front class (u ∷ us) zs l = refl

length-front : {T : Type 0} (us zs mid : List T) → length mid ≤ length (us ++ zs) → length zs < length mid → 0 < length us
length-front [] zs mid a b = absurd (omega arith)
length-front (u ∷ us) zs mid a b = omega arith

inside-front : {T : Type 0} (us zs : List T) (k j : ℕ) → Inside (us ++ zs) (k + length zs) (j + length zs) → 0 < j → 0 < length us
inside-front us zs k j i l = let a : j + length zs ≤ k + length zs = i.1 in let b : k + length zs ≤ length (us ++ zs) = i.2 in omega (arith, length-append us zs)

pub here-down : {T : Type 0} (class : T → Bool) (us zs : List T) (k j : ℕ) → 0 < j → ShowsHere class (us ++ zs) (k + length zs) (j + length zs) → ShowsHere class us k j
here-down class us zs k j l h =
    let a : k + length zs ≡ length (us ++ zs) = h.1 in
    let b : j + length zs ≡ length (us ++ zs) = h.2 in
    let n : 0 < length us = omega (arith, length-append us zs) in
    (sym (next-front class us zs n) ∙ h.0, omega (arith, length-append us zs), omega (arith, length-append us zs))

pub here-up : {T : Type 0} (class : T → Bool) (us zs : List T) (k j : ℕ) → ShowsHere class us k j → ShowsHere class (us ++ zs) (k + length zs) (j + length zs)
here-up class us zs k j h =
    let n : 0 < length us = inside-next class us h.0 in
    (next-front class us zs n ∙ h.0, omega (arith, length-append us zs, h.1), omega (arith, length-append us zs, h.2))

module _ {T P : Type 0} {V : P → Type 0} (word : T → Bool) (R : (p : P) → List T → Out T (V p)) (N : (p : P) → V p → List T → List T → Type 0) (M : (p : P) → Fault → List T → ℕ → Type 0) (W : (p : P) → List T → ℕ → ℕ → Type 0) (each : (p : P) (ts : List T) → Sized 1 ts (R p ts)) (nested-sound : (p : P) (ts : List T) → Says_of (N p) (M p) ts (R p ts)) (nested-tree : (p : P) (a : V p) (ts rest : List T) → N p a ts rest → R p ts ≡ got a rest) where
  tree-of : {A : Type 0} (p : Part T V A) → Advances p → (a : A) (ts rest : List T) → Reads N p a ts rest → run R p ts ≡ got a rest
  tree-of p v a ts rest h = run-tree R N M each nested-tree p v a ts rest h

  says-of : {A : Type 0} (p : Part T V A) → Advances p → (a : A) (ts rest : List T) → run R p ts ≡ got a rest → Reads N p a ts rest
  says-of p v a ts rest e = rw e at (run-sound R N M each nested-sound p v ts)

  mid-of : {A : Type 0} (p : Part T V A) → Advances p → (a : A) (ts mid : List T) → Reads N p a ts mid → length mid ≤ length ts
  mid-of p v a ts mid h = mid-length (weight (eats p)) ts mid a (run R p ts) (tree-of p v a ts mid h) (size-run R each p ts)

  ended-none : {A : Type 0} (p : Part T V A) → Ended (run R p [])
  ended-none p = ended-size (weight (eats p)) (run R p []) (size-run R each p [])

  behind-of : {A : Type 0} (p : Part T V A) (ts : List T) → Behind (length ts) (run R p ts)
  behind-of p ts = behind-size (weight (eats p)) ts (run R p ts) (size-run R each p ts)

  -- where it stands
  module _ (nested-inside : (p : P) (ts : List T) (place shown : ℕ) → W p ts place shown → Inside ts place shown) where
    turns-inside : {S : Type 0} (Turn : S → S → List T → List T → Type 0) (End : S → List T → ℕ → ℕ → Type 0) → ((u v : S) (m r : List T) → Turn u v m r → length r ≤ length m) → ((u : S) (m : List T) (place shown : ℕ) → End u m place shown → Inside m place shown) → (n : ℕ) (s : S) (ts : List T) (place shown : ℕ) → AfterTurns Turn (λ u m. End u m place shown) n s ts → Inside ts place shown
    turns-inside Turn End f g zero s ts place shown h = g s ts place shown h
    turns-inside Turn End f g (suc n) s ts place shown h = inside-mid ts h.1 place shown (f s h.0 ts h.1 h.2) (turns-inside Turn End f g n h.0 h.1 place shown h.3)

    pub run-inside : {A : Type 0} (p : Part T V A) → Advances p → (ts : List T) (place shown : ℕ) → Shows N word W p ts place shown → Inside ts place shown
    run-inside (done a) v ts place shown h = absurd h
    run-inside (tok meaning) v ts place shown h = inside-here word ts place shown h.1
    run-inside (seq p q) v ts place shown (inl h) = run-inside p v.0 ts place shown h
    run-inside (seq p q) v ts place shown (inr h) = inside-mid ts h.1 place shown (mid-of p v.0 h.0 ts h.1 h.2) (run-inside q v.1 h.1 place shown h.3)
    run-inside (bind p q) v ts place shown (inl h) = run-inside p v.0 ts place shown h
    run-inside (bind p q) v ts place shown (inr h) = inside-mid ts h.1 place shown (mid-of p v.0 h.0 ts h.1 h.2) (run-inside (q h.0) (v.1 h.0) h.1 place shown h.3)
    run-inside (act f p) v ts place shown h = run-inside p v ts place shown h
    run-inside (alt class p q) v ts place shown (inl h) = run-inside p v.0 ts place shown h.1
    run-inside (alt class p q) v ts place shown (inr h) = run-inside q v.1 ts place shown h.1
    run-inside (rep {A} class p) v ts place shown h =
        turns-inside {S = Unit {0}} (λ _ _ m r. (next_is class m ≡ true) × ((a : A) × Reads N p a m r)) (λ _ m place shown. (next_is class m ≡ true) × Shows N word W p m place shown) (λ _ _ m r i. mid-of p v.1 i.1.0 m r i.1.1) (λ _ m place shown e. run-inside p v.1 m place shown e.1) h.0 tt ts place shown h.1
    run-inside (iter class part s) v ts place shown h =
        turns-inside (λ u w m r. (next_is (class u) m ≡ true) × Reads N (part u) w m r) (λ u m place shown. (next_is (class u) m ≡ true) × Shows N word W (part u) m place shown) (λ u w m r i. mid-of (part u) (v u).1 w m r i.1) (λ u m place shown e. run-inside (part u) (v u).1 m place shown e.1) h.0 s ts place shown h.1
    run-inside (nested p) v ts place shown h = nested-inside p ts place shown h
    run-inside (unless class p) v ts place shown (inl h) = inside-here class ts place shown h
    run-inside (unless class p) v ts place shown (inr h) = run-inside p v ts place shown h
    run-inside (barred class p) v ts place shown (inl h) = run-inside p v ts place shown h
    run-inside (barred class p) v ts place shown (inr h) =
        let l : length h.1 ≤ length ts = mid-of p v h.0 ts h.1 h.2 in
        let n : 0 < length h.1 = inside-next (class h.0) h.1 h.3 in
        let a : place ≡ length ts = h.4 in
        let b : shown ≡ length h.1 = h.5 in
        (omega arith, omega arith, omega arith)

  -- the reading goes on at least to the token that shows it
  module _ (nested-behind : (p : P) (ts : List T) (place shown : ℕ) → W p ts place shown → Behind shown (R p ts)) where
    token-behind : {A : Type 0} (meaning : T → Option A) (ts : List T) (place shown : ℕ) → Shows N word W (one V meaning) ts place shown → Behind shown (token_of meaning ts)
    token-behind meaning ts place shown h = behind-here word ts place shown 1 (token_of meaning ts) h.1 (size-run R each (one V meaning) ts)

    many-behind : {A : Type 0} (class : T → Bool) (p : Part T V A) → eats p ≡ true → Advances p → ((m : List T) (place shown : ℕ) → Shows N word W p m place shown → Behind shown (run R p m)) → (n k : ℕ) (ts : List T) (place shown : ℕ) → length ts ≤ n →
        AfterTurns (λ _ _ m r. (next_is class m ≡ true) × ((a : A) × Reads N p a m r)) (λ _ m. (next_is class m ≡ true) × Shows N word W p m place shown) k (tt {0}) ts → Behind shown (many (run R p) class n ts)
    many-behind class p e v f zero k [] place shown b h = go k h
      where
        go : (k : ℕ) → AfterTurns (λ _ _ m r. (next_is class m ≡ true) × ((a : _) × Reads N p a m r)) (λ _ m. (next_is class m ≡ true) × Shows N word W p m place shown) k (tt {0}) [] → Behind shown (many (run R p) class 0 [])
        go zero h = let d : next_is class [] ≡ true = h.0 in cc
        go (suc k) h = let d : next_is class [] ≡ true = h.2.0 in cc
    many-behind class p e v f zero k (t ∷ ts) place shown b h = absurd (omega arith)
    many-behind {A} class p e v f (suc n) zero ts place shown b h =
        let small : (m : List T) → Sized 0 m (run R p m) = λ m. size-less (weight (eats p)) 0 m (run R p m) (omega arith) (size-run R each p m) in
        rw h.0 (behind-then shown (run R p ts) (λ a mid. then_ (many (run R p) class n mid) (λ more rest. got (a ∷ more) rest)) (f ts place shown h.1)
        (λ a mid. behind-then (length mid) (many (run R p) class n mid) (λ more rest. got (a ∷ more) rest) (behind-size 0 mid (many (run R p) class n mid) (size-many (run R p) class n mid small)) (λ more rest. omega arith)))
    many-behind {A} class p e v f (suc n) (suc k) ts place shown b h =
        let q : run R p ts ≡ got h.2.1.0 h.1 = tree-of p v h.2.1.0 ts h.1 h.2.1.1 in
        let s : Sized 1 ts (run R p ts) = rw e at (size-run R each p ts) in
        let i : Behind shown (many (run R p) class n h.1) = many-behind class p e v f n k h.1 place shown (shorter_mid ts h.1 h.2.1.0 (run R p ts) n q s b) h.3 in
        rw (h.2.0, q) (act (many (run R p) class n h.1) i)
      where
        act : (o : Out T (List A)) → Behind shown o → Behind shown (then_ o (λ more rest. got (h.2.1.0 ∷ more) rest))
        act (got more rest) i = i
        act (stop fault left) i = i

    turns-behind : {S : Type 0} (class : S → T → Bool) (part : S → Part T V S) → ((u : S) → (eats (part u) ≡ true) × Advances (part u)) → ((u : S) (m : List T) (place shown : ℕ) → Shows N word W (part u) m place shown → Behind shown (run R (part u) m)) → (n k : ℕ) (s : S) (ts : List T) (place shown : ℕ) → length ts ≤ n →
        AfterTurns (λ u w m r. (next_is (class u) m ≡ true) × Reads N (part u) w m r) (λ u m. (next_is (class u) m ≡ true) × Shows N word W (part u) m place shown) k s ts → Behind shown (turns (λ u. run R (part u)) class n s ts)
    turns-behind class part v f zero k s [] place shown b h = go k h
      where
        go : (k : ℕ) → AfterTurns (λ u w m r. (next_is (class u) m ≡ true) × Reads N (part u) w m r) (λ u m. (next_is (class u) m ≡ true) × Shows N word W (part u) m place shown) k s [] → Behind shown (turns (λ u. run R (part u)) class 0 s [])
        go zero h = let d : next_is (class s) [] ≡ true = h.0 in cc
        go (suc k) h = let d : next_is (class s) [] ≡ true = h.2.0 in cc
    turns-behind class part v f zero k s (t ∷ ts) place shown b h = absurd (omega arith)
    turns-behind class part v f (suc n) zero s ts place shown b h =
        let small : (u : _) (m : List T) → Sized 0 m (run R (part u) m) = λ u m. size-less (weight (eats (part u))) 0 m (run R (part u) m) (omega arith) (size-run R each (part u) m) in
        rw h.0 (behind-then shown (run R (part s) ts) (turns (λ u. run R (part u)) class n) (f s ts place shown h.1) (λ u mid. behind-size 0 mid (turns (λ u. run R (part u)) class n u mid) (size-turns (λ u. run R (part u)) class n u mid small)))
    turns-behind class part v f (suc n) (suc k) s ts place shown b h =
        let q : run R (part s) ts ≡ got h.0 h.1 = tree-of (part s) (v s).1 h.0 ts h.1 h.2.1 in
        let z : Sized 1 ts (run R (part s) ts) = rw (v s).0 at (size-run R each (part s) ts) in
        rw (h.2.0, q) (turns-behind class part v f n k h.0 h.1 place shown (shorter_mid ts h.1 h.0 (run R (part s) ts) n q z b) h.3)

    pub run-behind : {A : Type 0} (p : Part T V A) → Advances p → (ts : List T) (place shown : ℕ) → Shows N word W p ts place shown → Behind shown (run R p ts)
    run-behind (done a) v ts place shown h = absurd h
    run-behind (tok meaning) v ts place shown h = token-behind meaning ts place shown h
    run-behind (seq p q) v ts place shown (inl h) =
        behind-then shown (run R p ts) (λ a mid. then_ (run R q mid) (λ b rest. got (a, b) rest)) (run-behind p v.0 ts place shown h) (λ a mid. behind-then (length mid) (run R q mid) (λ b rest. got (a, b) rest) (behind-of q mid) (λ b rest. omega arith))
    run-behind (seq {A} {B} p q) v ts place shown (inr h) = rw (tree-of p v.0 h.0 ts h.1 h.2) (act (run R q h.1) (run-behind q v.1 h.1 place shown h.3))
      where
        act : (o : Out T B) → Behind shown o → Behind {A = A × B} shown (then_ o (λ b rest. got (h.0, b) rest))
        act (got b rest) i = i
        act (stop fault left) i = i
    run-behind (bind p q) v ts place shown (inl h) = behind-then shown (run R p ts) (λ a mid. run R (q a) mid) (run-behind p v.0 ts place shown h) (λ a mid. behind-of (q a) mid)
    run-behind (bind p q) v ts place shown (inr h) = rw (tree-of p v.0 h.0 ts h.1 h.2) (run-behind (q h.0) (v.1 h.0) h.1 place shown h.3)
    run-behind (act f p) v ts place shown h = behind-then shown (run R p ts) (λ a rest. got (f a) rest) (run-behind p v ts place shown h) (λ a rest. omega arith)
    run-behind (alt class p q) v ts place shown (inl h) = rw h.0 (run-behind p v.0 ts place shown h.1)
    run-behind (alt class p q) v ts place shown (inr h) = rw h.0 (run-behind q v.1 ts place shown h.1)
    run-behind (rep class p) v ts place shown h = many-behind class p v.0 v.1 (run-behind p v.1) (length ts) h.0 ts place shown (omega arith) h.1
    run-behind (iter class part s) v ts place shown h = turns-behind class part v (λ u. run-behind (part u) (v u).1) (length ts) h.0 s ts place shown (omega arith) h.1
    run-behind (nested p) v ts place shown h = nested-behind p ts place shown h
    run-behind (unless class p) v ts place shown (inl h) = behind-here class ts place shown (weight (eats p)) (run R p ts) h (size-run R each p ts)
    run-behind (unless class p) v ts place shown (inr h) = run-behind p v ts place shown h
    run-behind (barred class p) v ts place shown (inl h) = run-behind p v ts place shown h
    run-behind (barred class p) v ts place shown (inr h) = rw (tree-of p v h.0 ts h.1 h.2, h.5) (omega arith)

  -- the tokens before the one that shows it begin the part
  module _ (nested-cut : (p : P) (us zs : List T) → Cut zs (R p us) (R p (us ++ zs))) (nested-inside : (p : P) (ts : List T) (place shown : ℕ) → W p ts place shown → Inside ts place shown) (nested-front : (p : P) (us zs : List T) (place : ℕ) → W p (us ++ zs) place (length zs) → Ended (R p us)) where
    cut-of : {A : Type 0} (p : Part T V A) → Advances p → (us zs : List T) → Cut zs (run R p us) (run R p (us ++ zs))
    cut-of p v us zs = cut-run R each nested-cut p v us zs

    -- after a first part that is whole
    front-then : {A B : Type 0} (p : Part T V A) → Advances p → (a : A) (us zs mid : List T) (next : A → List T → Out T B) → Reads N p a (us ++ zs) mid → length zs ≤ length mid → ((m : List T) → mid ≡ m ++ zs → Ended (next a m)) → ((b : A) → Ended (next b [])) → Ended (then_ (run R p us) next)
    front-then {A} p v a us zs mid next r l f g = ended-seq zs mid a (run R p us) next (rw (tree-of p v a (us ++ zs) mid r) at (cut-of p v us zs)) l f g

    front-here : {A : Type 0} (class : T → Bool) (p : Part T V A) (us zs : List T) (place : ℕ) → ShowsHere class (us ++ zs) place (length zs) → Ended (run R p us)
    front-here class p us zs place h = let e : us ≡ [] = no-front us zs h.2 in rw e (ended-none p)

    small-of : {A : Type 0} (p : Part T V A) (m : List T) → Sized 0 m (run R p m)
    small-of p m = size-less (weight (eats p)) 0 m (run R p m) (omega arith) (size-run R each p m)

    many-none : {A : Type 0} (class : T → Bool) (p : Part T V A) (n : ℕ) → Ended (many (run R p) class n [])
    many-none class p n = ended-size 0 (many (run R p) class n []) (size-many (run R p) class n [] (small-of p))

    turns-none : {S : Type 0} (class : S → T → Bool) (part : S → Part T V S) (n : ℕ) (s : S) → Ended (turns (λ u. run R (part u)) class n s [])
    turns-none class part n s = ended-size 0 (turns (λ u. run R (part u)) class n s []) (size-turns (λ u. run R (part u)) class n s [] (λ u. small-of (part u)))

    many-front : {A : Type 0} (class : T → Bool) (p : Part T V A) → eats p ≡ true → Advances p → ((us zs : List T) (place : ℕ) → Shows N word W p (us ++ zs) place (length zs) → Ended (run R p us)) → (n k : ℕ) (us zs : List T) (place : ℕ) → length us ≤ n →
        AfterTurns (λ _ _ m r. (next_is class m ≡ true) × ((a : A) × Reads N p a m r)) (λ _ m. (next_is class m ≡ true) × Shows N word W p m place (length zs)) k (tt {0}) (us ++ zs) → Ended (many (run R p) class n us)
    many-front class p e v f n k [] zs place b h = many-none class p n
    many-front class p e v f zero k (u ∷ us) zs place b h = absurd (omega arith)
    many-front {A} class p e v f (suc n) zero (u ∷ us) zs place b h =
        rw h.0 (ended-then (run R p (u ∷ us)) (λ a mid. then_ (many (run R p) class n mid) (λ more rest. got (a ∷ more) rest)) (f (u ∷ us) zs place h.1) (λ a. ended-back (λ more. a ∷ more) (many (run R p) class n []) (many-none class p n)))
    many-front {A} class p e v f (suc n) (suc k) (u ∷ us) zs place b h =
        let q : run R p ((u ∷ us) ++ zs) ≡ got h.2.1.0 h.1 = tree-of p v h.2.1.0 ((u ∷ us) ++ zs) h.1 h.2.1.1 in
        let z : Sized 1 ((u ∷ us) ++ zs) (got h.2.1.0 h.1) = rw q at (rw e at (size-run R each p ((u ∷ us) ++ zs))) in
        let i : Inside h.1 place (length zs) =
        turns-inside nested-inside {S = Unit {0}} (λ _ _ m r. (next_is class m ≡ true) × ((a : A) × Reads N p a m r)) (λ _ m place shown. (next_is class m ≡ true) × Shows N word W p m place shown) (λ _ _ m r i. mid-of p v i.1.0 m r i.1.1) (λ _ m place shown e. run-inside nested-inside p v m place shown e.1) k tt h.1 place (length zs) h.3 in
        let l : length zs ≤ length h.1 = (let x : length zs ≤ place = i.1 in let y : place ≤ length h.1 = i.2 in omega arith) in
        rw h.2.0 (front-then p v h.2.1.0 (u ∷ us) zs h.1 (λ a mid. then_ (many (run R p) class n mid) (λ more rest. got (a ∷ more) rest)) h.2.1.1 l
        (λ m d. ended-back (λ more. h.2.1.0 ∷ more) (many (run R p) class n m) (many-front class p e v f n k m zs place (less m d z) (rw d at h.3)))
        (λ a. ended-back (λ more. a ∷ more) (many (run R p) class n []) (many-none class p n)))
      where
        less : (m : List T) → h.1 ≡ m ++ zs → 1 + length h.1 ≤ length ((u ∷ us) ++ zs) → length m ≤ n
        less m d z = let y : length h.1 ≡ length (m ++ zs) = ap length d in omega (arith, length-append m zs, length-append us zs)

    turns-front : {S : Type 0} (class : S → T → Bool) (part : S → Part T V S) → ((u : S) → (eats (part u) ≡ true) × Advances (part u)) → ((u : S) (us zs : List T) (place : ℕ) → Shows N word W (part u) (us ++ zs) place (length zs) → Ended (run R (part u) us)) → (n k : ℕ) (s : S) (us zs : List T) (place : ℕ) → length us ≤ n →
        AfterTurns (λ u w m r. (next_is (class u) m ≡ true) × Reads N (part u) w m r) (λ u m. (next_is (class u) m ≡ true) × Shows N word W (part u) m place (length zs)) k s (us ++ zs) → Ended (turns (λ u. run R (part u)) class n s us)
    turns-front class part v f n k s [] zs place b h = turns-none class part n s
    turns-front class part v f zero k s (x ∷ us) zs place b h = absurd (omega arith)
    turns-front class part v f (suc n) zero s (x ∷ us) zs place b h = rw h.0 (ended-then (run R (part s) (x ∷ us)) (turns (λ u. run R (part u)) class n) (f s (x ∷ us) zs place h.1) (λ u. turns-none class part n u))
    turns-front class part v f (suc n) (suc k) s (x ∷ us) zs place b h =
        let q : run R (part s) ((x ∷ us) ++ zs) ≡ got h.0 h.1 = tree-of (part s) (v s).1 h.0 ((x ∷ us) ++ zs) h.1 h.2.1 in
        let z : Sized 1 ((x ∷ us) ++ zs) (got h.0 h.1) = rw q at (rw (v s).0 at (size-run R each (part s) ((x ∷ us) ++ zs))) in
        let i : Inside h.1 place (length zs) =
        turns-inside nested-inside (λ u w m r. (next_is (class u) m ≡ true) × Reads N (part u) w m r) (λ u m place shown. (next_is (class u) m ≡ true) × Shows N word W (part u) m place shown) (λ u w m r i. mid-of (part u) (v u).1 w m r i.1) (λ u m place shown e. run-inside nested-inside (part u) (v u).1 m place shown e.1) k h.0 h.1 place (length zs) h.3 in
        let l : length zs ≤ length h.1 = (let c : length zs ≤ place = i.1 in let y : place ≤ length h.1 = i.2 in omega arith) in
        rw h.2.0 (front-then (part s) (v s).1 h.0 (x ∷ us) zs h.1 (turns (λ u. run R (part u)) class n) h.2.1 l
        (λ m d. turns-front class part v f n k h.0 m zs place (less m d z) (rw d at h.3))
        (λ u. turns-none class part n u))
      where
        less : (m : List T) → h.1 ≡ m ++ zs → 1 + length h.1 ≤ length ((x ∷ us) ++ zs) → length m ≤ n
        less m d z = let y : length h.1 ≡ length (m ++ zs) = ap length d in omega (arith, length-append m zs, length-append us zs)

    front-alt : {A : Type 0} (class : T → Bool) (p q : Part T V A) (us zs : List T) (place : ℕ) → (Shows N word W p (us ++ zs) place (length zs) → Ended (run R p us)) → (Shows N word W q (us ++ zs) place (length zs) → Ended (run R q us)) → Shows N word W (alt class p q) (us ++ zs) place (length zs) → Ended (run R (alt class p q) us)
    front-alt class p q [] zs place f g h = ended-none q
    front-alt class p q (u ∷ us) zs place f g (inl h) = rw h.0 (f h.1)
    front-alt class p q (u ∷ us) zs place f g (inr h) = rw h.0 (g h.1)

    length-inside : {A : Type 0} (p : Part T V A) → Advances p → (mid zs : List T) (place : ℕ) → Shows N word W p mid place (length zs) → length zs ≤ length mid
    length-inside p v mid zs place h = let i : Inside mid place (length zs) = run-inside nested-inside p v mid place (length zs) h in let x : length zs ≤ place = i.1 in let y : place ≤ length mid = i.2 in omega arith

    pub run-front : {A : Type 0} (p : Part T V A) → Advances p → (us zs : List T) (place : ℕ) → Shows N word W p (us ++ zs) place (length zs) → Ended (run R p us)
    run-front (done a) v us zs place h = absurd h
    run-front (tok meaning) v us zs place h = front-here word (one V meaning) us zs place h.1
    run-front (seq {A} {B} p q) v us zs place (inl h) = ended-then (run R p us) (λ a mid. then_ (run R q mid) (λ b rest. got (a, b) rest)) (run-front p v.0 us zs place h) (λ a. ended-back (λ (b : B). (a, b)) (run R q []) (ended-none q))
    run-front (seq {A} {B} p q) v us zs place (inr h) =
        front-then p v.0 h.0 us zs h.1 (λ a mid. then_ (run R q mid) (λ b rest. got (a, b) rest)) h.2 (length-inside q v.1 h.1 zs place h.3)
        (λ m e. ended-back (λ (b : B). (h.0, b)) (run R q m) (run-front q v.1 m zs place (rw e at h.3)))
        (λ a. ended-back (λ (b : B). (a, b)) (run R q []) (ended-none q))
    run-front (bind p q) v us zs place (inl h) = ended-then (run R p us) (λ a mid. run R (q a) mid) (run-front p v.0 us zs place h) (λ a. ended-none (q a))
    run-front (bind p q) v us zs place (inr h) =
        front-then p v.0 h.0 us zs h.1 (λ a mid. run R (q a) mid) h.2 (length-inside (q h.0) (v.1 h.0) h.1 zs place h.3) (λ m e. run-front (q h.0) (v.1 h.0) m zs place (rw e at h.3)) (λ a. ended-none (q a))
    run-front (act f p) v us zs place h = ended-back f (run R p us) (run-front p v us zs place h)
    run-front (alt class p q) v us zs place h = front-alt class p q us zs place (run-front p v.0 us zs place) (run-front q v.1 us zs place) h
    run-front (rep class p) v us zs place h = many-front class p v.0 v.1 (run-front p v.1) (length us) h.0 us zs place (omega arith) h.1
    run-front (iter class part s) v us zs place h = turns-front class part v (λ u. run-front (part u) (v u).1) (length us) h.0 s us zs place (omega arith) h.1
    run-front (nested p) v us zs place h = nested-front p us zs place h
    run-front (unless class p) v us zs place (inl h) = front-here class p us zs place h
    run-front (unless class p) v us zs place (inr h) = run-front p v us zs place h
    run-front (barred class p) v us zs place (inl h) = run-front p v us zs place h
    run-front (barred {A} class p) v us zs place (inr h) =
        rw then-got at (front-then p v h.0 us zs h.1 (λ a rest. got a rest) h.2 (let x : length zs ≡ length h.1 = h.5 in omega arith) (λ m e. none m (let x : length zs ≡ length h.1 = h.5 in let y : length h.1 ≡ length (m ++ zs) = ap length e in omega (arith, length-append m zs))) (λ a. refl))
      where
        none : (m : List T) → length m ≤ 0 → m ≡ []
        none [] l = refl
        none (x ∷ xs) l = absurd (omega arith)

  -- what follows doesn't matter
  module _ (nested-cut : (p : P) (us zs : List T) → Cut zs (R p us) (R p (us ++ zs))) (nested-inside : (p : P) (ts : List T) (place shown : ℕ) → W p ts place shown → Inside ts place shown) where
    reads-down : {A : Type 0} (p : Part T V A) → Advances p → (a : A) (us zs mid : List T) → Reads N p a (us ++ zs) mid → length zs < length mid → (m : List T) × Reads N p a us m × (mid ≡ m ++ zs)
    reads-down p v a us zs mid r l = let c : (t : T) × (m : List T) × (run R p us ≡ got a (t ∷ m)) × (mid ≡ (t ∷ m) ++ zs) = got-cut zs mid a (run R p us) (run R p (us ++ zs)) (cut-run R each nested-cut p v us zs) (tree-of p v a (us ++ zs) mid r) l in (c.0 ∷ c.1, says-of p v a us (c.0 ∷ c.1) c.2, c.3)

    reads-up : {A : Type 0} (p : Part T V A) → Advances p → (a : A) (us zs m : List T) → Reads N p a us m → 0 < length m → Reads N p a (us ++ zs) (m ++ zs)
    reads-up p v a us zs [] r l = absurd (omega arith)
    reads-up p v a us zs (t ∷ m) r l = let c : Cut zs (got a (t ∷ m)) (run R p (us ++ zs)) = rw (tree-of p v a us (t ∷ m) r) at (cut-run R each nested-cut p v us zs) in says-of p v a (us ++ zs) ((t ∷ m) ++ zs) c

    turns-down : {S : Type 0} (Turn : S → S → List T → List T → Type 0) (End : S → List T → ℕ → ℕ → Type 0) → ((u v : S) (m r : List T) → Turn u v m r → length r ≤ length m) → ((u : S) (m : List T) (place shown : ℕ) → End u m place shown → Inside m place shown) →
        ((u v : S) (us zs mid : List T) → Turn u v (us ++ zs) mid → length zs < length mid → (m : List T) × Turn u v us m × (mid ≡ m ++ zs)) → ((u : S) (us zs : List T) (k j : ℕ) → 0 < j → End u (us ++ zs) (k + length zs) (j + length zs) → End u us k j) →
        (n : ℕ) (s : S) (us zs : List T) (k j : ℕ) → 0 < j → AfterTurns Turn (λ u m. End u m (k + length zs) (j + length zs)) n s (us ++ zs) → AfterTurns Turn (λ u m. End u m k j) n s us
    turns-down Turn End a b f g zero s us zs k j l h = g s us zs k j l h
    turns-down Turn End a b f g (suc n) s us zs k j l h =
        let i : Inside h.1 (k + length zs) (j + length zs) = turns-inside nested-inside Turn End a b n h.0 h.1 (k + length zs) (j + length zs) h.3 in
        let x : j + length zs ≤ k + length zs = i.1 in
        let y : k + length zs ≤ length h.1 = i.2 in
        let d : (m : List T) × Turn s h.0 us m × (h.1 ≡ m ++ zs) = f s h.0 us zs h.1 h.2 (omega arith) in
        (h.0, d.0, d.1, turns-down Turn End a b f g n h.0 d.0 zs k j l (rw d.2 at h.3))

    turns-up : {S : Type 0} (Turn : S → S → List T → List T → Type 0) (End : S → List T → ℕ → ℕ → Type 0) → ((u v : S) (m r : List T) → Turn u v m r → length r ≤ length m) → ((u : S) (m : List T) (place shown : ℕ) → End u m place shown → Inside m place shown) →
        ((u v : S) (us zs m : List T) → Turn u v us m → 0 < length m → Turn u v (us ++ zs) (m ++ zs)) → ((u : S) (us zs : List T) (k j : ℕ) → End u us k j → End u (us ++ zs) (k + length zs) (j + length zs)) →
        (n : ℕ) (s : S) (us zs : List T) (k j : ℕ) → AfterTurns Turn (λ u m. End u m k j) n s us → AfterTurns Turn (λ u m. End u m (k + length zs) (j + length zs)) n s (us ++ zs)
    turns-up Turn End a b f g zero s us zs k j h = g s us zs k j h
    turns-up Turn End a b f g (suc n) s us zs k j h =
        let i : Inside h.1 k j = turns-inside nested-inside Turn End a b n h.0 h.1 k j h.3 in
        let x : 0 < j = i.0 in
        let y : j ≤ k = i.1 in
        let z : k ≤ length h.1 = i.2 in
        (h.0, h.1 ++ zs, f s h.0 us zs h.1 h.2 (omega arith), turns-up Turn End a b f g n h.0 h.1 zs k j h.3)

    item-down : {A : Type 0} (class : T → Bool) (p : Part T V A) → Advances p → (a : A) (us zs mid : List T) → next_is class (us ++ zs) ≡ true → Reads N p a (us ++ zs) mid → length zs < length mid → (m : List T) × ((next_is class us ≡ true) × Reads N p a us m) × (mid ≡ m ++ zs)
    item-down class p v a us zs mid c r l =
        let d : (m : List T) × Reads N p a us m × (mid ≡ m ++ zs) = reads-down p v a us zs mid r l in
        (d.0, (sym (next-front class us zs (length-front us zs mid (mid-of p v a (us ++ zs) mid r) l)) ∙ c, d.1), d.2)

    module _ (nested-down : (p : P) (us zs : List T) (k j : ℕ) → 0 < j → W p (us ++ zs) (k + length zs) (j + length zs) → W p us k j) where
      mid-more : {A : Type 0} (p : Part T V A) → Advances p → (mid zs : List T) (k j : ℕ) → 0 < j → Shows N word W p mid (k + length zs) (j + length zs) → length zs < length mid
      mid-more p v mid zs k j l h = let i : Inside mid (k + length zs) (j + length zs) = run-inside nested-inside p v mid (k + length zs) (j + length zs) h in let x : j + length zs ≤ k + length zs = i.1 in let y : k + length zs ≤ length mid = i.2 in omega arith

      us-more : {A : Type 0} (p : Part T V A) → Advances p → (us zs : List T) (k j : ℕ) → 0 < j → Shows N word W p (us ++ zs) (k + length zs) (j + length zs) → 0 < length us
      us-more p v us zs k j l h = inside-front us zs k j (run-inside nested-inside p v (us ++ zs) (k + length zs) (j + length zs) h) l

      token-down : {A : Type 0} (meaning : T → Option A) (us zs : List T) → NoToken meaning (us ++ zs) → NoToken meaning us
      token-down meaning [] zs h = tt
      token-down meaning (u ∷ us) zs h = h

      pub run-down : {A : Type 0} (p : Part T V A) → Advances p → (us zs : List T) (k j : ℕ) → 0 < j → Shows N word W p (us ++ zs) (k + length zs) (j + length zs) → Shows N word W p us k j
      run-down (done a) v us zs k j l h = h
      run-down (tok meaning) v us zs k j l h = (token-down meaning us zs h.0, here-down word us zs k j l h.1)
      run-down (seq p q) v us zs k j l (inl h) = inl (run-down p v.0 us zs k j l h)
      run-down (seq p q) v us zs k j l (inr h) = let d : (m : List T) × Reads N p h.0 us m × (h.1 ≡ m ++ zs) = reads-down p v.0 h.0 us zs h.1 h.2 (mid-more q v.1 h.1 zs k j l h.3) in inr (h.0, d.0, d.1, run-down q v.1 d.0 zs k j l (rw d.2 at h.3))
      run-down (bind p q) v us zs k j l (inl h) = inl (run-down p v.0 us zs k j l h)
      run-down (bind p q) v us zs k j l (inr h) = let d : (m : List T) × Reads N p h.0 us m × (h.1 ≡ m ++ zs) = reads-down p v.0 h.0 us zs h.1 h.2 (mid-more (q h.0) (v.1 h.0) h.1 zs k j l h.3) in inr (h.0, d.0, d.1, run-down (q h.0) (v.1 h.0) d.0 zs k j l (rw d.2 at h.3))
      run-down (act f p) v us zs k j l h = run-down p v us zs k j l h
      run-down (alt class p q) v us zs k j l (inl h) = inl (sym (next-front class us zs (us-more p v.0 us zs k j l h.1)) ∙ h.0, run-down p v.0 us zs k j l h.1)
      run-down (alt class p q) v us zs k j l (inr h) = inr (sym (next-front class us zs (us-more q v.1 us zs k j l h.1)) ∙ h.0, run-down q v.1 us zs k j l h.1)
      run-down (rep {A} class p) v us zs k j l h = (
        h.0,
        turns-down {S = Unit {0}} (λ _ _ m r. (next_is class m ≡ true) × ((a : A) × Reads N p a m r)) (λ _ m place shown. (next_is class m ≡ true) × Shows N word W p m place shown) (λ _ _ m r i. mid-of p v.1 i.1.0 m r i.1.1) (λ _ m place shown e. run-inside nested-inside p v.1 m place shown e.1)
            (λ _ _ us zs mid i l. let d : (m : List T) × ((next_is class us ≡ true) × Reads N p i.1.0 us m) × (mid ≡ m ++ zs) = item-down class p v.1 i.1.0 us zs mid i.0 i.1.1 l in (d.0, (d.1.0, (i.1.0, d.1.1)), d.2))
            (λ _ us zs k j l e. (sym (next-front class us zs (us-more p v.1 us zs k j l e.1)) ∙ e.0, run-down p v.1 us zs k j l e.1))
            h.0 tt us zs k j l h.1,
      )
      run-down (iter class part s) v us zs k j l h = (
        h.0,
        turns-down (λ u w m r. (next_is (class u) m ≡ true) × Reads N (part u) w m r) (λ u m place shown. (next_is (class u) m ≡ true) × Shows N word W (part u) m place shown) (λ u w m r i. mid-of (part u) (v u).1 w m r i.1) (λ u m place shown e. run-inside nested-inside (part u) (v u).1 m place shown e.1)
            (λ u w us zs mid i l. item-down (class u) (part u) (v u).1 w us zs mid i.0 i.1 l)
            (λ u us zs k j l e. (sym (next-front (class u) us zs (us-more (part u) (v u).1 us zs k j l e.1)) ∙ e.0, run-down (part u) (v u).1 us zs k j l e.1))
            h.0 s us zs k j l h.1,
      )
      run-down (nested p) v us zs k j l h = nested-down p us zs k j l h
      run-down (unless class p) v us zs k j l (inl h) = inl (here-down class us zs k j l h)
      run-down (unless class p) v us zs k j l (inr h) = inr (run-down p v us zs k j l h)
      run-down (barred class p) v us zs k j l (inl h) = inl (run-down p v us zs k j l h)
      run-down (barred class p) v us zs k j l (inr h) =
          let x : j + length zs ≡ length h.1 = h.5 in
          let y : k + length zs ≡ length (us ++ zs) = h.4 in
          let d : (m : List T) × Reads N p h.0 us m × (h.1 ≡ m ++ zs) = reads-down p v h.0 us zs h.1 h.2 (omega arith) in
          let w : length h.1 ≡ length (d.0 ++ zs) = ap length d.2 in
          let z : j ≡ length d.0 = omega (arith, length-append d.0 zs) in
          let c : next_is (class h.0) (d.0 ++ zs) ≡ true = rw d.2 at h.3 in
          inr (h.0, d.0, d.1, sym (next-front (class h.0) d.0 zs (omega arith)) ∙ c, omega (arith, length-append us zs), z)

    module _ (nested-up : (p : P) (us zs : List T) (k j : ℕ) → W p us k j → W p (us ++ zs) (k + length zs) (j + length zs)) where
      mid-some : {A : Type 0} (p : Part T V A) → Advances p → (mid : List T) (k j : ℕ) → Shows N word W p mid k j → 0 < length mid
      mid-some p v mid k j h = let i : Inside mid k j = run-inside nested-inside p v mid k j h in let x : 0 < j = i.0 in let y : j ≤ k = i.1 in let z : k ≤ length mid = i.2 in omega arith

      token-up : {A : Type 0} (meaning : T → Option A) (us zs : List T) → 0 < length us → NoToken meaning us → NoToken meaning (us ++ zs)
      token-up meaning [] zs l h = absurd (omega arith)
      token-up meaning (u ∷ us) zs l h = h

      pub run-up : {A : Type 0} (p : Part T V A) → Advances p → (us zs : List T) (k j : ℕ) → Shows N word W p us k j → Shows N word W p (us ++ zs) (k + length zs) (j + length zs)
      run-up (done a) v us zs k j h = h
      run-up (tok meaning) v us zs k j h = (token-up meaning us zs (inside-next word us h.1.0) h.0, here-up word us zs k j h.1)
      run-up (seq p q) v us zs k j (inl h) = inl (run-up p v.0 us zs k j h)
      run-up (seq p q) v us zs k j (inr h) = inr (h.0, h.1 ++ zs, reads-up p v.0 h.0 us zs h.1 h.2 (mid-some q v.1 h.1 k j h.3), run-up q v.1 h.1 zs k j h.3)
      run-up (bind p q) v us zs k j (inl h) = inl (run-up p v.0 us zs k j h)
      run-up (bind p q) v us zs k j (inr h) = inr (h.0, h.1 ++ zs, reads-up p v.0 h.0 us zs h.1 h.2 (mid-some (q h.0) (v.1 h.0) h.1 k j h.3), run-up (q h.0) (v.1 h.0) h.1 zs k j h.3)
      run-up (act f p) v us zs k j h = run-up p v us zs k j h
      run-up (alt class p q) v us zs k j (inl h) = inl (next-front class us zs (mid-some p v.0 us k j h.1) ∙ h.0, run-up p v.0 us zs k j h.1)
      run-up (alt class p q) v us zs k j (inr h) = inr (next-front class us zs (mid-some q v.1 us k j h.1) ∙ h.0, run-up q v.1 us zs k j h.1)
      run-up (rep {A} class p) v us zs k j h = (
        h.0,
        turns-up {S = Unit {0}} (λ _ _ m r. (next_is class m ≡ true) × ((a : A) × Reads N p a m r)) (λ _ m place shown. (next_is class m ≡ true) × Shows N word W p m place shown) (λ _ _ m r i. mid-of p v.1 i.1.0 m r i.1.1) (λ _ m place shown e. run-inside nested-inside p v.1 m place shown e.1)
            (λ _ _ us zs m i l. (next-front class us zs (more us m (mid-of p v.1 i.1.0 us m i.1.1) l) ∙ i.0, (i.1.0, reads-up p v.1 i.1.0 us zs m i.1.1 l)))
            (λ _ us zs k j e. (next-front class us zs (mid-some p v.1 us k j e.1) ∙ e.0, run-up p v.1 us zs k j e.1))
            h.0 tt us zs k j h.1,
      )
        where
          more : (us m : List T) → length m ≤ length us → 0 < length m → 0 < length us
          more us m a b = omega arith
      run-up (iter class part s) v us zs k j h = (
        h.0,
        turns-up (λ u w m r. (next_is (class u) m ≡ true) × Reads N (part u) w m r) (λ u m place shown. (next_is (class u) m ≡ true) × Shows N word W (part u) m place shown) (λ u w m r i. mid-of (part u) (v u).1 w m r i.1) (λ u m place shown e. run-inside nested-inside (part u) (v u).1 m place shown e.1)
            (λ u w us zs m i l. (next-front (class u) us zs (more us m (mid-of (part u) (v u).1 w us m i.1) l) ∙ i.0, reads-up (part u) (v u).1 w us zs m i.1 l))
            (λ u us zs k j e. (next-front (class u) us zs (mid-some (part u) (v u).1 us k j e.1) ∙ e.0, run-up (part u) (v u).1 us zs k j e.1))
            h.0 s us zs k j h.1,
      )
        where
          more : (us m : List T) → length m ≤ length us → 0 < length m → 0 < length us
          more us m a b = omega arith
      run-up (nested p) v us zs k j h = nested-up p us zs k j h
      run-up (unless class p) v us zs k j (inl h) = inl (here-up class us zs k j h)
      run-up (unless class p) v us zs k j (inr h) = inr (run-up p v us zs k j h)
      run-up (barred class p) v us zs k j (inl h) = inl (run-up p v us zs k j h)
      run-up (barred class p) v us zs k j (inr h) =
          let n : 0 < length h.1 = inside-next (class h.0) h.1 h.3 in
          let x : j ≡ length h.1 = h.5 in
          let y : k ≡ length us = h.4 in
          inr (h.0, h.1 ++ zs, reads-up p v h.0 us zs h.1 h.2 n, next-front (class h.0) h.1 zs n ∙ h.3, omega (arith, length-append us zs), omega (arith, length-append h.1 zs))

past-front : {T : Type 0} (A : Type 0) (class : T → Bool) (us zs : List T) (place : ℕ) → ShowsHere class (us ++ zs) place (length zs) → Ended (past_levels {A = A} us)
past-front A class us zs place h = let e : us ≡ [] = no-front us zs h.2 in rw e refl

module _ {T P : Type 0} {V : P → Type 0} (word : T → Bool) (grammar : (p : P) → Part T V (V p)) (eating : (p : P) → eats (grammar p) ≡ true) (advancing : (p : P) → Advances (grammar p)) where
  pub reader-inside : (n : ℕ) (p : P) (ts : List T) (place shown : ℕ) → ShowsAt grammar word n p ts place shown → Inside ts place shown
  reader-inside zero p ts place shown h = inside-here word ts place shown h
  reader-inside (suc n) p ts place shown h = run-inside word (reader grammar n) (ReadsAt grammar n) (MeetsAt grammar n) (ShowsAt grammar word n) (size-reader grammar eating n) (reader-sound grammar eating advancing n) (reader-tree grammar eating advancing n) (reader-inside n) (grammar p) (advancing p) ts place shown h

  pub reader-behind : (n : ℕ) (p : P) (ts : List T) (place shown : ℕ) → ShowsAt grammar word n p ts place shown → Behind shown (reader grammar n p ts)
  reader-behind zero p ts place shown h = behind-here word ts place shown 1 (past_levels {A = V p} ts) h (size-past (V p) ts)
  reader-behind (suc n) p ts place shown h = run-behind word (reader grammar n) (ReadsAt grammar n) (MeetsAt grammar n) (ShowsAt grammar word n) (size-reader grammar eating n) (reader-sound grammar eating advancing n) (reader-tree grammar eating advancing n) (reader-behind n) (grammar p) (advancing p) ts place shown h

  pub reader-front : (n : ℕ) (p : P) (us zs : List T) (place : ℕ) → ShowsAt grammar word n p (us ++ zs) place (length zs) → Ended (reader grammar n p us)
  reader-front zero p us zs place h = past-front (V p) word us zs place h
  reader-front (suc n) p us zs place h = run-front word (reader grammar n) (ReadsAt grammar n) (MeetsAt grammar n) (ShowsAt grammar word n) (size-reader grammar eating n) (reader-sound grammar eating advancing n) (reader-tree grammar eating advancing n) (cut-reader grammar eating advancing n) (reader-inside n) (reader-front n) (grammar p) (advancing p) us zs place h

  pub reader-down : (n : ℕ) (p : P) (us zs : List T) (k j : ℕ) → 0 < j → ShowsAt grammar word n p (us ++ zs) (k + length zs) (j + length zs) → ShowsAt grammar word n p us k j
  reader-down zero p us zs k j l h = here-down word us zs k j l h
  reader-down (suc n) p us zs k j l h = run-down word (reader grammar n) (ReadsAt grammar n) (MeetsAt grammar n) (ShowsAt grammar word n) (size-reader grammar eating n) (reader-sound grammar eating advancing n) (reader-tree grammar eating advancing n) (cut-reader grammar eating advancing n) (reader-inside n) (reader-down n) (grammar p) (advancing p) us zs k j l h

  pub reader-up : (n : ℕ) (p : P) (us zs : List T) (k j : ℕ) → ShowsAt grammar word n p us k j → ShowsAt grammar word n p (us ++ zs) (k + length zs) (j + length zs)
  reader-up zero p us zs k j h = here-up word us zs k j h
  reader-up (suc n) p us zs k j h = run-up word (reader grammar n) (ReadsAt grammar n) (MeetsAt grammar n) (ShowsAt grammar word n) (size-reader grammar eating n) (reader-sound grammar eating advancing n) (reader-tree grammar eating advancing n) (cut-reader grammar eating advancing n) (reader-inside n) (reader-up n) (grammar p) (advancing p) us zs k j h
