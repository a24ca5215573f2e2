-- Tokens begin a part exactly where reading them comes to their end.
use Rattle.std.proofs.Common.{◌≡◌, ℕ, zero, suc, ◌≤◌, Bool, true, false, cond, Option, Some, None, List, [], ◌∷◌, length, ◌⊎◌, inl, inr, refl, ap, arith}
use Rattle.vh_parse_grammar.specs.Part.{Part, done, tok, seq, bind, act, alt, rep, iter, nested, unless, barred}
use Rattle.vh_parse_grammar.specs.Reading.{Fault, lost, deep, left_out, Out, got, stop, then_, next_is, taken, token_of, past_levels, many, turns, run, reader}
use Rattle.vh_parse_grammar.specs.Sentences.{AfterTurns, Reads, Begins, Meets, ReadsAt, BeginsAt, MeetsAt}
use Rattle.vh_parse_grammar.specs.Conditions.{eats, Advances}
use Rattle.vh_parse_grammar.proofs.Size.{weight, Sized, size-less, size-many, size-turns, size-run, size-reader}
use Rattle.vh_parse_grammar.proofs.Outcomes.{Says_of, one, shorter_mid, next-none, run-sound, run-tree, reader-sound, reader-tree}

-- A reading that comes to the end of the tokens
abbrev pub Ended : {T A : Type 0} → Out T A → Type 0
Ended (got a rest) = rest ≡ []
Ended (stop lost left) = left ≡ 0
Ended (stop deep left) = ⊥
Ended (stop left_out left) = ⊥

pub ended-size : {T A : Type 0} (w : ℕ) (o : Out T A) → Sized {T = T} w [] o → Ended o
ended-size w (got a []) s = refl
ended-size w (got a (t ∷ ts)) s = absurd (omega arith)
ended-size w (stop lost left) s = omega arith
ended-size w (stop deep left) s = omega arith
ended-size w (stop left_out left) s = omega arith

pub ended-act : {T A B : Type 0} (f : A → B) (o : Out T A) → Ended (then_ o (λ b rest. got (f b) rest)) → Ended o
ended-act f (got a rest) h = h
ended-act f (stop lost left) h = h
ended-act f (stop deep left) h = h
ended-act f (stop left_out left) h = h

pub ended-back : {T A B : Type 0} (f : A → B) (o : Out T A) → Ended o → Ended (then_ o (λ b rest. got (f b) rest))
ended-back f (got a rest) h = h
ended-back f (stop lost left) h = h
ended-back f (stop deep left) h = h
ended-back f (stop left_out left) h = h

pub ended-then : {T A B : Type 0} (o : Out T A) (k : A → List T → Out T B) → Ended o → ((a : A) → Ended (k a [])) → Ended (then_ o k)
ended-then (got a rest) k h f = rw h (f a)
ended-then (stop lost left) k h f = h
ended-then (stop deep left) k h f = h
ended-then (stop left_out left) k h f = h

cons-nil : {T : Type 0} (t : T) (ts : List T) → (t ∷ ts) ≡ [] → ⊥
cons-nil t ts e = cc

-- A repetition
module _ {T A : Type 0} (item : List T → Out T A) (I : A → List T → List T → Type 0) (E : Fault → List T → ℕ → Type 0) (B : List T → Type 0) (class : T → Bool) (short : (ts : List T) → Sized 1 ts (item ts)) where
  abbrev Begun : ℕ → List T → Type 0
  Begun n ts = AfterTurns (λ _ _ m r. (next_is class m ≡ true) × ((a : A) × I a m r)) (λ _ m. (m ≡ []) ⊎ ((next_is class m ≡ true) × B m)) n (tt {0}) ts

  many-begins : ((ts : List T) → Says_of I E ts (item ts)) → ((ts : List T) → Ended (item ts) → B ts) → (n : ℕ) (ts : List T) → length ts ≤ n → Ended (many item class n ts) → (k : ℕ) × Begun k ts
  many-begins h f n [] b e = (0, inl refl)
  many-begins h f zero (t ∷ ts) b e = absurd (omega arith)
  many-begins h f (suc n) (t ∷ ts) b e = go (class t) refl (item (t ∷ ts)) (h (t ∷ ts)) (short (t ∷ ts)) (f (t ∷ ts)) (λ mid l k. many-begins h f n mid l k) e
    where
      go : (d : Bool) → class t ≡ d → (o : Out T A) → Says_of I E (t ∷ ts) o → Sized 1 (t ∷ ts) o → (Ended o → B (t ∷ ts)) → ((mid : List T) → length mid ≤ n → Ended (many item class n mid) → (k : ℕ) × Begun k mid) →
          Ended (cond d (then_ o (λ a mid. then_ (many item class n mid) (λ more rest. got (a ∷ more) rest))) (got [] (t ∷ ts))) → (k : ℕ) × Begun k (t ∷ ts)
      go false c o i s q more e = absurd (cons-nil t ts e)
      go true c (got a mid) i s q more e = let r : (k : ℕ) × Begun k mid = more mid (omega arith) (ended-act (λ z. a ∷ z) (many item class n mid) e) in (suc r.0, (tt, mid, (c, (a, i)), r.1))
      go true c (stop lost left) i s q more e = (0, inr (c, q e))
      go true c (stop deep left) i s q more e = absurd e
      go true c (stop left_out left) i s q more e = absurd e

  many-ended : ((a : A) (ts rest : List T) → I a ts rest → item ts ≡ got a rest) → ((ts : List T) → B ts → Ended (item ts)) → (k n : ℕ) (ts : List T) → length ts ≤ n → Begun k ts → Ended (many item class n ts)
  many-ended h f zero n ts b (inl e) = rw e (ended-size 0 (many item class n []) (size-many item class n [] (λ m. size-less 1 0 m (item m) (omega arith) (short m))))
  many-ended h f zero zero ts b (inr e) = absurd (next-none class ts e.0 b)
  many-ended h f zero (suc n) ts b (inr e) =
      rw e.0 (ended-then (item ts) (λ a mid. then_ (many item class n mid) (λ more rest. got (a ∷ more) rest)) (f ts e.1)
      (λ a. ended-back (λ z. a ∷ z) (many item class n []) (ended-size 0 (many item class n []) (size-many item class n [] (λ m. size-less 1 0 m (item m) (omega arith) (short m))))))
  many-ended h f (suc k) zero ts b r = absurd (next-none class ts r.2.0 b)
  many-ended h f (suc k) (suc n) ts b r =
      let e : item ts ≡ got r.2.1.0 r.1 = h r.2.1.0 ts r.1 r.2.1.1 in
      rw (r.2.0, e) (ended-back (λ z. r.2.1.0 ∷ z) (many item class n r.1) (many-ended h f k n r.1 (shorter_mid ts r.1 r.2.1.0 (item ts) n e (short ts) b) r.3))

-- An iteration
module _ {T S : Type 0} (turn : S → List T → Out T S) (I : S → S → List T → List T → Type 0) (E : S → Fault → List T → ℕ → Type 0) (B : S → List T → Type 0) (class : S → T → Bool) (short : (s : S) (ts : List T) → Sized 1 ts (turn s ts)) where
  abbrev Begun_turns : ℕ → S → List T → Type 0
  Begun_turns n s ts = AfterTurns (λ u v m r. (next_is (class u) m ≡ true) × I u v m r) (λ u m. (m ≡ []) ⊎ ((next_is (class u) m ≡ true) × B u m)) n s ts

  turns-begins : ((s : S) (ts : List T) → Says_of (I s) (E s) ts (turn s ts)) → ((s : S) (ts : List T) → Ended (turn s ts) → B s ts) → (n : ℕ) (s : S) (ts : List T) → length ts ≤ n → Ended (turns turn class n s ts) → (k : ℕ) × Begun_turns k s ts
  turns-begins h f n s [] b e = (0, inl refl)
  turns-begins h f zero s (t ∷ ts) b e = absurd (omega arith)
  turns-begins h f (suc n) s (t ∷ ts) b e = go (class s t) refl (turn s (t ∷ ts)) (h s (t ∷ ts)) (short s (t ∷ ts)) (f s (t ∷ ts)) (λ u mid l k. turns-begins h f n u mid l k) e
    where
      go : (d : Bool) → class s t ≡ d → (o : Out T S) → Says_of (I s) (E s) (t ∷ ts) o → Sized 1 (t ∷ ts) o → (Ended o → B s (t ∷ ts)) → ((u : S) (mid : List T) → length mid ≤ n → Ended (turns turn class n u mid) → (k : ℕ) × Begun_turns k u mid) →
          Ended (cond d (then_ o (turns turn class n)) (got s (t ∷ ts))) → (k : ℕ) × Begun_turns k s (t ∷ ts)
      go false c o i z q more e = absurd (cons-nil t ts e)
      go true c (got u mid) i z q more e = let r : (k : ℕ) × Begun_turns k u mid = more u mid (omega arith) e in (suc r.0, (u, mid, (c, i), r.1))
      go true c (stop lost left) i z q more e = (0, inr (c, q e))
      go true c (stop deep left) i z q more e = absurd e
      go true c (stop left_out left) i z q more e = absurd e

  turns-ended : ((s u : S) (ts rest : List T) → I s u ts rest → turn s ts ≡ got u rest) → ((s : S) (ts : List T) → B s ts → Ended (turn s ts)) → (k n : ℕ) (s : S) (ts : List T) → length ts ≤ n → Begun_turns k s ts → Ended (turns turn class n s ts)
  turns-ended h f zero n s ts b (inl e) = rw e (ended-size 0 (turns turn class n s []) (size-turns turn class n s [] (λ u m. size-less 1 0 m (turn u m) (omega arith) (short u m))))
  turns-ended h f zero zero s ts b (inr e) = absurd (next-none (class s) ts e.0 b)
  turns-ended h f zero (suc n) s ts b (inr e) =
      rw e.0 (ended-then (turn s ts) (turns turn class n) (f s ts e.1) (λ u. ended-size 0 (turns turn class n u []) (size-turns turn class n u [] (λ v m. size-less 1 0 m (turn v m) (omega arith) (short v m)))))
  turns-ended h f (suc k) zero s ts b r = absurd (next-none (class s) ts r.2.0 b)
  turns-ended h f (suc k) (suc n) s ts b r =
      let e : turn s ts ≡ got r.0 r.1 = h s r.0 ts r.1 r.2.1 in
      rw (r.2.0, e) (turns-ended h f k n r.0 r.1 (shorter_mid ts r.1 r.0 (turn s ts) n e (short s ts) b) r.3)

module _ {T P : Type 0} {V : P → Type 0} (R : (p : P) → List T → Out T (V p)) (N : (p : P) → V p → List T → List T → Type 0) (M : (p : P) → Fault → List T → ℕ → Type 0) (B : (p : P) → List T → Type 0) (each : (p : P) (ts : List T) → Sized 1 ts (R p ts)) where
  short-part : {A : Type 0} (p : Part T V A) → eats p ≡ true → (ts : List T) → Sized 1 ts (run R p ts)
  short-part p e ts = rw e at (size-run R each p ts)

  ended-run : {A : Type 0} (p : Part T V A) → Ended (run R p [])
  ended-run p = ended-size (weight (eats p)) (run R p []) (size-run R each p [])

  module _ (nested-sound : (p : P) (ts : List T) → Says_of (N p) (M p) ts (R p ts)) (nested-begins : (p : P) (ts : List T) → Ended (R p ts) → B p ts) where
    token-begins : {A : Type 0} (meaning : T → Option A) (ts : List T) → Ended (token_of meaning ts) → Begins N B (one V meaning) ts
    token-begins meaning [] e = inl refl
    token-begins {A} meaning (t ∷ ts) e = go (meaning t) refl e
      where
        go : (o : Option A) → meaning t ≡ o → Ended (taken o ts) → Begins N B (one V meaning) (t ∷ ts)
        go (Some a) m e = inr (t, a, ap (λ (z : List T). t ∷ z) e, m)
        go None m e = absurd (omega arith)

    pub run-begins : {A : Type 0} (p : Part T V A) → Advances p → (ts : List T) → Ended (run R p ts) → Begins N B p ts
    run-begins (done a) v ts e = e
    run-begins (tok meaning) v ts e = token-begins meaning ts e
    run-begins (seq {A} {B = C} p q) v ts e = go (run R p ts) (run-sound R N M each nested-sound p v.0 ts) (run-begins p v.0 ts) (λ mid. run-begins q v.1 mid) e
      where
        go : (o : Out T A) → Says_of (Reads N p) (Meets N M p) ts o → (Ended o → Begins N B p ts) → ((mid : List T) → Ended (run R q mid) → Begins N B q mid) → Ended {A = A × C} (then_ o (λ a mid. then_ (run R q mid) (λ b rest. got (a, b) rest))) → Begins N B (seq p q) ts
        go (got a mid) i f g e = let pair : C → A × C = λ b. (a, b) in inr (a, mid, i, g mid (ended-act pair (run R q mid) e))
        go (stop lost left) i f g e = inl (f e)
        go (stop deep left) i f g e = absurd e
        go (stop left_out left) i f g e = absurd e
    run-begins (bind {A} p q) v ts e = go (run R p ts) (run-sound R N M each nested-sound p v.0 ts) (run-begins p v.0 ts) (λ a mid. run-begins (q a) (v.1 a) mid) e
      where
        go : (o : Out T A) → Says_of (Reads N p) (Meets N M p) ts o → (Ended o → Begins N B p ts) → ((a : A) (mid : List T) → Ended (run R (q a) mid) → Begins N B (q a) mid) → Ended (then_ o (λ a mid. run R (q a) mid)) → Begins N B (bind p q) ts
        go (got a mid) i f g e = inr (a, mid, i, g a mid e)
        go (stop lost left) i f g e = inl (f e)
        go (stop deep left) i f g e = absurd e
        go (stop left_out left) i f g e = absurd e
    run-begins (act f p) v ts e = run-begins p v ts (ended-act f (run R p ts) e)
    run-begins (alt class p q) v ts e = go (next_is class ts) refl (run-begins p v.0 ts) (run-begins q v.1 ts) e
      where
        go : (d : Bool) → next_is class ts ≡ d → (Ended (run R p ts) → Begins N B p ts) → (Ended (run R q ts) → Begins N B q ts) → Ended (cond d (run R p ts) (run R q ts)) → Begins N B (alt class p q) ts
        go true c f g e = inl (c, f e)
        go false c f g e = inr (c, g e)
    run-begins (rep class p) v ts e = many-begins (run R p) (Reads N p) (Meets N M p) (Begins N B p) class (short-part p v.0) (run-sound R N M each nested-sound p v.1) (run-begins p v.1) (length ts) ts (omega arith) e
    run-begins (iter class part s) v ts e = turns-begins (λ u. run R (part u)) (λ u. Reads N (part u)) (λ u. Meets N M (part u)) (λ u. Begins N B (part u)) class (λ u. short-part (part u) (v u).0) (λ u m. run-sound R N M each nested-sound (part u) (v u).1 m) (λ u m k. run-begins (part u) (v u).1 m k) (length ts) s ts (omega arith) e
    run-begins (nested p) v ts e = nested-begins p ts e
    run-begins (unless class p) v ts e = run-begins p v ts e
    run-begins (barred class p) v ts e = run-begins p v ts e

  module _ (nested-tree : (p : P) (a : V p) (ts rest : List T) → N p a ts rest → R p ts ≡ got a rest) (nested-ended : (p : P) (ts : List T) → B p ts → Ended (R p ts)) where
    pub run-ended : {A : Type 0} (p : Part T V A) → Advances p → (ts : List T) → Begins N B p ts → Ended (run R p ts)
    run-ended (done a) v ts h = h
    run-ended (tok meaning) v ts (inl h) = rw h refl
    run-ended (tok meaning) v ts (inr h) = rw (h.2, h.3) refl
    run-ended (seq p q) v ts (inl h) = ended-then (run R p ts) (λ a mid. then_ (run R q mid) (λ b rest. got (a, b) rest)) (run-ended p v.0 ts h) (λ a. ended-back (λ b. (a, b)) (run R q []) (ended-run q))
    run-ended (seq p q) v ts (inr h) = rw (run-tree R N M each nested-tree p v.0 h.0 ts h.1 h.2) (ended-back (λ b. (h.0, b)) (run R q h.1) (run-ended q v.1 h.1 h.3))
    run-ended (bind p q) v ts (inl h) = ended-then (run R p ts) (λ a mid. run R (q a) mid) (run-ended p v.0 ts h) (λ a. ended-run (q a))
    run-ended (bind p q) v ts (inr h) = rw (run-tree R N M each nested-tree p v.0 h.0 ts h.1 h.2) (run-ended (q h.0) (v.1 h.0) h.1 h.3)
    run-ended (act f p) v ts h = ended-back f (run R p ts) (run-ended p v ts h)
    run-ended (alt class p q) v ts (inl h) = rw h.0 (run-ended p v.0 ts h.1)
    run-ended (alt class p q) v ts (inr h) = rw h.0 (run-ended q v.1 ts h.1)
    run-ended (rep class p) v ts h = many-ended (run R p) (Reads N p) (Meets N M p) (Begins N B p) class (short-part p v.0) (run-tree R N M each nested-tree p v.1) (run-ended p v.1) h.0 (length ts) ts (omega arith) h.1
    run-ended (iter class part s) v ts h = turns-ended (λ u. run R (part u)) (λ u. Reads N (part u)) (λ u. Meets N M (part u)) (λ u. Begins N B (part u)) class (λ u. short-part (part u) (v u).0) (λ u w m r. run-tree R N M each nested-tree (part u) (v u).1 w m r) (λ u m k. run-ended (part u) (v u).1 m k) h.0 (length ts) s ts (omega arith) h.1
    run-ended (nested p) v ts h = nested-ended p ts h
    run-ended (unless class p) v ts h = run-ended p v ts h
    run-ended (barred class p) v ts h = run-ended p v ts h

past-begins : {T : Type 0} (A : Type 0) (ts : List T) → Ended (past_levels {A = A} ts) → ts ≡ []
past-begins A [] e = refl
past-begins A (t ∷ ts) e = absurd e

module _ {T P : Type 0} {V : P → Type 0} (grammar : (p : P) → Part T V (V p)) (eating : (p : P) → eats (grammar p) ≡ true) (advancing : (p : P) → Advances (grammar p)) where
  pub reader-begins : (n : ℕ) (p : P) (ts : List T) → Ended (reader grammar n p ts) → BeginsAt grammar n p ts
  reader-begins zero p ts e = past-begins (V p) ts e
  reader-begins (suc n) p ts e = run-begins (reader grammar n) (ReadsAt grammar n) (MeetsAt grammar n) (BeginsAt grammar n) (size-reader grammar eating n) (reader-sound grammar eating advancing n) (reader-begins n) (grammar p) (advancing p) ts e

  pub reader-ended : (n : ℕ) (p : P) (ts : List T) → BeginsAt grammar n p ts → Ended (reader grammar n p ts)
  reader-ended zero p ts h = rw h refl
  reader-ended (suc n) p ts h = run-ended (reader grammar n) (ReadsAt grammar n) (MeetsAt grammar n) (BeginsAt grammar n) (size-reader grammar eating n) (reader-tree grammar eating advancing n) (reader-ended n) (grammar p) (advancing p) ts h
