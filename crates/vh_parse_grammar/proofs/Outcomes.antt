-- Reading gives a tree exactly where the tokens spell the part, and a fault exactly where one is met.
use Rattle.std.proofs.Common.{◌≡◌, ℕ, zero, suc, ◌≤◌, Bool, true, false, cond, Option, Some, None, List, [], ◌∷◌, length, inl, inr, refl, sym, ap, arith}
use Rattle.vh_parse_grammar.specs.Part.{Part, done, tok, seq, bind, act, alt, rep, iter, nested, unless, barred}
use Rattle.vh_parse_grammar.specs.Reading.{Fault, Out, got, stop, then_, next_is, taken, token_of, past_levels, many, turns, run, reader}
use Rattle.vh_parse_grammar.specs.Sentences.{Repeats, AfterTurns, Reads, Meets, MeetsPast, ReadsAt, MeetsAt}
use Rattle.vh_parse_grammar.specs.Conditions.{eats, Advances}
use Rattle.vh_parse_grammar.proofs.Size.{Sized, size-run, size-reader}

-- What an outcome says, by a relation for trees and one for faults
abbrev pub Says_of : {T A : Type 0} → (A → List T → List T → Type 0) → (Fault → List T → ℕ → Type 0) → List T → Out T A → Type 0
Says_of I E ts (got a rest) = I a ts rest
Says_of I E ts (stop fault left) = E fault ts left

abbrev pub one : {T P : Type 0} (V : P → Type 0) {A : Type 0} → (T → Option A) → Part T V A
one V meaning = tok meaning

abbrev pub Meets_item : {T A : Type 0} → (A → List T → List T → Type 0) → (Fault → List T → ℕ → Type 0) → (T → Bool) → Fault → List T → ℕ → Type 0
Meets_item {T} {A} I E class fault ts left =
    (n : ℕ) × AfterTurns (λ _ _ m r. (next_is class m ≡ true) × ((a : A) × I a m r)) (λ _ m. (next_is class m ≡ true) × E fault m left) n (tt {0}) ts

abbrev pub Reads_turns : {T S : Type 0} → (S → S → List T → List T → Type 0) → (S → T → Bool) → S → S → List T → List T → Type 0
Reads_turns I class s a ts rest = (n : ℕ) × AfterTurns (λ u v m r. (next_is (class u) m ≡ true) × I u v m r) (λ u m. (a ≡ u) × (rest ≡ m) × (next_is (class u) m ≡ false)) n s ts

abbrev pub Meets_turns : {T S : Type 0} → (S → S → List T → List T → Type 0) → (S → Fault → List T → ℕ → Type 0) → (S → T → Bool) → S → Fault → List T → ℕ → Type 0
Meets_turns I E class s fault ts left = (n : ℕ) × AfterTurns (λ u v m r. (next_is (class u) m ≡ true) × I u v m r) (λ u m. (next_is (class u) m ≡ true) × E u fault m left) n s ts

pub shorter_mid : {T A : Type 0} (ts mid : List T) (a : A) (o : Out T A) (n : ℕ) → o ≡ got a mid → Sized 1 ts o → length ts ≤ suc n → length mid ≤ n
shorter_mid ts mid a o n e h b = let k : Sized 1 ts (got a mid) = rw e at h in omega arith

pub next-none : {T : Type 0} (class : T → Bool) (ts : List T) → next_is class ts ≡ true → length ts ≤ 0 → ⊥
next-none class [] e b = cc
next-none class (t ∷ ts) e b = omega arith

-- A repetition
module _ {T A : Type 0} (item : List T → Out T A) (I : A → List T → List T → Type 0) (E : Fault → List T → ℕ → Type 0) (class : T → Bool) (short : (ts : List T) → Sized 1 ts (item ts)) where
  many-sound : ((ts : List T) → Says_of I E ts (item ts)) → (n : ℕ) (ts : List T) → length ts ≤ n → Says_of (Repeats (λ a m r. (next_is class m ≡ true) × I a m r) (λ m. next_is class m ≡ false)) (Meets_item I E class) ts (many item class n ts)
  many-sound h zero [] b = (refl, refl)
  many-sound h zero (t ∷ ts) b = absurd (omega arith)
  many-sound h (suc n) ts b = go (next_is class ts) refl (item ts) (h ts) (short ts) (λ mid l. many-sound h n mid l)
    where
      join : (a : A) (mid : List T) → next_is class ts ≡ true → I a ts mid → (o : Out T (List A)) → Says_of (Repeats (λ a m r. (next_is class m ≡ true) × I a m r) (λ m. next_is class m ≡ false)) (Meets_item I E class) mid o → Says_of (Repeats (λ a m r. (next_is class m ≡ true) × I a m r) (λ m. next_is class m ≡ false)) (Meets_item I E class) ts (then_ o (λ more rest. got (a ∷ more) rest))
      join a mid e i (got more rest) r = (mid, (e, i), r)
      join a mid e i (stop fault left) r = (suc r.0, (tt, mid, (e, (a, i)), r.1))

      go : (d : Bool) → next_is class ts ≡ d → (o : Out T A) → Says_of I E ts o → Sized 1 ts o → ((mid : List T) → length mid ≤ n → Says_of (Repeats (λ a m r. (next_is class m ≡ true) × I a m r) (λ m. next_is class m ≡ false)) (Meets_item I E class) mid (many item class n mid)) → Says_of (Repeats (λ a m r. (next_is class m ≡ true) × I a m r) (λ m. next_is class m ≡ false)) (Meets_item I E class) ts (cond d (then_ o (λ a mid. then_ (many item class n mid) (λ more rest. got (a ∷ more) rest))) (got [] ts))
      go false e o i s more = (refl, e)
      go true e (stop fault left) i s more = (0, (e, i))
      go true e (got a mid) i s more = join a mid e i (many item class n mid) (more mid (omega arith))

  many-tree : ((a : A) (ts rest : List T) → I a ts rest → item ts ≡ got a rest) → (list : List A) (n : ℕ) (ts rest : List T) → length ts ≤ n → Repeats (λ a m r. (next_is class m ≡ true) × I a m r) (λ m. next_is class m ≡ false) list ts rest → many item class n ts ≡ got list rest
  many-tree h [] zero ts rest b r = ap (λ (z : List T). got [] z) (sym r.0)
  many-tree h [] (suc n) ts rest b r = rw (r.1, r.0)
  many-tree h (a ∷ more) zero ts rest b r = absurd (next-none class ts r.1.0 b)
  many-tree h (a ∷ more) (suc n) ts rest b r =
      let e : item ts ≡ got a r.0 = h a ts r.0 r.1.1 in
      rw (r.1.0, e, many-tree h more n r.0 rest (shorter_mid ts r.0 a (item ts) n e (short ts) b) r.2)

  many-fault : ((a : A) (ts rest : List T) → I a ts rest → item ts ≡ got a rest) → ((fault : Fault) (ts : List T) (left : ℕ) → E fault ts left → item ts ≡ stop fault left) → (fault : Fault) (left k n : ℕ) (ts : List T) → length ts ≤ n → AfterTurns (λ _ _ m r. (next_is class m ≡ true) × ((a : A) × I a m r)) (λ _ m. (next_is class m ≡ true) × E fault m left) k (tt {0}) ts → many item class n ts ≡ stop fault left
  many-fault h f fault left zero zero ts b r = absurd (next-none class ts r.0 b)
  many-fault h f fault left (suc k) zero ts b r = absurd (next-none class ts r.2.0 b)
  many-fault h f fault left zero (suc n) ts b r = rw (r.0, f fault ts left r.1)
  many-fault h f fault left (suc k) (suc n) ts b r =
      let e : item ts ≡ got r.2.1.0 r.1 = h r.2.1.0 ts r.1 r.2.1.1 in
      rw (r.2.0, e, many-fault h f fault left k n r.1 (shorter_mid ts r.1 r.2.1.0 (item ts) n e (short ts) b) r.3)

-- An iteration
module _ {T S : Type 0} (turn : S → List T → Out T S) (I : S → S → List T → List T → Type 0) (E : S → Fault → List T → ℕ → Type 0) (class : S → T → Bool) (short : (s : S) (ts : List T) → Sized 1 ts (turn s ts)) where
  turns-sound : ((s : S) (ts : List T) → Says_of (I s) (E s) ts (turn s ts)) → (n : ℕ) (s : S) (ts : List T) → length ts ≤ n → Says_of (Reads_turns I class s) (Meets_turns I E class s) ts (turns turn class n s ts)
  turns-sound h zero s [] b = (0, (refl, refl, refl))
  turns-sound h zero s (t ∷ ts) b = absurd (omega arith)
  turns-sound h (suc n) s ts b = go (next_is (class s) ts) refl (turn s ts) (h s ts) (short s ts) (λ u mid l. turns-sound h n u mid l)
    where
      join : (u : S) (mid : List T) → next_is (class s) ts ≡ true → I s u ts mid → (o : Out T S) → Says_of (Reads_turns I class u) (Meets_turns I E class u) mid o → Says_of (Reads_turns I class s) (Meets_turns I E class s) ts o
      join u mid e i (got v rest) r = (suc r.0, (u, mid, (e, i), r.1))
      join u mid e i (stop fault left) r = (suc r.0, (u, mid, (e, i), r.1))

      go : (d : Bool) → next_is (class s) ts ≡ d → (o : Out T S) → Says_of (I s) (E s) ts o → Sized 1 ts o → ((u : S) (mid : List T) → length mid ≤ n → Says_of (Reads_turns I class u) (Meets_turns I E class u) mid (turns turn class n u mid)) → Says_of (Reads_turns I class s) (Meets_turns I E class s) ts (cond d (then_ o (turns turn class n)) (got s ts))
      go false e o i z more = (0, (refl, refl, e))
      go true e (stop fault left) i z more = (0, (e, i))
      go true e (got u mid) i z more = join u mid e i (turns turn class n u mid) (more u mid (omega arith))

  turns-tree : ((s u : S) (ts rest : List T) → I s u ts rest → turn s ts ≡ got u rest) → (a : S) (rest : List T) (k n : ℕ) (s : S) (ts : List T) → length ts ≤ n → AfterTurns (λ u v m r. (next_is (class u) m ≡ true) × I u v m r) (λ u m. (a ≡ u) × (rest ≡ m) × (next_is (class u) m ≡ false)) k s ts → turns turn class n s ts ≡ got a rest
  turns-tree h a rest zero zero s ts b r = rw (r.0, r.1)
  turns-tree h a rest zero (suc n) s ts b r = rw (r.2, r.0, r.1)
  turns-tree h a rest (suc k) zero s ts b r = absurd (next-none (class s) ts r.2.0 b)
  turns-tree h a rest (suc k) (suc n) s ts b r =
      let e : turn s ts ≡ got r.0 r.1 = h s r.0 ts r.1 r.2.1 in
      rw (r.2.0, e, turns-tree h a rest k n r.0 r.1 (shorter_mid ts r.1 r.0 (turn s ts) n e (short s ts) b) r.3)

  turns-fault : ((s u : S) (ts rest : List T) → I s u ts rest → turn s ts ≡ got u rest) → ((s : S) (fault : Fault) (ts : List T) (left : ℕ) → E s fault ts left → turn s ts ≡ stop fault left) → (fault : Fault) (left k n : ℕ) (s : S) (ts : List T) → length ts ≤ n → AfterTurns (λ u v m r. (next_is (class u) m ≡ true) × I u v m r) (λ u m. (next_is (class u) m ≡ true) × E u fault m left) k s ts → turns turn class n s ts ≡ stop fault left
  turns-fault h f fault left zero zero s ts b r = absurd (next-none (class s) ts r.0 b)
  turns-fault h f fault left (suc k) zero s ts b r = absurd (next-none (class s) ts r.2.0 b)
  turns-fault h f fault left zero (suc n) s ts b r = rw (r.0, f s fault ts left r.1)
  turns-fault h f fault left (suc k) (suc n) s ts b r =
      let e : turn s ts ≡ got r.0 r.1 = h s r.0 ts r.1 r.2.1 in
      rw (r.2.0, e, turns-fault h f fault left k n r.0 r.1 (shorter_mid ts r.1 r.0 (turn s ts) n e (short s ts) b) r.3)

module _ {T P : Type 0} {V : P → Type 0} (R : (p : P) → List T → Out T (V p)) (N : (p : P) → V p → List T → List T → Type 0) (M : (p : P) → Fault → List T → ℕ → Type 0) (each : (p : P) (ts : List T) → Sized 1 ts (R p ts)) where
  short-run : {A : Type 0} (p : Part T V A) → eats p ≡ true → (ts : List T) → Sized 1 ts (run R p ts)
  short-run p e ts = rw e at (size-run R each p ts)

  -- what is read is so
  module _ (nested-sound : (p : P) (ts : List T) → Says_of (N p) (M p) ts (R p ts)) where
    token-sound : {A : Type 0} (meaning : T → Option A) (ts : List T) → Says_of (Reads N (one V meaning)) (Meets N M (one V meaning)) ts (token_of meaning ts)
    token-sound meaning [] = (refl, refl, tt)
    token-sound {A} meaning (t ∷ ts) = go (meaning t) refl
      where
        go : (o : Option A) → meaning t ≡ o → Says_of (Reads N (one V meaning)) (Meets N M (one V meaning)) (t ∷ ts) (taken o ts)
        go (Some a) e = (t, refl, e)
        go None e = (refl, refl, e)

    pub run-sound : {A : Type 0} (p : Part T V A) → Advances p → (ts : List T) → Says_of (Reads N p) (Meets N M p) ts (run R p ts)
    run-sound (done a) v ts = (refl, refl)
    run-sound (tok meaning) v ts = token-sound meaning ts
    run-sound (seq {A} {B} p q) v ts = go (run R p ts) (run-sound p v.0 ts) (λ mid. run-sound q v.1 mid)
      where
        join : (a : A) (mid : List T) → Reads N p a ts mid → (o : Out T B) → Says_of (Reads N q) (Meets N M q) mid o → Says_of (Reads N (seq p q)) (Meets N M (seq p q)) ts (then_ o (λ b rest. got (a, b) rest))
        join a mid i (got b rest) r = (mid, i, r)
        join a mid i (stop fault left) r = inr (a, mid, i, r)

        go : (o : Out T A) → Says_of (Reads N p) (Meets N M p) ts o → ((mid : List T) → Says_of (Reads N q) (Meets N M q) mid (run R q mid)) → Says_of (Reads N (seq p q)) (Meets N M (seq p q)) ts (then_ o (λ a mid. then_ (run R q mid) (λ b rest. got (a, b) rest)))
        go (got a mid) i h = join a mid i (run R q mid) (h mid)
        go (stop fault left) i h = inl i
    run-sound (bind {A} {B} p q) v ts = go (run R p ts) (run-sound p v.0 ts) (λ a mid. run-sound (q a) (v.1 a) mid)
      where
        join : (a : A) (mid : List T) → Reads N p a ts mid → (o : Out T B) → Says_of (Reads N (q a)) (Meets N M (q a)) mid o → Says_of (Reads N (bind p q)) (Meets N M (bind p q)) ts o
        join a mid i (got b rest) r = (a, mid, i, r)
        join a mid i (stop fault left) r = inr (a, mid, i, r)

        go : (o : Out T A) → Says_of (Reads N p) (Meets N M p) ts o → ((a : A) (mid : List T) → Says_of (Reads N (q a)) (Meets N M (q a)) mid (run R (q a) mid)) → Says_of (Reads N (bind p q)) (Meets N M (bind p q)) ts (then_ o (λ a mid. run R (q a) mid))
        go (got a mid) i h = join a mid i (run R (q a) mid) (h a mid)
        go (stop fault left) i h = inl i
    run-sound (act {A} {B} f p) v ts = go (run R p ts) (run-sound p v ts)
      where
        go : (o : Out T A) → Says_of (Reads N p) (Meets N M p) ts o → Says_of (Reads N (act f p)) (Meets N M (act f p)) ts (then_ o (λ a rest. got (f a) rest))
        go (got a rest) i = (a, refl, i)
        go (stop fault left) i = i
    run-sound (alt {A} class p q) v ts = go (next_is class ts) refl (run R p ts) (run R q ts) (run-sound p v.0 ts) (run-sound q v.1 ts)
      where
        go : (d : Bool) → next_is class ts ≡ d → (o o' : Out T A) → Says_of (Reads N p) (Meets N M p) ts o → Says_of (Reads N q) (Meets N M q) ts o' → Says_of (Reads N (alt class p q)) (Meets N M (alt class p q)) ts (cond d o o')
        go true e (got a rest) o' i j = inl (e, i)
        go true e (stop fault left) o' i j = inl (e, i)
        go false e o (got a rest) i j = inr (e, j)
        go false e o (stop fault left) i j = inr (e, j)
    run-sound (rep class p) v ts = many-sound (run R p) (Reads N p) (Meets N M p) class (short-run p v.0) (λ m. run-sound p v.1 m) (length ts) ts (omega arith)
    run-sound (iter class part s) v ts = turns-sound (λ u. run R (part u)) (λ u. Reads N (part u)) (λ u. Meets N M (part u)) class (λ u. short-run (part u) (v u).0) (λ u m. run-sound (part u) (v u).1 m) (length ts) s ts (omega arith)
    run-sound (nested p) v ts = nested-sound p ts
    run-sound (unless class p) v ts = run-sound p v ts
    run-sound (barred class p) v ts = run-sound p v ts

  -- what is so is read
  module _ (nested-tree : (p : P) (a : V p) (ts rest : List T) → N p a ts rest → R p ts ≡ got a rest) where
    pub run-tree : {A : Type 0} (p : Part T V A) → Advances p → (a : A) (ts rest : List T) → Reads N p a ts rest → run R p ts ≡ got a rest
    run-tree (done b) v a ts rest h = rw (h.0, h.1)
    run-tree (tok meaning) v a ts rest h = rw (h.1, h.2)
    run-tree (seq p q) v a ts rest h = rw (run-tree p v.0 a.0 ts h.0 h.1, run-tree q v.1 a.1 h.0 rest h.2)
    run-tree (bind p q) v b ts rest h = rw (run-tree p v.0 h.0 ts h.1 h.2, run-tree (q h.0) (v.1 h.0) b h.1 rest h.3)
    run-tree (act f p) v b ts rest h = rw (run-tree p v h.0 ts rest h.2, h.1)
    run-tree (alt class p q) v a ts rest (inl h) = rw (h.0, run-tree p v.0 a ts rest h.1)
    run-tree (alt class p q) v a ts rest (inr h) = rw (h.0, run-tree q v.1 a ts rest h.1)
    run-tree (rep class p) v a ts rest h = many-tree (run R p) (Reads N p) (Meets N M p) class (short-run p v.0) (run-tree p v.1) a (length ts) ts rest (omega arith) h
    run-tree (iter class part s) v a ts rest h = turns-tree (λ u. run R (part u)) (λ u. Reads N (part u)) (λ u. Meets N M (part u)) class (λ u. short-run (part u) (v u).0) (λ u w m r. run-tree (part u) (v u).1 w m r) a rest h.0 (length ts) s ts (omega arith) h.1
    run-tree (nested p) v a ts rest h = nested-tree p a ts rest h
    run-tree (unless class p) v a ts rest h = run-tree p v a ts rest h
    run-tree (barred class p) v a ts rest h = run-tree p v a ts rest h

    module _ (nested-fault : (p : P) (fault : Fault) (ts : List T) (left : ℕ) → M p fault ts left → R p ts ≡ stop fault left) where
      token-fault : {A : Type 0} (meaning : T → Option A) (fault : Fault) (ts : List T) (left : ℕ) → Meets N M (one V meaning) fault ts left → token_of meaning ts ≡ stop fault left
      token-fault meaning fault [] left h = rw (h.0, h.1)
      token-fault meaning fault (t ∷ ts) left h = rw (h.2, h.0, h.1)

      pub run-fault : {A : Type 0} (p : Part T V A) → Advances p → (fault : Fault) (ts : List T) (left : ℕ) → Meets N M p fault ts left → run R p ts ≡ stop fault left
      run-fault (done b) v fault ts left h = absurd h
      run-fault (tok meaning) v fault ts left h = token-fault meaning fault ts left h
      run-fault (seq p q) v fault ts left (inl h) = rw (run-fault p v.0 fault ts left h)
      run-fault (seq p q) v fault ts left (inr h) = rw (run-tree p v.0 h.0 ts h.1 h.2, run-fault q v.1 fault h.1 left h.3)
      run-fault (bind p q) v fault ts left (inl h) = rw (run-fault p v.0 fault ts left h)
      run-fault (bind p q) v fault ts left (inr h) = rw (run-tree p v.0 h.0 ts h.1 h.2, run-fault (q h.0) (v.1 h.0) fault h.1 left h.3)
      run-fault (act f p) v fault ts left h = rw (run-fault p v fault ts left h)
      run-fault (alt class p q) v fault ts left (inl h) = rw (h.0, run-fault p v.0 fault ts left h.1)
      run-fault (alt class p q) v fault ts left (inr h) = rw (h.0, run-fault q v.1 fault ts left h.1)
      run-fault (rep class p) v fault ts left h = many-fault (run R p) (Reads N p) (Meets N M p) class (short-run p v.0) (run-tree p v.1) (run-fault p v.1) fault left h.0 (length ts) ts (omega arith) h.1
      run-fault (iter class part s) v fault ts left h = turns-fault (λ u. run R (part u)) (λ u. Reads N (part u)) (λ u. Meets N M (part u)) class (λ u. short-run (part u) (v u).0) (λ u w m r. run-tree (part u) (v u).1 w m r) (λ u f m l. run-fault (part u) (v u).1 f m l) fault left h.0 (length ts) s ts (omega arith) h.1
      run-fault (nested p) v fault ts left h = nested-fault p fault ts left h
      run-fault (unless class p) v fault ts left h = run-fault p v fault ts left h
      run-fault (barred class p) v fault ts left h = run-fault p v fault ts left h

past-sound : {T : Type 0} (A : Type 0) (ts : List T) → Says_of (λ (a : A) m r. ⊥) MeetsPast ts (past_levels {A = A} ts)
past-sound A [] = (refl, refl)
past-sound A (t ∷ ts) = (refl, refl)

past-fault : {T : Type 0} (A : Type 0) (fault : Fault) (ts : List T) (left : ℕ) → MeetsPast fault ts left → past_levels {A = A} ts ≡ stop fault left
past-fault A fault [] left h = rw (h.0, h.1)
past-fault A fault (t ∷ ts) left h = rw (h.0, h.1)

module _ {T P : Type 0} {V : P → Type 0} (grammar : (p : P) → Part T V (V p)) (eating : (p : P) → eats (grammar p) ≡ true) (advancing : (p : P) → Advances (grammar p)) where
  pub reader-sound : (n : ℕ) (p : P) (ts : List T) → Says_of (ReadsAt grammar n p) (MeetsAt grammar n p) ts (reader grammar n p ts)
  reader-sound zero p ts = past-sound (V p) ts
  reader-sound (suc n) p ts = run-sound (reader grammar n) (ReadsAt grammar n) (MeetsAt grammar n) (size-reader grammar eating n) (reader-sound n) (grammar p) (advancing p) ts

  pub reader-tree : (n : ℕ) (p : P) (a : V p) (ts rest : List T) → ReadsAt grammar n p a ts rest → reader grammar n p ts ≡ got a rest
  reader-tree zero p a ts rest h = absurd h
  reader-tree (suc n) p a ts rest h = run-tree (reader grammar n) (ReadsAt grammar n) (MeetsAt grammar n) (size-reader grammar eating n) (reader-tree n) (grammar p) (advancing p) a ts rest h

  pub reader-fault : (n : ℕ) (p : P) (fault : Fault) (ts : List T) (left : ℕ) → MeetsAt grammar n p fault ts left → reader grammar n p ts ≡ stop fault left
  reader-fault zero p fault ts left h = past-fault (V p) fault ts left h
  reader-fault (suc n) p fault ts left h = run-fault (reader grammar n) (ReadsAt grammar n) (MeetsAt grammar n) (size-reader grammar eating n) (reader-tree n) (reader-fault n) (grammar p) (advancing p) fault ts left h
