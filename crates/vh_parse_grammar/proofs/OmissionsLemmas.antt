-- What is answered is the reading of the pure grammar, with the first place of what is shown to be left
-- out as its omission.
use Rattle.std.proofs.Common.{◌≡◌, if◌then◌else◌, ℕ, zero, suc, ◌≤◌, max, Bool, true, false, cond, Option, Some, None, List, [], ◌∷◌, length, ◌⊎◌, inl, inr, refl, sym, ap, ◌∙◌, arith}
use Rattle.std.proofs.Math.Nat.{le-max_left, le-max_right, max-eq_left, max-eq_right}
use Rattle.std.proofs.lemmas.Bool.Decides.{leb_tells}
use Rattle.vh_parse_grammar.specs.Part.{Part, done, tok, seq, bind, act, alt, rep, iter, nested, unless, barred}
use Rattle.vh_parse_grammar.specs.Reading.{Fault, lost, deep, left_out, Out, got, stop, then_, next_is, taken, token_of, past_levels, many, turns, run, reader}
use Rattle.vh_parse_grammar.specs.Omissions.{omission_at, refusal, taken_from, noting_token, noting_past, noting_many, noting, noting_at}
use Rattle.vh_parse_grammar.specs.Sentences.{AfterTurns, ShowsHere, Reads, Shows, ReadsAt, MeetsAt, ShowsAt}
use Rattle.vh_parse_grammar.specs.Conditions.{eats, Advances}
use Rattle.vh_parse_grammar.proofs.Size.{Sized, size-run, size-reader}
use Rattle.vh_parse_grammar.proofs.Outcomes.{Says_of, one, shorter_mid, run-sound, run-tree, reader-sound, reader-tree}

max-is : (a b : ℕ) → (max a b ≡ a) ⊎ (max a b ≡ b)
max-is a b = elim (leb_tells a b) [ inl e ↦ inr (max-eq_right e.1) | inr e ↦ inl (max-eq_left (omega arith)) ]

-- An outcome of the pure grammar, with an omission
abbrev pub attached : {T A : Type 0} → ℕ → Out T A → Out T (A × ℕ)
attached k (got a rest) = got (a, k) rest
attached k (stop fault left) = refusal fault left k

-- From the omission `m` on, `k` is the first place of what is shown
pub record Peak (S : ℕ → ℕ → Type 0) (m k : ℕ) : Type 0 where
  pub least : m ≤ k
  pub most : (place shown : ℕ) → S place shown → place ≤ k
  pub is : (k ≡ m) ⊎ ((shown : ℕ) × S k shown)

peak-none : (S : ℕ → ℕ → Type 0) (m : ℕ) → ((place shown : ℕ) → S place shown → ⊥) → Peak S m m
peak-none S m n = record { least = omega arith; most = λ place shown s. absurd (n place shown s); is = inl refl }

pub peak-map : (S U : ℕ → ℕ → Type 0) (m k : ℕ) → ((place shown : ℕ) → S place shown → U place shown) → ((place shown : ℕ) → U place shown → S place shown) → Peak S m k → Peak U m k
peak-map S U m k f g p = record {
  least = p.least;
  most = λ place shown u. p.most place shown (g place shown u);
  is = elim p.is [ inl e ↦ inl e | inr s ↦ inr (s.0, f k s.0 s.1) ];
}

pub peak-then : (S S' U : ℕ → ℕ → Type 0) (m k k' : ℕ) → ((place shown : ℕ) → S place shown → U place shown) → ((place shown : ℕ) → S' place shown → U place shown) → ((place shown : ℕ) → U place shown → S place shown ⊎ S' place shown) → Peak S m k → Peak S' k k' → Peak U m k'
peak-then S S' U m k k' f g h p q = record {
  least = let a : m ≤ k = p.least in let b : k ≤ k' = q.least in omega arith;
  most = λ place shown u. elim (h place shown u) [ inl s ↦ (let a : place ≤ k = p.most place shown s in let b : k ≤ k' = q.least in omega arith) | inr s ↦ q.most place shown s ];
  is = elim q.is [ inl e ↦ back e p.is | inr s ↦ inr (s.0, g k' s.0 s.1) ];
}
  where
    back : k' ≡ k → (k ≡ m) ⊎ ((shown : ℕ) × S k shown) → (k' ≡ m) ⊎ ((shown : ℕ) × U k' shown)
    back e (inl d) = inl (e ∙ d)
    back e (inr s) = inr (s.0, rw e (f k s.0 s.1))

-- A token of a class that is next
pub peak-at : {T : Type 0} (ts : List T) (n : ℕ) (c d : Bool) (m : ℕ) → c ≡ d → Peak (λ place shown. (c ≡ true) × (place ≡ length ts) × (shown ≡ n)) m (omission_at ts d m)
peak-at ts n c true m e = record {
  least = le-max_left m (length ts);
  most = λ place shown s. rw s.1 (le-max_right m (length ts));
  is = elim (max-is m (length ts)) [ inl q ↦ inl q | inr q ↦ inr (n, (e, q, refl)) ];
}
peak-at ts n c false m e = peak-none (λ place shown. (c ≡ true) × (place ≡ length ts) × (shown ≡ n)) m (λ place shown s. let q : c ≡ true = s.0 in cc)

-- How a noting outcome stands to that of the pure grammar
abbrev pub Judged : {T A : Type 0} → (ℕ → ℕ → Type 0) → ℕ → Out T A → Out T (A × ℕ) → Type 0
Judged S m o o' = (k : ℕ) × (o' ≡ attached k o) × Peak S m k

pub refusal-then : {T A B : Type 0} (fault : Fault) (left k : ℕ) (next : A → List T → Out T B) → then_ (refusal fault left k) next ≡ refusal fault left k
refusal-then fault left zero next = refl
refusal-then fault left (suc k) next = refl

judged-then : {T A B : Type 0} (S U : ℕ → ℕ → Type 0) (S' : A → List T → ℕ → ℕ → Type 0) (m : ℕ) (o : Out T A) (o' : Out T (A × ℕ)) (next : A → List T → Out T B) (next' : A × ℕ → List T → Out T (B × ℕ)) →
    ((place shown : ℕ) → S place shown → U place shown) →
    ((a : A) (mid : List T) (place shown : ℕ) → o ≡ got a mid → S' a mid place shown → U place shown) →
    ((place shown : ℕ) → U place shown → S place shown ⊎ ((a : A) × (mid : List T) × (o ≡ got a mid) × S' a mid place shown)) →
    Judged S m o o' → ((a : A) (mid : List T) (n : ℕ) → o ≡ got a mid → Judged (S' a mid) n (next a mid) (next' (a, n) mid)) → Judged U m (then_ o next) (then_ o' next')
judged-then {T} {A} {B} S U S' m (got a mid) o' next next' f g h j n =
    let r : Judged (S' a mid) j.0 (next a mid) (next' (a, j.0) mid) = n a mid j.0 refl in
    (r.0, ap (λ (z : Out T (A × ℕ)). then_ z next') j.1 ∙ r.1, peak-then S (S' a mid) U m j.0 r.0 f (λ place shown s. g a mid place shown refl s) (λ place shown u. which place shown (h place shown u)) j.2 r.2)
  where
    same : (b : A) (c : List T) → got a mid ≡ got b c → (b ≡ a) × (c ≡ mid)
    same b c e = (cc, cc)

    which : (place shown : ℕ) → S place shown ⊎ ((b : A) × (c : List T) × (got a mid ≡ got b c) × S' b c place shown) → S place shown ⊎ S' a mid place shown
    which place shown (inl s) = inl s
    which place shown (inr s) = let e : (s.0 ≡ a) × (s.1 ≡ mid) = same s.0 s.1 s.2 in inr (rw (e.0, e.1) at s.3)
judged-then {T} {A} {B} S U S' m (stop fault left) o' next next' f g h j n =
    (j.0, ap (λ (z : Out T (A × ℕ)). then_ z next') j.1 ∙ refusal-then fault left j.0 next', peak-map S U m j.0 f (λ place shown u. which place shown (h place shown u)) j.2)
  where
    which : (place shown : ℕ) → S place shown ⊎ ((b : A) × (c : List T) × (stop fault left ≡ got b c) × S' b c place shown) → S place shown
    which place shown (inl s) = s
    which place shown (inr s) = let e : stop fault left ≡ got s.0 s.1 = s.2 in cc

judged-act : {T A B : Type 0} (S : ℕ → ℕ → Type 0) (m : ℕ) (f : A → B) (o : Out T A) (o' : Out T (A × ℕ)) → Judged S m o o' → Judged S m (then_ o (λ b rest. got (f b) rest)) (then_ o' (λ b rest. got (f b.0, b.1) rest))
judged-act {T} {A} {B} S m f o o' j = (j.0, ap (λ (z : Out T (A × ℕ)). then_ z (λ b rest. got (f b.0, b.1) rest)) j.1 ∙ go o, j.2)
  where
    go : (o : Out T A) → then_ (attached j.0 o) (λ b rest. got (f b.0, b.1) rest) ≡ attached j.0 (then_ o (λ b rest. got (f b) rest))
    go (got a rest) = refl
    go (stop fault left) = refusal-then fault left j.0 (λ b rest. got (f b.0, b.1) rest)

judged-map : {T A : Type 0} (S U : ℕ → ℕ → Type 0) (m : ℕ) (o : Out T A) (o' : Out T (A × ℕ)) → ((place shown : ℕ) → S place shown → U place shown) → ((place shown : ℕ) → U place shown → S place shown) → Judged S m o o' → Judged U m o o'
judged-map S U m o o' f g j = (j.0, j.1, peak-map S U m j.0 f g j.2)

-- A repetition
abbrev pub Shows_item : {T A : Type 0} → (A → List T → List T → Type 0) → (List T → ℕ → ℕ → Type 0) → (T → Bool) → List T → ℕ → ℕ → Type 0
Shows_item {T} {A} I S class ts place shown =
    (n : ℕ) × AfterTurns (λ _ _ m r. (next_is class m ≡ true) × ((a : A) × I a m r)) (λ _ m. (next_is class m ≡ true) × S m place shown) n (tt {0}) ts

module _ {T A : Type 0} (item : List T → Out T A) (item' : List T → ℕ → Out T (A × ℕ)) (I : A → List T → List T → Type 0) (S : List T → ℕ → ℕ → Type 0) (class : T → Bool) (short : (ts : List T) → Sized 1 ts (item ts)) (tree : (a : A) (ts rest : List T) → I a ts rest → item ts ≡ got a rest) (says : (a : A) (ts rest : List T) → item ts ≡ got a rest → I a ts rest) (judged : (ts : List T) (m : ℕ) → Judged (S ts) m (item ts) (item' ts m)) where
  shows-next : (ts : List T) (place shown : ℕ) → Shows_item I S class ts place shown → next_is class ts ≡ true
  shows-next ts place shown (zero, s) = s.0
  shows-next ts place shown (suc n, s) = s.2.0

  judged-many : (n : ℕ) (ts : List T) (m : ℕ) → length ts ≤ n → Judged (Shows_item I S class ts) m (many item class n ts) (noting_many item' class n ts m)
  judged-many zero [] m b = (m, refl, peak-none (Shows_item I S class []) m (λ place shown s. let e : next_is class [] ≡ true = shows-next [] place shown s in cc))
  judged-many zero (t ∷ ts) m b = absurd (omega arith)
  judged-many (suc n) ts m b = go (next_is class ts) refl (λ mid k l. judged-many n mid k l)
    where
      put : A → List A → List T → Out T (List A)
      put a more rest = got (a ∷ more) rest

      from : (place shown : ℕ) → Shows_item I S class ts place shown → S ts place shown ⊎ ((a : A) × (mid : List T) × (item ts ≡ got a mid) × Shows_item I S class mid place shown)
      from place shown (zero, s) = inl s.1
      from place shown (suc k, s) = inr (s.2.1.0, s.1, tree s.2.1.0 ts s.1 s.2.1.1, (k, s.3))

      go : (d : Bool) → next_is class ts ≡ d → ((mid : List T) (k : ℕ) → length mid ≤ n → Judged (Shows_item I S class mid) k (many item class n mid) (noting_many item' class n mid k)) → Judged (Shows_item I S class ts) m (cond d (then_ (item ts) (λ a mid. then_ (many item class n mid) (λ more rest. got (a ∷ more) rest))) (got [] ts)) (if d then then_ (item' ts m) (λ a mid. then_ (noting_many item' class n mid a.1) (λ more rest. got (a.0 ∷ more.0, more.1) rest)) else got ([], m) ts)
      go false e ih = (m, refl, peak-none (Shows_item I S class ts) m (λ place shown s. let d : next_is class ts ≡ true = shows-next ts place shown s in cc))
      go true e ih =
          judged-then (S ts) (Shows_item I S class ts) (λ a mid. Shows_item I S class mid) m (item ts) (item' ts m) (λ a mid. then_ (many item class n mid) (λ more rest. got (a ∷ more) rest)) (λ a mid. then_ (noting_many item' class n mid a.1) (λ more rest. got (a.0 ∷ more.0, more.1) rest))
          (λ place shown s. (0, (e, s)))
          (λ a mid place shown q s. (suc s.0, (tt, mid, (e, (a, says a ts mid q)), s.1)))
          from
          (judged ts m)
          (λ a mid k q. judged-act (Shows_item I S class mid) k (λ more. a ∷ more) (many item class n mid) (noting_many item' class n mid k) (ih mid k (shorter_mid ts mid a (item ts) n q (short ts) b)))

-- An iteration
abbrev pub Shows_turns : {T S : Type 0} → (S → S → List T → List T → Type 0) → (S → List T → ℕ → ℕ → Type 0) → (S → T → Bool) → S → List T → ℕ → ℕ → Type 0
Shows_turns I W class s ts place shown = (n : ℕ) × AfterTurns (λ u v m r. (next_is (class u) m ≡ true) × I u v m r) (λ u m. (next_is (class u) m ≡ true) × W u m place shown) n s ts

module _ {T S : Type 0} (turn : S → List T → Out T S) (turn' : S → List T → ℕ → Out T (S × ℕ)) (I : S → S → List T → List T → Type 0) (W : S → List T → ℕ → ℕ → Type 0) (class : S → T → Bool) (short : (s : S) (ts : List T) → Sized 1 ts (turn s ts)) (tree : (s u : S) (ts rest : List T) → I s u ts rest → turn s ts ≡ got u rest) (says : (s u : S) (ts rest : List T) → turn s ts ≡ got u rest → I s u ts rest) (judged : (s : S) (ts : List T) (m : ℕ) → Judged (W s ts) m (turn s ts) (turn' s ts m)) where
  turns-next : (s : S) (ts : List T) (place shown : ℕ) → Shows_turns I W class s ts place shown → next_is (class s) ts ≡ true
  turns-next s ts place shown (zero, w) = w.0
  turns-next s ts place shown (suc n, w) = w.2.0

  judged-turns : (n : ℕ) (s : S) (ts : List T) (m : ℕ) → length ts ≤ n → Judged (Shows_turns I W class s ts) m (turns turn class n s ts) (turns (λ u mid. turn' u.0 mid u.1) (λ u. class u.0) n (s, m) ts)
  judged-turns zero s [] m b = (m, refl, peak-none (Shows_turns I W class s []) m (λ place shown w. let e : next_is (class s) [] ≡ true = turns-next s [] place shown w in cc))
  judged-turns zero s (t ∷ ts) m b = absurd (omega arith)
  judged-turns (suc n) s ts m b = go (next_is (class s) ts) refl (λ u mid k l. judged-turns n u mid k l)
    where
      from : (place shown : ℕ) → Shows_turns I W class s ts place shown → W s ts place shown ⊎ ((u : S) × (mid : List T) × (turn s ts ≡ got u mid) × Shows_turns I W class u mid place shown)
      from place shown (zero, w) = inl w.1
      from place shown (suc k, w) = inr (w.0, w.1, tree s w.0 ts w.1 w.2.1, (k, w.3))

      go : (d : Bool) → next_is (class s) ts ≡ d → ((u : S) (mid : List T) (k : ℕ) → length mid ≤ n → Judged (Shows_turns I W class u mid) k (turns turn class n u mid) (turns (λ u mid. turn' u.0 mid u.1) (λ u. class u.0) n (u, k) mid)) → Judged (Shows_turns I W class s ts) m (cond d (then_ (turn s ts) (turns turn class n)) (got s ts)) (cond d (then_ (turn' s ts m) (turns (λ u mid. turn' u.0 mid u.1) (λ u. class u.0) n)) (got (s, m) ts))
      go false e ih = (m, refl, peak-none (Shows_turns I W class s ts) m (λ place shown w. let d : next_is (class s) ts ≡ true = turns-next s ts place shown w in cc))
      go true e ih =
          judged-then (W s ts) (Shows_turns I W class s ts) (λ u mid. Shows_turns I W class u mid) m (turn s ts) (turn' s ts m) (turns turn class n) (turns (λ u mid. turn' u.0 mid u.1) (λ u. class u.0) n)
          (λ place shown w. (0, (e, w)))
          (λ u mid place shown q w. (suc w.0, (u, mid, (e, says s u ts mid q), w.1)))
          from
          (judged s ts m)
          (λ u mid k q. ih u mid k (shorter_mid ts mid u (turn s ts) n q (short s ts) b))

pub then-got : {T A : Type 0} (o : Out T A) → then_ o (λ a rest. got a rest) ≡ o
then-got (got a rest) = refl
then-got (stop fault left) = refl

module _ {T P : Type 0} {V : P → Type 0} (word : T → Bool) (R : (p : P) → List T → Out T (V p)) (R' : (p : P) → List T → ℕ → Out T (V p × ℕ)) (N : (p : P) → V p → List T → List T → Type 0) (M : (p : P) → Fault → List T → ℕ → Type 0) (W : (p : P) → List T → ℕ → ℕ → Type 0) (each : (p : P) (ts : List T) → Sized 1 ts (R p ts)) (nested-sound : (p : P) (ts : List T) → Says_of (N p) (M p) ts (R p ts)) (nested-tree : (p : P) (a : V p) (ts rest : List T) → N p a ts rest → R p ts ≡ got a rest) (nested-judged : (p : P) (ts : List T) (m : ℕ) → Judged (W p ts) m (R p ts) (R' p ts m)) where
  tree-of : {A : Type 0} (p : Part T V A) → Advances p → (a : A) (ts rest : List T) → Reads N p a ts rest → run R p ts ≡ got a rest
  tree-of p v a ts rest h = run-tree R N M each nested-tree p v a ts rest h

  says-of : {A : Type 0} (p : Part T V A) → Advances p → (a : A) (ts rest : List T) → run R p ts ≡ got a rest → Reads N p a ts rest
  says-of p v a ts rest e = rw e at (run-sound R N M each nested-sound p v ts)

  short-of : {A : Type 0} (p : Part T V A) → eats p ≡ true → (ts : List T) → Sized 1 ts (run R p ts)
  short-of p e ts = rw e at (size-run R each p ts)

  judged-token : {A : Type 0} (meaning : T → Option A) (ts : List T) (m : ℕ) → Judged (Shows N word W (one V meaning) ts) m (token_of meaning ts) (noting_token word meaning ts m)
  judged-token meaning [] m = (m, refl, peak-none (Shows N word W (one V meaning) []) m (λ place shown s. let e : next_is word [] ≡ true = s.1.0 in cc))
  judged-token {A} meaning (t ∷ ts) m = go (meaning t) refl
    where
      go : (o : Option A) → meaning t ≡ o → Judged (Shows N word W (one V meaning) (t ∷ ts)) m (taken o ts) (taken_from word o t ts m)
      go (Some a) e = (m, refl, peak-none (Shows N word W (one V meaning) (t ∷ ts)) m (λ place shown s. let d : meaning t ≡ None = s.0 in cc))
      go None e = (
        omission_at (t ∷ ts) (word t) m,
        refl,
        peak-map (λ place shown. (word t ≡ true) × (place ≡ length (t ∷ ts)) × (shown ≡ length (t ∷ ts))) (Shows N word W (one V meaning) (t ∷ ts)) m (omission_at (t ∷ ts) (word t) m) (λ place shown s. (e, s)) (λ place shown s. s.1)
            (peak-at (t ∷ ts) (length (t ∷ ts)) (word t) (word t) m refl),
      )

  pub run-judged : {A : Type 0} (p : Part T V A) → Advances p → (ts : List T) (m : ℕ) → Judged (Shows N word W p ts) m (run R p ts) (noting word R' p ts m)
  run-judged (done a) v ts m = (m, refl, peak-none (Shows N word W (done a) ts) m (λ place shown s. s))
  run-judged (tok meaning) v ts m = judged-token meaning ts m
  run-judged (seq {A} {B} p q) v ts m =
      judged-then (Shows N word W p ts) (Shows N word W (seq p q) ts) (λ a mid. Shows N word W q mid) m (run R p ts) (noting word R' p ts m) (λ a mid. then_ (run R q mid) (λ b rest. got (a, b) rest)) (λ a mid. then_ (noting word R' q mid a.1) (λ b rest. got ((a.0, b.0), b.1) rest))
      (λ place shown s. inl s)
      (λ a mid place shown e s. inr (a, mid, says-of p v.0 a ts mid e, s))
      (λ place shown s. elim s [ inl s ↦ inl s | inr s ↦ inr (s.0, s.1, tree-of p v.0 s.0 ts s.1 s.2, s.3) ])
      (run-judged p v.0 ts m)
      (λ a mid n e. judged-act (Shows N word W q mid) n (λ b. (a, b)) (run R q mid) (noting word R' q mid n) (run-judged q v.1 mid n))
  run-judged (bind {A} {B} p q) v ts m =
      judged-then (Shows N word W p ts) (Shows N word W (bind p q) ts) (λ a mid. Shows N word W (q a) mid) m (run R p ts) (noting word R' p ts m) (λ a mid. run R (q a) mid) (λ a mid. noting word R' (q a.0) mid a.1)
      (λ place shown s. inl s)
      (λ a mid place shown e s. inr (a, mid, says-of p v.0 a ts mid e, s))
      (λ place shown s. elim s [ inl s ↦ inl s | inr s ↦ inr (s.0, s.1, tree-of p v.0 s.0 ts s.1 s.2, s.3) ])
      (run-judged p v.0 ts m)
      (λ a mid n e. run-judged (q a) (v.1 a) mid n)
  run-judged (act f p) v ts m = judged-act (Shows N word W p ts) m f (run R p ts) (noting word R' p ts m) (run-judged p v ts m)
  run-judged (alt {A} class p q) v ts m = go (next_is class ts) refl (run-judged p v.0 ts m) (run-judged q v.1 ts m)
    where
      go : (d : Bool) → next_is class ts ≡ d → Judged (Shows N word W p ts) m (run R p ts) (noting word R' p ts m) → Judged (Shows N word W q ts) m (run R q ts) (noting word R' q ts m) → Judged (Shows N word W (alt class p q) ts) m (cond d (run R p ts) (run R q ts)) (if d then noting word R' p ts m else noting word R' q ts m)
      go true e f g =
          judged-map (Shows N word W p ts) (Shows N word W (alt class p q) ts) m (run R p ts) (noting word R' p ts m) (λ place shown s. inl (e, s)) (λ place shown s. elim s [ inl s ↦ s.1 | inr s ↦ (let d : next_is class ts ≡ false = s.0 in cc) ]) f
      go false e f g =
          judged-map (Shows N word W q ts) (Shows N word W (alt class p q) ts) m (run R q ts) (noting word R' q ts m) (λ place shown s. inr (e, s)) (λ place shown s. elim s [ inl s ↦ (let d : next_is class ts ≡ true = s.0 in cc) | inr s ↦ s.1 ]) g
  run-judged (rep class p) v ts m =
      judged-many (run R p) (noting word R' p) (Reads N p) (Shows N word W p) class (short-of p v.0) (tree-of p v.1) (says-of p v.1) (run-judged p v.1) (length ts) ts m (omega arith)
  run-judged (iter class part s) v ts m =
      judged-turns (λ u. run R (part u)) (λ u. noting word R' (part u)) (λ u. Reads N (part u)) (λ u. Shows N word W (part u)) class (λ u. short-of (part u) (v u).0) (λ u. tree-of (part u) (v u).1) (λ u. says-of (part u) (v u).1) (λ u. run-judged (part u) (v u).1) (length ts) s ts m (omega arith)
  run-judged (nested p) v ts m = nested-judged p ts m
  run-judged (unless class p) v ts m =
      let j : Judged (Shows N word W p ts) (omission_at ts (next_is class ts) m) (run R p ts) (noting word R' p ts (omission_at ts (next_is class ts) m)) = run-judged p v ts (omission_at ts (next_is class ts) m) in (
        j.0,
        j.1,
        peak-then (ShowsHere class ts) (Shows N word W p ts) (Shows N word W (unless class p) ts) m (omission_at ts (next_is class ts) m) j.0 (λ place shown s. inl s) (λ place shown s. inr s) (λ place shown s. s) (peak-at ts (length ts) (next_is class ts) (next_is class ts) m refl) j.2,
      )
  run-judged (barred {A} class p) v ts m =
      rw then-got at (judged-then (Shows N word W p ts) (Shows N word W (barred class p) ts) (λ a mid place shown. (next_is (class a) mid ≡ true) × (place ≡ length ts) × (shown ≡ length mid)) m (run R p ts) (noting word R' p ts m) (λ a rest. got a rest) (λ a rest. got (a.0, omission_at ts (next_is (class a.0) rest) a.1) rest)
      (λ place shown s. inl s)
      (λ a mid place shown e s. inr (a, mid, says-of p v a ts mid e, s.0, s.1, s.2))
      (λ place shown s. elim s [ inl s ↦ inl s | inr s ↦ inr (s.0, s.1, tree-of p v s.0 ts s.1 s.2, (s.3, s.4, s.5)) ])
      (run-judged p v ts m)
      (λ a mid n e. (omission_at ts (next_is (class a) mid) n, refl, peak-at ts (length mid) (next_is (class a) mid) (next_is (class a) mid) n refl)))

past-judged : {T : Type 0} (A : Type 0) (word : T → Bool) (ts : List T) (m : ℕ) → Judged (ShowsHere word ts) m (past_levels {A = A} ts) (noting_past word ts m)
past-judged A word [] m = (m, refl, peak-none (ShowsHere word []) m (λ place shown s. let e : next_is word [] ≡ true = s.0 in cc))
past-judged A word (t ∷ ts) m = (omission_at (t ∷ ts) (word t) m, refl, peak-at (t ∷ ts) (length (t ∷ ts)) (word t) (word t) m refl)

module _ {T P : Type 0} {V : P → Type 0} (word : T → Bool) (grammar : (p : P) → Part T V (V p)) (eating : (p : P) → eats (grammar p) ≡ true) (advancing : (p : P) → Advances (grammar p)) where
  pub reader-judged : (n : ℕ) (p : P) (ts : List T) (m : ℕ) → Judged (ShowsAt grammar word n p ts) m (reader grammar n p ts) (noting_at word grammar n p ts m)
  reader-judged zero p ts m = past-judged (V p) word ts m
  reader-judged (suc n) p ts m =
      run-judged word (reader grammar n) (noting_at word grammar n) (ReadsAt grammar n) (MeetsAt grammar n) (ShowsAt grammar word n) (size-reader grammar eating n) (reader-sound grammar eating advancing n) (reader-tree grammar eating advancing n) (reader-judged n) (grammar p) (advancing p) ts m

-- On more levels nothing changes but what was too deep
abbrev pub Same : {T A X : Type 0} → Out T A → Out T X → Out T X → Type 0
Same (got a rest) x y = y ≡ x
Same (stop lost left) x y = y ≡ x
Same (stop deep left) x y = Unit {0}
Same (stop left_out left) x y = y ≡ x

same-refl : {T A X : Type 0} (o : Out T A) (x : Out T X) → Same o x x
same-refl (got a rest) x = refl
same-refl (stop lost left) x = refl
same-refl (stop deep left) x = tt
same-refl (stop left_out left) x = refl

pub same-of : {T A X : Type 0} (o : Out T A) (x y : Out T X) → y ≡ x → Same o x y
same-of o x y e = rw e (same-refl o x)

same-then : {T A B : Type 0} (o : Out T A) (x y : Out T (A × ℕ)) (next : A → List T → Out T B) (k k' : A × ℕ → List T → Out T (B × ℕ)) → (j : ℕ) → x ≡ attached j o → Same o x y → ((a : A) (mid : List T) (n : ℕ) → Same (next a mid) (k (a, n) mid) (k' (a, n) mid)) → Same (then_ o next) (then_ x k) (then_ y k')
same-then {T} {A} {B} (got a mid) x y next k k' j e s f = rw (s, e) (f a mid j)
same-then (stop lost left) x y next k k' j e s f = rw (s, e) (refusal-then lost left j k' ∙ sym (refusal-then lost left j k))
same-then (stop deep left) x y next k k' j e s f = tt
same-then (stop left_out left) x y next k k' j e s f = rw (s, e) (refusal-then left_out left j k' ∙ sym (refusal-then left_out left j k))

module _ {T A : Type 0} (item : List T → Out T A) (x y : List T → ℕ → Out T (A × ℕ)) (class : T → Bool) (noted : (ts : List T) (m : ℕ) → (j : ℕ) × (x ts m ≡ attached j (item ts))) (same : (ts : List T) (m : ℕ) → Same (item ts) (x ts m) (y ts m)) (more : (n : ℕ) (ts : List T) (m : ℕ) → (j : ℕ) × (noting_many x class n ts m ≡ attached j (many item class n ts))) where
  same-many : (n : ℕ) (ts : List T) (m : ℕ) → Same (many item class n ts) (noting_many x class n ts m) (noting_many y class n ts m)
  same-many zero ts m = refl
  same-many (suc n) ts m = go (next_is class ts) (λ mid k. same-many n mid k)
    where
      go : (d : Bool) → ((mid : List T) (k : ℕ) → Same (many item class n mid) (noting_many x class n mid k) (noting_many y class n mid k)) →
          Same {X = List A × ℕ} (cond d (then_ (item ts) (λ a mid. then_ (many item class n mid) (λ more rest. got (a ∷ more) rest))) (got [] ts)) (if d then then_ (x ts m) (λ a mid. then_ (noting_many x class n mid a.1) (λ more rest. got (a.0 ∷ more.0, more.1) rest)) else got ([], m) ts) (if d then then_ (y ts m) (λ a mid. then_ (noting_many y class n mid a.1) (λ more rest. got (a.0 ∷ more.0, more.1) rest)) else got ([], m) ts)
      go false ih = refl
      go true ih =
          same-then (item ts) (x ts m) (y ts m) (λ a mid. then_ (many item class n mid) (λ more rest. got (a ∷ more) rest)) (λ a mid. then_ (noting_many x class n mid a.1) (λ more rest. got (a.0 ∷ more.0, more.1) rest)) (λ a mid. then_ (noting_many y class n mid a.1) (λ more rest. got (a.0 ∷ more.0, more.1) rest)) (noted ts m).0 (noted ts m).1 (same ts m)
          (λ a mid k. same-then (many item class n mid) (noting_many x class n mid k) (noting_many y class n mid k) (λ more rest. got (a ∷ more) rest) (λ more rest. got (a ∷ more.0, more.1) rest) (λ more rest. got (a ∷ more.0, more.1) rest) (more n mid k).0 (more n mid k).1 (ih mid k) (λ more rest n. refl))

module _ {T S : Type 0} (turn : S → List T → Out T S) (x y : S → List T → ℕ → Out T (S × ℕ)) (class : S → T → Bool) (noted : (s : S) (ts : List T) (m : ℕ) → (j : ℕ) × (x s ts m ≡ attached j (turn s ts))) (same : (s : S) (ts : List T) (m : ℕ) → Same (turn s ts) (x s ts m) (y s ts m)) where
  same-turns : (n : ℕ) (s : S) (ts : List T) (m : ℕ) → Same (turns turn class n s ts) (turns (λ u mid. x u.0 mid u.1) (λ u. class u.0) n (s, m) ts) (turns (λ u mid. y u.0 mid u.1) (λ u. class u.0) n (s, m) ts)
  same-turns zero s ts m = refl
  same-turns (suc n) s ts m = go (next_is (class s) ts) (λ u mid k. same-turns n u mid k)
    where
      go : (d : Bool) → ((u : S) (mid : List T) (k : ℕ) → Same (turns turn class n u mid) (turns (λ u mid. x u.0 mid u.1) (λ u. class u.0) n (u, k) mid) (turns (λ u mid. y u.0 mid u.1) (λ u. class u.0) n (u, k) mid)) →
          Same {X = S × ℕ} (cond d (then_ (turn s ts) (turns turn class n)) (got s ts)) (cond d (then_ (x s ts m) (turns (λ u mid. x u.0 mid u.1) (λ u. class u.0) n)) (got (s, m) ts)) (cond d (then_ (y s ts m) (turns (λ u mid. y u.0 mid u.1) (λ u. class u.0) n)) (got (s, m) ts))
      go false ih = refl
      go true ih = same-then (turn s ts) (x s ts m) (y s ts m) (turns turn class n) (turns (λ u mid. x u.0 mid u.1) (λ u. class u.0) n) (turns (λ u mid. y u.0 mid u.1) (λ u. class u.0) n) (noted s ts m).0 (noted s ts m).1 (same s ts m) ih

module _ {T P : Type 0} {V : P → Type 0} (word : T → Bool) (R : (p : P) → List T → Out T (V p)) (X Y : (p : P) → List T → ℕ → Out T (V p × ℕ)) (N : (p : P) → V p → List T → List T → Type 0) (M : (p : P) → Fault → List T → ℕ → Type 0) (W : (p : P) → List T → ℕ → ℕ → Type 0) (each : (p : P) (ts : List T) → Sized 1 ts (R p ts)) (nested-sound : (p : P) (ts : List T) → Says_of (N p) (M p) ts (R p ts)) (nested-tree : (p : P) (a : V p) (ts rest : List T) → N p a ts rest → R p ts ≡ got a rest) (nested-judged : (p : P) (ts : List T) (m : ℕ) → Judged (W p ts) m (R p ts) (X p ts m)) (nested-same : (p : P) (ts : List T) (m : ℕ) → Same (R p ts) (X p ts m) (Y p ts m)) where
  noted-of : {A : Type 0} (p : Part T V A) → Advances p → (ts : List T) (m : ℕ) → (j : ℕ) × (noting word X p ts m ≡ attached j (run R p ts))
  noted-of p v ts m = let j : Judged (Shows N word W p ts) m (run R p ts) (noting word X p ts m) = run-judged word R X N M W each nested-sound nested-tree nested-judged p v ts m in (j.0, j.1)

  many-of : {A : Type 0} (class : T → Bool) (p : Part T V A) → Advances (rep class p) → (n : ℕ) (ts : List T) (m : ℕ) → (j : ℕ) × (noting_many (noting word X p) class n ts m ≡ attached j (many (run R p) class n ts))
  many-of class p v zero ts m = (m, refl)
  many-of {A} class p v (suc n) ts m = go (next_is class ts) (run R p ts) (noted-of p v.1 ts m) (λ mid k. many-of class p v n mid k)
    where
      put : (a : A) (k : ℕ) (o : Out T (List A)) → then_ (attached k o) (λ more rest. got (a ∷ more.0, more.1) rest) ≡ attached k (then_ o (λ more rest. got (a ∷ more) rest))
      put a k (got more rest) = refl
      put a k (stop fault left) = refusal-then fault left k (λ more rest. got (a ∷ more.0, more.1) rest)

      go : (d : Bool) (o : Out T A) → (j : ℕ) × (noting word X p ts m ≡ attached j o) → ((mid : List T) (k : ℕ) → (j : ℕ) × (noting_many (noting word X p) class n mid k ≡ attached j (many (run R p) class n mid))) →
          (j : ℕ) × ((if d then then_ (noting word X p ts m) (λ a mid. then_ (noting_many (noting word X p) class n mid a.1) (λ more rest. got (a.0 ∷ more.0, more.1) rest)) else got ([], m) ts) ≡ attached j (cond d (then_ o (λ a mid. then_ (many (run R p) class n mid) (λ more rest. got (a ∷ more) rest))) (got [] ts)))
      go false o j ih = (m, refl)
      go true (got a mid) j ih = let r : (k : ℕ) × (noting_many (noting word X p) class n mid j.0 ≡ attached k (many (run R p) class n mid)) = ih mid j.0 in (r.0, rw (j.1, r.1) (put a r.0 (many (run R p) class n mid)))
      go true (stop fault left) j ih = (j.0, rw j.1 (refusal-then fault left j.0 (λ a mid. then_ (noting_many (noting word X p) class n mid a.1) (λ more rest. got (a.0 ∷ more.0, more.1) rest))))

  pub run-same : {A : Type 0} (p : Part T V A) → Advances p → (ts : List T) (m : ℕ) → Same (run R p ts) (noting word X p ts m) (noting word Y p ts m)
  run-same (done a) v ts m = refl
  run-same (tok meaning) v ts m = same-refl (token_of meaning ts) (noting_token word meaning ts m)
  run-same (seq {A} {B} p q) v ts m =
      same-then (run R p ts) (noting word X p ts m) (noting word Y p ts m) (λ a mid. then_ (run R q mid) (λ b rest. got (a, b) rest)) (λ a mid. then_ (noting word X q mid a.1) (λ b rest. got ((a.0, b.0), b.1) rest)) (λ a mid. then_ (noting word Y q mid a.1) (λ b rest. got ((a.0, b.0), b.1) rest)) (noted-of p v.0 ts m).0 (noted-of p v.0 ts m).1 (run-same p v.0 ts m)
      (λ a mid n. same-then (run R q mid) (noting word X q mid n) (noting word Y q mid n) (λ b rest. got (a, b) rest) (λ b rest. got ((a, b.0), b.1) rest) (λ b rest. got ((a, b.0), b.1) rest) (noted-of q v.1 mid n).0 (noted-of q v.1 mid n).1 (run-same q v.1 mid n) (λ b rest n. refl))
  run-same (bind p q) v ts m =
      same-then (run R p ts) (noting word X p ts m) (noting word Y p ts m) (λ a mid. run R (q a) mid) (λ a mid. noting word X (q a.0) mid a.1) (λ a mid. noting word Y (q a.0) mid a.1) (noted-of p v.0 ts m).0 (noted-of p v.0 ts m).1 (run-same p v.0 ts m)
      (λ a mid n. run-same (q a) (v.1 a) mid n)
  run-same (act f p) v ts m =
      same-then (run R p ts) (noting word X p ts m) (noting word Y p ts m) (λ a rest. got (f a) rest) (λ a rest. got (f a.0, a.1) rest) (λ a rest. got (f a.0, a.1) rest) (noted-of p v ts m).0 (noted-of p v ts m).1 (run-same p v ts m) (λ a rest n. refl)
  run-same (alt class p q) v ts m = go (next_is class ts) (run-same p v.0 ts m) (run-same q v.1 ts m)
    where
      go : (d : Bool) → Same (run R p ts) (noting word X p ts m) (noting word Y p ts m) → Same (run R q ts) (noting word X q ts m) (noting word Y q ts m) → Same (cond d (run R p ts) (run R q ts)) (if d then noting word X p ts m else noting word X q ts m) (if d then noting word Y p ts m else noting word Y q ts m)
      go true f g = f
      go false f g = g
  run-same (rep class p) v ts m = same-many (run R p) (noting word X p) (noting word Y p) class (noted-of p v.1) (run-same p v.1) (many-of class p v) (length ts) ts m
  run-same (iter class part s) v ts m = same-turns (λ u. run R (part u)) (λ u. noting word X (part u)) (λ u. noting word Y (part u)) class (λ u. noted-of (part u) (v u).1) (λ u. run-same (part u) (v u).1) (length ts) s ts m
  run-same (nested p) v ts m = nested-same p ts m
  run-same (unless class p) v ts m = run-same p v ts (omission_at ts (next_is class ts) m)
  run-same (barred class p) v ts m =
      rw then-got at (same-then (run R p ts) (noting word X p ts m) (noting word Y p ts m) (λ a rest. got a rest) (λ a rest. got (a.0, omission_at ts (next_is (class a.0) rest) a.1) rest) (λ a rest. got (a.0, omission_at ts (next_is (class a.0) rest) a.1) rest) (noted-of p v ts m).0 (noted-of p v ts m).1 (run-same p v ts m) (λ a rest n. refl))
