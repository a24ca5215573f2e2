-- A repetition turn by turn, with its noted, for the loops of a parser: what one turn and the end make of
-- the reading.
use Rattle.std.proofs.Common.{◌≡◌, if◌then◌else◌, ℕ, zero, suc, ◌+◌, ◌<◌, ◌≤◌, Bool, true, false, List, [], ◌∷◌, ◌++◌, length, refl, sym, ap, ◌∙◌, arith, append_assoc}
use Rattle.vh_parse_grammar.specs.Part.{Part, rep, iter}
use Rattle.vh_parse_grammar.specs.Reading.{Out, got, stop, then_, next_is, turns, reader, read}
use Rattle.vh_parse_grammar.specs.Omissions.{noting_many, noting_at, noted, joined_noted}
use Rattle.vh_parse_grammar.specs.Conditions.{eats, Advances}
use Rattle.vh_parse_grammar.specs.Sentences.{ReadsAt, MeetsAt, ShowsAt, Shows}
use Rattle.vh_parse_grammar.proofs.Size.{size-run, size-reader}
use Rattle.vh_parse_grammar.proofs.Outcomes.{reader-sound, reader-tree}
use Rattle.vh_parse_grammar.proofs.OmissionsLemmas.{attached, Judged, run-judged, reader-judged}

-- Each turn takes a token
abbrev Shorter : {T A : Type 0} → (List T → ℕ → Out T (A × ℕ)) → Type 0
Shorter {T} {A} item = (ts : List T) (m : ℕ) (a : A × ℕ) (mid : List T) → item ts m ≡ got a mid → suc (length mid) ≤ length ts

then-same : {T A B : Type 0} (n : ℕ) (o : Out T A) (k k' : A → List T → Out T B) → ((a : A) (mid : List T) → o ≡ got a mid → suc (length mid) ≤ n) → ((a : A) (mid : List T) → suc (length mid) ≤ n → k a mid ≡ k' a mid) → then_ o k ≡ then_ o k'
then-same n (got a mid) k k' s h = h a mid (s a mid refl)
then-same n (stop fault left) k k' s h = refl

if-same : {T A : Type 0} (d : Bool) (x y z : Out T A) → x ≡ y → (if d then x else z) ≡ (if d then y else z)
if-same true x y z e = e
if-same false x y z e = refl

many-same : {T A : Type 0} (item : List T → ℕ → Out T (A × ℕ)) (class : T → Bool) → Shorter item → (n k : ℕ) (ts : List T) (m : ℕ) → length ts ≤ n → length ts ≤ k → noting_many item class n ts m ≡ noting_many item class k ts m
many-same item class short zero zero ts m b d = refl
many-same item class short zero (suc k) [] m b d = refl
many-same item class short zero (suc k) (t ∷ ts) m b d = absurd (omega arith)
many-same item class short (suc n) zero [] m b d = refl
many-same item class short (suc n) zero (t ∷ ts) m b d = absurd (omega arith)
many-same {T} {A} item class short (suc n) (suc k) ts m b d =
    let put : A × ℕ → List A × ℕ → List T → Out T (List A × ℕ) = λ a more rest. got (a.0 ∷ more.0, more.1) rest in
    if-same (next_is class ts) (then_ (item ts m) (λ a mid. then_ (noting_many item class n mid a.1) (put a))) (then_ (item ts m) (λ a mid. then_ (noting_many item class k mid a.1) (put a))) (got ([], m) ts)
    (then-same (length ts) (item ts m) (λ a mid. then_ (noting_many item class n mid a.1) (put a)) (λ a mid. then_ (noting_many item class k mid a.1) (put a)) (short ts m)
    (λ a mid l. ap (λ (o : Out T (List A × ℕ)). then_ o (put a)) (many-same item class short n k mid a.1 (omega arith) (omega arith))))

turns-same : {T S : Type 0} (turn : S → List T → ℕ → Out T (S × ℕ)) (class : S → T → Bool) → ((s : S) → Shorter (turn s)) → (n k : ℕ) (s : S × ℕ) (ts : List T) → length ts ≤ n → length ts ≤ k → turns (λ u mid. turn u.0 mid u.1) (λ u. class u.0) n s ts ≡ turns (λ u mid. turn u.0 mid u.1) (λ u. class u.0) k s ts
turns-same turn class short zero zero s ts b d = refl
turns-same turn class short zero (suc k) s [] b d = refl
turns-same turn class short zero (suc k) s (t ∷ ts) b d = absurd (omega arith)
turns-same turn class short (suc n) zero s [] b d = refl
turns-same turn class short (suc n) zero s (t ∷ ts) b d = absurd (omega arith)
turns-same {T} {S} turn class short (suc n) (suc k) s ts b d =
    let next : ℕ → S × ℕ → List T → Out T (S × ℕ) = λ n. turns (λ u mid. turn u.0 mid u.1) (λ u. class u.0) n in
    if-same (next_is (class s.0) ts) (then_ (turn s.0 ts s.1) (next n)) (then_ (turn s.0 ts s.1) (next k)) (got s ts)
    (then-same (length ts) (turn s.0 ts s.1) (next n) (next k) (short s.0 ts s.1) (λ u mid l. turns-same turn class short n k u mid (omega arith) (omega arith)))

got-parts : {T A : Type 0} (a b : A) (r s : List T) → got a r ≡ got b s → (a ≡ b) × (r ≡ s)
got-parts a b r s e = (cc, cc)

attached-got : {T A : Type 0} (k : ℕ) (o : Out T A) (a : A × ℕ) (rest : List T) → attached k o ≡ got a rest → o ≡ got a.0 rest
attached-got {T} {A} k (got b r) a rest e = let q : ((b, k) ≡ a) × (r ≡ rest) = got-parts {A = A × ℕ} (b, k) a r rest e in rw q.1 (ap (λ (z : A × ℕ). got z.0 rest) q.0)
attached-got zero (stop fault left) a rest e = cc
attached-got (suc k) (stop fault left) a rest e = cc

module _ {T P : Type 0} {V : P → Type 0} (word : T → Bool) (grammar : (p : P) → Part T V (V p)) (eating : (p : P) → eats (grammar p) ≡ true) (advancing : (p : P) → Advances (grammar p)) where
  -- what reading a part that eats leaves is shorter
  pub noted_less : {A : Type 0} (n : ℕ) (p : Part T V A) → Advances p → eats p ≡ true → (ts : List T) (m : ℕ) (a : A × ℕ) (mid : List T) → noted word grammar n p ts m ≡ got a mid → length mid < length ts
  noted_less {A} n p v e ts m a mid r =
      let j : Judged (Shows (ReadsAt grammar n) word (ShowsAt grammar word n) p ts) m (read grammar n p ts) (noted word grammar n p ts m) = run-judged word (reader grammar n) (noting_at word grammar n) (ReadsAt grammar n) (MeetsAt grammar n) (ShowsAt grammar word n) (size-reader grammar eating n) (reader-sound grammar eating advancing n) (reader-tree grammar eating advancing n) (reader-judged word grammar eating advancing n) p v ts m in
      let g : read grammar n p ts ≡ got a.0 mid = attached-got j.0 (read grammar n p ts) a mid (sym j.1 ∙ r) in
      go (rw g at (rw e at (size-run (reader grammar n) (size-reader grammar eating n) p ts)))
    where
      go : 1 + length mid ≤ length ts → length mid < length ts
      go l = omega arith

  short-noted : {A : Type 0} (n : ℕ) (p : Part T V A) → Advances p → eats p ≡ true → Shorter (noted word grammar n p)
  short-noted n p v e ts m a mid r = let l : length mid < length ts = noted_less n p v e ts m a mid r in omega arith

  -- a repetition ends where no token of its class is next
  pub noted_end : {A : Type 0} (n : ℕ) (class : T → Bool) (p : Part T V A) (ts : List T) (m : ℕ) → next_is class ts ≡ false → noted word grammar n (rep class p) ts m ≡ got ([], m) ts
  noted_end n class p [] m c = refl
  noted_end n class p (t ∷ ts) m c = rw c refl

  -- a turn of a repetition
  pub noted_turn : {A : Type 0} (n : ℕ) (class : T → Bool) (p : Part T V A) → Advances p → eats p ≡ true → (ts : List T) (m : ℕ) (a : A) (k : ℕ) (mid : List T) → next_is class ts ≡ true → noted word grammar n p ts m ≡ got (a, k) mid →
      noted word grammar n (rep class p) ts m ≡ then_ (noted word grammar n (rep class p) mid k) (λ more rest. got (a ∷ more.0, more.1) rest)
  noted_turn n class p v e [] m a k mid c r = cc
  noted_turn {A} n class p v e (t ∷ ts) m a k mid c r =
      let l : length mid < suc (length ts) = noted_less n p v e (t ∷ ts) m (a, k) mid r in
      rw (c, r, many-same (noted word grammar n p) class (short-noted n p v e) (length ts) (length mid) mid k (omega arith) (omega arith)) refl

  -- the invariant of a loop over a repetition: after a turn and at its end
  pub joined_noted_turn : {A : Type 0} (n : ℕ) (class : T → Bool) (p : Part T V A) → Advances p → eats p ≡ true → (front : List A) (ts : List T) (m : ℕ) (a : A) (k : ℕ) (mid : List T) → next_is class ts ≡ true → noted word grammar n p ts m ≡ got (a, k) mid →
      joined_noted front (noted word grammar n (rep class p) ts m) ≡ joined_noted (front ++ a ∷ []) (noted word grammar n (rep class p) mid k)
  joined_noted_turn {A} n class p v e front ts m a k mid c r = ap (λ (o : Out T (List A × ℕ)). joined_noted front o) (noted_turn n class p v e ts m a k mid c r) ∙ go (noted word grammar n (rep class p) mid k)
    where
      go : (o : Out T (List A × ℕ)) → joined_noted front (then_ o (λ more rest. got (a ∷ more.0, more.1) rest)) ≡ joined_noted (front ++ a ∷ []) o
      go (got more rest) = ap (λ (z : List A). got (z, more.1) rest) (sym (append_assoc front (a ∷ []) more.0))
      go (stop fault left) = refl

  -- a turn of an iteration
  pub iter_noted_turn : {S : Type 0} (n : ℕ) (class : S → T → Bool) (part : S → Part T V S) → ((u : S) → (eats (part u) ≡ true) × Advances (part u)) → (s : S) (ts : List T) (m : ℕ) (u : S) (k : ℕ) (mid : List T) → next_is (class s) ts ≡ true → noted word grammar n (part s) ts m ≡ got (u, k) mid →
      noted word grammar n (iter class part s) ts m ≡ noted word grammar n (iter class part u) mid k
  iter_noted_turn n class part v s [] m u k mid c r = cc
  iter_noted_turn {S} n class part v s (t ∷ ts) m u k mid c r =
      let l : length mid < suc (length ts) = noted_less n (part s) (v s).1 (v s).0 (t ∷ ts) m (u, k) mid r in
      rw (c, r) (turns-same (λ s. noted word grammar n (part s)) class (λ s. short-noted n (part s) (v s).1 (v s).0) (length ts) (length mid) (u, k) mid (omega arith) (omega arith))
