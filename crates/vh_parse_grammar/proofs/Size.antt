-- How much a reading takes: never more tokens than there are, one at least where the part eats; and a
-- place is at a token, or for a missing token after the last.
use Rattle.std.proofs.Common.{◌≡◌, ℕ, zero, suc, ◌+◌, ◌<◌, ◌≤◌, Bool, true, false, cond, ◌&&◌, ◌||◌, Option, Some, None, List, [], ◌∷◌, length, arith}
use Rattle.vh_parse_grammar.specs.Part.{Part, done, tok, seq, bind, act, alt, rep, iter, nested, unless, barred}
use Rattle.vh_parse_grammar.specs.Reading.{lost, deep, left_out, Out, got, stop, then_, next_is, taken, token_of, past_levels, many, turns, run, reader}
use Rattle.vh_parse_grammar.specs.Conditions.{eats}

abbrev pub weight : Bool → ℕ
weight true = 1
weight false = 0

abbrev pub Sized : {T A : Type 0} → ℕ → List T → Out T A → Type 0
Sized w ts (got a rest) = w + length rest ≤ length ts
Sized w ts (stop lost left) = left ≤ length ts
Sized w ts (stop deep left) = (0 < left) × (left ≤ length ts)
Sized w ts (stop left_out left) = (0 < left) × (left ≤ length ts)

size-from : {T A : Type 0} (w v u : ℕ) (ts mid : List T) (o : Out T A) → w + length mid ≤ length ts → u ≤ w + v → Sized v mid o → Sized u ts o
size-from w v u ts mid (got a rest) f b h = omega arith
size-from w v u ts mid (stop lost left) f b h = omega arith
size-from w v u ts mid (stop deep left) f b h = (h.0, omega arith)
size-from w v u ts mid (stop left_out left) f b h = (h.0, omega arith)

pub size-then : {T A B : Type 0} (w v u : ℕ) (ts : List T) (o : Out T A) (k : A → List T → Out T B) → Sized w ts o → ((a : A) (mid : List T) → Sized v mid (k a mid)) → u ≤ w + v → Sized u ts (then_ o k)
size-then w v u ts (got a mid) k h s b = size-from w v u ts mid (k a mid) h b (s a mid)
size-then w v u ts (stop lost left) k h s b = h
size-then w v u ts (stop deep left) k h s b = h
size-then w v u ts (stop left_out left) k h s b = h

pub size-less : {T A : Type 0} (w u : ℕ) (ts : List T) (o : Out T A) → u ≤ w → Sized w ts o → Sized u ts o
size-less w u ts o b h = size-from 0 w u ts ts o (omega arith) (omega arith) h

size-cond : {T A : Type 0} (w : ℕ) (ts : List T) (b : Bool) (o o' : Out T A) → Sized w ts o → Sized w ts o' → Sized w ts (cond b o o')
size-cond w ts true o o' h h' = h
size-cond w ts false o o' h h' = h'

size-taken : {T A : Type 0} (o : Option A) (t : T) (ts : List T) → Sized 1 (t ∷ ts) (taken o ts)
size-taken (Some a) t ts = omega arith
size-taken None t ts = omega arith

size-token : {T A : Type 0} (meaning : T → Option A) (ts : List T) → Sized 1 ts (token_of meaning ts)
size-token meaning [] = omega arith
size-token meaning (t ∷ ts) = size-taken (meaning t) t ts

pub size-many : {T A : Type 0} (item : List T → Out T A) (class : T → Bool) (n : ℕ) (ts : List T) → ((m : List T) → Sized 0 m (item m)) → Sized 0 ts (many item class n ts)
size-many item class zero ts h = omega arith
size-many {T} {A} item class (suc n) ts h =
    size-cond 0 ts (next_is class ts) (then_ (item ts) (λ a mid. then_ (many item class n mid) (λ more rest. got (a ∷ more) rest))) (got [] ts)
    (size-then 0 0 0 ts (item ts) _ (h ts) (λ a mid. size-then 0 0 0 mid (many item class n mid) _ (size-many item class n mid h) (λ more rest. omega arith) (omega arith)) (omega arith))
    (omega arith)

pub size-turns : {T S : Type 0} (turn : S → List T → Out T S) (class : S → T → Bool) (n : ℕ) (s : S) (ts : List T) → ((u : S) (m : List T) → Sized 0 m (turn u m)) → Sized 0 ts (turns turn class n s ts)
size-turns turn class zero s ts h = omega arith
size-turns turn class (suc n) s ts h =
    size-cond 0 ts (next_is (class s) ts) (then_ (turn s ts) (turns turn class n)) (got s ts)
    (size-then 0 0 0 ts (turn s ts) _ (h s ts) (λ a mid. size-turns turn class n a mid h) (omega arith))
    (omega arith)

weight-or : (a b : Bool) → weight (a || b) ≤ weight a + weight b
weight-or true b = omega arith
weight-or false true = omega arith
weight-or false false = omega arith

weight-and_left : (a b : Bool) → weight (a && b) ≤ weight a
weight-and_left true true = omega arith
weight-and_left true false = omega arith
weight-and_left false b = omega arith

weight-and_right : (a b : Bool) → weight (a && b) ≤ weight b
weight-and_right true true = omega arith
weight-and_right true false = omega arith
weight-and_right false b = omega arith

module _ {T P : Type 0} {V : P → Type 0} (R : (p : P) → List T → Out T (V p)) (each : (p : P) (ts : List T) → Sized 1 ts (R p ts)) where
  pub size-run : {A : Type 0} (p : Part T V A) (ts : List T) → Sized (weight (eats p)) ts (run R p ts)
  size-run (done a) ts = omega arith
  size-run (tok meaning) ts = size-token meaning ts
  size-run (seq p q) ts =
      size-then (weight (eats p)) (weight (eats q)) (weight (eats p || eats q)) ts (run R p ts) _ (size-run p ts)
      (λ a mid. size-then (weight (eats q)) 0 (weight (eats q)) mid (run R q mid) _ (size-run q mid) (λ b rest. omega arith) (omega arith))
      (weight-or (eats p) (eats q))
  size-run (bind p q) ts =
      size-then (weight (eats p)) 0 (weight (eats p)) ts (run R p ts) _ (size-run p ts) (λ a mid. size-less (weight (eats (q a))) 0 mid (run R (q a) mid) (omega arith) (size-run (q a) mid)) (omega arith)
  size-run (act f p) ts = size-then (weight (eats p)) 0 (weight (eats p)) ts (run R p ts) _ (size-run p ts) (λ a rest. omega arith) (omega arith)
  size-run (alt class p q) ts =
      size-cond (weight (eats p && eats q)) ts (next_is class ts) (run R p ts) (run R q ts)
      (size-less (weight (eats p)) (weight (eats p && eats q)) ts (run R p ts) (weight-and_left (eats p) (eats q)) (size-run p ts))
      (size-less (weight (eats q)) (weight (eats p && eats q)) ts (run R q ts) (weight-and_right (eats p) (eats q)) (size-run q ts))
  size-run (rep class p) ts = size-many (run R p) class (length ts) ts (λ m. size-less (weight (eats p)) 0 m (run R p m) (omega arith) (size-run p m))
  size-run (iter class part s) ts = size-turns (λ u. run R (part u)) class (length ts) s ts (λ u m. size-less (weight (eats (part u))) 0 m (run R (part u) m) (omega arith) (size-run (part u) m))
  size-run (nested p) ts = each p ts
  size-run (unless class p) ts = size-run p ts
  size-run (barred class p) ts = size-run p ts

pub size-past : {T : Type 0} (A : Type 0) (ts : List T) → Sized 1 ts (past_levels {A = A} ts)
size-past A [] = omega arith
size-past A (t ∷ ts) = (omega arith, omega arith)

module _ {T P : Type 0} {V : P → Type 0} (grammar : (p : P) → Part T V (V p)) (eating : (p : P) → eats (grammar p) ≡ true) where
  pub size-reader : (n : ℕ) (p : P) (ts : List T) → Sized 1 ts (reader grammar n p ts)
  size-reader zero p ts = size-past (V p) ts
  size-reader (suc n) p ts = rw (eating p) at (size-run (reader grammar n) (size-reader n) (grammar p) ts)
