-- On more levels nothing changes but what was too deep.
use Rattle.std.proofs.Common.{◌≡◌, ℕ, zero, suc, ◌+◌, Bool, true, false, cond, List, [], ◌∷◌, length, refl, ap, arith, suc-add, zero-add}
use Rattle.vh_parse_grammar.specs.Part.{Part, done, tok, seq, bind, act, alt, rep, iter, nested, unless, barred}
use Rattle.vh_parse_grammar.specs.Reading.{lost, deep, left_out, Out, got, stop, then_, next_is, token_of, many, turns, run, reader}
use Rattle.vh_parse_grammar.specs.Conditions.{eats}
use Rattle.vh_parse_grammar.proofs.Size.{Sized, size-reader}
use Rattle.vh_parse_grammar.proofs.Starts.{Ended}

-- The second reading has more levels than the first
abbrev pub Below : {T A : Type 0} → Out T A → Out T A → Type 0
Below (got a rest) o = o ≡ got a rest
Below (stop lost left) o = o ≡ stop lost left
Below (stop deep left) o = Unit {0}
Below (stop left_out left) o = o ≡ stop left_out left

pub ended-below : {T A : Type 0} (x y : Out T A) → Below x y → Ended x → Ended y
ended-below (got a rest) y b e = rw b e
ended-below (stop lost k) y b e = rw b e
ended-below (stop deep k) y b e = absurd e
ended-below (stop left_out k) y b e = absurd e

below-same : {T A : Type 0} (o : Out T A) → Below o o
below-same (got a rest) = refl
below-same (stop lost left) = refl
below-same (stop deep left) = tt
below-same (stop left_out left) = refl

below-then : {T A B : Type 0} (o o' : Out T A) (k k' : A → List T → Out T B) → Below o o' → ((a : A) (mid : List T) → Below (k a mid) (k' a mid)) → Below (then_ o k) (then_ o' k')
below-then (got a rest) o' k k' h f = rw h (f a rest)
below-then (stop lost left) o' k k' h f = rw h
below-then (stop deep left) o' k k' h f = tt
below-then (stop left_out left) o' k k' h f = rw h

below-cond : {T A : Type 0} (d : Bool) (x x' y y' : Out T A) → Below x x' → Below y y' → Below (cond d x y) (cond d x' y')
below-cond true x x' y y' h k = h
below-cond false x x' y y' h k = k

below-many : {T A : Type 0} (item item' : List T → Out T A) (class : T → Bool) → ((ts : List T) → Below (item ts) (item' ts)) → (n : ℕ) (ts : List T) → Below (many item class n ts) (many item' class n ts)
below-many item item' class h zero ts = refl
below-many {T} {A} item item' class h (suc n) ts =
    let put : A → List A → List T → Out T (List A) = λ a more rest. got (a ∷ more) rest in
    below-cond (next_is class ts) (then_ (item ts) (λ a mid. then_ (many item class n mid) (put a))) (then_ (item' ts) (λ a mid. then_ (many item' class n mid) (put a))) (got [] ts) (got [] ts)
    (below-then (item ts) (item' ts) (λ a mid. then_ (many item class n mid) (put a)) (λ a mid. then_ (many item' class n mid) (put a)) (h ts)
    (λ a mid. below-then (many item class n mid) (many item' class n mid) (put a) (put a) (below-many item item' class h n mid) (λ more rest. refl)))
    refl

below-turns : {T S : Type 0} (turn turn' : S → List T → Out T S) (class : S → T → Bool) → ((s : S) (ts : List T) → Below (turn s ts) (turn' s ts)) → (n : ℕ) (s : S) (ts : List T) → Below (turns turn class n s ts) (turns turn' class n s ts)
below-turns turn turn' class h zero s ts = refl
below-turns turn turn' class h (suc n) s ts =
    below-cond (next_is (class s) ts) (then_ (turn s ts) (turns turn class n)) (then_ (turn' s ts) (turns turn' class n)) (got s ts) (got s ts)
    (below-then (turn s ts) (turn' s ts) (turns turn class n) (turns turn' class n) (h s ts) (λ u mid. below-turns turn turn' class h n u mid))
    refl

module _ {T P : Type 0} {V : P → Type 0} (R R' : (p : P) → List T → Out T (V p)) (nested-below : (p : P) (ts : List T) → Below (R p ts) (R' p ts)) where
  pub run-below : {A : Type 0} (p : Part T V A) (ts : List T) → Below (run R p ts) (run R' p ts)
  run-below (done a) ts = refl
  run-below (tok meaning) ts = below-same (token_of meaning ts)
  run-below (seq {A} {B} p q) ts =
      let put : A → B → List T → Out T (A × B) = λ a b rest. got (a, b) rest in
      below-then (run R p ts) (run R' p ts) (λ a mid. then_ (run R q mid) (put a)) (λ a mid. then_ (run R' q mid) (put a)) (run-below p ts)
      (λ a mid. below-then (run R q mid) (run R' q mid) (put a) (put a) (run-below q mid) (λ b rest. refl))
  run-below (bind p q) ts = below-then (run R p ts) (run R' p ts) (λ a mid. run R (q a) mid) (λ a mid. run R' (q a) mid) (run-below p ts) (λ a mid. run-below (q a) mid)
  run-below (act f p) ts = below-then (run R p ts) (run R' p ts) (λ a rest. got (f a) rest) (λ a rest. got (f a) rest) (run-below p ts) (λ a rest. refl)
  run-below (alt class p q) ts = below-cond (next_is class ts) (run R p ts) (run R' p ts) (run R q ts) (run R' q ts) (run-below p ts) (run-below q ts)
  run-below (rep class p) ts = below-many (run R p) (run R' p) class (λ m. run-below p m) (length ts) ts
  run-below (iter class part s) ts = below-turns (λ u. run R (part u)) (λ u. run R' (part u)) class (λ u m. run-below (part u) m) (length ts) s ts
  run-below (nested p) ts = nested-below p ts
  run-below (unless class p) ts = run-below p ts
  run-below (barred class p) ts = run-below p ts

module _ {T P : Type 0} {V : P → Type 0} (grammar : (p : P) → Part T V (V p)) (eating : (p : P) → eats (grammar p) ≡ true) where
  pub none-lost : {A : Type 0} (o : Out T A) → Sized {T = T} 1 [] o → o ≡ stop lost 0
  none-lost (got a rest) s = absurd (omega arith)
  none-lost (stop lost left) s = let e : left ≡ 0 = omega arith in ap (λ (n : ℕ). stop lost n) e
  none-lost (stop deep left) s = absurd (omega arith)
  none-lost (stop left_out left) s = absurd (omega arith)

  past-below : (n : ℕ) (p : P) (ts : List T) → Below (reader grammar 0 p ts) (reader grammar n p ts)
  past-below n p [] = none-lost (reader grammar n p []) (size-reader grammar eating n p [])
  past-below n p (t ∷ ts) = tt

  one-below : (n : ℕ) (p : P) (ts : List T) → Below (reader grammar n p ts) (reader grammar (suc n) p ts)
  one-below zero p ts = past-below 1 p ts
  one-below (suc n) p ts = run-below (reader grammar n) (reader grammar (suc n)) (one-below n) (grammar p) ts

  below-trans : {A : Type 0} (x y z : Out T A) → Below x y → Below y z → Below x z
  below-trans (got a rest) y z h k = rw h at k
  below-trans (stop lost left) y z h k = rw h at k
  below-trans (stop deep left) y z h k = tt
  below-trans (stop left_out left) y z h k = rw h at k

  pub reader-below : (n more : ℕ) (p : P) (ts : List T) → Below (reader grammar n p ts) (reader grammar (more + n) p ts)
  reader-below n zero p ts = rw zero-add (below-same (reader grammar n p ts))
  reader-below n (suc more) p ts = rw suc-add (below-trans (reader grammar n p ts) (reader grammar (more + n) p ts) (reader grammar (suc (more + n)) p ts) (reader-below n more p ts) (one-below (more + n) p ts))
