-- A repetition turn by turn, for the loops of a parser: what one turn, a fault in it and the end make of
-- the reading.
use Rattle.std.proofs.Common.{◌≡◌, ℕ, zero, suc, ◌<◌, ◌≤◌, Bool, true, false, cond, List, [], ◌∷◌, ◌++◌, length, refl, sym, ap, ◌∙◌, arith, append_assoc}
use Rattle.vh_parse_grammar.specs.Part.{Part, rep, iter}
use Rattle.vh_parse_grammar.specs.Reading.{Out, got, stop, then_, next_is, many, turns, reader, read, joined}
use Rattle.vh_parse_grammar.specs.Conditions.{eats}
use Rattle.vh_parse_grammar.proofs.Size.{Sized, size-run, size-reader}

then-same : {T A B : Type 0} (ts : List T) (o : Out T A) (k k' : A → List T → Out T B) → Sized 1 ts o → ((a : A) (mid : List T) → suc (length mid) ≤ length ts → k a mid ≡ k' a mid) → then_ o k ≡ then_ o k'
then-same ts (got a mid) k k' s h = h a mid (omega arith)
then-same ts (stop fault left) k k' s h = refl

cond-same : {T A : Type 0} (d : Bool) (x y z : Out T A) → x ≡ y → cond d x z ≡ cond d y z
cond-same true x y z e = e
cond-same false x y z e = refl

many-same : {T A : Type 0} (item : List T → Out T A) (class : T → Bool) → ((ts : List T) → Sized 1 ts (item ts)) → (n m : ℕ) (ts : List T) → length ts ≤ n → length ts ≤ m → many item class n ts ≡ many item class m ts
many-same item class short zero zero ts b d = refl
many-same item class short zero (suc m) [] b d = refl
many-same item class short zero (suc m) (t ∷ ts) b d = absurd (omega arith)
many-same item class short (suc n) zero [] b d = refl
many-same item class short (suc n) zero (t ∷ ts) b d = absurd (omega arith)
many-same {T} {A} item class short (suc n) (suc m) ts b d =
    let put : A → List A → List T → Out T (List A) = λ a more rest. got (a ∷ more) rest in
    cond-same (next_is class ts) (then_ (item ts) (λ a mid. then_ (many item class n mid) (put a))) (then_ (item ts) (λ a mid. then_ (many item class m mid) (put a))) (got [] ts)
    (then-same ts (item ts) (λ a mid. then_ (many item class n mid) (put a)) (λ a mid. then_ (many item class m mid) (put a)) (short ts)
    (λ a mid l. ap (λ (o : Out T (List A)). then_ o (put a)) (many-same item class short n m mid (omega arith) (omega arith))))

turns-same : {T S : Type 0} (turn : S → List T → Out T S) (class : S → T → Bool) → ((s : S) (ts : List T) → Sized 1 ts (turn s ts)) → (n m : ℕ) (s : S) (ts : List T) → length ts ≤ n → length ts ≤ m → turns turn class n s ts ≡ turns turn class m s ts
turns-same turn class short zero zero s ts b d = refl
turns-same turn class short zero (suc m) s [] b d = refl
turns-same turn class short zero (suc m) s (t ∷ ts) b d = absurd (omega arith)
turns-same turn class short (suc n) zero s [] b d = refl
turns-same turn class short (suc n) zero s (t ∷ ts) b d = absurd (omega arith)
turns-same {T} {S} turn class short (suc n) (suc m) s ts b d =
    cond-same (next_is (class s) ts) (then_ (turn s ts) (turns turn class n)) (then_ (turn s ts) (turns turn class m)) (got s ts)
    (then-same ts (turn s ts) (turns turn class n) (turns turn class m) (short s ts) (λ u mid l. turns-same turn class short n m u mid (omega arith) (omega arith)))

mid-size : {T A : Type 0} (ts mid : List T) (a : A) (o : Out T A) → o ≡ got a mid → Sized 1 ts o → suc (length mid) ≤ length ts
mid-size ts mid a o e s = let k : Sized 1 ts (got a mid) = rw e at s in omega arith

module _ {T P : Type 0} {V : P → Type 0} (grammar : (p : P) → Part T V (V p)) (eating : (p : P) → eats (grammar p) ≡ true) where
  short-read : {A : Type 0} (n : ℕ) (p : Part T V A) → eats p ≡ true → (ts : List T) → Sized 1 ts (read grammar n p ts)
  short-read n p e ts = rw e at (size-run (reader grammar n) (size-reader grammar eating n) p ts)

  -- what reading a part that eats leaves is shorter
  pub read_less : {A : Type 0} (n : ℕ) (p : Part T V A) → eats p ≡ true → (ts : List T) (a : A) (mid : List T) → read grammar n p ts ≡ got a mid → length mid < length ts
  read_less n p e ts a mid r = mid-size ts mid a (read grammar n p ts) r (short-read n p e ts)

  -- a turn of a repetition
  pub rep_turn : {A : Type 0} (n : ℕ) (class : T → Bool) (p : Part T V A) → eats p ≡ true → (ts : List T) (a : A) (mid : List T) → next_is class ts ≡ true → read grammar n p ts ≡ got a mid → read grammar n (rep class p) ts ≡ then_ (read grammar n (rep class p) mid) (λ more rest. got (a ∷ more) rest)
  rep_turn n class p e [] a mid c r = cc
  rep_turn {A} n class p e (t ∷ ts) a mid c r =
      let l : suc (length mid) ≤ suc (length ts) = mid-size (t ∷ ts) mid a (read grammar n p (t ∷ ts)) r (short-read n p e (t ∷ ts)) in
      rw (c, r, many-same (read grammar n p) class (short-read n p e) (length ts) (length mid) mid (omega arith) (omega arith)) refl

  pub joined_turn : {A : Type 0} (n : ℕ) (class : T → Bool) (p : Part T V A) → eats p ≡ true → (front : List A) (ts : List T) (a : A) (mid : List T) → next_is class ts ≡ true → read grammar n p ts ≡ got a mid → joined front (read grammar n (rep class p) ts) ≡ joined (front ++ a ∷ []) (read grammar n (rep class p) mid)
  joined_turn {A} n class p e front ts a mid c r = ap (λ (o : Out T (List A)). joined front o) (rep_turn n class p e ts a mid c r) ∙ go (read grammar n (rep class p) mid)
    where
      go : (o : Out T (List A)) → joined front (then_ o (λ more rest. got (a ∷ more) rest)) ≡ joined (front ++ a ∷ []) o
      go (got more rest) = ap (λ (z : List A). got z rest) (sym (append_assoc front (a ∷ []) more))
      go (stop fault left) = refl

  -- a turn of an iteration
  pub iter_turn : {S : Type 0} (n : ℕ) (class : S → T → Bool) (part : S → Part T V S) → ((u : S) → eats (part u) ≡ true) → (s : S) (ts : List T) (u : S) (mid : List T) → next_is (class s) ts ≡ true → read grammar n (part s) ts ≡ got u mid → read grammar n (iter class part s) ts ≡ read grammar n (iter class part u) mid
  iter_turn n class part e s [] u mid c r = cc
  iter_turn n class part e s (t ∷ ts) u mid c r =
      let l : suc (length mid) ≤ suc (length ts) = mid-size (t ∷ ts) mid u (read grammar n (part s) (t ∷ ts)) r (short-read n (part s) (e s) (t ∷ ts)) in
      rw (c, r) (turns-same (λ v. read grammar n (part v)) class (λ v. short-read n (part v) (e v)) (length ts) (length mid) u mid (omega arith) (omega arith))
