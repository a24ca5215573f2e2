-- What a reading leaves are the last of its tokens.
use Rattle.std.proofs.Common.{◌≡◌, ℕ, zero, suc, Bool, true, false, cond, Option, Some, None, List, [], ◌∷◌, ◌++◌, length, refl, ap, sym, ◌∙◌, append_assoc}
use Rattle.vh_parse_grammar.specs.Part.{Part, done, tok, seq, bind, act, alt, rep, iter, nested, unless, barred}
use Rattle.vh_parse_grammar.specs.Reading.{Out, got, stop, then_, next_is, taken, token_of, past_levels, many, turns, run, reader}

-- The tokens that are left are the last ones
abbrev pub Ends : {T A : Type 0} → List T → Out T A → Type 0
Ends {T} ts (got a rest) = (earlier : List T) × (ts ≡ earlier ++ rest)
Ends ts (stop fault left) = Unit {0}

ends-from : {T A : Type 0} (ts mid : List T) (o : Out T A) → (earlier : List T) → ts ≡ earlier ++ mid → Ends mid o → Ends ts o
ends-from ts mid (got a rest) earlier e h = (earlier ++ h.0, e ∙ ap (λ l. earlier ++ l) h.1 ∙ sym (append_assoc earlier h.0 rest))
ends-from ts mid (stop fault left) earlier e h = tt

ends-then : {T A B : Type 0} (ts : List T) (o : Out T A) (k : A → List T → Out T B) → Ends ts o → ((a : A) (mid : List T) → Ends mid (k a mid)) → Ends ts (then_ o k)
ends-then ts (got a mid) k h s = ends-from ts mid (k a mid) h.0 h.1 (s a mid)
ends-then ts (stop fault left) k h s = tt

ends-here : {T A : Type 0} (a : A) (ts : List T) → Ends ts (got a ts)
ends-here a ts = ([], refl)

ends-taken : {T A : Type 0} (o : Option A) (t : T) (ts : List T) → Ends (t ∷ ts) (taken o ts)
ends-taken (Some a) t ts = (t ∷ [], refl)
ends-taken None t ts = tt

ends-token : {T A : Type 0} (meaning : T → Option A) (ts : List T) → Ends ts (token_of meaning ts)
ends-token meaning [] = tt
ends-token meaning (t ∷ ts) = ends-taken (meaning t) t ts

ends-cond : {T A : Type 0} (d : Bool) (ts : List T) (x y : Out T A) → Ends ts x → Ends ts y → Ends ts (cond d x y)
ends-cond true ts x y h g = h
ends-cond false ts x y h g = g

ends-many : {T A : Type 0} (item : List T → Out T A) (class : T → Bool) (n : ℕ) (ts : List T) → ((m : List T) → Ends m (item m)) → Ends ts (many item class n ts)
ends-many {T} {A} item class zero ts h = ends-here {A = List A} [] ts
ends-many {T} {A} item class (suc n) ts h =
    let put : A → List A → List T → Out T (List A) = λ a more rest. got (a ∷ more) rest in
    ends-cond (next_is class ts) ts (then_ (item ts) (λ a mid. then_ (many item class n mid) (put a))) (got [] ts)
    (ends-then ts (item ts) (λ a mid. then_ (many item class n mid) (put a)) (h ts) (λ a mid. ends-then mid (many item class n mid) (put a) (ends-many item class n mid h) (λ more rest. ends-here {A = List A} (a ∷ more) rest)))
    (ends-here {A = List A} [] ts)

ends-turns : {T S : Type 0} (turn : S → List T → Out T S) (class : S → T → Bool) (n : ℕ) (s : S) (ts : List T) → ((u : S) (m : List T) → Ends m (turn u m)) → Ends ts (turns turn class n s ts)
ends-turns turn class zero s ts h = ends-here s ts
ends-turns turn class (suc n) s ts h =
    ends-cond (next_is (class s) ts) ts (then_ (turn s ts) (turns turn class n)) (got s ts)
    (ends-then ts (turn s ts) (turns turn class n) (h s ts) (λ u mid. ends-turns turn class n u mid h)) (ends-here s ts)

ends-past : {T : Type 0} (A : Type 0) (ts : List T) → Ends ts (past_levels {A = A} ts)
ends-past A [] = tt
ends-past A (t ∷ ts) = tt

module _ {T P : Type 0} {V : P → Type 0} (R : (p : P) → List T → Out T (V p)) (h : (p : P) (ts : List T) → Ends ts (R p ts)) where
  ends-run : {A : Type 0} (p : Part T V A) (ts : List T) → Ends ts (run R p ts)
  ends-run (done a) ts = ends-here a ts
  ends-run (tok meaning) ts = ends-token meaning ts
  ends-run (seq {A} {B} p q) ts = ends-then ts (run R p ts) (λ a mid. then_ (run R q mid) (λ b rest. got (a, b) rest)) (ends-run p ts) (λ a mid. ends-then mid (run R q mid) (λ b rest. got (a, b) rest) (ends-run q mid) (λ b rest. ends-here {A = A × B} (a, b) rest))
  ends-run (bind p q) ts = ends-then ts (run R p ts) (λ a mid. run R (q a) mid) (ends-run p ts) (λ a mid. ends-run (q a) mid)
  ends-run (act f p) ts = ends-then ts (run R p ts) (λ a rest. got (f a) rest) (ends-run p ts) (λ a rest. ends-here (f a) rest)
  ends-run (alt class p q) ts = ends-cond (next_is class ts) ts (run R p ts) (run R q ts) (ends-run p ts) (ends-run q ts)
  ends-run (rep class p) ts = ends-many (run R p) class (length ts) ts (λ m. ends-run p m)
  ends-run (iter class part s) ts = ends-turns (λ u. run R (part u)) class (length ts) s ts (λ u m. ends-run (part u) m)
  ends-run (nested p) ts = h p ts
  ends-run (unless class p) ts = ends-run p ts
  ends-run (barred class p) ts = ends-run p ts

-- What a production leaves
pub ends-reader : {T P : Type 0} {V : P → Type 0} (grammar : (p : P) → Part T V (V p)) (n : ℕ) (p : P) (ts : List T) → Ends ts (reader grammar n p ts)
ends-reader {V = V} grammar zero p ts = ends-past (V p) ts
ends-reader grammar (suc n) p ts = ends-run (reader grammar n) (ends-reader grammar n) (grammar p) ts
