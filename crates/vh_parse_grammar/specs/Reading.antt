-- Reading the pure grammar: one total function from a part and a list of tokens to a tree with the tokens
-- that are left, or to a fault with its place. What is left out isn't looked at here (`Omissions` does).
use Rattle.std.specs.Prelude.{ℕ, zero, suc, Bool, false, if◌then◌else◌, Option, Some, None, List, [], ◌∷◌, ◌++◌, length}
use Rattle.vh_parse_grammar.specs.Part.{Part, done, tok, seq, bind, act, alt, rep, iter, nested, unless, barred}

-- Why tokens are refused. Of two faults at one token the later one here counts (own).
pub data Fault : Type 0 where
  -- no token that could stand here
  lost : Fault
  -- a token past the last level
  deep : Fault
  -- the first token of a construct that is left out
  left_out : Fault

-- What reading gives. The place of a fault is how many tokens are left there, its own token being one of
-- them, so 0 is the place after the last token (own).
pub data Out (T A : Type 0) : Type 0 where
  -- a tree, and the tokens that are left
  got : A → List T → Out T A
  -- a fault, and how many tokens are left at its place
  stop : Fault → ℕ → Out T A

-- Goes on with the tree and the tokens that are left, unless there is a fault already (own)
abbrev pub then_ : {T A B : Type 0} → Out T A → (A → List T → Out T B) → Out T B
then_ (got a rest) next = next a rest
then_ (stop fault left) next = stop fault left

-- A token of the class is next (own)
abbrev pub next_is : {T : Type 0} → (T → Bool) → List T → Bool
next_is class [] = false
next_is class (t ∷ ts) = class t

-- The first token has this meaning, or none (own)
abbrev pub taken : {T A : Type 0} → Option A → List T → Out T A
taken (Some a) ts = got a ts
taken None ts = stop lost (suc (length ts))

-- One token, with what it means (own)
abbrev pub token_of : {T A : Type 0} → (T → Option A) → List T → Out T A
token_of meaning [] = stop lost 0
token_of meaning (t ∷ ts) = taken (meaning t) ts

-- Where no level is left: too deep at a token, and nothing to be had after the last (own)
abbrev pub past_levels : {T A : Type 0} → List T → Out T A
past_levels [] = stop lost 0
past_levels (t ∷ ts) = stop deep (suc (length ts))

-- As many turns as there are tokens of the class next, at most `n` (own)
abbrev pub many : {T A : Type 0} → (List T → Out T A) → (T → Bool) → ℕ → List T → Out T (List A)
many item class zero ts = got [] ts
many item class (suc n) ts =
    if next_is class ts then then_ (item ts) (λ a mid. then_ (many item class n mid) (λ more rest. got (a ∷ more) rest))
    else got [] ts

-- The same with a state, which each turn gives anew (own)
abbrev pub turns : {T S : Type 0} → (S → List T → Out T S) → (S → T → Bool) → ℕ → S → List T → Out T S
turns turn class zero s ts = got s ts
turns turn class (suc n) s ts =
    if next_is (class s) ts then then_ (turn s ts) (turns turn class n) else got s ts

module _ {T P : Type 0} {V : P → Type 0} (R : (p : P) → List T → Out T (V p)) where
  -- reads a part, by `R` where a production is nested. A turn takes a token, so that there are never
  -- more turns than tokens (own; IEEE 1364-2005 A.1 says how a production is read)
  abbrev pub run : {A : Type 0} → Part T V A → List T → Out T A
  run (done a) ts = got a ts
  run (tok meaning) ts = token_of meaning ts
  run (seq p q) ts = then_ (run p ts) (λ a mid. then_ (run q mid) (λ b rest. got (a, b) rest))
  run (bind p q) ts = then_ (run p ts) (λ a mid. run (q a) mid)
  run (act f p) ts = then_ (run p ts) (λ a rest. got (f a) rest)
  run (alt class p q) ts = if next_is class ts then run p ts else run q ts
  run (rep class p) ts = many (run p) class (length ts) ts
  run (iter class part s) ts = turns (λ u. run (part u)) class (length ts) s ts
  run (nested p) ts = R p ts
  run (unless class p) ts = run p ts
  run (barred class p) ts = run p ts

module _ {T P : Type 0} {V : P → Type 0} (grammar : (p : P) → Part T V (V p)) where
  -- reads a production with so many levels left (own)
  abbrev pub reader : ℕ → (p : P) → List T → Out T (V p)
  reader zero p ts = past_levels ts
  reader (suc levels) p ts = run (reader levels) (grammar p) ts

  -- reads a part with so many levels left below it (own)
  abbrev pub read : {A : Type 0} → ℕ → Part T V A → List T → Out T A
  read levels part ts = run (reader levels) part ts

-- What a loop has read already, in front of what it has still to read (own)
abbrev pub joined : {T A : Type 0} → List A → Out T (List A) → Out T (List A)
joined front o = then_ o (λ more rest. got (front ++ more) rest)

-- A whole source: a token that is left over is one that could not stand there (own)
abbrev pub whole : {T A : Type 0} → Out T A → Out T A
whole (got a []) = got a []
whole (got a (t ∷ ts)) = stop lost (suc (length ts))
whole (stop fault left) = stop fault left
