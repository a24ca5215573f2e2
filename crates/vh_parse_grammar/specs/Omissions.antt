-- Reading with an omission: what a parser answers. A construct that is left out doesn't stop the reading; its
-- place is noting, and an omission is the answer in place of a later fault or of the tree.
use Rattle.std.specs.Prelude.{if◌then◌else◌, ℕ, zero, suc, Bool, max, Option, Some, None, List, [], ◌∷◌, ◌++◌, length}
use Rattle.vh_parse_grammar.specs.Part.{Part, done, tok, seq, bind, act, alt, rep, iter, nested, unless, barred}
use Rattle.vh_parse_grammar.specs.Reading.{Fault, lost, deep, left_out, Out, got, stop, then_, next_is, turns}

-- An omission is how many tokens are left at the first place of what was shown to be left out; 0, the place
-- after the last token, says that nothing was.

-- The omission, where the construct that begins here is left out: of two places the first one stays (own)
abbrev pub with_omission : {T : Type 0} → List T → ℕ → ℕ
with_omission ts omission = max omission (length ts)

-- The omission, where a token of the class that is next shows that what begins at `ts` is left out (own)
abbrev pub omission_at : {T : Type 0} → List T → Bool → ℕ → ℕ
omission_at ts shown omission = if shown then with_omission ts omission else omission

-- What a refusal is answered: the omission if there is one, else the fault (own)
abbrev pub refusal : {T A : Type 0} → Fault → ℕ → ℕ → Out T A
refusal fault left zero = stop fault left
refusal fault left (suc omission) = stop left_out (suc omission)

-- The first of the tokens, or their end, is refused. A word that stands in no production is left out (own)
abbrev pub refused : {T A : Type 0} → (T → Bool) → Fault → List T → ℕ → Out T A
refused word fault ts omission = refusal fault (length ts) (omission_at ts (next_is word ts) omission)

-- The first token has this meaning, or none (own)
abbrev pub taken_from : {T A : Type 0} → (T → Bool) → Option A → T → List T → ℕ → Out T (A × ℕ)
taken_from word (Some a) t ts omission = got (a, omission) ts
taken_from word None t ts omission = refused word lost (t ∷ ts) omission

-- One token, with what it means (own)
abbrev pub noting_token : {T A : Type 0} → (T → Bool) → (T → Option A) → List T → ℕ → Out T (A × ℕ)
noting_token word meaning [] omission = refused word lost [] omission
noting_token word meaning (t ∷ ts) omission = taken_from word (meaning t) t ts omission

-- Where no level is left: too deep at a token, and nothing to be had after the last (own)
abbrev pub noting_past : {T A : Type 0} → (T → Bool) → List T → ℕ → Out T A
noting_past word [] omission = refused word lost [] omission
noting_past word (t ∷ ts) omission = refused word deep (t ∷ ts) omission

-- As many turns as there are tokens of the class next, at most `n` (own)
abbrev pub noting_many : {T A : Type 0} → (List T → ℕ → Out T (A × ℕ)) → (T → Bool) → ℕ → List T → ℕ → Out T (List A × ℕ)
noting_many item class zero ts omission = got ([], omission) ts
noting_many item class (suc n) ts omission =
    if next_is class ts then then_ (item ts omission) (λ a mid. then_ (noting_many item class n mid a.1) (λ more rest. got (a.0 ∷ more.0, more.1) rest)) else got ([], omission) ts

module _ {T P : Type 0} {V : P → Type 0} (word : T → Bool) (R : (p : P) → List T → ℕ → Out T (V p × ℕ)) where
  -- reads a part, by `R` where a production is nested, from an omission on (own)
  abbrev pub noting : {A : Type 0} → Part T V A → List T → ℕ → Out T (A × ℕ)
  noting (done a) ts omission = got (a, omission) ts
  noting (tok meaning) ts omission = noting_token word meaning ts omission
  noting (seq p q) ts omission = then_ (noting p ts omission) (λ a mid. then_ (noting q mid a.1) (λ b rest. got ((a.0, b.0), b.1) rest))
  noting (bind p q) ts omission = then_ (noting p ts omission) (λ a mid. noting (q a.0) mid a.1)
  noting (act f p) ts omission = then_ (noting p ts omission) (λ a rest. got (f a.0, a.1) rest)
  noting (alt class p q) ts omission = if next_is class ts then noting p ts omission else noting q ts omission
  noting (rep class p) ts omission = noting_many (noting p) class (length ts) ts omission
  noting (iter class part s) ts omission = turns (λ u mid. noting (part u.0) mid u.1) (λ u. class u.0) (length ts) (s, omission) ts
  noting (nested p) ts omission = R p ts omission
  noting (unless class p) ts omission = noting p ts (omission_at ts (next_is class ts) omission)
  noting (barred class p) ts omission = then_ (noting p ts omission) (λ a rest. got (a.0, omission_at ts (next_is (class a.0) rest) a.1) rest)

module _ {T P : Type 0} {V : P → Type 0} (word : T → Bool) (grammar : (p : P) → Part T V (V p)) where
  -- reads a production with so many levels left (own)
  abbrev pub noting_at : ℕ → (p : P) → List T → ℕ → Out T (V p × ℕ)
  noting_at zero p ts omission = noting_past word ts omission
  noting_at (suc levels) p ts omission = noting word (noting_at levels) (grammar p) ts omission

  -- reads a part with so many levels left below it (own)
  abbrev pub noted : {A : Type 0} → ℕ → Part T V A → List T → ℕ → Out T (A × ℕ)
  noted levels part ts omission = noting word (noting_at levels) part ts omission

-- What a loop has read already, in front of what it has still to read (own)
abbrev pub joined_noted : {T A : Type 0} → List A → Out T (List A × ℕ) → Out T (List A × ℕ)
joined_noted front o = then_ o (λ more rest. got (front ++ more.0, more.1) rest)

-- The tree, unless a construct was left out (own)
abbrev pub without_omission : {T A : Type 0} → A → List T → ℕ → Out T A
without_omission a rest zero = got a rest
without_omission a rest (suc omission) = stop left_out (suc omission)

-- What is answered where a part is all that is read (own)
abbrev pub answered : {T A : Type 0} → Out T (A × ℕ) → Out T A
answered (got a rest) = without_omission a.0 rest a.1
answered (stop fault left) = stop fault left

-- What is answered where all tokens are to be read: one that is left over could not stand there (own)
abbrev pub answered_whole : {T A : Type 0} → (T → Bool) → Out T (A × ℕ) → Out T A
answered_whole word (got a []) = without_omission a.0 [] a.1
answered_whole word (got a (t ∷ ts)) = refused word lost (t ∷ ts) a.1
answered_whole word (stop fault left) = stop fault left
