-- The classes by which a table makes its choices: what is asked of them, token by token, and what they are.
use Rattle.std.specs.Prelude.{◌≡◌, ℕ, Bool, true, false, ◌&&◌, [], ◌∷◌, ◌↔◌}
use Rattle.vh_parse_grammar.specs.Part.{Part, done, tok, seq, bind, act, alt, rep, iter, nested, unless, barred}
use Rattle.vh_parse_grammar.specs.Firsts.{behind, without_token, first}
use Rattle.vh_parse_grammar.specs.Sentences.{Begins, ReadsAt, BeginsAt}

module _ {T P : Type 0} {V : P → Type 0} (first_of : P → T → Bool) where
  -- at this token each choice in the part is made right: its class has the token exactly where the token
  -- can begin what is chosen, and then it can begin no other branch. What follows a part that may take no
  -- token begins with no token that the part begins with (own)
  abbrev pub Heeds : {A : Type 0} → Part T V A → T → Type 0
  Heeds (done a) t = Unit {0}
  Heeds (tok meaning) t = Unit {0}
  Heeds (seq p q) t = ((behind (without_token p) (λ _. first first_of q t) && first first_of p t) ≡ false) × Heeds p t × Heeds q t
  Heeds (bind {A} p q) t = ((behind (without_token p) (λ a. first first_of (q a) t) && first first_of p t) ≡ false) × Heeds p t × ((a : A) → Heeds (q a) t)
  Heeds (act f p) t = Heeds p t
  Heeds (alt class p q) t = (class t ≡ first first_of p t) × ((first first_of q t && class t) ≡ false) × Heeds p t × Heeds q t
  Heeds (rep class p) t = (class t ≡ first first_of p t) × Heeds p t
  Heeds (iter {S} class part s) t = (u : S) → (class u t ≡ first first_of (part u) t) × Heeds (part u) t
  Heeds (nested p) t = Unit {0}
  Heeds (unless class p) t = Heeds p t
  Heeds (barred class p) t = Heeds p t

module _ {T P : Type 0} {V : P → Type 0} (grammar : (p : P) → Part T V (V p)) where
  -- on some number of levels the token begins the part (own)
  abbrev pub IsFirst : {A : Type 0} → Part T V A → T → Type 0
  IsFirst p t = (levels : ℕ) × Begins (ReadsAt grammar levels) (BeginsAt grammar levels) p (t ∷ [])

  -- the class of each choice in the part is the set of the first tokens of what is chosen (own)
  abbrev pub ChoosesByFirsts : {A : Type 0} → Part T V A → Type 0
  ChoosesByFirsts (done a) = Unit {0}
  ChoosesByFirsts (tok meaning) = Unit {0}
  ChoosesByFirsts (seq p q) = ChoosesByFirsts p × ChoosesByFirsts q
  ChoosesByFirsts (bind {A} p q) = ChoosesByFirsts p × ((a : A) → ChoosesByFirsts (q a))
  ChoosesByFirsts (act f p) = ChoosesByFirsts p
  ChoosesByFirsts (alt class p q) = ((t : T) → (class t ≡ true) ↔ IsFirst p t) × ChoosesByFirsts p × ChoosesByFirsts q
  ChoosesByFirsts (rep class p) = ((t : T) → (class t ≡ true) ↔ IsFirst p t) × ChoosesByFirsts p
  ChoosesByFirsts (iter {S} class part s) = (u : S) → ((t : T) → (class u t ≡ true) ↔ IsFirst (part u) t) × ChoosesByFirsts (part u)
  ChoosesByFirsts (nested p) = Unit {0}
  ChoosesByFirsts (unless class p) = ChoosesByFirsts p
  ChoosesByFirsts (barred class p) = ChoosesByFirsts p
