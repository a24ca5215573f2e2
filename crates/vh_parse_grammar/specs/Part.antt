-- What a grammar is made of, as data: the parts that a production is written with.
use Rattle.std.specs.Prelude.{Bool, if◌then◌else◌, Option, Some, None, List, ◌∷◌}

-- A part of a production, whose trees have the type `A`, over tokens `T`. `P` names the productions
-- that parts may refer to, and `V p` is the type of the trees of `p` (own; IEEE 1364-2005 Annex A,
-- whose brackets, braces and bars these are).
pub data Part (T : Type 0) {P : Type 0} (V : P → Type 0) : Type 0 → Type 1 where
  -- no token at all, with this tree
  done : {A : Type 0} → A → Part T V A
  -- one token of a class, which gives each of its tokens what it means
  tok : {A : Type 0} → (T → Option A) → Part T V A
  -- the first part, and then the second
  seq : {A B : Type 0} → Part T V A → Part T V B → Part T V (A × B)
  -- the first part, and then the part that its tree decides on
  bind : {A B : Type 0} → Part T V A → (A → Part T V B) → Part T V B
  -- the part, with what the function makes of its tree
  act : {A B : Type 0} → (A → B) → Part T V A → Part T V B
  -- the first part where a token of the class is next, else the second
  alt : {A : Type 0} → (T → Bool) → Part T V A → Part T V A → Part T V A
  -- the part again and again, as long as a token of the class is next
  rep : {A : Type 0} → (T → Bool) → Part T V A → Part T V (List A)
  -- from a first state on, the part that the state decides on, which gives the next state, as long as
  -- a token of the state's class is next; the tree is the last state
  iter : {S : Type 0} → (S → T → Bool) → (S → Part T V S) → S → Part T V S
  -- a whole production, one level deeper
  nested : (p : P) → Part T V (V p)
  -- the part, where a token of the class that is next shows that what begins there is left out: the
  -- grammar goes on as if it weren't
  unless : {A : Type 0} → (T → Bool) → Part T V A → Part T V A
  -- the part, where a token of the class behind it shows that what begins where the part begins is
  -- left out: the grammar goes on as if it weren't
  barred : {A : Type 0} → (A → T → Bool) → Part T V A → Part T V A

-- A token of the class means no more than that it stands there (own)
abbrev pub only_means : {T : Type 0} → (T → Bool) → T → Option (Unit {0})
only_means class t = if class t then Some tt else None

module _ {T P : Type 0} {V : P → Type 0} where
  -- one token of the class, whose tree says no more than that it stands there (own)
  abbrev pub only : (T → Bool) → Part T V (Unit {0})
  only class = tok (only_means class)

  -- the part where a token of the class is next, and else nothing (own)
  abbrev pub opt : {A : Type 0} → (T → Bool) → Part T V A → Part T V (Option A)
  opt c p = alt c (act Some p) (done None)

  -- two parts, with what the function makes of their trees (own)
  abbrev pub two : {A B C : Type 0} → (A → B → C) → Part T V A → Part T V B → Part T V C
  two f p q = act (λ r. f r.0 r.1) (seq p q)

  -- the second of two parts counts, the first only has to stand there (own)
  abbrev pub after : {A B : Type 0} → Part T V A → Part T V B → Part T V B
  after p q = act (λ r. r.1) (seq p q)

  -- the first of two parts counts, the second only has to stand there (own)
  abbrev pub before : {A B : Type 0} → Part T V A → Part T V B → Part T V A
  before p q = act (λ r. r.0) (seq p q)

  -- one part, and further ones, each after a separator of the class (own)
  abbrev pub listed : {A B : Type 0} → (T → Bool) → Part T V B → Part T V A → Part T V (List A)
  listed c separator p = two (λ a more. a ∷ more) p (rep c (after separator p))

  -- the part again and again; wherever one more could begin, a token of the second class shows that what
  -- begins there is left out (own)
  abbrev pub rep_unless : {A : Type 0} → (T → Bool) → (T → Bool) → Part T V A → Part T V (List A)
  rep_unless c shows p = unless shows (rep c (before p (unless shows (done (tt {0})))))
