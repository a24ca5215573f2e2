-- The language of a table, with no word of the classes by which its choices are made: a choice is either
-- branch, and what may be absent is so only where it could not begin.
use Rattle.std.specs.Prelude.{◌≡◌, ℕ, zero, suc, ◌<◌, Bool, false, Some, List, [], ◌∷◌, length, ◌⊎◌}
use Rattle.vh_parse_grammar.specs.Part.{Part, done, tok, seq, bind, act, alt, rep, iter, nested, unless, barred}
use Rattle.vh_parse_grammar.specs.Reading.{next_is}
use Rattle.vh_parse_grammar.specs.Firsts.{first}
use Rattle.vh_parse_grammar.specs.Sentences.{Repeats, AfterTurns}

module _ {T P : Type 0} {V : P → Type 0} (first_of : P → T → Bool) (Nested : (p : P) → V p → List T → List T → Type 0) where
  -- the tokens from `ts` up to `rest` are spelled by the part with this tree: of a choice by the first
  -- branch where it takes a token, and by the second where the next token can't begin the first (own)
  abbrev pub Spells : {A : Type 0} → Part T V A → A → List T → List T → Type 0
  Spells (done b) a ts rest = (a ≡ b) × (rest ≡ ts)
  Spells (tok meaning) a ts rest = (t : T) × (ts ≡ t ∷ rest) × (meaning t ≡ Some a)
  Spells (seq p q) a ts rest = (mid : List T) × Spells p a.0 ts mid × Spells q a.1 mid rest
  Spells (bind {A} p q) b ts rest = (a : A) × (mid : List T) × Spells p a ts mid × Spells (q a) b mid rest
  Spells (act {A} f p) b ts rest = (a : A) × (b ≡ f a) × Spells p a ts rest
  Spells (alt class p q) a ts rest = ((length rest < length ts) × Spells p a ts rest) ⊎ ((next_is (first first_of p) ts ≡ false) × Spells q a ts rest)
  Spells (rep class p) list ts rest = Repeats (Spells p) (λ m. next_is (first first_of p) m ≡ false) list ts rest
  Spells (iter class part s) a ts rest =
      (n : ℕ) × AfterTurns (λ u v m r. Spells (part u) v m r) (λ u m. (a ≡ u) × (rest ≡ m) × (next_is (first first_of (part u)) m ≡ false)) n s ts
  Spells (nested p) a ts rest = Nested p a ts rest
  Spells (unless class p) a ts rest = Spells p a ts rest
  Spells (barred class p) a ts rest = Spells p a ts rest

  module _ (NestedOpens : (p : P) → List T → Type 0) where
    -- the tokens begin the part: none at all; or a token alone; of a sequence what begins its first
    -- part, or a whole first part and what begins the rest; of a choice what begins one of its
    -- branches; of a repetition whole turns and what begins one more (own)
    abbrev pub Opens : {A : Type 0} → Part T V A → List T → Type 0
    Opens (done a) ts = ts ≡ []
    Opens (tok {A} meaning) ts = (ts ≡ []) ⊎ ((t : T) × (a : A) × (ts ≡ t ∷ []) × (meaning t ≡ Some a))
    Opens (seq {A} p q) ts = Opens p ts ⊎ ((a : A) × (mid : List T) × Spells p a ts mid × Opens q mid)
    Opens (bind {A} p q) ts = Opens p ts ⊎ ((a : A) × (mid : List T) × Spells p a ts mid × Opens (q a) mid)
    Opens (act f p) ts = Opens p ts
    Opens (alt class p q) ts = Opens p ts ⊎ Opens q ts
    Opens (rep {A} class p) ts = (n : ℕ) × AfterTurns (λ _ _ m r. (a : A) × Spells p a m r) (λ _ m. (m ≡ []) ⊎ Opens p m) n (tt {0}) ts
    Opens (iter class part s) ts = (n : ℕ) × AfterTurns (λ u v m r. Spells (part u) v m r) (λ u m. (m ≡ []) ⊎ Opens (part u) m) n s ts
    Opens (nested p) ts = NestedOpens p ts
    Opens (unless class p) ts = Opens p ts
    Opens (barred class p) ts = Opens p ts

module _ {T P : Type 0} {V : P → Type 0} (first_of : P → T → Bool) (grammar : (p : P) → Part T V (V p)) where
  -- the tokens are spelled by a production, with so many levels left (own)
  abbrev pub SpellsAt : ℕ → (p : P) → V p → List T → List T → Type 0
  SpellsAt zero p a ts rest = ⊥
  SpellsAt (suc levels) p a ts rest = Spells first_of (SpellsAt levels) (grammar p) a ts rest

  -- the tokens begin a production, with so many levels left (own)
  abbrev pub OpensAt : ℕ → (p : P) → List T → Type 0
  OpensAt zero p ts = ts ≡ []
  OpensAt (suc levels) p ts = Opens first_of (SpellsAt levels) (OpensAt levels) (grammar p) ts
