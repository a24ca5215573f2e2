-- What reading means, with no word of how it is done: which tokens a part spells, with which tokens it
-- begins, where it meets a fault, and which tokens show that a construct is left out. Each is by cases on
-- parts. The first three are of the pure grammar, where nothing is left out.
use Rattle.std.specs.Prelude.{◌≡◌, ℕ, zero, suc, Bool, true, false, Option, Some, None, List, [], ◌∷◌, length, ◌⊎◌}
use Rattle.vh_parse_grammar.specs.Part.{Part, done, tok, seq, bind, act, alt, rep, iter, nested, unless, barred}
use Rattle.vh_parse_grammar.specs.Reading.{Fault, lost, deep, next_is}

-- The tokens from `ts` up to `rest` are items, one for each tree of the list, and behind the last it
-- ends (own)
abbrev pub Repeats : {T A : Type 0} → (A → List T → List T → Type 0) → (List T → Type 0) → List A → List T → List T → Type 0
Repeats Item End [] ts rest = (rest ≡ ts) × End ts
Repeats {T} Item End (a ∷ more) ts rest = (mid : List T) × Item a ts mid × Repeats Item End more mid rest

-- After `n` turns from a state and these tokens, this holds of the state and of the tokens left (own)
abbrev pub AfterTurns : {T S : Type 0} → (S → S → List T → List T → Type 0) → (S → List T → Type 0) → ℕ → S → List T → Type 0
AfterTurns Turn End zero s ts = End s ts
AfterTurns {T} {S} Turn End (suc n) s ts = (u : S) × (mid : List T) × Turn s u ts mid × AfterTurns Turn End n u mid

-- The first token is none of the class (own)
abbrev pub NoToken : {T A : Type 0} → (T → Option A) → List T → Type 0
NoToken meaning [] = Unit {0}
NoToken meaning (t ∷ ts) = meaning t ≡ None

-- The first token is of the class, and shows that what begins with it is left out (own)
abbrev pub ShowsHere : {T : Type 0} → (T → Bool) → List T → ℕ → ℕ → Type 0
ShowsHere class ts place shown = (next_is class ts ≡ true) × (place ≡ length ts) × (shown ≡ length ts)

module _ {T P : Type 0} {V : P → Type 0} (Nested : (p : P) → V p → List T → List T → Type 0) where
  -- the tokens from `ts` up to `rest` are spelled by the part with this tree. What may be absent is so
  -- only where no token of its class is next: the longest reading (own)
  abbrev pub Reads : {A : Type 0} → Part T V A → A → List T → List T → Type 0
  Reads (done b) a ts rest = (a ≡ b) × (rest ≡ ts)
  Reads (tok meaning) a ts rest = (t : T) × (ts ≡ t ∷ rest) × (meaning t ≡ Some a)
  Reads (seq p q) a ts rest = (mid : List T) × Reads p a.0 ts mid × Reads q a.1 mid rest
  Reads (bind {A} p q) b ts rest = (a : A) × (mid : List T) × Reads p a ts mid × Reads (q a) b mid rest
  Reads (act {A} f p) b ts rest = (a : A) × (b ≡ f a) × Reads p a ts rest
  Reads (alt class p q) a ts rest = ((next_is class ts ≡ true) × Reads p a ts rest) ⊎ ((next_is class ts ≡ false) × Reads q a ts rest)
  Reads (rep class p) list ts rest = Repeats (λ a m r. (next_is class m ≡ true) × Reads p a m r) (λ m. next_is class m ≡ false) list ts rest
  Reads (iter class part s) a ts rest =
      (n : ℕ) × AfterTurns (λ u v m r. (next_is (class u) m ≡ true) × Reads (part u) v m r) (λ u m. (a ≡ u) × (rest ≡ m) × (next_is (class u) m ≡ false)) n s ts
  Reads (nested p) a ts rest = Nested p a ts rest
  Reads (unless class p) a ts rest = Reads p a ts rest
  Reads (barred class p) a ts rest = Reads p a ts rest

  module _ (NestedBegins : (p : P) → List T → Type 0) where
    -- the tokens begin the part: none at all; or a token alone; of a sequence what begins its first
    -- part, or a whole first part and what begins the rest; of a choice what begins the branch; of a
    -- repetition whole turns and what begins one more (own)
    abbrev pub Begins : {A : Type 0} → Part T V A → List T → Type 0
    Begins (done a) ts = ts ≡ []
    Begins (tok {A} meaning) ts = (ts ≡ []) ⊎ ((t : T) × (a : A) × (ts ≡ t ∷ []) × (meaning t ≡ Some a))
    Begins (seq {A} p q) ts = Begins p ts ⊎ ((a : A) × (mid : List T) × Reads p a ts mid × Begins q mid)
    Begins (bind {A} p q) ts = Begins p ts ⊎ ((a : A) × (mid : List T) × Reads p a ts mid × Begins (q a) mid)
    Begins (act f p) ts = Begins p ts
    Begins (alt class p q) ts = ((next_is class ts ≡ true) × Begins p ts) ⊎ ((next_is class ts ≡ false) × Begins q ts)
    Begins (rep {A} class p) ts =
        (n : ℕ) × AfterTurns (λ _ _ m r. (next_is class m ≡ true) × ((a : A) × Reads p a m r)) (λ _ m. (m ≡ []) ⊎ ((next_is class m ≡ true) × Begins p m)) n (tt {0}) ts
    Begins (iter class part s) ts =
        (n : ℕ) × AfterTurns (λ u v m r. (next_is (class u) m ≡ true) × Reads (part u) v m r) (λ u m. (m ≡ []) ⊎ ((next_is (class u) m ≡ true) × Begins (part u) m)) n s ts
    Begins (nested p) ts = NestedBegins p ts
    Begins (unless class p) ts = Begins p ts
    Begins (barred class p) ts = Begins p ts

  module _ (NestedMeets : (p : P) → Fault → List T → ℕ → Type 0) where
    -- going on from `ts` as the part does meets this fault, with so many tokens left at its place (own)
    abbrev pub Meets : {A : Type 0} → Part T V A → Fault → List T → ℕ → Type 0
    Meets (done a) fault ts left = ⊥
    Meets (tok meaning) fault ts left = (fault ≡ lost) × (left ≡ length ts) × NoToken meaning ts
    Meets (seq {A} p q) fault ts left = Meets p fault ts left ⊎ ((a : A) × (mid : List T) × Reads p a ts mid × Meets q fault mid left)
    Meets (bind {A} p q) fault ts left = Meets p fault ts left ⊎ ((a : A) × (mid : List T) × Reads p a ts mid × Meets (q a) fault mid left)
    Meets (act f p) fault ts left = Meets p fault ts left
    Meets (alt class p q) fault ts left =
        ((next_is class ts ≡ true) × Meets p fault ts left) ⊎ ((next_is class ts ≡ false) × Meets q fault ts left)
    Meets (rep {A} class p) fault ts left =
        (n : ℕ) × AfterTurns (λ _ _ m r. (next_is class m ≡ true) × ((a : A) × Reads p a m r)) (λ _ m. (next_is class m ≡ true) × Meets p fault m left) n (tt {0}) ts
    Meets (iter class part s) fault ts left =
        (n : ℕ) × AfterTurns (λ u v m r. (next_is (class u) m ≡ true) × Reads (part u) v m r) (λ u m. (next_is (class u) m ≡ true) × Meets (part u) fault m left) n s ts
    Meets (nested p) fault ts left = NestedMeets p fault ts left
    Meets (unless class p) fault ts left = Meets p fault ts left
    Meets (barred class p) fault ts left = Meets p fault ts left

  module _ (word : T → Bool) (NestedShows : (p : P) → List T → ℕ → ℕ → Type 0) where
    -- going on from `ts` as the part does shows that a construct is left out, with so many tokens left at
    -- its place and at the token that shows it: a token of the class, there or behind the part; or a word
    -- that stands in no production, where it is refused (own)
    abbrev pub Shows : {A : Type 0} → Part T V A → List T → ℕ → ℕ → Type 0
    Shows (done a) ts place shown = ⊥
    Shows (tok meaning) ts place shown = NoToken meaning ts × ShowsHere word ts place shown
    Shows (seq {A} p q) ts place shown = Shows p ts place shown ⊎ ((a : A) × (mid : List T) × Reads p a ts mid × Shows q mid place shown)
    Shows (bind {A} p q) ts place shown = Shows p ts place shown ⊎ ((a : A) × (mid : List T) × Reads p a ts mid × Shows (q a) mid place shown)
    Shows (act f p) ts place shown = Shows p ts place shown
    Shows (alt class p q) ts place shown =
        ((next_is class ts ≡ true) × Shows p ts place shown) ⊎ ((next_is class ts ≡ false) × Shows q ts place shown)
    Shows (rep {A} class p) ts place shown =
        (n : ℕ) × AfterTurns (λ _ _ m r. (next_is class m ≡ true) × ((a : A) × Reads p a m r)) (λ _ m. (next_is class m ≡ true) × Shows p m place shown) n (tt {0}) ts
    Shows (iter class part s) ts place shown =
        (n : ℕ) × AfterTurns (λ u v m r. (next_is (class u) m ≡ true) × Reads (part u) v m r) (λ u m. (next_is (class u) m ≡ true) × Shows (part u) m place shown) n s ts
    Shows (nested p) ts place shown = NestedShows p ts place shown
    Shows (unless class p) ts place shown = ShowsHere class ts place shown ⊎ Shows p ts place shown
    Shows (barred {A} class p) ts place shown =
        Shows p ts place shown ⊎ ((a : A) × (rest : List T) × Reads p a ts rest × (next_is (class a) rest ≡ true) × (place ≡ length ts) × (shown ≡ length rest))

-- Where no level is left, the end of the tokens is a missing token, and each token is too deep (own)
abbrev pub MeetsPast : {T : Type 0} → Fault → List T → ℕ → Type 0
MeetsPast fault [] left = (fault ≡ lost) × (left ≡ 0)
MeetsPast fault (t ∷ ts) left = (fault ≡ deep) × (left ≡ suc (length ts))

module _ {T P : Type 0} {V : P → Type 0} (grammar : (p : P) → Part T V (V p)) where
  -- the tokens are spelled by a production, with so many levels left; with none there is no tree (own)
  abbrev pub ReadsAt : ℕ → (p : P) → V p → List T → List T → Type 0
  ReadsAt zero p a ts rest = ⊥
  ReadsAt (suc levels) p a ts rest = Reads (ReadsAt levels) (grammar p) a ts rest

  -- the tokens begin a production, with so many levels left; with none only the empty list does (own)
  abbrev pub BeginsAt : ℕ → (p : P) → List T → Type 0
  BeginsAt zero p ts = ts ≡ []
  BeginsAt (suc levels) p ts = Begins (ReadsAt levels) (BeginsAt levels) (grammar p) ts

  -- going on as a production does meets this fault, with so many levels left (own)
  abbrev pub MeetsAt : ℕ → (p : P) → Fault → List T → ℕ → Type 0
  MeetsAt zero p fault ts left = MeetsPast fault ts left
  MeetsAt (suc levels) p fault ts left = Meets (ReadsAt levels) (MeetsAt levels) (grammar p) fault ts left

  -- going on as a production does shows that a construct is left out; where no level is left, a word does
  -- that stands in no production (own)
  abbrev pub ShowsAt : (T → Bool) → ℕ → (p : P) → List T → ℕ → ℕ → Type 0
  ShowsAt word zero p ts place shown = ShowsHere word ts place shown
  ShowsAt word (suc levels) p ts place shown = Shows (ReadsAt levels) word (ShowsAt word levels) (grammar p) ts place shown
