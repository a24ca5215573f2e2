-- The first sets of a grammar: with which tokens a part begins, computed by cases on parts.
use Rattle.std.specs.Prelude.{ℕ, zero, suc, Bool, false, ◌||◌, is_some, Option, Some, None, option_map, []}
use Rattle.vh_parse_grammar.specs.Part.{Part, done, tok, seq, bind, act, alt, rep, iter, nested, unless, barred}

-- What is asked of a tree, if there is one (own)
abbrev pub behind : {A : Type 0} → Option A → (A → Bool) → Bool
behind None f = false
behind (Some a) f = f a

-- Two trees, if both are there (own)
abbrev pub both : {A B : Type 0} → Option A → Option B → Option (A × B)
both None b = None
both (Some a) b = option_map (λ b. (a, b)) b

-- The tree that the first one decides on, if there is one (own)
abbrev pub decided : {A B : Type 0} → Option A → (A → Option B) → Option B
decided None f = None
decided (Some a) f = f a

module _ {T P : Type 0} {V : P → Type 0} where
  -- the tree of the part where it takes no token, if it may take none (own)
  abbrev pub without_token : {A : Type 0} → Part T V A → Option A
  without_token (done a) = Some a
  without_token (tok meaning) = None
  without_token (seq p q) = both (without_token p) (without_token q)
  without_token (bind p q) = decided (without_token p) (λ a. without_token (q a))
  without_token (act f p) = option_map f (without_token p)
  without_token (alt class p q) = without_token q
  without_token (rep class p) = Some []
  without_token (iter class part s) = Some s
  without_token (nested p) = None
  without_token (unless class p) = without_token p
  without_token (barred class p) = without_token p

  module _ (first_of : P → T → Bool) where
    -- the token can begin the part, `first_of` saying so of each production (own)
    abbrev pub first : {A : Type 0} → Part T V A → T → Bool
    first (done a) t = false
    first (tok meaning) t = is_some (meaning t)
    first (seq p q) t = first p t || behind (without_token p) (λ _. first q t)
    first (bind p q) t = first p t || behind (without_token p) (λ a. first (q a) t)
    first (act f p) t = first p t
    first (alt class p q) t = first p t || first q t
    first (rep class p) t = first p t
    first (iter class part s) t = first (part s) t
    first (nested p) t = first_of p t
    first (unless class p) t = first p t
    first (barred class p) t = first p t

module _ {T P : Type 0} {V : P → Type 0} (grammar : (p : P) → Part T V (V p)) where
  -- the token can begin the production, going so many productions deep (own)
  abbrev pub first_at : ℕ → P → T → Bool
  first_at zero p t = false
  first_at (suc depth) p t = first (first_at depth) (grammar p) t
