-- The laws of reading, each for a table that meets the conditions, for each number of levels and each list
-- of tokens: of each production, which reads a front of its tokens, and of a whole source.
use Rattle.std.specs.Prelude.{◌≡◌, ℕ, suc, ◌+◌, ◌<◌, ◌≤◌, List, [], ◌∷◌, ◌++◌, length, ◌⊎◌, ◌↔◌}
use Rattle.vh_parse_grammar.specs.Reading.{Fault, lost, deep, left_out, got, stop}
use Rattle.vh_parse_grammar.specs.Choices.{ChoosesByFirsts}
use Rattle.vh_parse_grammar.specs.Table.{Table, Subject, production, whole_source, IsSource, BeginsSource, SpellsSource, OpensSource}

-- No token shows that a construct is left out before one is refused (own)
abbrev pub NoneLeftOut : (s : Subject) → ℕ → List s.Token → Type 0
NoneLeftOut s levels ts = (place shown : ℕ) → s.LeavesOut levels ts place shown → ⊥

-- Of the constructs that are left out the one with the first place has so many tokens left there (own)
pub record IsFirstLeftOut (s : Subject) (levels : ℕ) (ts : List s.Token) (place : ℕ) : Type 0 where
  -- how many are left at the token that shows it
  pub shown : ℕ
  pub is : s.LeavesOut levels ts place shown
  -- no other one has an earlier place
  pub first : (other by : ℕ) → s.LeavesOut levels ts other by → other ≤ place

-- The answer is what the tokens are, both ways (own).
pub record Answers (s : Subject) : Type 0 where
  -- a tree exactly where they are spelled so, and nothing is left out
  pub tree : (levels : ℕ) (a : s.Tree) (ts rest : List s.Token) → (s.answer levels ts ≡ got a rest) ↔ (s.Is levels a ts rest × NoneLeftOut s levels ts)
  -- a token that could not stand there exactly where they meet one, and nothing is left out
  pub no_token : (levels : ℕ) (ts : List s.Token) (left : ℕ) → (s.answer levels ts ≡ stop lost left) ↔ (s.Refuses levels lost ts left × NoneLeftOut s levels ts)
  -- too deep exactly where they come past the last level, and nothing is left out
  pub too_deep : (levels : ℕ) (ts : List s.Token) (left : ℕ) → (s.answer levels ts ≡ stop deep left) ↔ (s.Refuses levels deep ts left × NoneLeftOut s levels ts)
  -- left out exactly where a construct is, and then it is the one with the first place
  pub is_left_out : (levels : ℕ) (ts : List s.Token) (place : ℕ) → (s.answer levels ts ≡ stop left_out place) ↔ IsFirstLeftOut s levels ts place
  -- so tokens are spelled with one tree at most, and leave one rest
  pub one_tree : (levels : ℕ) (a b : s.Tree) (ts rest end : List s.Token) → s.Is levels a ts rest → s.Is levels b ts end → (a ≡ b) × (rest ≡ end)

-- The tokens before the one with so many left (own)
pub record Front (s : Subject) (ts : List s.Token) (left : ℕ) : Type 0 where
  pub front : List s.Token
  pub rest : List s.Token
  pub split : ts ≡ front ++ rest
  pub count : length rest ≡ left

-- Where the pure grammar refuses tokens (own).
pub record RefusesFirst (s : Subject) : Type 0 where
  -- the tokens before the place of a fault begin it
  pub front_begins : (levels : ℕ) (ts : List s.Token) (fault : Fault) (left : ℕ) → s.Refuses levels fault ts left → (f : Front s ts left) × s.Starts levels f.front
  -- with a token that could not stand there they don't, on however many levels
  pub not_next : (levels any : ℕ) (front : List s.Token) (next : s.Token) (more : List s.Token) → s.Refuses levels lost (front ++ next ∷ more) (suc (length more)) → s.Starts any (front ++ next ∷ []) → ⊥
  -- the first token with which the tokens so far don't begin it is refused, unless they are a whole one
  -- and it is left over
  pub is_refused : (levels : ℕ) (front : List s.Token) (next : s.Token) (more : List s.Token) → s.Starts levels front → (s.Starts levels (front ++ next ∷ []) → ⊥) →
      ((fault : Fault) × s.Refuses levels fault (front ++ next ∷ more) (suc (length more))) ⊎ ((a : s.Tree) × s.Is levels a (front ++ next ∷ more) (next ∷ more))
  -- a token is missing after the last exactly where all begin it and aren't a whole one
  pub too_soon : (levels : ℕ) (ts : List s.Token) → s.Refuses levels lost ts 0 ↔ (s.Starts levels ts × ((a : s.Tree) → s.Is levels a ts [] → ⊥))
  -- a place is that of a token, or the one after the last, where only a missing token can stand
  pub inside : (levels : ℕ) (ts : List s.Token) (fault : Fault) (left : ℕ) → s.Refuses levels fault ts left → (left ≤ length ts) × (left ≡ 0 → fault ≡ lost)
  -- on more levels nothing changes but what was too deep
  pub only_depth : (levels more : ℕ) (ts : List s.Token) → ((left : ℕ) → s.Refuses levels deep ts left → ⊥) → s.answer (more + levels) ts ≡ s.answer levels ts

-- When a construct that is left out counts (own).
pub record CountsFirst (s : Subject) : Type 0 where
  -- no token before the one that shows it is refused, on these levels: they begin it
  pub front_begins : (levels : ℕ) (ts : List s.Token) (place shown : ℕ) → s.LeavesOut levels ts place shown → (f : Front s ts shown) × s.Starts levels f.front
  -- it is shown at its place or behind, by a token
  pub inside : (levels : ℕ) (ts : List s.Token) (place shown : ℕ) → s.LeavesOut levels ts place shown → (0 < shown) × (shown ≤ place) × (place ≤ length ts)
  -- a token that is refused may show it, but none behind one
  pub not_behind : (levels : ℕ) (ts : List s.Token) (place shown : ℕ) (fault : Fault) (left : ℕ) → s.LeavesOut levels ts place shown → s.Refuses levels fault ts left → left ≤ shown
  -- what follows the token that shows it doesn't matter
  pub whatever_follows : (levels : ℕ) (front : List s.Token) (next : s.Token) (more other : List s.Token) (before : ℕ) →
      s.LeavesOut levels (front ++ next ∷ more) (before + length more) (suc (length more)) → s.LeavesOut levels (front ++ next ∷ other) (before + length other) (suc (length other))

-- The laws of a production, or of a whole source (own).
pub record Laws (s : Subject) : Type 0 where
  pub answers : Answers s
  pub refuses : RefusesFirst s
  pub counts : CountsFirst s

-- Of each production (own)
abbrev pub LawsOfProductions : Table → Type 0
LawsOfProductions t = (p : t.Name) → Laws (production t p)

-- Of a whole source (own)
abbrev pub LawsOfSources : Table → Type 0
LawsOfSources t = Laws (whole_source t)

-- The class of each choice of the table is the set of the first tokens of what is chosen (own)
abbrev pub ClassesAreFirsts : Table → Type 0
ClassesAreFirsts t = ((p : t.Name) → ChoosesByFirsts t.grammar (t.grammar p)) × ChoosesByFirsts t.grammar t.start

-- With the classes or without them the same tokens are a source with the same tree (own)
abbrev pub SpellsWithoutClasses : Table → Type 0
SpellsWithoutClasses t = (levels : ℕ) (a : t.Source) (ts : List t.Token) → SpellsSource t levels a ts ↔ IsSource t levels a ts

-- With the classes or without them the same tokens begin a source (own)
abbrev pub BeginsWithoutClasses : Table → Type 0
BeginsWithoutClasses t = (levels : ℕ) (ts : List t.Token) → OpensSource t levels ts ↔ BeginsSource t levels ts
