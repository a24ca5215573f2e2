-- A grammar as a table: what its tokens, its productions and their trees are, a part for each production,
-- and one for a whole source.
use Rattle.std.specs.Prelude.{◌≡◌, ℕ, suc, Bool, true, List, [], ◌∷◌, length, ◌⊎◌}
use Rattle.vh_parse_grammar.specs.Part.{Part}
use Rattle.vh_parse_grammar.specs.Reading.{Fault, lost, Out}
use Rattle.vh_parse_grammar.specs.Omissions.{noting_at, noted, answered, answered_whole}
use Rattle.vh_parse_grammar.specs.Sentences.{ShowsHere, Reads, Begins, Meets, Shows, ReadsAt, BeginsAt, MeetsAt, ShowsAt}
use Rattle.vh_parse_grammar.specs.Firsts.{first_at}
use Rattle.vh_parse_grammar.specs.Language.{Spells, Opens, SpellsAt, OpensAt}
use Rattle.vh_parse_grammar.specs.Conditions.{eats, Advances}
use Rattle.vh_parse_grammar.specs.Choices.{Heeds}

-- A table of productions that meets the conditions under which reading it means what it should (own).
pub record Table : Type 1 where
  -- the tokens
  pub Token : Type 0
  -- the words that stand in no production: each is left out where it is refused
  pub left_out : Token → Bool
  -- the productions' names
  pub Name : Type 0
  -- the trees of each production
  pub tree_of : Name → Type 0
  -- each production
  pub grammar : (p : Name) → Part Token tree_of (tree_of p)
  -- the trees of a source
  pub Source : Type 0
  -- a source, which may be empty
  pub start : Part Token tree_of Source
  -- each production takes a token
  pub eating : (p : Name) → eats (grammar p) ≡ true
  -- each turn of a repetition takes a token
  pub advancing : (p : Name) → Advances (grammar p)
  pub start_advancing : Advances start
  -- how many productions deep the first tokens of each are found, and that no more are found deeper
  pub reach : ℕ
  pub settled : (p : Name) (t : Token) → first_at grammar (suc reach) p t ≡ first_at grammar reach p t
  -- each choice is made right at each token
  pub heeding : (p : Name) (t : Token) → Heeds (first_at grammar reach) (grammar p) t
  pub start_heeding : (t : Token) → Heeds (first_at grammar reach) start t

-- What tokens can be read as: a production, which reads a front of them, or a whole source, which reads
-- all (own).
pub record Subject : Type 1 where
  -- the tokens
  pub Token : Type 0
  -- the trees
  pub Tree : Type 0
  -- what a parser answers, with so many levels: a tree with the tokens behind it, or a fault
  pub answer : ℕ → List Token → Out Token Tree
  -- the tokens up to those behind them are spelled so, with this tree
  pub Is : ℕ → Tree → List Token → List Token → Type 0
  -- the tokens begin it
  pub Starts : ℕ → List Token → Type 0
  -- the tokens meet this fault of the pure grammar, with so many tokens left at its place
  pub Refuses : ℕ → Fault → List Token → ℕ → Type 0
  -- the tokens show that a construct is left out, with so many left at its place and at the token that
  -- shows it
  pub LeavesOut : ℕ → List Token → ℕ → ℕ → Type 0

-- A production, with so many levels left (own)
abbrev pub production : (t : Table) → t.Name → Subject
production t p = record {
  Token = t.Token;
  Tree = t.tree_of p;
  answer = λ levels ts. answered (noting_at t.left_out t.grammar levels p ts 0);
  Is = λ levels. ReadsAt t.grammar levels p;
  Starts = λ levels. BeginsAt t.grammar levels p;
  Refuses = λ levels. MeetsAt t.grammar levels p;
  LeavesOut = λ levels. ShowsAt t.grammar t.left_out levels p;
}

-- The tokens are a whole source with this tree (own)
abbrev pub IsSource : (t : Table) → ℕ → t.Source → List t.Token → Type 0
IsSource t levels a ts = Reads (ReadsAt t.grammar levels) t.start a ts []

-- The tokens begin a source (own)
abbrev pub BeginsSource : (t : Table) → ℕ → List t.Token → Type 0
BeginsSource t levels ts = Begins (ReadsAt t.grammar levels) (BeginsAt t.grammar levels) t.start ts

-- What is answered where the tokens are read as a whole source, with so many levels for what is nested in
-- it (own)
abbrev pub source : (t : Table) → ℕ → List t.Token → Out t.Token t.Source
source t levels ts = answered_whole t.left_out (noted t.left_out t.grammar levels t.start ts 0)

-- Tokens are left behind a source, the first of which could not stand there (own)
abbrev pub IsLeft : (t : Table) → ℕ → List t.Token → List t.Token → Type 0
IsLeft t levels ts rest = (a : t.Source) × Reads (ReadsAt t.grammar levels) t.start a ts rest

-- A whole source, with so many levels for what is nested in it (own)
abbrev pub whole_source : Table → Subject
whole_source t = record {
  Token = t.Token;
  Tree = t.Source;
  answer = source t;
  Is = λ levels a ts rest. IsSource t levels a ts × (rest ≡ []);
  Starts = BeginsSource t;
  Refuses = λ levels fault ts left.
      Meets (ReadsAt t.grammar levels) (MeetsAt t.grammar levels) t.start fault ts left
      ⊎ ((next : t.Token) × (more : List t.Token) × IsLeft t levels ts (next ∷ more) × (fault ≡ lost) × (left ≡ suc (length more)));
  LeavesOut = λ levels ts place shown.
      Shows (ReadsAt t.grammar levels) t.left_out (ShowsAt t.grammar t.left_out levels) t.start ts place shown
      ⊎ ((rest : List t.Token) × IsLeft t levels ts rest × ShowsHere t.left_out rest place shown);
}

-- The tokens are a whole source with this tree, with no word of classes (own)
abbrev pub SpellsSource : (t : Table) → ℕ → t.Source → List t.Token → Type 0
SpellsSource t levels a ts = Spells (first_at t.grammar t.reach) (SpellsAt (first_at t.grammar t.reach) t.grammar levels) t.start a ts []

-- The tokens begin a source, with no word of classes (own)
abbrev pub OpensSource : (t : Table) → ℕ → List t.Token → Type 0
OpensSource t levels ts =
    Opens (first_at t.grammar t.reach) (SpellsAt (first_at t.grammar t.reach) t.grammar levels) (OpensAt (first_at t.grammar t.reach) t.grammar levels) t.start ts
