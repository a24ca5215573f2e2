-- What a parser's function ensures: one equation with the reading of its part.
use Rattle.std.specs.Prelude.{◌≡◌, ℕ, map, [], Result, Ok, Err}
use Rattle.vh_parse_grammar.specs.declared.stop.Stop.{Stop}
use Rattle.vh_parse_grammar.specs.declared.stop.Stop.TheVariants.{Lost, Deep, LeftOut, Memory}
use Rattle.vh_parse_grammar.specs.declared.cursor.Cursor.{Cursor}
use Rattle.vh_parse_grammar.specs.Reading.{Out, got, stop, lost, deep, left_out}

-- Where a parser stops the reading stops too, for the same reason and at the same place; that no memory
-- was left says nothing of it (own)
abbrev pub Stops : {T A : Type 0} → Out T A → Stop → Type 0
Stops o (Lost left) = o ≡ stop lost left
Stops o (Deep left) = o ≡ stop deep left
Stops o (LeftOut left) = o ≡ stop left_out left
Stops o Memory = Unit {0}

-- The reading gives what the function returns, seen as a tree, and leaves the tokens that it leaves, seen
-- as the table sees them, and the omission (own)
abbrev pub Says : {T S C A X : Type 0} → (S → T) → (X → A) → Out T (A × ℕ) → Result (X × Cursor S C) Stop → Type 0
Says seen view o (Ok found) = o ≡ got (view found.0, (found.1).omission) (map seen (found.1).tokens.now)
Says seen view o (Err fault) = Stops o fault

-- The same of a function that returns the cursor alone, `a` being the tree (own)
abbrev pub Passes : {T S C A : Type 0} → (S → T) → A → Out T (A × ℕ) → Result (Cursor S C) Stop → Type 0
Passes seen a o (Ok at) = o ≡ got (a, at.omission) (map seen at.tokens.now)
Passes seen a o (Err fault) = Stops o fault

-- The same of a function that gives the answer: a tree, and no token left (own)
abbrev pub Accepts : {T A X : Type 0} → (X → A) → Out T A → Result X Stop → Type 0
Accepts view o (Ok found) = o ≡ got (view found) []
Accepts view o (Err fault) = Stops o fault
