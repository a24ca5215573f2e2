-- How the address in a word's name is read. (own)
use Rattle.std.specs.Prelude.{◌≢◌, ◌<◌, ◌^◌, ℕ, List, [], ◌∷◌, length, Bool, false, not, ◌&&◌, ◌||◌, ◌==◌}
use Rattle.std.specs.Fmt.{decimal}
use Rattle.vh_objects.specs.Properties.{at_address}

-- Do digits begin with neither a sign nor a zero in front of others?
abbrev pub is_canonical : List ℕ → Bool
is_canonical [] = false
is_canonical (c ∷ cs) = not (c == 43) && (not (c == 48) || length cs == 0)

-- Digits that write no number, and a text that is no word's name.
abbrev pub IsNoNumber : List ℕ → Type 0
IsNoNumber digits = (a : ℕ) → a < 2 ^ 64 → digits ≢ decimal a

abbrev pub IsNoWord : List ℕ → List ℕ → Type 0
IsNoWord name text = (a : ℕ) → a < 2 ^ 64 → text ≢ at_address name a
