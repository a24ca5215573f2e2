-- Small lemmas on the conditions of a table.
use Rattle.std.proofs.Common.{◌≡◌, Bool, false, ◌&&◌, Option, None, ap}
use Rattle.vh_base.specs.declared.place.Place.{Place}
use Rattle.vh_parse_grammar.specs.Firsts.{behind}
use Rattle.vh_parse_syntax.specs.Tokens.{Token, Terminal}

-- A token of its parts.
abbrev pub at : Terminal → Place → Token
at kind place = record { kind = kind; place = place }

-- What follows a part that takes a token is never next to it.
pub skip : {A : Type 0} (o : Option A) (f : A → Bool) (b : Bool) → o ≡ None → (behind o f && b) ≡ false
skip o f b e = ap (λ p. behind p f && b) e
