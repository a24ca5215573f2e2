-- What a table of productions has to meet, as tests that compute on a concrete table.
use Rattle.std.specs.Prelude.{◌≡◌, Bool, true, false, ◌&&◌, ◌||◌}
use Rattle.vh_parse_grammar.specs.Part.{Part, done, tok, seq, bind, act, alt, rep, iter, nested, unless, barred}

module _ {T P : Type 0} {V : P → Type 0} where
  -- the part takes a token wherever it is read, if each production does. Of what follows a `bind` this is
  -- not asked, since it depends on a tree (own)
  abbrev pub eats : {A : Type 0} → Part T V A → Bool
  eats (done a) = false
  eats (tok meaning) = true
  eats (seq p q) = eats p || eats q
  eats (bind p q) = eats p
  eats (act f p) = eats p
  eats (alt class p q) = eats p && eats q
  eats (rep class p) = false
  eats (iter class part s) = false
  eats (nested p) = true
  eats (unless class p) = eats p
  eats (barred class p) = eats p

  -- each turn of each repetition in the part takes a token (own)
  abbrev pub Advances : {A : Type 0} → Part T V A → Type 0
  Advances (done a) = Unit {0}
  Advances (tok meaning) = Unit {0}
  Advances (seq p q) = Advances p × Advances q
  Advances (bind {A} p q) = Advances p × ((a : A) → Advances (q a))
  Advances (act f p) = Advances p
  Advances (alt class p q) = Advances p × Advances q
  Advances (rep class p) = (eats p ≡ true) × Advances p
  Advances (iter {S} class part s) = (u : S) → (eats (part u) ≡ true) × Advances (part u)
  Advances (nested p) = Unit {0}
  Advances (unless class p) = Advances p
  Advances (barred class p) = Advances p
