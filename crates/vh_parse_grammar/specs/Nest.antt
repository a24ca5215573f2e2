-- Lists in brackets, of any depth, that take no level: an item, or an opening bracket, such lists with
-- separators between them, and a closing one. They are read flat, as what stands in a row.
use Rattle.std.specs.Prelude.{ℕ, zero, suc, Bool, true, false, ◌||◌, List, [], ◌∷◌, ◌++◌, None}
use Rattle.vh_parse_grammar.specs.Part.{Part, done, tok, act, alt, only}

-- What stands in a row (own).
pub data Piece (A : Type 0) : Type 0 where
  opened : Piece A
  item : A → Piece A
  closed : Piece A

-- How far such a list has come (own).
pub record Row (A : Type 0) : Type 0 where
  -- how many brackets are open
  pub depth : ℕ
  -- an item or an opening bracket has to come
  pub wants : Bool
  pub pieces : List (Piece A)

module _ {A : Type 0} where
  -- before all (own)
  abbrev pub fresh : Row A
  fresh = record { depth = 0; wants = true; pieces = [] }

  -- behind an opening bracket (own)
  abbrev pub row_opened : Row A → Row A
  row_opened r = record { depth = suc r.depth; wants = true; pieces = r.pieces ++ opened ∷ [] }

  -- behind an item (own)
  abbrev pub row_item : Row A → A → Row A
  row_item r a = record { depth = r.depth; wants = false; pieces = r.pieces ++ item a ∷ [] }

  -- behind a separator (own)
  abbrev pub row_next : Row A → Row A
  row_next r = record { depth = r.depth; wants = true; pieces = r.pieces }

  -- behind a closing bracket, with so many still open (own)
  abbrev pub row_closed : ℕ → Row A → Row A
  row_closed depth r = record { depth = depth; wants = false; pieces = r.pieces ++ closed ∷ [] }

-- The tokens with which such a list goes on, `begins` being those of an item: where nothing is wanted and no
-- bracket is open, it is whole (own).
abbrev pub goes_by : {T : Type 0} → (T → Bool) → (T → Bool) → (T → Bool) → (T → Bool) → Bool → ℕ → T → Bool
goes_by opens separates closes begins true depth t = opens t || begins t
goes_by opens separates closes begins false zero t = false
goes_by opens separates closes begins false (suc depth) t = separates t || closes t

module _ {T P : Type 0} {V : P → Type 0} {A : Type 0} where
  -- what comes next, by whether something is wanted and how many brackets are open (own)
  abbrev pub turn_by : (T → Bool) → (T → Bool) → (T → Bool) → Part T V A → Bool → ℕ → Row A → Part T V (Row A)
  turn_by opens separates closes part true depth r = alt opens (act (λ _. row_opened r) (only opens)) (act (row_item r) part)
  turn_by opens separates closes part false zero r = tok (λ _. None)
  turn_by opens separates closes part false (suc depth) r = alt separates (act (λ _. row_next r) (only separates)) (act (λ _. row_closed depth r) (only closes))

  -- where something is still to come the next token is refused (own)
  abbrev pub row_end : Bool → ℕ → Row A → Part T V (List (Piece A))
  row_end true depth r = tok (λ _. None)
  row_end false zero r = done r.pieces
  row_end false (suc depth) r = tok (λ _. None)
