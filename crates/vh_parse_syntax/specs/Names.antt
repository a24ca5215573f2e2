-- Names with the select behind them, and rows of targets.
--   name = ID [ "[" expr "]" ] { "." ID [ "[" expr "]" ] }
--   sel  = "[" expr "]" [ "[" esel "]" ] | "[" esel "]"
--   esel = expr | expr ":" expr | expr "+:" expr | expr "-:" expr
--   lv   = name [ sel ] | "{" lv { "," lv } "}"
-- An index behind the last ID is the name's or the select's by what follows it. So a name is read
-- with what could be its select, and who reads it takes the index as it needs it.
use Rattle.std.specs.Prelude.{ℕ, Bool, true, false, ◌||◌, ◌&&◌, List, [], ◌∷◌, ◌++◌, map}
use Rattle.vh_base.specs.declared.place.Place.{Place}
use Rattle.vh_parse_grammar.specs.Part.{done, bind, act, alt, iter, two, after, before}
use Rattle.vh_parse_grammar.specs.Nest.{Piece, Row, fresh, row_item, row_opened, turn_by, goes_by, row_end}
use Rattle.vh_parse_grammar.specs.Nest as nest
use Rattle.vh_ast.specs.declared.token.Id.{Id}
use Rattle.vh_ast.specs.Expressions.{ExprTree, NameTree, name, start_of, no_step, steps, IndexTree, no_index, index, SelTree, no_sel, index_sel, both_sel, part_sel, PartTree, at, range, up, down}
use Rattle.vh_ast.specs.Statements.{LvPartTree, LvTree}
use Rattle.vh_ast.specs.Statements as S
use Rattle.vh_parse_syntax.specs.declared.lexeme.Lexeme.TheVariants as lexeme
use Rattle.vh_parse_syntax.specs.Tokens.{Token, is, is_name}
use Rattle.vh_parse_syntax.specs.Parts.{G, the, at_the, an_id, nothing}

-- What stands behind the last ID so far: nothing, one index, or a select that nothing goes on with
-- (own).
pub data Last : Type 0 where
  plain : Last
  indexed : Place → ExprTree → Last
  closed : SelTree → Last

-- A name so far: the steps that are whole, the last ID, and what stands behind it (own).
pub record Path : Type 0 where
  pub earlier : List (Id × IndexTree)
  pub id : Id
  pub last : Last

-- Before all steps (own).
abbrev pub path_of : Id → Path
path_of id = record { earlier = []; id = id; last = plain }

-- The path with another ID, the index staying with the one before it (own).
abbrev pub with_step : Path → IndexTree → Id → Path
with_step p i id = record { earlier = p.earlier ++ (p.id, i) ∷ []; id = id; last = plain }

-- The path with a first bracket, and with a second one (own).
abbrev pub last_of : Place → PartTree → Last
last_of place (at e) = indexed place e
last_of place (range left right) = closed (part_sel place (range left right))
last_of place (up base width) = closed (part_sel place (up base width))
last_of place (down base width) = closed (part_sel place (down base width))

abbrev pub with_bracket : Path → Place → PartTree → Path
with_bracket p place part = record p { last = last_of place part }

abbrev pub with_second : Path → Place → ExprTree → Place → PartTree → Path
with_second p place e second part = record p { last = closed (both_sel place e second part) }

-- A name of its steps, the last of them apart (own).
abbrev pub name_by : List (Id × IndexTree) → Id → IndexTree → NameTree
name_by [] id i = name id i no_step
name_by (s ∷ more) id i = name s.0 s.1 (steps (more ++ (id, i) ∷ []))

-- The index that stays with the name where there is no select (own).
abbrev pub index_of : Last → IndexTree
index_of plain = no_index
index_of (indexed place e) = index e
index_of (closed s) = no_index

-- The select where there is one (own).
abbrev pub sel_of : Last → SelTree
sel_of plain = no_sel
sel_of (indexed place e) = index_sel place e
sel_of (closed s) = s

-- A path as a name alone, and as a name with a select (own).
abbrev pub whole_name : Path → NameTree
whole_name p = name_by p.earlier p.id (index_of p.last)

abbrev pub name_before : Path → NameTree
name_before p = name_by p.earlier p.id no_index

-- Nothing goes on with it but what needs a select (own).
abbrev pub is_closed : Last → Bool
is_closed plain = false
is_closed (indexed place e) = false
is_closed (closed s) = true

-- A path as a target: as a name with a select (own).
abbrev pub Target : Type 0
Target = NameTree × SelTree

abbrev pub target_of : Path → Target
target_of p = (name_before p, sel_of p.last)

-- The tokens with which a path goes on, by whether it may have a select (own).
abbrev pub path_goes : Bool → Last → Token → Bool
path_goes sel plain t = is lexeme.Dot t || is lexeme.LeftBracket t
path_goes sel (indexed place e) t = is lexeme.Dot t || (sel && is lexeme.LeftBracket t)
path_goes sel (closed s) t = false

-- What stands in a row of targets (own).
abbrev pub lv_part : Piece Target → LvPartTree
lv_part nest.opened = S.opened
lv_part (nest.item t) = S.target t.0 t.1
lv_part nest.closed = S.closed

abbrev pub lv_of : Place → List (Piece Target) → LvTree
lv_of place pieces = record { place = place; parts = map lv_part pieces }

-- A single target (own).
abbrev pub single : Path → LvTree
single p = lv_of (start_of (name_before p)) (nest.item (target_of p) ∷ [])

-- The tokens with which a row of targets goes on (own).
abbrev pub row_goes : Bool → ℕ → Token → Bool
row_goes wants depth =
    goes_by (is lexeme.LeftBrace) (is lexeme.Comma) (is lexeme.RightBrace) is_name wants depth

-- `index_at` is the expression in a bracket: inside another expression it is a level deeper.
module _ (index_at : G ExprTree) where
  -- What follows the first expression of an esel (own).
  unfoldable pub esel_end : ExprTree → G PartTree
  esel_end e =
      alt (is lexeme.Colon) (act (range e) (after (the lexeme.Colon) index_at))
      (alt (is lexeme.PlusColon) (act (up e) (after (the lexeme.PlusColon) index_at))
      (alt (is lexeme.MinusColon) (act (down e) (after (the lexeme.MinusColon) index_at))
      (done (at e))))

  -- esel = expr | expr ":" expr | expr "+:" expr | expr "-:" expr (IEEE 1364-2005, 5.2.1)
  unfoldable pub esel : G PartTree
  esel = bind index_at esel_end

  -- "." ID (IEEE 1364-2005, 12.5)
  unfoldable pub dotted : IndexTree → Path → G Path
  dotted i p = act (with_step p i) (after (the lexeme.Dot) an_id)

  -- "[" expr "]", of a name without a select (IEEE 1364-2005, 12.5)
  unfoldable pub bracketed : Path → G Path
  bracketed p =
      two (λ place e. with_bracket p place (at e)) (at_the lexeme.LeftBracket)
      (before index_at (the lexeme.RightBracket))

  -- "[" esel "]", the first bracket where a select may stand (IEEE 1364-2005, 5.2)
  unfoldable pub selected : Path → G Path
  selected p = two (with_bracket p) (at_the lexeme.LeftBracket) (before esel (the lexeme.RightBracket))

  -- "[" esel "]", the second bracket of a select (IEEE 1364-2005, 5.2.2)
  unfoldable pub reselected : Path → Place → ExprTree → G Path
  reselected p place e =
      two (with_second p place e) (at_the lexeme.LeftBracket) (before esel (the lexeme.RightBracket))

  -- What comes next in a path, by whether it may have a select and by what stands behind the last
  -- ID (own).
  unfoldable pub path_turn : Bool → Last → Path → G Path
  path_turn true plain p = alt (is lexeme.Dot) (dotted no_index p) (selected p)
  path_turn false plain p = alt (is lexeme.Dot) (dotted no_index p) (bracketed p)
  path_turn true (indexed place e) p =
      alt (is lexeme.Dot) (dotted (index e) p) (reselected p place e)
  path_turn false (indexed place e) p = dotted (index e) p
  path_turn sel (closed s) p = nothing

  -- The rest of a path (own).
  unfoldable pub path_rest : Bool → Path → G Path
  path_rest sel p = iter (λ u t. path_goes sel u.last t) (λ u. path_turn sel u.last u) p

  -- name [ sel ], or name alone (IEEE 1364-2005, A.8.4 and 12.5)
  unfoldable pub path : Bool → G Path
  path sel = bind (act path_of an_id) (path_rest sel)

  -- What comes next in a row of targets (own).
  unfoldable pub row_turn : Bool → ℕ → Row Target → G (Row Target)
  row_turn wants depth r =
      turn_by (is lexeme.LeftBrace) (is lexeme.Comma) (is lexeme.RightBrace) (act target_of (path true))
      wants depth r

  -- The rest of a row of targets behind its first brace (own).
  unfoldable pub braced_rest : G (List (Piece Target))
  braced_rest =
      bind (iter (λ u t. row_goes u.wants u.depth t) (λ u. row_turn u.wants u.depth u)
      (row_opened fresh))
      (λ u. row_end u.wants u.depth u)

  -- "{" lv { "," lv } "}", of any depth and on one level (IEEE 1364-2005, A.8.5)
  unfoldable pub braced : G LvTree
  braced = bind (at_the lexeme.LeftBrace) (λ place. act (lv_of place) braced_rest)

  -- lv = name [ sel ] | "{" lv { "," lv } "}" (IEEE 1364-2005, A.8.5)
  unfoldable pub lv : G LvTree
  lv = alt (is lexeme.LeftBrace) braced (act single (path true))
