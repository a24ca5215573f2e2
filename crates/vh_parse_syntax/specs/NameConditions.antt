-- The conditions of names and targets, for each way in which an expression stands in a bracket.
use Rattle.std.proofs.Common.{◌≡◌, ℕ, zero, suc, Bool, true, false, None, List, refl, ap}
use Rattle.vh_base.specs.declared.place.Place.{Place}
use Rattle.vh_parse_grammar.specs.Nest.{Piece, Row, row_end}
use Rattle.vh_parse_grammar.specs.Conditions.{eats, Advances}
use Rattle.vh_parse_grammar.specs.Firsts.{decided, without_token, first}
use Rattle.vh_parse_grammar.specs.Choices.{Heeds}
use Rattle.vh_ast.specs.Expressions.{ExprTree}
use Rattle.vh_parse_syntax.specs.declared.lexeme.Lexeme.TheVariants as lexeme
use Rattle.vh_parse_syntax.specs.Tokens.{Token, Terminal, opening, fixed, name, system, text, number}
use Rattle.vh_parse_syntax.specs.Parts.{G, the}
use Rattle.vh_parse_syntax.specs.Names.{Last, plain, indexed, closed, Path, Target, path_goes, row_goes, esel_end, esel, dotted, bracketed, selected, reselected, path_turn, path_rest, path, row_turn, braced_rest, braced, lv}
use Rattle.vh_parse_syntax.specs.Grammar.{begins}
use Rattle.vh_parse_syntax.specs.Conditions.{at, skip}

-- The end of a row of targets.
abbrev the_end : Bool → ℕ → Row Target → G (List (Piece Target))
the_end wants depth r = row_end wants depth r

-- Each turn of a repetition takes a token.
module _ (x : G ExprTree) (h : Advances x) where
  esel_end_advances : (e : ExprTree) → Advances (esel_end x e)
  unfolding esel_end
  esel_end_advances e = ((tt, h), ((tt, h), ((tt, h), tt)))

  esel_advances : Advances (esel x)
  unfolding esel
  esel_advances = (h, esel_end_advances)

  pub path_turn_advances : (sel : Bool) (last : Last) (p : Path) → (eats (path_turn x sel last p) ≡ true) × Advances (path_turn x sel last p)
  unfolding path_turn dotted bracketed selected reselected
  path_turn_advances true plain p = (refl, ((tt, tt), (tt, (esel_advances, tt))))
  path_turn_advances false plain p = (refl, ((tt, tt), (tt, (h, tt))))
  path_turn_advances true (indexed place e) p = (refl, ((tt, tt), (tt, (esel_advances, tt))))
  path_turn_advances false (indexed place e) p = (refl, (tt, tt))
  path_turn_advances true (closed s) p = (refl, tt)
  path_turn_advances false (closed s) p = (refl, tt)

  pub path_advances : (sel : Bool) → Advances (path x sel)
  unfolding path path_rest
  path_advances sel = (tt, λ p u. path_turn_advances sel u.last u)

  pub row_turn_advances : (wants : Bool) (depth : ℕ) (r : Row Target) → (eats (row_turn x wants depth r) ≡ true) × Advances (row_turn x wants depth r)
  unfolding row_turn path
  row_turn_advances true depth r = (refl, (tt, path_advances true))
  row_turn_advances false zero r = (refl, tt)
  row_turn_advances false (suc depth) r = (refl, (tt, tt))

  row_end_advances : (wants : Bool) (depth : ℕ) (r : Row Target) → Advances (the_end wants depth r)
  row_end_advances true depth r = tt
  row_end_advances false zero r = tt
  row_end_advances false (suc depth) r = tt

  pub braced_advances : Advances (braced x)
  unfolding braced braced_rest
  braced_advances = (tt, λ place. ((λ u. row_turn_advances u.wants u.depth u), λ u. row_end_advances u.wants u.depth u))

  pub lv_advances : Advances (lv x)
  unfolding lv
  lv_advances = (braced_advances, path_advances true)

-- Each choice is made right at each token.
module _ (x : G ExprTree) (n : without_token x ≡ None) where
  esel_end_heeds : (e : ExprTree) (kind : Terminal) (place : Place) → Heeds begins x (at kind place) → Heeds begins (esel_end x e) (at kind place)
  unfolding esel_end
  esel_end_heeds e (opening s) place h = (refl, refl, (refl, tt, h), (refl, refl, (refl, tt, h), (refl, refl, (refl, tt, h), tt)))
  esel_end_heeds e (fixed lexeme.Colon) place h = (refl, refl, (refl, tt, h), (refl, refl, (refl, tt, h), (refl, refl, (refl, tt, h), tt)))
  esel_end_heeds e (fixed s) place h = (refl, refl, (refl, tt, h), (refl, refl, (refl, tt, h), (refl, refl, (refl, tt, h), tt)))
  esel_end_heeds e (name b) place h = (refl, refl, (refl, tt, h), (refl, refl, (refl, tt, h), (refl, refl, (refl, tt, h), tt)))
  esel_end_heeds e (system b) place h = (refl, refl, (refl, tt, h), (refl, refl, (refl, tt, h), (refl, refl, (refl, tt, h), tt)))
  esel_end_heeds e (text b) place h = (refl, refl, (refl, tt, h), (refl, refl, (refl, tt, h), (refl, refl, (refl, tt, h), tt)))
  esel_end_heeds e (number v z) place h = (refl, refl, (refl, tt, h), (refl, refl, (refl, tt, h), (refl, refl, (refl, tt, h), tt)))

  esel_heeds : (t : Token) → Heeds begins x t → Heeds begins (esel x) t
  unfolding esel
  esel_heeds t h = (skip (without_token x) (λ e. first begins (esel_end x e) t) (first begins x t) n, h, λ e. esel_end_heeds e t.kind t.place h)

  -- A bracket, of a name alone and of a select.
  none_of_esel : without_token (esel x) ≡ None
  unfolding esel
  none_of_esel = ap (λ o. decided o (λ e. without_token (esel_end x e))) n

  bracketed_heeds : (p : Path) (t : Token) → Heeds begins x t → Heeds begins (bracketed x p) t
  unfolding bracketed
  bracketed_heeds p t h = (refl, tt, (skip (without_token x) (λ _. first begins (the lexeme.RightBracket) t) (first begins x t) n, h, tt))

  selected_heeds : (p : Path) (t : Token) → Heeds begins x t → Heeds begins (selected x p) t
  unfolding selected
  selected_heeds p t h = (refl, tt, (skip (without_token (esel x)) (λ _. first begins (the lexeme.RightBracket) t) (first begins (esel x) t) none_of_esel, esel_heeds t h, tt))

  reselected_heeds : (p : Path) (place : Place) (e : ExprTree) (t : Token) → Heeds begins x t → Heeds begins (reselected x p place e) t
  unfolding reselected
  reselected_heeds p place e t h = (refl, tt, (skip (without_token (esel x)) (λ _. first begins (the lexeme.RightBracket) t) (first begins (esel x) t) none_of_esel, esel_heeds t h, tt))

  pub path_turn_heeds : (sel : Bool) (last : Last) (p : Path) (kind : Terminal) (place : Place) → Heeds begins x (at kind place) →
      (path_goes sel last (at kind place) ≡ first begins (path_turn x sel last p) (at kind place)) × Heeds begins (path_turn x sel last p) (at kind place)
  unfolding path_turn dotted bracketed selected reselected
  path_turn_heeds true plain p (opening s) place h = (refl, (refl, refl, (refl, tt, tt), selected_heeds p (at (opening s) place) h))
  path_turn_heeds true plain p (fixed lexeme.Dot) place h = (refl, (refl, refl, (refl, tt, tt), selected_heeds p (at (fixed lexeme.Dot) place) h))
  path_turn_heeds true plain p (fixed s) place h = (refl, (refl, refl, (refl, tt, tt), selected_heeds p (at (fixed s) place) h))
  path_turn_heeds true plain p (name b) place h = (refl, (refl, refl, (refl, tt, tt), selected_heeds p (at (name b) place) h))
  path_turn_heeds true plain p (system b) place h = (refl, (refl, refl, (refl, tt, tt), selected_heeds p (at (system b) place) h))
  path_turn_heeds true plain p (text b) place h = (refl, (refl, refl, (refl, tt, tt), selected_heeds p (at (text b) place) h))
  path_turn_heeds true plain p (number v z) place h = (refl, (refl, refl, (refl, tt, tt), selected_heeds p (at (number v z) place) h))
  path_turn_heeds false plain p (opening s) place h = (refl, (refl, refl, (refl, tt, tt), bracketed_heeds p (at (opening s) place) h))
  path_turn_heeds false plain p (fixed lexeme.Dot) place h = (refl, (refl, refl, (refl, tt, tt), bracketed_heeds p (at (fixed lexeme.Dot) place) h))
  path_turn_heeds false plain p (fixed s) place h = (refl, (refl, refl, (refl, tt, tt), bracketed_heeds p (at (fixed s) place) h))
  path_turn_heeds false plain p (name b) place h = (refl, (refl, refl, (refl, tt, tt), bracketed_heeds p (at (name b) place) h))
  path_turn_heeds false plain p (system b) place h = (refl, (refl, refl, (refl, tt, tt), bracketed_heeds p (at (system b) place) h))
  path_turn_heeds false plain p (text b) place h = (refl, (refl, refl, (refl, tt, tt), bracketed_heeds p (at (text b) place) h))
  path_turn_heeds false plain p (number v z) place h = (refl, (refl, refl, (refl, tt, tt), bracketed_heeds p (at (number v z) place) h))
  path_turn_heeds true (indexed w e) p (opening s) place h = (refl, (refl, refl, (refl, tt, tt), reselected_heeds p w e (at (opening s) place) h))
  path_turn_heeds true (indexed w e) p (fixed lexeme.Dot) place h = (refl, (refl, refl, (refl, tt, tt), reselected_heeds p w e (at (fixed lexeme.Dot) place) h))
  path_turn_heeds true (indexed w e) p (fixed s) place h = (refl, (refl, refl, (refl, tt, tt), reselected_heeds p w e (at (fixed s) place) h))
  path_turn_heeds true (indexed w e) p (name b) place h = (refl, (refl, refl, (refl, tt, tt), reselected_heeds p w e (at (name b) place) h))
  path_turn_heeds true (indexed w e) p (system b) place h = (refl, (refl, refl, (refl, tt, tt), reselected_heeds p w e (at (system b) place) h))
  path_turn_heeds true (indexed w e) p (text b) place h = (refl, (refl, refl, (refl, tt, tt), reselected_heeds p w e (at (text b) place) h))
  path_turn_heeds true (indexed w e) p (number v z) place h = (refl, (refl, refl, (refl, tt, tt), reselected_heeds p w e (at (number v z) place) h))
  path_turn_heeds false (indexed w e) p (opening s) place h = (refl, (refl, tt, tt))
  path_turn_heeds false (indexed w e) p (fixed lexeme.Dot) place h = (refl, (refl, tt, tt))
  path_turn_heeds false (indexed w e) p (fixed s) place h = (refl, (refl, tt, tt))
  path_turn_heeds false (indexed w e) p (name b) place h = (refl, (refl, tt, tt))
  path_turn_heeds false (indexed w e) p (system b) place h = (refl, (refl, tt, tt))
  path_turn_heeds false (indexed w e) p (text b) place h = (refl, (refl, tt, tt))
  path_turn_heeds false (indexed w e) p (number v z) place h = (refl, (refl, tt, tt))
  path_turn_heeds true (closed s) p kind place h = (refl, tt)
  path_turn_heeds false (closed s) p kind place h = (refl, tt)

  pub path_heeds : (sel : Bool) (t : Token) → Heeds begins x t → Heeds begins (path x sel) t
  unfolding path path_rest
  path_heeds sel t h = (refl, tt, λ p u. path_turn_heeds sel u.last u t.kind t.place h)

  -- A row of targets, by what has to come.
  row_turn_heeds : (wants : Bool) (depth : ℕ) (r : Row Target) (kind : Terminal) (place : Place) → Heeds begins x (at kind place) →
      (row_goes wants depth (at kind place) ≡ first begins (row_turn x wants depth r) (at kind place)) × Heeds begins (row_turn x wants depth r) (at kind place)
  unfolding row_turn path
  row_turn_heeds true depth r (opening s) place h = (refl, (refl, refl, tt, path_heeds true (at (opening s) place) h))
  row_turn_heeds true depth r (fixed lexeme.LeftBrace) place h = (refl, (refl, refl, tt, path_heeds true (at (fixed lexeme.LeftBrace) place) h))
  row_turn_heeds true depth r (fixed s) place h = (refl, (refl, refl, tt, path_heeds true (at (fixed s) place) h))
  row_turn_heeds true depth r (name b) place h = (refl, (refl, refl, tt, path_heeds true (at (name b) place) h))
  row_turn_heeds true depth r (system b) place h = (refl, (refl, refl, tt, path_heeds true (at (system b) place) h))
  row_turn_heeds true depth r (text b) place h = (refl, (refl, refl, tt, path_heeds true (at (text b) place) h))
  row_turn_heeds true depth r (number v z) place h = (refl, (refl, refl, tt, path_heeds true (at (number v z) place) h))
  row_turn_heeds false zero r kind place h = (refl, tt)
  row_turn_heeds false (suc depth) r (opening s) place h = (refl, (refl, refl, tt, tt))
  row_turn_heeds false (suc depth) r (fixed lexeme.Comma) place h = (refl, (refl, refl, tt, tt))
  row_turn_heeds false (suc depth) r (fixed s) place h = (refl, (refl, refl, tt, tt))
  row_turn_heeds false (suc depth) r (name b) place h = (refl, (refl, refl, tt, tt))
  row_turn_heeds false (suc depth) r (system b) place h = (refl, (refl, refl, tt, tt))
  row_turn_heeds false (suc depth) r (text b) place h = (refl, (refl, refl, tt, tt))
  row_turn_heeds false (suc depth) r (number v z) place h = (refl, (refl, refl, tt, tt))

  row_end_heeds : (wants : Bool) (depth : ℕ) (r : Row Target) (t : Token) → Heeds begins (the_end wants depth r) t
  row_end_heeds true depth r t = tt
  row_end_heeds false zero r t = tt
  row_end_heeds false (suc depth) r t = tt

  pub braced_heeds : (t : Token) → Heeds begins x t → Heeds begins (braced x) t
  unfolding braced braced_rest
  braced_heeds t h = (refl, tt, λ place. (refl, (λ u. row_turn_heeds u.wants u.depth u t.kind t.place h), λ u. row_end_heeds u.wants u.depth u t))

  pub lv_heeds : (kind : Terminal) (place : Place) → Heeds begins x (at kind place) → Heeds begins (lv x) (at kind place)
  unfolding lv braced path
  lv_heeds (opening s) place h = (refl, refl, braced_heeds (at (opening s) place) h, path_heeds true (at (opening s) place) h)
  lv_heeds (fixed lexeme.LeftBrace) place h = (refl, refl, braced_heeds (at (fixed lexeme.LeftBrace) place) h, path_heeds true (at (fixed lexeme.LeftBrace) place) h)
  lv_heeds (fixed s) place h = (refl, refl, braced_heeds (at (fixed s) place) h, path_heeds true (at (fixed s) place) h)
  lv_heeds (name b) place h = (refl, refl, braced_heeds (at (name b) place) h, path_heeds true (at (name b) place) h)
  lv_heeds (system b) place h = (refl, refl, braced_heeds (at (system b) place) h, path_heeds true (at (system b) place) h)
  lv_heeds (text b) place h = (refl, refl, braced_heeds (at (text b) place) h, path_heeds true (at (text b) place) h)
  lv_heeds (number v z) place h = (refl, refl, braced_heeds (at (number v z) place) h, path_heeds true (at (number v z) place) h)
