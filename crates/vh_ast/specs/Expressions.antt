-- Expressions as plain trees (IEEE 1364-2005, 5 and Annex A.8).
use Rattle.std.specs.Prelude.{ℕ, List, [], ◌∷◌}
use Rattle.vh_base.specs.declared.place.Place.{Place}
use Rattle.vh_ast.specs.declared.token.Id.{Id}
use Rattle.vh_lex.specs.declared.token.Number.{Number}
use Rattle.vh_ast.specs.declared.operator.Unary.{Unary}
use Rattle.vh_ast.specs.declared.operator.Binary.{Binary}

mutual
  -- An expression, where its first token stands (IEEE 1364-2005, A.8.3).
  pub data ExprTree : Type 0 where
    expr : Place → ExprFormTree → ExprTree

  -- What an expression is: a primary, or what operators make (IEEE 1364-2005, A.8.3 and A.8.4).
  pub data ExprFormTree : Type 0 where
    number : Number → ExprFormTree
    text : List ℕ → ExprFormTree
    named : NameTree → SelTree → ExprFormTree
    call : NameTree → Exprs → ExprFormTree
    system : Id → Exprs → ExprFormTree
    paren : ExprTree → ExprFormTree
    concat : Exprs → ExprFormTree
    repeat : ExprTree → Exprs → ExprFormTree
    unary : Unary → ExprTree → ExprFormTree
    -- operators of one precedence, which group to the left
    chain : ExprTree → Links → ExprFormTree
    choice : ExprTree → ExprTree → ExprTree → ExprFormTree

  -- Expressions in a row (own).
  pub data Exprs : Type 0 where
    no_expr : Exprs
    one_expr : ExprTree → Exprs → Exprs

  -- Binary operators in a row, each with the operand behind it (own).
  pub data Links : Type 0 where
    no_link : Links
    one_link : Binary → ExprTree → Links → Links

  -- A name (IEEE 1364-2005, 12.5).
  pub data NameTree : Type 0 where
    name : Id → IndexTree → Steps → NameTree

  -- The parts of a name behind its first one (IEEE 1364-2005, 12.5).
  pub data Steps : Type 0 where
    no_step : Steps
    one_step : Id → IndexTree → Steps → Steps

  -- The index of a generate block, if there is one (IEEE 1364-2005, 12.4).
  pub data IndexTree : Type 0 where
    no_index : IndexTree
    index : ExprTree → IndexTree

  -- The select behind a name, if there is one, where its brackets stand (IEEE 1364-2005, 5.2).
  pub data SelTree : Type 0 where
    no_sel : SelTree
    index_sel : Place → ExprTree → SelTree
    both_sel : Place → ExprTree → Place → PartTree → SelTree
    part_sel : Place → PartTree → SelTree

  -- What stands in the last bracket of a select (IEEE 1364-2005, 5.2.1).
  pub data PartTree : Type 0 where
    at : ExprTree → PartTree
    range : ExprTree → ExprTree → PartTree
    up : ExprTree → ExprTree → PartTree
    down : ExprTree → ExprTree → PartTree

-- Where the expression stands (own).
abbrev pub place_of : ExprTree → Place
place_of (expr place form) = place

-- Where the name stands: where its first ID does (own).
abbrev pub start_of : NameTree → Place
start_of (name id i more) = id.place

-- Expressions of a list (own).
abbrev pub exprs : List ExprTree → Exprs
exprs [] = no_expr
exprs (e ∷ more) = one_expr e (exprs more)

-- Operators of a list, each with the operand behind it (own).
abbrev pub links : List (Binary × ExprTree) → Links
links [] = no_link
links (l ∷ more) = one_link l.0 l.1 (links more)

-- Steps of a list (own).
abbrev pub steps : List (Id × IndexTree) → Steps
steps [] = no_step
steps (s ∷ more) = one_step s.0 s.1 (steps more)

-- A unary operator at its place, and its operand (IEEE 1364-2005, 5.1).
abbrev pub unary_at : Place → Unary → ExprTree → ExprTree
unary_at place operator operand = expr place (unary operator operand)

-- An operand, and operators of one precedence with the operands behind them: with no operator it is
-- the operand, and else a chain that stands where the operand does (IEEE 1364-2005, 5.1.2).
abbrev pub chained : ExprTree → List (Binary × ExprTree) → ExprTree
chained first [] = first
chained first (l ∷ more) = expr (place_of first) (chain first (links (l ∷ more)))

-- One of two expressions by a test, where the test stands (IEEE 1364-2005, 5.1.13).
abbrev pub chosen : ExprTree → ExprTree → ExprTree → ExprTree
chosen test holds fails = expr (place_of test) (choice test holds fails)

-- A name with the select behind it, where the name stands (IEEE 1364-2005, 5.2).
abbrev pub named_at : NameTree → SelTree → ExprTree
named_at n s = expr (start_of n) (named n s)

-- A call of a name, where the name stands (IEEE 1364-2005, 10.4.4).
abbrev pub called : NameTree → List ExprTree → ExprTree
called n arguments = expr (start_of n) (call n (exprs arguments))
