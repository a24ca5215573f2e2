-- Statements as plain trees (IEEE 1364-2005, 9 and Annex A.6).
use Rattle.std.specs.Prelude.{List, [], ◌∷◌, Option}
use Rattle.vh_base.specs.declared.place.Place.{Place}
use Rattle.vh_ast.specs.declared.token.Id.{Id}
use Rattle.vh_lex.specs.declared.token.Number.{Number}
use Rattle.vh_ast.specs.declared.timing.Edge.{Edge}
use Rattle.vh_ast.specs.declared.stmt.AssignWord.{AssignWord}
use Rattle.vh_ast.specs.declared.stmt.ForceWord.{ForceWord}
use Rattle.vh_ast.specs.declared.stmt.ReleaseWord.{ReleaseWord}
use Rattle.vh_ast.specs.declared.stmt.CaseWord.{CaseWord}
use Rattle.vh_ast.specs.declared.stmt.LoopWord.{LoopWord}
use Rattle.vh_ast.specs.declared.stmt.BlockWord.{BlockWord}
use Rattle.vh_ast.specs.Expressions.{ExprTree, NameTree, SelTree}
use Rattle.vh_ast.specs.Declarations.{DeclTree}

-- What stands behind the sign of a delay (IEEE 1364-2005, 9.7.1).
pub data DelayValueTree : Type 0 where
  delay_number : Number → DelayValueTree
  delay_id : Id → DelayValueTree
  delay_expr : ExprTree → DelayValueTree

-- A delay, where its sign stands (IEEE 1364-2005, 9.7.1).
pub record DelayTree : Type 0 where
  pub place : Place
  pub value : DelayValueTree

-- An event expression, where its first token stands (IEEE 1364-2005, 9.7.2).
pub record EvTree : Type 0 where
  pub place : Place
  pub edge : Option Edge
  pub expr : ExprTree

-- What stands behind an `@` (IEEE 1364-2005, 9.7.2 to 9.7.5).
pub data EventTree : Type 0 where
  any_event : EventTree
  named_event : NameTree → EventTree
  listed_events : List EvTree → EventTree

-- What stands in a row of targets (own).
pub data LvPartTree : Type 0 where
  opened : LvPartTree
  target : NameTree → SelTree → LvPartTree
  closed : LvPartTree

-- A target, where its first token stands, as a row in which each opening brace has its closing one
-- (IEEE 1364-2005, A.8.5).
pub record LvTree : Type 0 where
  pub place : Place
  pub parts : List LvPartTree

-- A target with its value (IEEE 1364-2005, A.6.1).
pub record SetTree : Type 0 where
  pub target : LvTree
  pub value : ExprTree

-- A statement in which none stands (IEEE 1364-2005, A.6.2 to A.6.9).
pub data SimpleTree : Type 0 where
  empty : SimpleTree
  assign : LvTree → AssignWord → Option DelayTree → ExprTree → SimpleTree
  trigger : NameTree → SimpleTree
  disable : NameTree → SimpleTree
  force : ForceWord → SetTree → SimpleTree
  release : ReleaseWord → LvTree → SimpleTree
  task_call : NameTree → List ExprTree → SimpleTree
  system_call : Id → List (Option ExprTree) → SimpleTree

-- For which values a statement of a case stands (IEEE 1364-2005, 9.5).
pub data MatchedTree : Type 0 where
  values : List ExprTree → MatchedTree
  default : MatchedTree

mutual
  -- A statement, where its first token stands (IEEE 1364-2005, A.6.4).
  pub data StmtTree : Type 0 where
    stmt : Place → StmtFormTree → StmtTree

  -- What a statement is (IEEE 1364-2005, A.6.4).
  pub data StmtFormTree : Type 0 where
    simple_stmt : SimpleTree → StmtFormTree
    delay_stmt : DelayTree → StmtTree → StmtFormTree
    event_stmt : EventTree → StmtTree → StmtFormTree
    wait_stmt : ExprTree → StmtTree → StmtFormTree
    if_stmt : ExprTree → StmtTree → ElseTree → StmtFormTree
    case_stmt : CaseWord → ExprTree → Citems → StmtFormTree
    for_stmt : SetTree → ExprTree → SetTree → StmtTree → StmtFormTree
    loop_stmt : LoopWord → ExprTree → StmtTree → StmtFormTree
    forever_stmt : StmtTree → StmtFormTree
    block_stmt : BlockWord → Option Id → List DeclTree → Stmts → StmtFormTree

  -- The second branch of an `if`, if it is written (IEEE 1364-2005, 9.4).
  pub data ElseTree : Type 0 where
    no_else : ElseTree
    else_stmt : StmtTree → ElseTree

  -- The statements of a case in a row, each where its first token stands (IEEE 1364-2005, 9.5).
  pub data Citems : Type 0 where
    no_citem : Citems
    one_citem : Place → MatchedTree → StmtTree → Citems → Citems

  -- Statements in a row (own).
  pub data Stmts : Type 0 where
    no_stmt : Stmts
    one_stmt : StmtTree → Stmts → Stmts

-- One statement of a case (IEEE 1364-2005, 9.5).
pub record CitemTree : Type 0 where
  pub place : Place
  pub matched : MatchedTree
  pub body : StmtTree

-- Statements of a case, of a list (own).
abbrev pub citems : List CitemTree → Citems
citems [] = no_citem
citems (c ∷ more) = one_citem c.place c.matched c.body (citems more)

-- Statements of a list (own).
abbrev pub stmts : List StmtTree → Stmts
stmts [] = no_stmt
stmts (s ∷ more) = one_stmt s (stmts more)
