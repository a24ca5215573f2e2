-- Items, modules and sources as plain trees (IEEE 1364-2005, 12 and Annex A.1).
use Rattle.std.specs.Prelude.{List, [], ◌∷◌, Option}
use Rattle.vh_base.specs.declared.place.Place.{Place}
use Rattle.vh_lex.specs.declared.setting.Setting.{Setting}
use Rattle.vh_ast.specs.declared.token.Id.{Id}
use Rattle.vh_ast.specs.declared.data_type.NetType.{NetType}
use Rattle.vh_ast.specs.declared.port.Direction.{Direction}
use Rattle.vh_ast.specs.declared.port.PortType.{PortType}
use Rattle.vh_ast.specs.declared.instance.GateType.{GateType}
use Rattle.vh_ast.specs.declared.item.ParameterWord.{ParameterWord}
use Rattle.vh_ast.specs.declared.item.ProcessWord.{ProcessWord}
use Rattle.vh_ast.specs.Expressions.{ExprTree}
use Rattle.vh_ast.specs.Declarations.{TypeTree, AssignedTree, NetTree, DeclTree, ParTree, PortsTree, TargTree, LocalTree, ResultTree}
use Rattle.vh_ast.specs.Statements.{DelayTree, SetTree, StmtTree}

-- A gate, where its first token stands (IEEE 1364-2005, 7.1).
pub record GateTree : Type 0 where
  pub place : Place
  pub id : Option Id
  pub terminals : List ExprTree

-- A connection (IEEE 1364-2005, 12.3.5 and 12.3.6).
pub data ConnTree : Type 0 where
  ordered : Option ExprTree → ConnTree
  by_name : Place → Id → Option ExprTree → ConnTree

-- An instance (IEEE 1364-2005, 12.1.2).
pub record InstTree : Type 0 where
  pub id : Id
  pub conns : List ConnTree

-- A task (IEEE 1364-2005, 10.2).
pub record TaskTree : Type 0 where
  pub id : Id
  pub targs : List TargTree
  pub locals : List LocalTree
  pub body : StmtTree

-- A function (IEEE 1364-2005, 10.4).
pub record FunctionTree : Type 0 where
  pub result_type : Option ResultTree
  pub id : Id
  pub targs : List TargTree
  pub locals : List LocalTree
  pub body : StmtTree

-- An item in which none stands (IEEE 1364-2005, A.1.4).
pub data PlainTree : Type 0 where
  port : Direction → Option PortType → TypeTree → List Id → PlainTree
  net : NetType → TypeTree → Option DelayTree → List NetTree → PlainTree
  declaration : DeclTree → PlainTree
  event : List Id → PlainTree
  genvar : List Id → PlainTree
  parameter : ParameterWord → TypeTree → List AssignedTree → PlainTree
  assign : Option DelayTree → List SetTree → PlainTree
  gate : GateType → Option DelayTree → List GateTree → PlainTree
  instance : Id → List ConnTree → List InstTree → PlainTree
  process : ProcessWord → StmtTree → PlainTree
  task : TaskTree → PlainTree
  function : FunctionTree → PlainTree

mutual
  -- An item, where its first token stands (IEEE 1364-2005, A.1.4).
  pub data ItemTree : Type 0 where
    item : Place → ItemFormTree → ItemTree

  -- What an item is: a generate region is its two words in a row, with its items between them
  -- (IEEE 1364-2005, 12.4).
  pub data ItemFormTree : Type 0 where
    plain_item : PlainTree → ItemFormTree
    generate_word : ItemFormTree
    endgenerate_word : ItemFormTree
    for_item : AssignedTree → ExprTree → AssignedTree → GblockTree → ItemFormTree
    if_item : ExprTree → GblockTree → ElseTree → ItemFormTree

  -- A block of items, where its first token stands: one item is several where it is a generate region
  -- (IEEE 1364-2005, 12.4).
  pub data GblockTree : Type 0 where
    one_item : Place → Items → GblockTree
    item_block : Place → Option Id → Items → GblockTree

  -- The second block of an `if`, if it is written (IEEE 1364-2005, 12.4.2).
  pub data ElseTree : Type 0 where
    no_else : ElseTree
    else_gblock : GblockTree → ElseTree

  -- Items in a row (own).
  pub data Items : Type 0 where
    no_item : Items
    next_item : ItemTree → Items → Items

-- Items of a list (own).
abbrev pub items : List ItemTree → Items
items [] = no_item
items (i ∷ more) = next_item i (items more)

-- A module, where its first token stands, with what the directives before it set (IEEE 1364-2005, 12.1).
pub record ModuleTree : Type 0 where
  pub place : Place
  pub setting : Setting
  pub id : Id
  pub pars : List ParTree
  pub ports : Option PortsTree
  pub items : List ItemTree

-- A source (IEEE 1364-2005, A.1.2).
abbrev pub SourceTree : Type 0
SourceTree = List ModuleTree
