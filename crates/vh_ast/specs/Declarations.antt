-- Declarations as plain trees (IEEE 1364-2005, Annex A.1.3 and A.2).
use Rattle.std.specs.Prelude.{Bool, List, Option}
use Rattle.vh_base.specs.declared.place.Place.{Place}
use Rattle.vh_ast.specs.declared.token.Id.{Id}
use Rattle.vh_ast.specs.declared.data_type.Variable.{Variable}
use Rattle.vh_ast.specs.declared.port.Direction.{Direction}
use Rattle.vh_ast.specs.declared.port.PortType.{PortType}
use Rattle.vh_ast.specs.declared.routine.TaskDirection.{TaskDirection}
use Rattle.vh_ast.specs.Expressions.{ExprTree}

-- A range, where its bracket stands (IEEE 1364-2005, 4.3.1).
pub record RangeTree : Type 0 where
  pub place : Place
  pub left : ExprTree
  pub right : ExprTree

-- Whether what is declared is signed, and its range (IEEE 1364-2005, 4.3).
pub record TypeTree : Type 0 where
  pub signed : Bool
  pub range : Option RangeTree

-- A name with its value (IEEE 1364-2005, A.2.4).
pub record AssignedTree : Type 0 where
  pub id : Id
  pub value : ExprTree

-- A net, with what is assigned to it (IEEE 1364-2005, 6.1.1).
pub record NetTree : Type 0 where
  pub id : Id
  pub value : Option ExprTree

-- An integer or time variable, with its first value (IEEE 1364-2005, A.2.4).
pub record InitTree : Type 0 where
  pub id : Id
  pub value : Option ExprTree

-- What stands behind a register's name: nothing, the addresses of a memory, or a first value
-- (IEEE 1364-2005, 4.9 and A.2.4).
pub data VarPartTree : Type 0 where
  plain : VarPartTree
  memory : RangeTree → VarPartTree
  valued : ExprTree → VarPartTree

-- A register (IEEE 1364-2005, A.2.1.3).
pub record VarTree : Type 0 where
  pub id : Id
  pub part : VarPartTree

-- A declaration of variables, where its first token stands (IEEE 1364-2005, A.2.1.3).
pub data DeclTree : Type 0 where
  reg : Place → TypeTree → List VarTree → DeclTree
  integer : Place → List InitTree → DeclTree
  time : Place → List InitTree → DeclTree

-- A parameter in a header, where its first token stands (IEEE 1364-2005, 12.2).
pub record ParTree : Type 0 where
  pub place : Place
  pub data_type : Option TypeTree
  pub id : Id
  pub value : ExprTree

-- A port that a header declares, where its first token stands (IEEE 1364-2005, 12.3.4).
pub record PdeclTree : Type 0 where
  pub place : Place
  pub direction : Direction
  pub port_type : Option PortType
  pub data_type : TypeTree
  pub id : Id

-- What follows such a port in a header (IEEE 1364-2005, 12.3.4).
pub data PortTree : Type 0 where
  declared_port : PdeclTree → PortTree
  port_name : Id → PortTree

-- The ports of a header (IEEE 1364-2005, 12.3).
pub data PortsTree : Type 0 where
  plain_ports : List Id → PortsTree
  declared_ports : PdeclTree → List PortTree → PortsTree

-- Arguments of a task or function, where their first token stands (IEEE 1364-2005, 10.2.1).
pub record TargTree : Type 0 where
  pub place : Place
  pub direction : TaskDirection
  pub variable : Option Variable
  pub data_type : TypeTree
  pub ids : List Id

-- What is declared in a task or function (IEEE 1364-2005, 10.2.1 and 10.4.1).
pub data LocalTree : Type 0 where
  local_targ : TargTree → LocalTree
  local_decl : DeclTree → LocalTree

-- The type of a function's result (IEEE 1364-2005, 10.4.1).
pub data ResultTree : Type 0 where
  integer_result : ResultTree
  time_result : ResultTree
  data_result : TypeTree → ResultTree
