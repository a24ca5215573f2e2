-- What contracts see of a design. (own)
use Rattle.std.specs.Prelude.{ℕ, List}
use Rattle.vh_design_nodes.specs.declared.driver.DriverInfo.{DriverInfo}
use Rattle.vh_design_nodes.specs.declared.expr.ExprNode.{ExprNode}
use Rattle.vh_design_nodes.specs.declared.object.ObjectInfo.{ObjectInfo}
use Rattle.vh_design_code.specs.declared.code.Code.{Code}
use Rattle.vh_design_code.specs.declared.show.ShowCall.{ShowCall}
use Rattle.vh_design_code.specs.declared.statement.StmtInfo.{StmtInfo}
use Rattle.vh_design_code.specs.declared.wait.WaitInfo.{WaitInfo}

-- Its objects, expressions and drivers, the codes of its processes and the bodies of its tasks and functions, its
-- waits, display calls and statements, each at its number, and the simulation's precision, from 0 for 1 fs to 17
-- for 100 s.
pub record Shape : Type 0 where
  pub objects : List ObjectInfo
  pub exprs : List ExprNode
  pub drivers : List DriverInfo
  pub codes : List Code
  pub bodies : List Code
  pub waits : List WaitInfo
  pub shows : List ShowCall
  pub stmts : List StmtInfo
  pub precision : ℕ
