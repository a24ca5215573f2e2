-- A script as plain data: names resolved, each variable by its number, each step by its place.
use Rattle.std.specs.Prelude.{ℕ, List}
use Rattle.vh_app.specs.declared.form.Node.{Node}
use Rattle.vh_app.specs.declared.form.Procedure.{Procedure}

-- A script: its name, how many variables it has, and its steps: those of its startup, and from its start
-- on those of each procedure (own).
pub record ScriptData : Type 0 where
  pub name : List ℕ
  pub variables : ℕ
  pub procedures : List Procedure
  pub nodes : List Node
