-- Where expressions stand, and what a name stands for where a constant is needed. (IEEE 1364-2005, 4.10 and 12.4)
use Rattle.std.specs.Prelude.{ℕ, List, [], ◌∷◌, if◌then◌else◌, ◌&&◌, ◌==◌, bytes_eq, Option, Some, None, slice_get}
use Rattle.vh_base.specs.declared.faults.DesignFault.{DesignFault}
use Rattle.vh_base.specs.declared.faults.DesignFault.TheVariants.{N1, N4}
use Rattle.vh_logic.specs.Vector.{Vector}
use Rattle.vh_design_nodes.specs.declared.expr.ExprNode.{ExprNode}
use Rattle.vh_design_nodes.specs.declared.expr.Range.{Range}
use Rattle.vh_design_nodes.specs.declared.object.Detail.{Detail}
use Rattle.vh_design_nodes.specs.declared.object.Kind.{Kind}
use Rattle.vh_design_nodes.specs.declared.object.Kind.TheVariants as of
use Rattle.vh_design_nodes.specs.declared.object.ObjectInfo.{ObjectInfo}
use Rattle.vh_store.specs.Opening.{constant_in}
use Rattle.vh_bind_scope.specs.declared.names.Meaning.{Meaning}
use Rattle.vh_bind_scope.specs.declared.names.Meaning.TheVariants as means
use Rattle.vh_bind_scope.specs.declared.look_up.Declaration.{Declaration}
use Rattle.vh_bind_scope.specs.Names.{Names}
use Rattle.vh_bind_scope.specs.LookUp.{found}
use Rattle.vh_bind.specs.declared.named.Named.{Named}
use Rattle.vh_bind.specs.declared.named.Named.TheVariants as it
use Rattle.vh_bind.specs.declared.scope.Genvar.{Genvar}
use Rattle.vh_bind.specs.declared.scope.Mode.{Mode}
use Rattle.vh_bind.specs.declared.scope.Mode.TheVariants as mode
use Rattle.vh_bind.specs.declared.scope.Routine.{Routine}
use Rattle.vh_bind.specs.Steps.{Nodes}

-- Where an expression stands: what is declared; the scopes around it, from the inside out; the top, and its name;
-- the genvars that have a value; the objects of the design so far, and the expressions in which its parameters have their
-- values; what is known of its tasks and functions, by the numbers of their bodies; the time unit of the module, and the
-- precision.
pub record Scope : Type 0 where
  pub names : Names
  pub around : List ℕ
  pub top : ℕ
  pub top_name : List ℕ
  pub genvars : List Genvar
  pub objects : List ObjectInfo
  pub exprs : List ExprNode
  pub routines : List Routine
  pub unit : ℕ
  pub precision : ℕ

-- The objects that an expression may read: a constant reads none. (4.10)
abbrev pub objects_of : Mode → Scope → List ObjectInfo
objects_of mode.Constant s = []
objects_of mode.Value s = s.objects

abbrev pub precision_of : Mode → Scope → ℕ
precision_of mode.Constant s = 0
precision_of mode.Value s = s.precision

-- The same, where parameters have their values in other expressions.
abbrev pub here : Scope → Nodes → Scope
here s ns = record s { exprs = ns }

-- The value of a genvar, where it has one. (12.4.1)
abbrev pub genvar_value : List Genvar → ℕ → List ℕ → Option Vector
genvar_value [] scope name = None
genvar_value (g ∷ gs) scope name =
    if scope == g.scope && bytes_eq name g.name then Some g.value else genvar_value gs scope name

-- A genvar is a constant where it has a value. (12.4.1)
abbrev pub genvar_named : Option Vector → Named
genvar_named None = it.Wrong N4
genvar_named (Some v) = it.Known (record { left = 31; right = 0 }) v

-- A parameter is one once it has its value, in its width and with its sign. (4.10)
abbrev pub parameter_named : Range → Option Vector → Named
parameter_named range None = it.Unknown
parameter_named range (Some v) = it.Known range v

-- Objects of other kinds are none: a net, a variable or an event is no constant, and a scope's name names no
-- value.
abbrev pub object_named : List ExprNode → Range → Detail → Kind → Named
object_named ns range detail of.Module = it.Wrong N1
object_named ns range detail of.GenScope = it.Wrong N1
object_named ns range detail of.NamedBegin = it.Wrong N1
object_named ns range detail of.NamedFork = it.Wrong N1
object_named ns range detail of.Task = it.Wrong N1
object_named ns range detail of.Function = it.Wrong N1
object_named ns range detail of.Net = it.Wrong N4
object_named ns range detail of.Reg = it.Wrong N4
object_named ns range detail of.IntegerVar = it.Wrong N4
object_named ns range detail of.TimeVar = it.Wrong N4
object_named ns range detail of.Memory = it.Wrong N4
object_named ns range detail of.Parameter = parameter_named range (constant_in ns detail)
object_named ns range detail of.Port = it.Wrong N1
object_named ns range detail of.NamedEvent = it.Wrong N4
object_named ns range detail of.Initial = it.Wrong N1
object_named ns range detail of.Always = it.Wrong N1
object_named ns range detail of.ContAssign = it.Wrong N1
object_named ns range detail of.SysTaskCall = it.Wrong N1
object_named ns range detail of.SysFuncCall = it.Wrong N1
object_named ns range detail of.Constant = it.Wrong N1
object_named ns range detail of.Operation = it.Wrong N1

abbrev pub there_named : List ExprNode → Range → Option ObjectInfo → Named
there_named ns range None = it.Wrong N1
there_named ns range (Some i) = object_named ns range i.detail i.kind

-- What is declared so. (12.7)
abbrev pub declared_named : Scope → List ℕ → ℕ → Meaning → Named
declared_named s name scope (means.Object id range) = there_named s.exprs range (slice_get s.objects id)
declared_named s name scope (means.Result id range) = it.Wrong N4
declared_named s name scope means.Genvar = genvar_named (genvar_value s.genvars scope name)
declared_named s name scope means.Blocks = it.Wrong N1
declared_named s name scope means.Gate = it.Wrong N1

abbrev pub found_named : Scope → List ℕ → Option Declaration → Named
found_named s name None = it.Wrong N1
found_named s name (Some d) = declared_named s name d.scope d.meaning

-- What a name stands for: that of its innermost declaration. (12.7)
abbrev pub named : Scope → List ℕ → Named
named s name = found_named s name (found s.names s.around name)

-- What is wrong with the call of such a thing where a constant is needed: a function is no constant, and nothing else
-- is called. (4.10 and 10.4.3)
abbrev pub kind_called : Kind → DesignFault
kind_called of.Function = N4
kind_called _ = N1

abbrev pub there_called : Option ObjectInfo → DesignFault
there_called None = N1
there_called (Some i) = kind_called i.kind

abbrev pub meaning_called : List ObjectInfo → Meaning → DesignFault
meaning_called objects (means.Object id range) = there_called (slice_get objects id)
meaning_called objects (means.Result id range) = N4
meaning_called objects means.Genvar = N1
meaning_called objects means.Blocks = N1
meaning_called objects means.Gate = N1

abbrev pub found_called : List ObjectInfo → Option Declaration → DesignFault
found_called objects None = N1
found_called objects (Some d) = meaning_called objects d.meaning

-- And with that of a name alone.
abbrev pub alone_called : Scope → List ℕ → DesignFault
alone_called s name = found_called s.objects (found s.names s.around name)
