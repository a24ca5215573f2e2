-- What kind an object has, and which kinds have a value, a name, items or declarations of their own. (IEEE 1364-2005, 26.6,
-- in this project's profile)
use Rattle.std.specs.Prelude.{ℕ, List, Bool, true, false, ◌||◌, ◌==◌, codes}
use Rattle.vh_design_nodes.specs.declared.object.Kind.{Kind}
use Rattle.vh_design_nodes.specs.declared.object.Kind.TheVariants as of
use Rattle.vh_design_nodes.specs.Kinds.{rank, is_scope, is_vector, is_memory, is_event, is_system_task, is_system_function}
use Rattle.vh_objects.specs.declared.kind.ObjectKind.{ObjectKind}
use Rattle.vh_objects.specs.declared.kind.ObjectKind.TheVariants as kind

-- The word of a kind: the answer of `vpiType`. (26.6)
abbrev pub design_kind_text : Kind → List ℕ
design_kind_text of.Module = codes "vpiModule"
design_kind_text of.GenScope = codes "vpiGenScope"
design_kind_text of.NamedBegin = codes "vpiNamedBegin"
design_kind_text of.NamedFork = codes "vpiNamedFork"
design_kind_text of.Task = codes "vpiTask"
design_kind_text of.Function = codes "vpiFunction"
design_kind_text of.Net = codes "vpiNet"
design_kind_text of.Reg = codes "vpiReg"
design_kind_text of.IntegerVar = codes "vpiIntegerVar"
design_kind_text of.TimeVar = codes "vpiTimeVar"
design_kind_text of.Memory = codes "vpiMemory"
design_kind_text of.Parameter = codes "vpiParameter"
design_kind_text of.Port = codes "vpiPort"
design_kind_text of.NamedEvent = codes "vpiNamedEvent"
design_kind_text of.Initial = codes "vpiInitial"
design_kind_text of.Always = codes "vpiAlways"
design_kind_text of.ContAssign = codes "vpiContAssign"
design_kind_text of.SysTaskCall = codes "vpiSysTaskCall"
design_kind_text of.SysFuncCall = codes "vpiSysFuncCall"
design_kind_text of.Constant = codes "vpiConstant"
design_kind_text of.Operation = codes "vpiOperation"

abbrev pub kind_text : ObjectKind → List ℕ
kind_text (kind.Of k) = design_kind_text k
kind_text kind.Word = codes "vpiMemoryWord"

-- Is it a module? (12.1)
abbrev pub is_module : Kind → Bool
is_module k = rank k == rank of.Module

-- Do items stand in it: nets, ports, continuous assignments, processes and instances? (12.1 and 12.4)
abbrev pub has_items : Kind → Bool
has_items k = is_module k || rank k == rank of.GenScope

-- The kinds that a relation to many lists. (26.6)
abbrev pub is_port : Kind → Bool
is_port k = rank k == rank of.Port

abbrev pub is_assignment : Kind → Bool
is_assignment k = rank k == rank of.ContAssign

abbrev pub is_process : Kind → Bool
is_process k = rank k == rank of.Initial || rank k == rank of.Always

abbrev pub is_reg : Kind → Bool
is_reg k = rank k == rank of.Reg

abbrev pub is_integer_or_time : Kind → Bool
is_integer_or_time k = rank k == rank of.IntegerVar || rank k == rank of.TimeVar

abbrev pub is_parameter : Kind → Bool
is_parameter k = rank k == rank of.Parameter

-- Is it a call of a user system task or function? (26.6.19)
abbrev pub is_call : Kind → Bool
is_call k = is_system_task k || is_system_function k

-- Has it a value: is it a net, a variable, a parameter, a constant, an operation, or a call of a system function? (26.6)
abbrev pub has_value : Kind → Bool
has_value k = is_vector k || rank k == rank of.Constant || rank k == rank of.Operation || is_system_function k

-- Has an object of this kind a value? A word of a memory has one, the memory none.
abbrev pub object_has_value : ObjectKind → Bool
object_has_value (kind.Of k) = has_value k
object_has_value kind.Word = true

-- Is it found by its name or path? A port stands beside the net or variable of its name, which is found. (the latter is own)
abbrev pub has_path : Kind → Bool
has_path k = is_scope k || is_vector k || is_memory k || is_event k

-- Has it a name? (26.6)
abbrev pub has_name : Kind → Bool
has_name k = has_path k || is_port k
