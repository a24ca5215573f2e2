-- What a name stands for where a value is wanted. (IEEE 1364-2005, 5.2, 10.4 and 12.7)
use Rattle.std.specs.Prelude.{ℕ, List, [], Bool, true, false, if◌then◌else◌, Option, Some, None, slice_get, unwrap_or}
use Rattle.std.specs.Option.{option_map, option_and_then}
use Rattle.vh_logic.specs.Vector.{Vector}
use Rattle.vh_ast.specs.declared.routine.TaskDirection.{TaskDirection}
use Rattle.vh_ast.specs.declared.routine.TaskDirection.TheVariants as goes
use Rattle.vh_design_nodes.specs.declared.expr.Chosen.{Chosen}
use Rattle.vh_design_nodes.specs.declared.expr.ExprNode.{ExprNode}
use Rattle.vh_design_nodes.specs.declared.expr.Range.{Range}
use Rattle.vh_design_nodes.specs.declared.expr.Select.{Select}
use Rattle.vh_design_nodes.specs.declared.expr.Select.TheVariants as select
use Rattle.vh_design_nodes.specs.declared.object.Detail.{Detail}
use Rattle.vh_design_nodes.specs.declared.object.Kind.{Kind}
use Rattle.vh_design_nodes.specs.declared.object.Kind.TheVariants as of
use Rattle.vh_design_nodes.specs.declared.object.ObjectInfo.{ObjectInfo}
use Rattle.vh_design_nodes.specs.Kinds.{is_function, is_variable}
use Rattle.vh_design_nodes.specs.Fits.{has_kind, body_number}
use Rattle.vh_store.specs.Opening.{constant_in}
use Rattle.vh_bind_scope.specs.declared.names.Meaning.{Meaning}
use Rattle.vh_bind_scope.specs.declared.names.Meaning.TheVariants as means
use Rattle.vh_bind_scope.specs.declared.look_up.Declaration.{Declaration}
use Rattle.vh_bind_scope.specs.LookUp.{found, object_meant}
use Rattle.vh_bind.specs.declared.readable.Readable.{Readable}
use Rattle.vh_bind.specs.declared.readable.Readable.TheVariants as it
use Rattle.vh_bind.specs.declared.readable.Function.{Function}
use Rattle.vh_bind.specs.declared.scope.Routine.{Routine}
use Rattle.vh_bind.specs.Scopes.{Scope, genvar_value}

-- A parameter stands for its value, in its width and with its sign, once it has one. (4.10)
abbrev pub parameter_read : ℕ → Range → Option Vector → Readable
parameter_read o range None = it.Unknown
parameter_read o range (Some v) = it.Parameter o range v

-- An object, a row for each kind: nets, variables, parameters and memories may be read. (5.2)
abbrev pub object_read : List ExprNode → ℕ → Range → Detail → Kind → Readable
object_read ns o range detail of.Module = it.Wrong
object_read ns o range detail of.GenScope = it.Wrong
object_read ns o range detail of.NamedBegin = it.Wrong
object_read ns o range detail of.NamedFork = it.Wrong
object_read ns o range detail of.Task = it.Wrong
object_read ns o range detail of.Function = it.Wrong
object_read ns o range detail of.Net = it.Vector o range
object_read ns o range detail of.Reg = it.Vector o range
object_read ns o range detail of.IntegerVar = it.Vector o range
object_read ns o range detail of.TimeVar = it.Vector o range
object_read ns o range detail of.Memory = it.Memory o range
object_read ns o range detail of.Parameter = parameter_read o range (constant_in ns detail)
object_read ns o range detail of.Port = it.Wrong
object_read ns o range detail of.NamedEvent = it.Wrong
object_read ns o range detail of.Initial = it.Wrong
object_read ns o range detail of.Always = it.Wrong
object_read ns o range detail of.ContAssign = it.Wrong
object_read ns o range detail of.SysTaskCall = it.Wrong
object_read ns o range detail of.SysFuncCall = it.Wrong
object_read ns o range detail of.Constant = it.Wrong
object_read ns o range detail of.Operation = it.Wrong

abbrev pub there_read : List ExprNode → ℕ → Range → Option ObjectInfo → Readable
there_read ns o range None = it.Wrong
there_read ns o range (Some i) = object_read ns o range i.detail i.kind

-- A genvar stands for its value, where it has one. (12.4.1)
abbrev pub genvar_read : Option Vector → Readable
genvar_read None = it.Wrong
genvar_read (Some v) = it.Genvar v

-- What is meant: a function's name is its result, where it isn't called. (10.4.2)
abbrev pub meaning_read : Scope → Option Vector → Meaning → Readable
meaning_read s genvar (means.Object o range) = there_read s.exprs o range (slice_get s.objects o)
meaning_read s genvar (means.Result o range) = there_read s.exprs o range (slice_get s.objects o)
meaning_read s genvar means.Genvar = genvar_read genvar
meaning_read s genvar means.Blocks = it.Wrong
meaning_read s genvar means.Gate = it.Wrong

-- A name alone stands for its innermost declaration. (12.7)
abbrev pub found_read : Scope → List ℕ → Option Declaration → Readable
found_read s word None = it.Wrong
found_read s word (Some d) = meaning_read s (genvar_value s.genvars d.scope word) d.meaning

abbrev pub alone_read : Scope → List ℕ → Readable
alone_read s word = found_read s word (found s.names s.around word)

-- What a path names: a genvar has its value in its own loop alone. (12.4.1 and 12.5)
abbrev pub path_read : Scope → Option Meaning → Readable
path_read s None = it.Unknown
path_read s (Some m) = meaning_read s None m

-- A word of a memory, by the expression of its address. (5.2.2)
abbrev pub word_of : ℕ → Option ℕ → Option Chosen
word_of o index = option_map (λ e. record { object = o; word = Some e }) index

-- One digit, by an index; so many, from an index on. (5.2.1)
abbrev pub bit_select : Range → Option ℕ → Option Select
bit_select r index = option_map (λ e. select.Bit r e) index

abbrev pub indexed_select : Bool → Range → Option ℕ → Option ℕ → Option Select
indexed_select up r None width = None
indexed_select up r (Some e) None = None
indexed_select up r (Some e) (Some n) = Some (select.Indexed up r e n)

-- The function that is called, with its result's variable. (10.4)
abbrev pub with_result : Scope → ℕ → Option ℕ → Option Function
with_result s f None = None
with_result s f (Some v) = if has_kind is_variable s.objects v then Some (record { id = f; result = v }) else None

abbrev pub routine_of : Scope → ℕ → Option Routine
routine_of s f = option_and_then (λ b. slice_get s.routines b) (body_number s.objects f)

-- Where its arguments go, in order. (10.2.1 and 10.4.1)
abbrev pub directions_of : Scope → ℕ → List TaskDirection
directions_of s f = unwrap_or (option_map (λ (r : Routine). r.arguments) (routine_of s f)) []

-- Which are given a value at the begin of a call, and which are assigned at its end. (10.2.2)
abbrev pub is_given : TaskDirection → Bool
is_given goes.Input = true
is_given goes.Output = false
is_given goes.Inout = true

abbrev pub is_taken : TaskDirection → Bool
is_taken goes.Input = false
is_taken goes.Output = true
is_taken goes.Inout = true

-- Does the argument of this number go so?
abbrev pub goes_so : (TaskDirection → Bool) → List TaskDirection → ℕ → Bool
goes_so test ds k = unwrap_or (option_map test (slice_get ds k)) false

abbrev pub function_at : Scope → ℕ → Option Function
function_at s f =
    if has_kind is_function s.objects f then
    option_and_then (λ (r : Routine). with_result s f r.result) (routine_of s f)
    else None

abbrev pub function_meant : Scope → Meaning → Option Function
function_meant s m = option_and_then (function_at s) (object_meant m)
