-- How an order, its answer and who gives it are printed in a line of the transcript.
use Rattle.std.specs.Prelude.{ℕ, ◌++◌, List, [], ◌∷◌, Bool, true, false, ◌&&◌, ◌||◌, if◌then◌else◌, Option, Some, None, codes}
use Rattle.std.specs.List.{list_all}
use Rattle.std.specs.Fmt.{decimal}
use Rattle.vh_base.specs.Classes.{is_name_start, is_digit}
use Rattle.vh_base.specs.Words.{reason_text, code_name}
use Rattle.vh_base.specs.declared.format.Format.{Format}
use Rattle.vh_base.specs.declared.format.Format.TheVariants as format
use Rattle.vh_base.specs.declared.orders.Answer.{Answer}
use Rattle.vh_base.specs.declared.orders.Answer.TheVariants as answer
use Rattle.vh_base.specs.declared.orders.BodyName.{BodyName}
use Rattle.vh_base.specs.declared.orders.BodyName.TheVariants as body
use Rattle.vh_base.specs.declared.orders.Order.{Order}
use Rattle.vh_base.specs.declared.orders.Order.TheVariants as order
use Rattle.vh_base.specs.declared.orders.ProcName.{ProcName}
use Rattle.vh_base.specs.declared.words.Mode.{Mode}
use Rattle.vh_base.specs.declared.words.Mode.TheVariants as mode
use Rattle.vh_base.specs.declared.words.Property.{Property}
use Rattle.vh_base.specs.declared.words.Property.TheVariants as property
use Rattle.vh_base.specs.declared.words.Relation.{Relation}
use Rattle.vh_base.specs.declared.words.Relation.TheVariants as relation
use Rattle.vh_base.specs.declared.words.SystfKind.{SystfKind}
use Rattle.vh_base.specs.declared.words.SystfKind.TheVariants as kind
use Rattle.vh_app_lines.specs.declared.routine.Routine.TheVariants as routine
use Rattle.vh_app_lines.specs.Quoted.{quoted}
use Rattle.vh_app_lines.specs.Routines.{routine_text}

-- The word of a relation (IEEE 1364-2005, 26.6 and Annex G).
abbrev pub relation_text : Relation → List ℕ
relation_text relation.VpiModule = codes "vpiModule"
relation_text relation.VpiScope = codes "vpiScope"
relation_text relation.VpiParent = codes "vpiParent"
relation_text relation.VpiSysTfCall = codes "vpiSysTfCall"
relation_text relation.VpiInternalScope = codes "vpiInternalScope"
relation_text relation.VpiNet = codes "vpiNet"
relation_text relation.VpiPort = codes "vpiPort"
relation_text relation.VpiContAssign = codes "vpiContAssign"
relation_text relation.VpiProcess = codes "vpiProcess"
relation_text relation.VpiReg = codes "vpiReg"
relation_text relation.VpiVariables = codes "vpiVariables"
relation_text relation.VpiMemory = codes "vpiMemory"
relation_text relation.VpiParameter = codes "vpiParameter"
relation_text relation.VpiNamedEvent = codes "vpiNamedEvent"
relation_text relation.VpiMemoryWord = codes "vpiMemoryWord"
relation_text relation.VpiArgument = codes "vpiArgument"

-- The word of a property (IEEE 1364-2005, 26.6 and Annex G).
abbrev pub property_text : Property → List ℕ
property_text property.VpiType = codes "vpiType"
property_text property.VpiSize = codes "vpiSize"
property_text property.VpiSigned = codes "vpiSigned"
property_text property.VpiTopModule = codes "vpiTopModule"
property_text property.VpiDirection = codes "vpiDirection"
property_text property.VpiNetType = codes "vpiNetType"
property_text property.VpiPortIndex = codes "vpiPortIndex"
property_text property.VpiLineNo = codes "vpiLineNo"
property_text property.VpiName = codes "vpiName"
property_text property.VpiFullName = codes "vpiFullName"
property_text property.VpiDefName = codes "vpiDefName"

-- The word of a value's format (IEEE 1364-2005, 27.14 and Annex G).
abbrev pub format_text : Format → List ℕ
format_text format.VpiBinStrVal = codes "vpiBinStrVal"
format_text format.VpiOctStrVal = codes "vpiOctStrVal"
format_text format.VpiHexStrVal = codes "vpiHexStrVal"
format_text format.VpiDecStrVal = codes "vpiDecStrVal"
format_text format.VpiIntVal = codes "vpiIntVal"
format_text format.VpiScalarVal = codes "vpiScalarVal"
format_text format.VpiVectorVal = codes "vpiVectorVal"

-- The word of how a value is put (IEEE 1364-2005, 27.32 and Annex G).
abbrev pub mode_text : Mode → List ℕ
mode_text mode.VpiNoDelay = codes "vpiNoDelay"
mode_text mode.VpiInertialDelay = codes "vpiInertialDelay"
mode_text mode.VpiTransportDelay = codes "vpiTransportDelay"
mode_text mode.VpiPureTransportDelay = codes "vpiPureTransportDelay"
mode_text mode.VpiForceFlag = codes "vpiForceFlag"
mode_text mode.VpiReleaseFlag = codes "vpiReleaseFlag"

-- The word of a user system task or function (own; IEEE 1364-2005, 27.34).
abbrev pub kind_text : SystfKind → List ℕ
kind_text kind.Task = codes "task"
kind_text kind.Func = codes "func"

-- A handle: `h` and its number, or `null`. (own)
abbrev pub handle_text : Option ℕ → List ℕ
handle_text None = codes "null"
handle_text (Some number) = codes "h" ++ decimal number

-- A letter, an underscore or a digit. (own)
abbrev pub is_name_byte : ℕ → Bool
is_name_byte byte = is_name_start byte || is_digit byte

-- A text begins as a name does. (own)
abbrev pub begins_as_name : List ℕ → Bool
begins_as_name [] = false
begins_as_name (byte ∷ bytes) = is_name_start byte

-- A name as scripts write it: letters, digits and underscores, not beginning with a digit. (own)
abbrev pub is_name : List ℕ → Bool
is_name text = begins_as_name text && list_all is_name_byte text

-- The name of a script, a procedure or a native: as it is where it is a name, else quoted, which
-- only a native can order. (own)
abbrev pub name_text : List ℕ → List ℕ
name_text text = if is_name text then text else quoted text

-- A procedure of a script, as `APP.NAME`. (own)
abbrev pub proc_text : ProcName → List ℕ
proc_text p = name_text p.app ++ codes "." ++ name_text p.name

-- What a callback calls. (own)
abbrev pub body_text : BodyName → List ℕ
body_text (body.Proc p) = codes "proc " ++ proc_text p
body_text (body.Native name) = codes "native " ++ name_text name

-- A word and its arguments, separated by one space. (own)
abbrev pub spaced : List ℕ → List (List ℕ) → List ℕ
spaced word [] = word
spaced word (argument ∷ arguments) = word ++ codes " " ++ spaced argument arguments

-- The last word of a put, where its event is wanted. (own)
abbrev pub event_words : Bool → List (List ℕ)
event_words false = []
event_words true = codes "event" ∷ []

-- The last words of a registration of a user system task or function, where a procedure is to be
-- called at compilation. (own)
abbrev pub compiletf_words : Option ProcName → List (List ℕ)
compiletf_words None = []
compiletf_words (Some p) = codes "compiletf" ∷ proc_text p ∷ []

-- How the run is to end. (own)
abbrev pub control_text : Bool → List ℕ
control_text false = codes "finish"
control_text true = codes "stop"

-- An order: its name and its arguments, a row for each order. (own)
abbrev pub order_text : Order → List ℕ
order_text (order.ByName text scope) = spaced (routine_text routine.ByName) (quoted text ∷ handle_text scope ∷ [])
order_text (order.ByIndex h n) = spaced (routine_text routine.ByIndex) (handle_text h ∷ decimal n ∷ [])
order_text (order.Handle relation h) = spaced (routine_text routine.Handle) (relation_text relation ∷ handle_text h ∷ [])
order_text (order.Iterate relation h) = spaced (routine_text routine.Iterate) (relation_text relation ∷ handle_text h ∷ [])
order_text (order.Scan h) = spaced (routine_text routine.Scan) (handle_text h ∷ [])
order_text (order.Free h) = spaced (routine_text routine.Free) (handle_text h ∷ [])
order_text (order.Compare a b) = spaced (routine_text routine.Compare) (handle_text a ∷ handle_text b ∷ [])
order_text (order.Get property h) = spaced (routine_text routine.Get) (property_text property ∷ handle_text h ∷ [])
order_text (order.GetStr property h) = spaced (routine_text routine.GetStr) (property_text property ∷ handle_text h ∷ [])
order_text (order.GetValue h format) = spaced (routine_text routine.GetValue) (handle_text h ∷ format_text format ∷ [])
order_text (order.PutValue h format text mode time event) =
    spaced (routine_text routine.PutValue) (handle_text h ∷ format_text format ∷ quoted text ∷ mode_text mode ∷ decimal time ∷ event_words event)
order_text (order.Cancel h) = spaced (routine_text routine.Cancel) (handle_text h ∷ [])
order_text order.GetTime = routine_text routine.GetTime
order_text (order.Register reason h time body n) =
    spaced (routine_text routine.Register) (reason_text reason ∷ handle_text h ∷ decimal time ∷ body_text body ∷ decimal n ∷ [])
order_text (order.Remove h) = spaced (routine_text routine.Remove) (handle_text h ∷ [])
order_text (order.CbInfo h) = spaced (routine_text routine.CbInfo) (handle_text h ∷ [])
order_text (order.RegisterSystf kind text n calltf compiletf) =
    spaced (routine_text routine.RegisterSystf) (kind_text kind ∷ quoted text ∷ decimal n ∷ codes "calltf" ∷ proc_text calltf ∷ compiletf_words compiletf)
order_text order.ChkError = routine_text routine.ChkError
order_text (order.Control stop) = spaced (routine_text routine.Control) (control_text stop ∷ [])
order_text (order.Print text) = spaced (routine_text routine.Print) (quoted text ∷ [])
order_text (order.SetData n) = spaced (routine_text routine.SetData) (decimal n ∷ [])
order_text order.Pass = routine_text routine.Pass
order_text order.Return = routine_text routine.Return

-- What an order is answered. (own)
abbrev pub answer_text : Answer → List ℕ
answer_text answer.Done = codes "ok"
answer_text answer.Null = codes "null"
answer_text (answer.Handle number) = handle_text (Some number)
answer_text (answer.Number n) = decimal n
answer_text (answer.Text text) = quoted text
answer_text (answer.Refused code) = code_name code
