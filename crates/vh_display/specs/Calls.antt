-- The text of a display call. (IEEE 1364-2005, 17.1)
use Rattle.std.specs.Prelude.{ℕ, ◌-◌, ◌^◌, ◌++◌, List, [], ◌∷◌, Bool, false, Option, Some, None, slice_get}
use Rattle.std.specs.List.{list_any}
use Rattle.vh_text.specs.declared.radix.Radix.TheVariants as radix
use Rattle.vh_design_code.specs.declared.show.ShowArg.{ShowArg}
use Rattle.vh_design_code.specs.declared.show.ShowArg.TheVariants as arg
use Rattle.vh_design_code.specs.declared.show.ShowCall.{ShowCall}
use Rattle.vh_design_code.specs.declared.show.ShowTask.{ShowTask}
use Rattle.vh_design_code.specs.declared.show.ShowTask.TheVariants as task
use Rattle.vh_design_nodes.specs.declared.expr.ExprNode.{ExprNode}
use Rattle.vh_design.specs.Shape.{Shape}
use Rattle.vh_sense.specs.Reads.{reads}
use Rattle.vh_store.specs.Contents.{Contents}
use Rattle.vh_eval.specs.Value.{value_of, alone}
use Rattle.vh_design_names.specs.Names.{full_name}
use Rattle.vh_display.specs.declared.conversion.Conversion.{Conversion}
use Rattle.vh_display.specs.declared.conversion.Form.TheVariants as form
use Rattle.vh_display.specs.declared.format.Mode.TheVariants as mode
use Rattle.vh_display.specs.Texts.{value_text}
use Rattle.vh_display.specs.Formats.{front}

-- A value of an expression as a conversion shows it, where a module's unit is so many times the precision. (17.1.1)
abbrev pub converted : Shape → Contents → ℕ → Conversion → ℕ → List ℕ
converted d s ratio how e = value_text ratio how.form how.columns (alone (value_of d s) d.exprs e)

-- `%d`. (17.1)
abbrev pub plain : Conversion
plain = record { form = form.Number radix.Decimal; columns = None }

-- An argument that no conversion waits for: none is a space, a string is a format, a value is shown as `%d`. (17.1)
abbrev pub argument : (Conversion → ℕ → List ℕ) → (List ℕ → List ℕ) → ShowArg → List ℕ
argument show rest arg.Empty = 32 ∷ rest []
argument show rest (arg.Format format) = rest format
argument show rest (arg.Value e) = show plain e ++ rest []

-- An argument for a conversion; one that is no value shows nothing. (17.1.1.1; own for the last)
abbrev pub wanted : (Conversion → ℕ → List ℕ) → (List ℕ → List ℕ) → Conversion → List ℕ → ShowArg → List ℕ
wanted show rest how behind arg.Empty = rest behind
wanted show rest how behind (arg.Format format) = rest behind
wanted show rest how behind (arg.Value e) = show how e ++ rest behind

abbrev pub with_argument : (Conversion → ℕ → List ℕ) → (List ℕ → List ℕ) → Option (Conversion × List ℕ) → ShowArg
    → List ℕ
with_argument show rest None a = argument show rest a
with_argument show rest (Some w) a = wanted show rest w.0 w.1 a

-- The text of arguments behind what is left of a format, in a scope of this name. (17.1)
unfoldable pub arguments_text : List ℕ → (Conversion → ℕ → List ℕ) → List ℕ → List ShowArg → List ℕ
arguments_text name show format [] = (front name mode.Plain format).text
arguments_text name show format (a ∷ args) =
    let f = front name mode.Plain format in
    f.text ++ with_argument show (λ rest. arguments_text name show rest args) f.wants a

-- What a task shows behind its text. (17.1 and 17.1.2)
abbrev pub line_end : ShowTask → List ℕ
line_end task.Display = 10 ∷ []
line_end task.Write = []
line_end task.Strobe = 10 ∷ []
line_end task.Monitor = 10 ∷ []

-- The text of a display call, with the values that a store holds. (17.1)
abbrev pub call_text : Shape → Contents → ShowCall → List ℕ
call_text d s c =
    arguments_text (full_name d.objects c.scope) (converted d s (10 ^ (c.unit - d.precision))) [] c.args
    ++ line_end c.task

abbrev pub shown_text : Shape → Contents → ℕ → List ℕ
shown_text d s n = elim (slice_get d.shows n) [ None ↦ [] | Some c ↦ call_text d s c ]

-- Does an argument of a display call read an object, or a word of it? (17.1.3)
abbrev pub argument_reads : List ExprNode → ℕ → ShowArg → Bool
argument_reads ns o arg.Empty = false
argument_reads ns o (arg.Format format) = false
argument_reads ns o (arg.Value e) = reads ns o e

abbrev pub call_reads : Shape → ℕ → ℕ → Bool
call_reads d n o = elim (slice_get d.shows n) [ None ↦ false | Some c ↦ list_any (argument_reads d.exprs o) c.args ]
