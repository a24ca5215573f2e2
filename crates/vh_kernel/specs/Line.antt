-- The transcript's lines. (own)
use Rattle.std.specs.Prelude.{ℕ, ◌-◌, ◌++◌, List, [], ◌∷◌, Option, Some, None, codes, slice_get, unwrap_or}
use Rattle.std.specs.Fmt.{decimal}
use Rattle.std.specs.Option.{option_map}
use Rattle.vh_base.specs.declared.orders.Object.{Object}
use Rattle.vh_base.specs.Faults.{cause_name, fault_name}
use Rattle.vh_base.specs.Words.{reason_text}
use Rattle.vh_orders.specs.declared.who.Who.{Who}
use Rattle.vh_orders.specs.declared.who.Who.TheVariants as who_is
use Rattle.vh_orders.specs.declared.phase.Ending.{Ending}
use Rattle.vh_orders.specs.declared.phase.Ending.TheVariants as ending
use Rattle.vh_kernel.specs.declared.label.Label.{Label}
use Rattle.vh_kernel.specs.declared.label.Label.TheVariants as label
use Rattle.vh_orders.specs.Names.{name_of, with_address}
use Rattle.vh_app_lines.specs.OrderText.{order_text, answer_text}
use Rattle.vh_app_lines.specs.Quoted.{quoted, plain_text}
use Rattle.vh_kernel.specs.State.{State}

-- The name of an end.
abbrev pub ending_name : Ending → List ℕ
ending_name (ending.Cause c) = cause_name c
ending_name (ending.Fault f) = fault_name f

-- A line at the present time, with its newline.
abbrev pub stamped : List ℕ → State → List ℕ
stamped text s = decimal s.world.activity.queue.time ++ 32 ∷ text ++ 10 ∷ []

-- The text of what was shown, if something was.
abbrev pub shown_text : Option (List ℕ) → Option (List ℕ)
shown_text None = None
shown_text (Some text) = Some (codes "out " ++ quoted text)

-- Who gives an order.
abbrev pub who_text : Who → List ℕ
who_text (who_is.Callback c) = 99 ∷ decimal c
who_text (who_is.Startup k) = 115 ∷ decimal k

-- The name of a script, by its number from 1.
abbrev pub script_name : ℕ → State → List ℕ
script_name k s = unwrap_or (option_map (λ d. d.name) (slice_get s.world.scripts (k - 1))) []

-- The full name of an object or a word, or a dash for none.
abbrev pub object_text : Option Object → State → List ℕ
object_text None s = 45 ∷ []
object_text (Some o) s = with_address (plain_text (name_of o.id s.world.names)) o.word

-- The text of a label, without its time: a row for each label. Silent labels have none.
abbrev pub text_at : State → Label → Option (List ℕ)
text_at s (label.Startup k) = Some (codes "startup " ++ plain_text (script_name k s))
text_at s (label.Do who order answer) =
    Some (codes "do " ++ who_text who ++ 32 ∷ order_text order ++ codes " => " ++ answer_text answer)
text_at s (label.Pass who) = None
text_at s (label.Ret who) = None
text_at s (label.Occ n reason object) =
    Some (codes "occ " ++ decimal n ++ 32 ∷ reason_text reason ++ 32 ∷ object_text object s)
text_at s (label.Fire n c) = Some (codes "fire " ++ decimal n ++ codes " c" ++ decimal c)
text_at s (label.Done n) = Some (codes "done " ++ decimal n)
text_at s (label.Activate region) = None
text_at s (label.Advance to) = None
text_at s (label.Pick serial shown) = shown_text shown
text_at s (label.Stmt process shown) = shown_text shown
text_at s (label.Finish cause) = None
text_at s (label.End end) = Some (codes "end " ++ ending_name end)

-- The line of a label, at the time of the state after it.
abbrev pub line_at : State → Label → Option (List ℕ)
line_at s l = option_map (λ text. stamped text s) (text_at s l)
