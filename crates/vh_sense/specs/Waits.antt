-- What a wait waits for, and which changes end it. (IEEE 1364-2005, 9.7)
use Rattle.std.specs.Prelude.{ℕ, Bool, true, false, ◌&&◌, ◌==◌, List, Option, Some, None, slice_get}
use Rattle.std.specs.List.{list_any}
use Rattle.std.specs.Option.{option_and_then}
use Rattle.vh_design_code.specs.declared.change.Change.{Change}
use Rattle.vh_design_code.specs.declared.wait.Term.{Term}
use Rattle.vh_design_code.specs.declared.wait.Term.TheVariants as term
use Rattle.vh_design_code.specs.declared.wait.WaitInfo.{WaitInfo}
use Rattle.vh_sense.specs.Edges.{is_change}

-- The object that a term names. (own)
abbrev pub object_of : Term → ℕ
object_of (term.Digits o low width edge) = o
object_of (term.Event o) = o
object_of (term.Reads o) = o

-- Does the change of an object, or of a word of a memory, meet a term that names the object? A row for each
-- kind: a select of a vector by its digits (9.7.2); a named event whenever it is triggered (9.7.3); what a
-- statement behind `@*` reads whenever it changes, a memory with each of its words (9.7.5).
abbrev pub is_met_by : Change → Term → Bool
is_met_by c (term.Digits o low width edge) = is_change edge low width c.old c.new
is_met_by c (term.Event o) = true
is_met_by c (term.Reads o) = true

-- Does it meet a term?
abbrev pub meets : Change → Term → Bool
meets c t = object_of t == c.object.id && is_met_by c t

-- A wait is met by a change that meets one of its terms. (9.7.4)
abbrev pub is_met : WaitInfo → Change → Bool
is_met w c = list_any (meets c) w.terms

-- Does the change meet the wait of this number, where there is one?
abbrev pub met_by : Option WaitInfo → Change → Bool
met_by None c = false
met_by (Some w) c = is_met w c

abbrev pub is_met_at : List WaitInfo → Option ℕ → Change → Bool
is_met_at waits number c = met_by (option_and_then (λ w. slice_get waits w) number) c
