-- The texts of macros that are open, the innermost last, as the code keeps them.
use Rattle.std.specs.Prelude.{◌≡◌, ℕ, ◌-◌, Bool, true, false, List, [], ◌∷◌, Option, Some, None, Result, Ok, Err, length, map, reverse, is_some}
use Rattle.std.specs.Borrow.{Bor}
use Rattle.vh_base.specs.declared.faults.DesignFault.TheVariants.{L3}
use Rattle.vh_lex.specs.declared.fault.Halt.{Halt}
use Rattle.vh_lex.specs.declared.fault.Halt.TheVariants as halt
use Rattle.vh_lex.specs.declared.piece.Part.{Part}
use Rattle.vh_lex.specs.declared.expand.Around.{Around as HeldAround}
use Rattle.vh_lex.specs.Directives.{directive_of}
use Rattle.vh_lex.specs.Gathered.{MacroRows, Gathered, macro_of}
use Rattle.vh_lex.specs.Spelling.{Around, Making, and_then, parts_made, expanded, most_levels}

-- Where a macro is used
abbrev pub around_seen : HeldAround → Around
around_seen a = record { macros = a.macros.now; setting = a.setting; place = a.place }

-- The texts that are open, without where they lie
abbrev pub frames_seen : List (Bor (List Part)) → List (List Part)
frames_seen frames = reverse (map (λ frame. frame.now) frames)

-- What the use of a macro comes to while so many texts are open
abbrev pub used_in : Around → ℕ → List Part → Gathered → Making
used_in around depth text m = expanded (most_levels - depth) around text m

-- What the rest of the open texts comes to, the innermost first
abbrev pub finish : Around → List (List Part) → Gathered → Making
finish around [] m = Ok m
finish around (rest ∷ below) m = and_then (parts_made (used_in around (length (rest ∷ below))) around rest m) (finish around below)

-- The open texts are read to their end, or to the use of a macro with this text, or to a fault
abbrev pub Pauses : Around → List (List Part) → Gathered → Result (Option (Bor (List Part))) Halt → List (List Part) → Gathered → Type 0
Pauses around old m (Ok None) new n = finish around old m ≡ Ok n
Pauses around old m (Ok (Some text)) new n = finish around old m ≡ and_then (used_in around (length new) text.now n) (finish around new)
Pauses around old m (Err (halt.Fault fault)) new n = finish around old m ≡ Err fault
Pauses around old m (Err halt.NoMemory) new n = Unit {0}

-- A directive, or no macro
abbrev pub TextMissing : Bool → Option (List Part) → Type 0
TextMissing true text = Unit {0}
TextMissing false text = text ≡ None

-- The text of a macro that is used in a macro's text, or L3 (IEEE 1364-2005, 19.3.1)
abbrev pub UsesText : MacroRows → List ℕ → Result (Bor (List Part)) Halt → Type 0
UsesText macros name (Ok text) = (is_some (directive_of name) ≡ false) × (macro_of name macros ≡ Some text.now)
UsesText macros name (Err (halt.Fault fault)) = (fault ≡ L3) × TextMissing (is_some (directive_of name)) (macro_of name macros)
UsesText macros name (Err halt.NoMemory) = Unit {0}
