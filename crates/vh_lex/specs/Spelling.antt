-- How the bytes of files spell tokens: one piece after the other from the left (IEEE 1364-2005, clauses 3 and 19).
use Rattle.std.specs.Prelude.{ℕ, zero, suc, ◌+◌, ◌-◌, Bool, true, false, List, [], ◌∷◌, ◌++◌, Option, Some, None, Result, Ok, Err, if◌then◌else◌, length, take, drop, nat_lt, is_some, ◌==◌}
use Rattle.vh_base.specs.declared.place.Place.{Place}
use Rattle.vh_base.specs.declared.faults.DesignFault.{DesignFault}
use Rattle.vh_base.specs.declared.faults.DesignFault.TheVariants.{L3, L5, L6}
use Rattle.vh_lex.specs.declared.token.Kind.{Kind}
use Rattle.vh_lex.specs.declared.token.Kind.TheVariants as kind
use Rattle.vh_lex.specs.declared.piece.Part.{Part}
use Rattle.vh_lex.specs.declared.piece.Part.TheVariants as part
use Rattle.vh_lex.specs.declared.piece.Piece.{Piece}
use Rattle.vh_lex.specs.declared.piece.Piece.TheVariants as piece
use Rattle.vh_lex.specs.declared.setting.Setting.{Setting}
use Rattle.vh_lex.specs.declared.directive.Directive.{Directive}
use Rattle.vh_lex.specs.Bytes.{begins, begins_with}
use Rattle.vh_lex.specs.Beginning.{Named, word_name, comment_len, beginning}
use Rattle.vh_lex.specs.Gathered.{MacroRows, Gathered, macro_of}
use Rattle.vh_lex.specs.Conditionals.{skips}
use Rattle.vh_lex.specs.State.{State, moved}
use Rattle.vh_lex.specs.Directives.{Step, directive_of, directive_behind, directed, seen_directive}

-- Where a part stands: the macros and what the directives set, and the place that its tokens have
pub record Around : Type 0 where
  pub macros : MacroRows
  pub setting : Setting
  pub place : Place

-- What parts come to: the tokens and uses with theirs, or a fault
abbrev pub Making : Type 0
Making = Result Gathered DesignFault

abbrev pub and_then : Making → (Gathered → Making) → Making
and_then (Ok m) f = f m
and_then (Err fault) f = Err fault

-- A token more; past the 4,194,304th it is L6 (own)
abbrev pub with_token : Kind → Place → Gathered → Making
with_token kind place m =
    if nat_lt (length m.tokens) 4194304 then Ok (record m { tokens = m.tokens ++ record { kind = kind; place = place } ∷ [] }) else Err L6

-- A name behind a backquote, in text that is read at `inner`: a directive in a macro's text and an undefined macro are L3
-- (19.3.1; the first own)
abbrev pub used_by : (List Part → Gathered → Making) → Option (List Part) → Gathered → Making
used_by inner None m = Err L3
used_by inner (Some text) m = inner text m

abbrev pub used : (List Part → Gathered → Making) → Around → List ℕ → Gathered → Making
used inner around name m = used_by inner (macro_of name around.macros) m

abbrev pub used_within : Bool → (List Part → Gathered → Making) → Around → List ℕ → Gathered → Making
used_within true inner around name m = Err L3
used_within false inner around name m = used inner around name m

-- A part of a macro's text (19.3.1)
abbrev pub part_made : (List Part → Gathered → Making) → Around → Part → Gathered → Making
part_made inner around (part.Token kind) m = with_token kind around.place m
part_made inner around part.Module m = with_token (kind.Module around.setting) around.place m
part_made inner around (part.Use name) m = used_within (is_some (directive_of name)) inner around name m
part_made inner around (part.Wrong fault) m = Err fault

-- The parts of a macro's text, the macros in it being read by `inner`
abbrev pub parts_made : (List Part → Gathered → Making) → Around → List Part → Gathered → Making
parts_made inner around [] m = Ok m
parts_made inner around (p ∷ ps) m = and_then (part_made inner around p m) (parts_made inner around ps)

-- A macro use more; past the 1,048,576th it is L6 (own)
abbrev pub with_use : Gathered → Making
with_use m = if nat_lt m.uses 1048576 then Ok (record m { uses = m.uses + 1 }) else Err L6

-- The use of a macro with this text, where so many levels of uses may still be open: its text is read where it is used,
-- and so is that of each macro in it; above the last level it is L3 (19.3.1; the limit own)
unfoldable pub expanded : ℕ → Around → List Part → Gathered → Making
expanded zero around text m = Err L3
expanded (suc levels) around text m = and_then (with_use m) (parts_made (expanded levels around) around text)

-- The greatest number of uses that are open at one time (own)
abbrev pub most_levels : ℕ
most_levels = 64

-- Tokens and uses in a state, and how many bytes gave them
abbrev pub made_in : State → ℕ → Making → Step
made_in s len (Ok m) = Ok (record s { made = m }, len)
made_in s len (Err fault) = Err (fault, 0)

abbrev pub around_of : State → Around
around_of s = record { macros = s.macros; setting = s.setting; place = s.place }

-- A name behind a backquote in the source, behind which the bytes stand: a directive, or the use of a macro (clause 19)
abbrev pub name_read : Option Directive → List ℕ → ℕ → List ℕ → State → Step
name_read (Some d) name len behind s = directed d len behind s
name_read None name len behind s = made_in s len (used (expanded most_levels (around_of s)) (around_of s) name s.made)

-- A part that the bytes of the source begin with
abbrev pub part_read : Part → ℕ → List ℕ → State → Step
part_read (part.Token kind) len bytes s = made_in s len (with_token kind s.place s.made)
part_read part.Module len bytes s = made_in s len (with_token (kind.Module s.setting) s.place s.made)
part_read (part.Use name) len bytes s = name_read (directive_behind (drop 1 bytes) name) name len (drop len bytes) s
part_read (part.Wrong fault) len bytes s = Err (fault, 0)

-- What the bytes of the source begin with
abbrev pub piece_read : Piece → List ℕ → State → Step
piece_read (piece.Blank len) bytes s = Ok (s, len)
piece_read (piece.Kept p len) bytes s = part_read p len bytes s
piece_read (piece.Fault fault at) bytes s = Err (fault, at)

-- What skipped bytes begin with: a comment, a directive of a conditional, or a byte or another word behind a backquote, of
-- no meaning (own; 19.4)
abbrev pub name_skipped : Option Directive → ℕ → List ℕ → State → Step
name_skipped None at bytes s = Ok (s, at)
name_skipped (Some d) at bytes s = seen_directive d at bytes s

abbrev pub use_skipped : Option Named → List ℕ → State → Step
use_skipped None bytes s = Ok (s, 1)
use_skipped (Some n) bytes s = name_skipped (directive_of n.name) (n.len + 1) (drop (n.len + 1) bytes) s

abbrev pub comment_skipped : Option ℕ → List ℕ → State → Step
comment_skipped (Some len) bytes s = Ok (s, len)
comment_skipped None bytes s =
    if begins_with 47 42 bytes then Err (L5, 0)
    else (if begins (λ b. b == 96) bytes then use_skipped (word_name (drop 1 bytes)) bytes s else Ok (s, 1))

abbrev pub skipped : List ℕ → State → Step
skipped bytes s = comment_skipped (comment_len bytes) bytes s

-- What bytes begin with
abbrev pub step : List ℕ → State → Step
step bytes s = if skips s.conditionals then skipped bytes s else piece_read (beginning bytes) bytes s

-- Where a fault stands
pub record Stop : Type 0 where
  pub fault : DesignFault
  pub place : Place

-- The state after so many of the bytes, and what follows the first of them; or the fault at its place
abbrev pub step_then : Step → List ℕ → Place → (ℕ → State → Result State Stop) → Result State Stop
step_then (Err wrong) bytes place rest = Err (record { fault = wrong.0; place = moved (take wrong.1 bytes) place })
step_then (Ok went) bytes place rest = rest (went.1 - 1) (record went.0 { place = moved (take went.1 bytes) place })

-- The state after the bytes that follow the first so many, which belong to what stands before
abbrev pub read_after : ℕ → List ℕ → State → Result State Stop
read_after skip [] s = Ok s
read_after (suc skip) (byte ∷ bytes) s = read_after skip bytes s
read_after zero (byte ∷ bytes) s =
    step_then (step (byte ∷ bytes) s) (byte ∷ bytes) s.place (λ skip went. read_after skip bytes went)

-- The state after the bytes, or the first fault
abbrev pub read : List ℕ → State → Result State Stop
read bytes s = read_after 0 bytes s
