-- The text of a macro: how far it goes, and its parts (IEEE 1364-2005, 19.3.1).
use Rattle.std.specs.Prelude.{ℕ, zero, suc, ◌+◌, ◌-◌, Bool, true, false, ◌&&◌, ◌||◌, not, List, [], ◌∷◌, Option, Some, None, if◌then◌else◌, take, drop, ◌==◌}
use Rattle.std.specs.List.{prefix_len}
use Rattle.vh_lex.specs.declared.piece.Part.{Part}
use Rattle.vh_lex.specs.declared.piece.Part.TheVariants.{Wrong}
use Rattle.vh_lex.specs.declared.piece.Piece.{Piece}
use Rattle.vh_lex.specs.declared.piece.Piece.TheVariants.{Blank, Kept, Fault}
use Rattle.vh_lex.specs.declared.macro_text.Mode.{Mode}
use Rattle.vh_lex.specs.declared.macro_text.Mode.TheVariants.{Plain, Quoted, Comment}
use Rattle.vh_lex.specs.Bytes.{begins, begins_with, is_line_end, is_line_byte}
use Rattle.vh_lex.specs.Beginning.{beginning}

-- What the bytes behind one stand in, and whether the next of them belongs to this one (a line feed to a carriage return)
pub record Turn : Type 0 where
  pub passes : Bool
  pub mode : Mode

abbrev pub goes_on : Bool → Mode → Option Turn
goes_on passes mode = Some (record { passes = passes; mode = mode })

-- A line feed, alone or behind a carriage return (own; 19.3.1)
abbrev pub ends_line : List ℕ → Bool
ends_line bytes = begins is_line_end bytes || begins_with 13 10 bytes

-- A backslash before the line's end, which continues the text (19.3.1)
abbrev pub continues : ℕ → List ℕ → Bool
continues byte bytes = byte == 92 && ends_line bytes

-- The bytes begin with such a backslash
abbrev pub begins_continued : List ℕ → Bool
begins_continued [] = false
begins_continued (byte ∷ bytes) = continues byte bytes

-- Two bytes together
abbrev pub is_pair : ℕ → ℕ → ℕ → List ℕ → Bool
is_pair first second byte bytes = byte == first && begins (λ b. b == second) bytes

-- A byte that stands in no string and no comment: a line end or a `//` ends the text (19.3.1)
abbrev pub plain_turn : ℕ → List ℕ → Option Turn
plain_turn byte bytes =
    if is_line_end byte || is_pair 47 47 byte bytes then None
    else (if continues byte bytes then goes_on true Plain
    else (if is_pair 47 42 byte bytes then goes_on true Comment
    else goes_on false (if byte == 34 then Quoted else Plain)))

-- A byte of a string: a backslash takes the next byte with it, unless that one continues the text
abbrev pub quoted_turn : ℕ → List ℕ → Option Turn
quoted_turn byte bytes =
    if is_line_end byte then None
    else (if continues byte bytes then goes_on true Plain
    else (if byte == 92 then goes_on (not (begins_continued bytes)) Quoted
    else goes_on false (if byte == 34 then Plain else Quoted)))

-- A byte of a comment
abbrev pub comment_turn : ℕ → List ℕ → Option Turn
comment_turn byte bytes =
    if is_line_end byte then None
    else (if continues byte bytes then goes_on true Comment
    else (if is_pair 42 47 byte bytes then goes_on true Plain else goes_on false Comment))

abbrev pub turn : Bool → Mode → ℕ → List ℕ → Option Turn
turn true mode byte bytes = goes_on (is_pair 13 10 byte bytes) mode
turn false Plain byte bytes = plain_turn byte bytes
turn false Quoted byte bytes = quoted_turn byte bytes
turn false Comment byte bytes = comment_turn byte bytes

-- A byte more than the rest, unless the text ends at it
abbrev pub turned : Option Turn → (Bool → Mode → ℕ) → ℕ
turned None rest = 0
turned (Some t) rest = 1 + rest t.passes t.mode

-- How many bytes a macro's text has: it runs to the line's end, a backslash before the line's end continuing it, or to
-- a `//` that stands in no string and no comment (19.3.1; own where a string or a comment has no end)
abbrev pub text_end : Bool → Mode → List ℕ → ℕ
text_end passes mode [] = 0
text_end passes mode (byte ∷ bytes) = turned (turn passes mode byte bytes) (λ p m. text_end p m bytes)

abbrev pub macro_text_len : List ℕ → ℕ
macro_text_len bytes = text_end false Plain bytes

-- The bytes without each backslash that stands before a line end (19.3.1)
abbrev pub joined_lines : List ℕ → List ℕ
joined_lines [] = []
joined_lines (byte ∷ bytes) = if continues byte bytes then joined_lines bytes else byte ∷ joined_lines bytes

-- The text that stands behind a macro's name, and how many bytes it has with a comment that ends it
abbrev pub macro_text : List ℕ → List ℕ
macro_text bytes = joined_lines (take (macro_text_len bytes) bytes)

abbrev pub macro_len : List ℕ → ℕ
macro_len bytes = macro_text_len bytes + prefix_len is_line_byte (drop (macro_text_len bytes) bytes)

-- A piece, and the parts of what follows the first so many bytes behind it
abbrev pub piece_then : Piece → (ℕ → List Part) → List Part
piece_then (Blank len) rest = rest (len - 1)
piece_then (Kept part len) rest = part ∷ rest (len - 1)
piece_then (Fault fault at) rest = Wrong fault ∷ []

-- The parts of the bytes after the first so many, which belong to a part
abbrev pub parts_after : ℕ → List ℕ → List Part
parts_after skip [] = []
parts_after (suc skip) (byte ∷ bytes) = parts_after skip bytes
parts_after zero (byte ∷ bytes) = piece_then (beginning (byte ∷ bytes)) (λ skip. parts_after skip bytes)

-- The parts of a text, up to its first fault: they do not depend on where the text is used
abbrev pub parts_of : List ℕ → List Part
parts_of bytes = parts_after 0 bytes
