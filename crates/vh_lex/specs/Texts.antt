-- The string with which bytes begin: where it ends, and its bytes after the escapes (IEEE 1364-2005, 3.6).
use Rattle.std.specs.Prelude.{ℕ, zero, suc, ◌+◌, ◌-◌, ◌*◌, Bool, true, false, ◌&&◌, ◌||◌, List, [], ◌∷◌, Option, Some, None, if◌then◌else◌, length, min, take, nat_le, nat_lt, ◌==◌}
use Rattle.std.specs.List.{prefix_len}
use Rattle.vh_base.specs.declared.faults.DesignFault.TheVariants.{L4, L5, L6}
use Rattle.vh_lex.specs.declared.text.Escape.{Escape}
use Rattle.vh_lex.specs.declared.token.Kind.TheVariants.{Text}
use Rattle.vh_lex.specs.declared.piece.Part.TheVariants.{Token}
use Rattle.vh_lex.specs.declared.piece.Piece.{Piece}
use Rattle.vh_lex.specs.declared.piece.Piece.TheVariants.{Kept, Fault}
use Rattle.vh_lex.specs.Bytes.{is_text, is_octal, one_more}

-- How many bytes stand before the quote that ends a string, if all are bytes 32 to 126 up to there; `escaped`
-- says that a backslash stands before the bytes (3.6; the codes own)
abbrev pub text_len : Bool → List ℕ → Option ℕ
text_len escaped [] = None
text_len true (byte ∷ bytes) = if is_text byte then one_more (text_len false bytes) else None
text_len false (byte ∷ bytes) =
    if byte == 34 then Some 0 else (if is_text byte then one_more (text_len (byte == 92) bytes) else None)

-- The number of one to three octal digits (3.6.3)
abbrev pub octal_digit : ℕ → ℕ
octal_digit byte = byte - 48

abbrev pub octal_value : List ℕ → ℕ
octal_value [] = 0
octal_value (one ∷ []) = octal_digit one
octal_value (two ∷ one ∷ []) = octal_digit two * 8 + octal_digit one
octal_value (three ∷ two ∷ one ∷ []) = octal_digit three * 64 + octal_digit two * 8 + octal_digit one
octal_value (a ∷ b ∷ c ∷ d ∷ more) = 0

-- One to three octal digits up to 377 (3.6.3)
abbrev pub octal_of : ℕ → ℕ → Option Escape
octal_of len value = if nat_lt 0 len && nat_le value 255 then Some (record { byte = value; len = len }) else None

abbrev pub octal_len : List ℕ → ℕ
octal_len bytes = min (prefix_len is_octal bytes) 3

abbrev pub octal_at : List ℕ → Option Escape
octal_at bytes = octal_of (octal_len bytes) (octal_value (take (octal_len bytes) bytes))

-- The escape behind a backslash, if it is one (3.6.3)
abbrev pub escape_at : List ℕ → Option Escape
escape_at [] = None
escape_at (byte ∷ bytes) =
    if byte == 110 then Some (record { byte = 10; len = 1 })
    else (if byte == 116 then Some (record { byte = 9; len = 1 })
    else (if byte == 92 || byte == 34 then Some (record { byte = byte; len = 1 }) else octal_at (byte ∷ bytes)))

-- The bytes of a string after its escapes, up to the first backslash that begins no escape, and where that one stands
pub record Decoded : Type 0 where
  pub bytes : List ℕ
  pub wrong : Option ℕ

-- A byte before them
abbrev pub preceded : ℕ → Decoded → Decoded
preceded byte rest = record { bytes = byte ∷ rest.bytes; wrong = one_more rest.wrong }

abbrev pub escaped_then : Option Escape → (ℕ → Decoded) → Decoded
escaped_then None rest = record { bytes = []; wrong = Some 0 }
escaped_then (Some e) rest = preceded e.byte (rest e.len)

-- The bytes after the first so many, which belong to an escape
abbrev pub decoded_after : ℕ → List ℕ → Decoded
decoded_after skip [] = record { bytes = []; wrong = None }
decoded_after (suc skip) (byte ∷ bytes) = record (decoded_after skip bytes) { wrong = one_more (decoded_after skip bytes).wrong }
decoded_after zero (byte ∷ bytes) =
    if byte == 92 then escaped_then (escape_at bytes) (λ len. decoded_after len bytes) else preceded byte (decoded_after 0 bytes)

abbrev pub decoded : List ℕ → Decoded
decoded bytes = decoded_after 0 bytes

-- The string of so many bytes between its quotes: above 4,096 bytes L6 at its start, else L4 at a wrong escape (3.6; the limit own)
abbrev pub text_by : Option ℕ → List ℕ → ℕ → Piece
text_by None bytes len = Kept (Token (Text bytes)) (len + 2)
text_by (Some wrong) bytes len = Fault L4 (wrong + 1)

abbrev pub text_within : Decoded → ℕ → Piece
text_within d len = if nat_le (length d.bytes) 4096 then text_by d.wrong d.bytes len else Fault L6 0

-- The string whose bytes after the first quote these are; L5 at its start where it has no end (3.6)
abbrev pub text_of : Option ℕ → List ℕ → Piece
text_of None bytes = Fault L5 0
text_of (Some len) bytes = text_within (decoded (take len bytes)) len

abbrev pub text_at : List ℕ → Piece
text_at bytes = text_of (text_len false bytes) bytes
