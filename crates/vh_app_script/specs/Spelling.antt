-- How the tokens of a script are spelled: the bytes, cut into tokens and white space from the left.
use Rattle.std.specs.Prelude.{◌==◌, ℕ, zero, suc, ◌+◌, ◌-◌, ◌*◌, Bool, true, false, ◌||◌, ◌&&◌, not, List, [], ◌∷◌, length, fold, map, Option, Some, None, if◌then◌else◌, take, drop, nat_lt}
use Rattle.std.specs.List.{prefix_len}
use Rattle.std.specs.Option.{option_map}
use Rattle.vh_base.specs.Classes.{is_between, is_space, is_name_start, is_digit}
use Rattle.vh_app_script.specs.declared.token.Symbol.{Symbol}
use Rattle.vh_app_script.specs.declared.token.Symbol.TheVariants as symbols
use Rattle.vh_app_script.specs.Token.{Terminal, word, number, text, symbol, wrong, Token}

-- A letter, an underscore or a digit, with which a name goes on (own).
abbrev pub is_name_byte : ℕ → Bool
is_name_byte byte = is_name_start byte || is_digit byte

-- What a comment goes on with: anything up to the line feed at the line's end (own).
abbrev pub is_comment_byte : ℕ → Bool
is_comment_byte byte = not (byte == 10)

-- What may stand behind a backslash in a text: the quote and the backslash (own).
abbrev pub is_escaped : ℕ → Bool
is_escaped byte = byte == 34 || byte == 92

-- What bytes begin with: white space or a comment of so many bytes, a token of so many bytes, or
-- neither (own).
pub data Piece : Type 0 where
  blank : ℕ → Piece
  token : Terminal → ℕ → Piece
  no_token : Piece

-- The next byte is this one (own).
abbrev pub begins_with : ℕ → List ℕ → Bool
begins_with byte [] = false
begins_with byte (first ∷ bytes) = first == byte

-- Behind white space and comments stands a "=" that is no "=="; `comment` says that the bytes stand in
-- a comment (own).
abbrev pub aims : Bool → List ℕ → Bool
aims comment [] = false
aims true (byte ∷ bytes) = aims (is_comment_byte byte) bytes
aims false (byte ∷ bytes) =
    if is_space byte then aims false bytes
    else (if byte == 35 then aims true bytes else (byte == 61 && not (begins_with 61 bytes)))

-- The comment that the bytes begin with (own).
abbrev pub comment_at : List ℕ → Piece
comment_at bytes = blank (prefix_len is_comment_byte bytes)

-- The name of so many bytes that the bytes begin with (own).
abbrev pub name_piece : ℕ → List ℕ → Piece
name_piece len bytes = token (word (aims false (drop len bytes)) (take len bytes)) len

-- The name that the bytes begin with, read whole (own).
abbrev pub name_at : List ℕ → Piece
name_at bytes = name_piece (prefix_len is_name_byte bytes) bytes

-- The number that decimal digits spell (own).
abbrev pub value_of : List ℕ → ℕ
value_of spelling = fold (λ n byte. 10 * n + (byte - 48)) 0 spelling

-- The number, if it is below 2^64 (own).
abbrev pub below_limit : ℕ → Option ℕ
below_limit n = if nat_lt n 18446744073709551616 then Some n else None

-- The number of so many digits, if it isn't too large (own).
abbrev pub number_of : Option ℕ → ℕ → Piece
number_of (Some n) len = token (number n) len
number_of None len = no_token

-- The number that the bytes begin with (own).
abbrev pub number_at : List ℕ → Piece
number_at bytes = number_of (below_limit (value_of (take (prefix_len is_digit bytes) bytes))) (prefix_len is_digit bytes)

-- One byte more, if there is an end (own).
abbrev pub one_longer : Option ℕ → Option ℕ
one_longer o = option_map (λ len. len + 1) o

-- How many bytes there are up to the quote that ends a text, if they are bytes 32 to 126 and one of the
-- two escapes at each backslash; `escaped` says that a backslash stands before the bytes (own).
abbrev pub text_len : Bool → List ℕ → Option ℕ
text_len escaped [] = None
text_len true (byte ∷ bytes) = if is_escaped byte then one_longer (text_len false bytes) else None
text_len false (byte ∷ bytes) =
    if byte == 34 then Some 0
    else (if byte == 92 then one_longer (text_len true bytes)
    else (if is_between 32 126 byte then one_longer (text_len false bytes) else None))

-- The bytes without the backslashes of their escapes (own).
abbrev pub unescaped : Bool → List ℕ → List ℕ
unescaped escaped [] = []
unescaped true (byte ∷ bytes) = byte ∷ unescaped false bytes
unescaped false (byte ∷ bytes) = if byte == 92 then unescaped true bytes else byte ∷ unescaped false bytes

-- The text of so many bytes between its quotes, if it has an end (own).
abbrev pub text_of : Option ℕ → List ℕ → Piece
text_of (Some len) bytes = token (text (unescaped false (take len bytes))) (len + 2)
text_of None bytes = no_token

-- A symbol of one byte (own).
abbrev pub one_byte : Symbol → Piece
one_byte m = token (symbol m) 1

-- A symbol of two bytes, if the second stands there, and else this (own).
abbrev pub two_bytes : ℕ → Symbol → List ℕ → Piece → Piece
two_bytes byte m bytes other = if begins_with byte bytes then token (symbol m) 2 else other

-- The symbol that begins with the byte, in front of the bytes (own).
unfoldable pub symbol_at : ℕ → List ℕ → Piece
symbol_at byte bytes =
    if byte == 44 then one_byte symbols.Comma
    else (if byte == 59 then one_byte symbols.Semicolon
    else (if byte == 61 then two_bytes 61 symbols.Equals bytes (one_byte symbols.Becomes)
    else (if byte == 33 then two_bytes 61 symbols.Differs bytes no_token
    else (if byte == 43 then one_byte symbols.Plus
    else (if byte == 40 then one_byte symbols.OpenParen
    else (if byte == 41 then one_byte symbols.CloseParen
    else (if byte == 123 then one_byte symbols.OpenBrace
    else (if byte == 125 then one_byte symbols.CloseBrace else no_token))))))))

-- The text or the symbol that begins with the byte, in front of the bytes (own).
unfoldable pub other_at : ℕ → List ℕ → Piece
other_at byte bytes = if byte == 34 then text_of (text_len false bytes) bytes else symbol_at byte bytes

-- What bytes begin with (own).
abbrev pub piece_at : List ℕ → Piece
piece_at [] = no_token
piece_at (byte ∷ bytes) =
    if is_space byte then blank 1
    else (if byte == 35 then comment_at (byte ∷ bytes)
    else (if is_name_start byte then name_at (byte ∷ bytes)
    else (if is_digit byte then number_at (byte ∷ bytes) else other_at byte bytes)))

-- How many bytes a piece has after its first (own).
abbrev pub further : Piece → ℕ
further (blank len) = len - 1
further (token kind len) = len - 1
further no_token = 0

-- A token with so many bytes left at its place (own).
abbrev pub token_with : Terminal → ℕ → Token
token_with kind left = record { kind = kind; left = left }

-- A piece with so many bytes left at its place, and the tokens of what follows it. Where no token
-- begins the rest counts for nothing (own).
abbrev pub piece_then : Piece → ℕ → List Token → List Token
piece_then (blank len) left more = more
piece_then (token kind len) left more = token_with kind left ∷ more
piece_then no_token left more = token_with wrong left ∷ []

-- The tokens of the bytes after the first so many, which belong to a piece (own).
abbrev pub tokens_after : ℕ → List ℕ → List Token
tokens_after skip [] = []
tokens_after (suc skip) (byte ∷ bytes) = tokens_after skip bytes
tokens_after zero (byte ∷ bytes) =
    piece_then (piece_at (byte ∷ bytes)) (suc (length bytes)) (tokens_after (further (piece_at (byte ∷ bytes))) bytes)

-- The tokens that the bytes spell: each is the longest that can be read there (own).
abbrev pub tokens_of : List ℕ → List Token
tokens_of bytes = tokens_after 0 bytes

-- What the tokens are, without their places (own).
abbrev pub kinds_of : List Token → List Terminal
kinds_of tokens = map (λ t. t.kind) tokens
