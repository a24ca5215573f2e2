-- What bytes begin with: the longest white space, comment, attribute, token or use of a name behind a backquote
-- (IEEE 1364-2005, clause 3).
use Rattle.std.specs.Prelude.{ℕ, ◌+◌, Bool, false, ◌&&◌, ◌||◌, not, List, [], ◌∷◌, Option, Some, None, if◌then◌else◌, length, take, drop, bytes_eq, nat_lt, ◌==◌}
use Rattle.std.specs.List.{prefix_len}
use Rattle.std.specs.Option.{option_map}
use Rattle.vh_base.specs.declared.faults.DesignFault.TheVariants.{L1, L5, L6}
use Rattle.vh_lex.specs.declared.keyword.Keyword.{Keyword}
use Rattle.vh_lex.specs.declared.symbol.Symbol.{Symbol as SymbolOf}
use Rattle.vh_lex.specs.declared.token.Kind.{Kind}
use Rattle.vh_lex.specs.declared.token.Kind.TheVariants.{Word, Symbol, Name, SysName}
use Rattle.vh_lex.specs.declared.piece.Part.TheVariants.{Token, Module, Use}
use Rattle.vh_lex.specs.declared.piece.Piece.{Piece}
use Rattle.vh_lex.specs.declared.piece.Piece.TheVariants.{Blank, Kept, Fault}
use Rattle.vh_lex.specs.Bytes.{begins, begins_with, through, is_line_byte, is_source, is_graphic, is_name_byte}
use Rattle.vh_base.specs.Classes.{is_space, is_name_start, is_digit}
use Rattle.vh_lex.specs.Keywords.{module_word, keyword_of}
use Rattle.vh_lex.specs.Symbols.{symbol_at}
use Rattle.vh_lex.specs.Numbers.{number_at}
use Rattle.vh_lex.specs.Texts.{text_at}

-- How many bytes the comment has with which bytes begin, if they begin with one that has an end (3.3)
abbrev pub comment_len : List ℕ → Option ℕ
comment_len bytes =
    if begins_with 47 47 bytes then Some (prefix_len is_line_byte bytes)
    else (if begins_with 47 42 bytes then option_map (λ len. len + 2) (through 42 47 false (drop 2 bytes)) else None)

-- A name, and how many bytes it has
pub record Named : Type 0 where
  pub name : List ℕ
  pub len : ℕ

-- The name with which bytes begin: a simple one, or an escaped one without its backslash (3.7, 3.7.1)
abbrev pub escaped_name : ℕ → List ℕ → Option Named
escaped_name len bytes = if nat_lt 0 len then Some (record { name = take len bytes; len = len + 1 }) else None

abbrev pub simple_name : List ℕ → Named
simple_name bytes = record { name = take (prefix_len is_name_byte bytes) bytes; len = prefix_len is_name_byte bytes }

-- A name without a backslash, which alone can be a directive's word (own; 19)
abbrev pub word_name : List ℕ → Option Named
word_name bytes = if begins is_name_start bytes then Some (simple_name bytes) else None

abbrev pub name_of : List ℕ → Option Named
name_of bytes =
    if begins is_name_start bytes then Some (simple_name bytes)
    else (if begins (λ b. b == 92) bytes then escaped_name (prefix_len is_graphic (drop 1 bytes)) (drop 1 bytes) else None)

-- A name above 1,024 bytes is L6 (3.7; the limit own)
abbrev pub is_long : List ℕ → Bool
is_long name = nat_lt 1024 (length name)

-- A token of a name, of so many bytes
abbrev pub named : (List ℕ → Kind) → List ℕ → ℕ → Piece
named kind name len = if is_long name then Fault L6 0 else Kept (Token (kind name)) len

-- A word that is no `module`: a keyword or a name (3.7, 3.7.2)
abbrev pub word_by : Option Keyword → List ℕ → Piece
word_by (Some keyword) word = Kept (Token (Word keyword)) (length word)
word_by None word = named Name word (length word)

abbrev pub word_of : List ℕ → Piece
word_of word = if bytes_eq module_word word then Kept Module (length word) else word_by (keyword_of word) word

abbrev pub word_at : List ℕ → Piece
word_at bytes = word_of (take (prefix_len is_name_byte bytes) bytes)

-- A system name; a dollar sign alone begins none (3.7.3)
abbrev pub system_of : List ℕ → Piece
system_of name = if nat_lt 1 (length name) then named SysName name (length name) else Fault L1 0

abbrev pub system_at : List ℕ → Piece
system_at bytes = system_of (take (prefix_len is_name_byte bytes) bytes)

-- An escaped name, which is never reserved (3.7.1)
abbrev pub escaped_by : Option Named → Piece
escaped_by None = Fault L1 0
escaped_by (Some n) = named Name n.name n.len

-- A backquote before a name (clause 19)
abbrev pub use_by : Option Named → Piece
use_by None = Fault L1 0
use_by (Some n) = Kept (Use n.name) (n.len + 1)

-- An operator or a symbol (3.4)
abbrev pub symbol_by : Option (List ℕ × SymbolOf) → Piece
symbol_by None = Fault L1 0
symbol_by (Some row) = Kept (Token (Symbol row.1)) (length row.0)

abbrev pub symbol_piece : List ℕ → Piece
symbol_piece bytes = symbol_by (symbol_at bytes)

-- A comment, an operator, or L5 where a comment has no end (3.3)
abbrev pub slash_piece : Option ℕ → List ℕ → Piece
slash_piece (Some len) bytes = Blank len
slash_piece None bytes = if begins_with 47 42 bytes then Fault L5 0 else symbol_piece bytes

-- An attribute begins with `(*`, unless `)` is what stands behind that and white space (3.8; own)
abbrev pub begins_attribute : List ℕ → Bool
begins_attribute bytes =
    begins_with 40 42 bytes && not (begins (λ b. b == 41) (drop (prefix_len is_space (drop 2 bytes)) (drop 2 bytes)))

-- A byte outside 33 to 126 that is no white space is L1 in an attribute too (own)
abbrev pub attribute_by : ℕ → ℕ → Piece
attribute_by clean len = if nat_lt clean len then Fault L1 clean else Blank len

-- An attribute from `(*` to the next `*)`, or L5 where it has no end (3.8)
abbrev pub attribute_of : Option ℕ → List ℕ → Piece
attribute_of None bytes = Fault L5 0
attribute_of (Some len) bytes = attribute_by (prefix_len is_source (take (len + 2) bytes)) (len + 2)

abbrev pub bracket_at : List ℕ → Piece
bracket_at bytes =
    if begins_attribute bytes then attribute_of (through 42 41 false (drop 2 bytes)) bytes else symbol_piece bytes

-- By a first byte that is no white space and begins no word or number; one that begins no token is L1 (3.1)
abbrev pub symbolic : ℕ → List ℕ → List ℕ → Piece
symbolic byte behind bytes =
    if byte == 36 then system_at bytes
    else (if byte == 34 then text_at behind
    else (if byte == 92 then escaped_by (name_of bytes)
    else (if byte == 96 then use_by (name_of behind)
    else (if byte == 47 then slash_piece (comment_len bytes) bytes
    else (if byte == 40 then bracket_at bytes else symbol_piece bytes)))))

-- By the first byte (3.1)
abbrev pub beginning : List ℕ → Piece
beginning [] = Blank 0
beginning (byte ∷ bytes) =
    if is_space byte then Blank (prefix_len is_space (byte ∷ bytes))
    else (if is_name_start byte then word_at (byte ∷ bytes)
    else (if is_digit byte || byte == 39 then number_at (byte ∷ bytes) else symbolic byte bytes (byte ∷ bytes)))
