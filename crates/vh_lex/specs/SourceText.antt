-- What files spell, as a tree: text is a row of pieces and conditionals, and a conditional is text {`elsif text} [`else text] `endif,
-- of which one text at most is read (IEEE 1364-2005, clauses 3 and 19).
use Rattle.std.specs.Prelude.{◌≡◌, ℕ, ◌+◌, ◌≤◌, Bool, true, false, List, [], ◌∷◌, ◌++◌, Option, Some, None, Ok, length, take, drop, is_some, ◌==◌}
use Rattle.std.specs.List.{list_any, prefix_len}
use Rattle.vh_base.specs.declared.place.Place.{Place}
use Rattle.vh_lex.specs.declared.token.Kind.{Kind}
use Rattle.vh_lex.specs.declared.token.Token.{Token}
use Rattle.vh_lex.specs.declared.setting.Setting.{Setting}
use Rattle.vh_lex.specs.declared.setting.DefaultNet.{DefaultNet}
use Rattle.vh_lex.specs.declared.directive.Directive.{Directive}
use Rattle.vh_lex.specs.declared.directive.Directive.TheVariants as directive
use Rattle.vh_lex.specs.declared.piece.Part.{Part}
use Rattle.vh_lex.specs.declared.piece.Part.TheVariants.{Use}
use Rattle.vh_lex.specs.declared.piece.Piece.TheVariants.{Blank, Kept}
use Rattle.vh_lex.specs.Bytes.{begins, begins_with, is_line_end, is_name_byte}
use Rattle.vh_lex.specs.Beginning.{Named, beginning, comment_len, name_of, word_name, is_long}
use Rattle.vh_lex.specs.MacroTexts.{macro_text, macro_len}
use Rattle.vh_lex.specs.State.{first_setting}
use Rattle.vh_lex.specs.Directives.{Found, directive_of, directive_behind, gap_len, name_behind, condition, time_behind, slash_behind, net_of, net_word}
use Rattle.vh_lex.specs.Lexed.{File}
use Rattle.vh_lex.specs.Places.{place_behind}
use Rattle.vh_lex.specs.MacroTokens.{Macros, no_macros, with_text, token_of, Gives}

-- How far the files are gone over: the bytes that are left of this one, and those that are passed; its number, and the files behind
-- it; the macros and what else directives have set; and the tokens so far, with the number of uses that they took.
pub record At : Type 0 where
  pub bytes : List ℕ
  pub passed : List ℕ
  pub file : ℕ
  pub files : List File
  pub macros : Macros
  pub setting : Setting
  pub tokens : List Token
  pub uses : ℕ

-- The place of the next byte
abbrev pub place_of : At → Place
place_of a = place_behind a.file a.passed

-- Behind a piece of so many bytes
abbrev pub past : ℕ → At → At
past len a = record a { bytes = drop len a.bytes; passed = a.passed ++ take len a.bytes }

-- A token more, where the piece stands
abbrev pub with_kind : Kind → At → At
with_kind k a = record a { tokens = a.tokens ++ record { kind = k; place = place_of a } ∷ [] }

-- Before the first file, and where a file begins
abbrev pub before : List File → At
before files = record { bytes = []; passed = []; file = 0; files = files; macros = no_macros; setting = first_setting; tokens = []; uses = 0 }

abbrev pub at_start : File → List File → At → At
at_start f fs a = record a { bytes = f.bytes; passed = []; file = f.number; files = fs }

-- A backquote and a directive's word stand there, of so many bytes; in text that is read or skipped.
pub record IsWord (d : Directive) (a : At) (len : ℕ) : Type 0 where
  pub name : Named
  pub quote : begins (λ b. b == 96) a.bytes ≡ true
  pub word : word_name (drop 1 a.bytes) ≡ Some name
  pub directive : directive_of name.name ≡ Some d
  pub long : len ≡ name.len + 1

-- `define: the name on its line, that no directive has, and with no `(` behind it; and the text (19.3.1)
pub record Defines (a : At) (name text : List ℕ) (len : ℕ) : Type 0 where
  pub at : ℕ
  pub word : IsWord directive.Define a at
  pub named : Named
  pub on_line : list_any is_line_end (take (gap_len (drop at a.bytes)) (drop at a.bytes)) ≡ false
  pub found : name_of (drop (gap_len (drop at a.bytes)) (drop at a.bytes)) ≡ Some named
  pub is_free : is_some (directive_of named.name) ≡ false
  pub is_plain : begins (λ b. b == 40) (drop named.len (drop (gap_len (drop at a.bytes)) (drop at a.bytes))) ≡ false
  pub is_short : is_long named.name ≡ false
  pub name_is : name ≡ named.name
  pub text_is : text ≡ macro_text (drop named.len (drop (gap_len (drop at a.bytes)) (drop at a.bytes)))
  pub long : len ≡ at + gap_len (drop at a.bytes) + named.len + macro_len (drop named.len (drop (gap_len (drop at a.bytes)) (drop at a.bytes)))

-- A directive with a name behind it (19.3.2, 19.4)
pub record Names (d : Directive) (a : At) (name : List ℕ) (len : ℕ) : Type 0 where
  pub at : ℕ
  pub from : ℕ
  pub word : IsWord d a at
  pub named : Named
  pub found : name_behind at (drop at a.bytes) ≡ Ok (from, named)
  pub name_is : name ≡ named.name
  pub long : len ≡ from + named.len

-- What a directive of settings makes of them, and how many bytes it has, where so many stand before the given ones (19.2, 19.6, 19.8)
pub record Scales (at : ℕ) (bytes : List ℕ) (old new : Setting) (len : ℕ) : Type 0 where
  pub unit : Found
  pub precision : Found
  pub first : time_behind bytes ≡ Some unit
  pub second : slash_behind (drop unit.len bytes) ≡ Some precision
  pub is_fine : precision.value ≤ unit.value
  pub set : new ≡ record old { unit = unit.value; precision = precision.value }
  pub long : len ≡ at + unit.len + precision.len

pub record Nets (at : ℕ) (bytes : List ℕ) (old new : Setting) (len : ℕ) : Type 0 where
  pub net : DefaultNet
  pub found : net_of (net_word (drop (gap_len bytes) bytes)) ≡ Some net
  pub set : new ≡ record old { default_net = net }
  pub long : len ≡ at + gap_len bytes + prefix_len is_name_byte (drop (gap_len bytes) bytes)

abbrev pub Sets : Directive → ℕ → List ℕ → Setting → Setting → ℕ → Type 0
Sets directive.Timescale at bytes old new len = Scales at bytes old new len
Sets directive.DefaultNettype at bytes old new len = Nets at bytes old new len
Sets directive.Resetall at bytes old new len = (new ≡ first_setting) × (len ≡ at)
Sets _ at bytes old new len = ⊥

-- A piece of text that is read, of one byte at least: the longest blank, token or use, or a directive but those of conditionals; or the end of a file
-- before another one. The limits are those of all files.
pub data Goes : At → At → Type 0 where
  blank : {a : At} (len : ℕ) → 1 ≤ len → beginning a.bytes ≡ Blank len → Goes a (past len a)
  token : {a : At} (p : Part) (k : Kind) (len : ℕ) → beginning a.bytes ≡ Kept p len → token_of a.setting p ≡ Some k → length a.tokens + 1 ≤ 4194304
      → Goes a (past len (with_kind k a))
  -- the tokens of the macro's text stand where the use does; at most 64 uses are open at one time
  macro : {a : At} (name text : List ℕ) (len inner : ℕ) (tokens : List Token) → beginning a.bytes ≡ Kept (Use name) len
      → directive_behind (drop 1 a.bytes) name ≡ None → a.macros name ≡ Some text → Gives a.macros a.setting (place_of a) 63 text tokens inner
      → length (a.tokens ++ tokens) ≤ 4194304 → a.uses + 1 + inner ≤ 1048576
      → Goes a (past len (record a { tokens = a.tokens ++ tokens; uses = a.uses + 1 + inner }))
  define : {a : At} (name text : List ℕ) (len : ℕ) → Defines a name text len → Goes a (past len (record a { macros = with_text name (Some text) a.macros }))
  undef : {a : At} (name : List ℕ) (len : ℕ) → Names directive.Undef a name len → Goes a (past len (record a { macros = with_text name None a.macros }))
  sets : {a : At} (d : Directive) (at len : ℕ) (new : Setting) → IsWord d a at → Sets d at (drop at a.bytes) a.setting new len
      → Goes a (past len (record a { setting = new }))
  file : {a : At} (f : File) (fs : List File) → a.bytes ≡ [] → a.files ≡ f ∷ fs → Goes a (at_start f fs a)

-- The directives of conditionals, which are seen in skipped text (19.4)
abbrev pub is_conditional : Option Directive → Bool
is_conditional None = false
is_conditional (Some directive.Ifdef) = true
is_conditional (Some directive.Ifndef) = true
is_conditional (Some directive.Elsif) = true
is_conditional (Some directive.Else) = true
is_conditional (Some directive.Endif) = true
is_conditional (Some _) = false

-- A piece of skipped text: a comment; a byte that begins none, and no word behind a backquote; such a word, but that of a
-- conditional; or the end of a file before another one (19.4; own).
pub data Passes : At → At → Type 0 where
  comment : {a : At} (len : ℕ) → comment_len a.bytes ≡ Some len → Passes a (past len a)
  byte : {a : At} (byte : ℕ) (bytes : List ℕ) → a.bytes ≡ byte ∷ bytes → comment_len a.bytes ≡ None → begins_with 47 42 a.bytes ≡ false
      → byte == 96 ≡ false → Passes a (past 1 a)
  quote : {a : At} → begins (λ b. b == 96) a.bytes ≡ true → word_name (drop 1 a.bytes) ≡ None → Passes a (past 1 a)
  word : {a : At} (name : Named) → begins (λ b. b == 96) a.bytes ≡ true → word_name (drop 1 a.bytes) ≡ Some name
      → is_conditional (directive_of name.name) ≡ false → Passes a (past (name.len + 1) a)
  skipped_file : {a : At} (f : File) (fs : List File) → a.bytes ≡ [] → a.files ≡ f ∷ fs → Passes a (at_start f fs a)

-- `ifdef, or `ifndef, whose condition holds or not; `elsif; `else and `endif (19.4)
pub data If : Bool → At → At → Type 0 where
  ifdef : {a : At} (name : List ℕ) (len : ℕ) → Names directive.Ifdef a name len → If (condition true (is_some (a.macros name))) a (past len a)
  ifndef : {a : At} (name : List ℕ) (len : ℕ) → Names directive.Ifndef a name len → If (condition false (is_some (a.macros name))) a (past len a)

pub data Elsif : Bool → At → At → Type 0 where
  elsif : {a : At} (name : List ℕ) (len : ℕ) → Names directive.Elsif a name len → Elsif (is_some (a.macros name)) a (past len a)

pub data Else : At → At → Type 0 where
  else_ : {a : At} (len : ℕ) → IsWord directive.Else a len → Else a (past len a)

pub data Endif : At → At → Type 0 where
  endif : {a : At} (len : ℕ) → IsWord directive.Endif a len → Endif a (past len a)

mutual
  -- Text that is read;
  pub data Reads : At → At → Type 0 where
    read_end : {a : At} → Reads a a
    read_piece : {a b c : At} → Goes a b → Reads b c → Reads a c
    -- a conditional whose first text is read, and no other one;
    read_chosen : {a b c d e : At} → If true a b → Reads b c → Others c d → Reads d e → Reads a e
    -- or is skipped, so that a later one may be read
    read_sought : {a b c d e : At} → If false a b → Skips b c → Seeks c d → Reads d e → Reads a e

  -- text that is skipped, and with it all texts of conditionals in it;
  pub data Skips : At → At → Type 0 where
    skip_end : {a : At} → Skips a a
    skip_piece : {a b c : At} → Passes a b → Skips b c → Skips a c
    skip_conditional : {holds : Bool} {a b c d e : At} → If holds a b → Skips b c → Others c d → Skips d e → Skips a e

  -- the rest of a conditional behind a text, where all other texts are skipped;
  pub data Others : At → At → Type 0 where
    other_elsif : {holds : Bool} {a b c d : At} → Elsif holds a b → Skips b c → Others c d → Others a d
    other_else : {a b c d : At} → Else a b → Skips b c → Endif c d → Others a d
    other_endif : {a b : At} → Endif a b → Others a b

  -- and where the first text is read whose condition holds, or else that of `else.
  pub data Seeks : At → At → Type 0 where
    seek_chosen : {a b c d : At} → Elsif true a b → Reads b c → Others c d → Seeks a d
    seek_elsif : {a b c d : At} → Elsif false a b → Skips b c → Seeks c d → Seeks a d
    seek_else : {a b c d : At} → Else a b → Reads b c → Endif c d → Seeks a d
    seek_endif : {a b : At} → Endif a b → Seeks a b

-- The files have this text: it is read from before the first file to the end of the last.
pub record HasText (files : List File) (tokens : List Token) : Type 0 where
  pub last : At
  pub text : Reads (before files) last
  pub ends : last.bytes ≡ []
  pub is_last : last.files ≡ []
  pub tokens_are : last.tokens ≡ tokens
