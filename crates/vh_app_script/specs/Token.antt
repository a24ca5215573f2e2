-- What a token of a script is.
use Rattle.std.specs.Prelude.{◌==◌, ℕ, Bool, false, List, bytes_eq}
use Rattle.vh_app_script.specs.declared.token.Symbol.{Symbol}
use Rattle.vh_app_script.specs.declared.token.Symbol.TheVariants as symbols
use Rattle.vh_app_script.specs.declared.token.Keyword.{Keyword}
use Rattle.vh_app_script.specs.declared.token.Keyword.TheVariants as keyword
use Rattle.std.specs.Prelude.{codes}

-- What a token is: the terminals of the grammar (own).
pub data Terminal : Type 0 where
  -- NAME, or a word; and whether the next token is a "="
  word : Bool → List ℕ → Terminal
  -- NUMBER
  number : ℕ → Terminal
  -- TEXT, without the backslashes of its escapes
  text : List ℕ → Terminal
  -- a symbol
  symbol : Symbol → Terminal
  -- no token begins here, or a number that is too large
  wrong : Terminal

-- A token, with how many bytes are left at its place, its own among them (own).
pub record Token : Type 0 where
  pub kind : Terminal
  pub left : ℕ

-- Each symbol's number, by which symbols are told apart (own).
abbrev pub symbol_number : Symbol → ℕ
symbol_number symbols.Comma = 0
symbol_number symbols.Semicolon = 1
symbol_number symbols.Becomes = 2
symbol_number symbols.Equals = 3
symbol_number symbols.Differs = 4
symbol_number symbols.Plus = 5
symbol_number symbols.OpenParen = 6
symbol_number symbols.CloseParen = 7
symbol_number symbols.OpenBrace = 8
symbol_number symbols.CloseBrace = 9

-- The words that stand in the grammar's rows (own).
abbrev pub keyword_text : Keyword → List ℕ
keyword_text keyword.App = codes "app"
keyword_text keyword.Var = codes "var"
keyword_text keyword.Startup = codes "startup"
keyword_text keyword.Proc = codes "proc"
keyword_text keyword.Else = codes "else"
keyword_text keyword.Event = codes "event"
keyword_text keyword.Calltf = codes "calltf"
keyword_text keyword.Compiletf = codes "compiletf"

-- The token is this symbol (own).
abbrev pub is_symbol : Symbol → Terminal → Bool
is_symbol m (word aimed bytes) = false
is_symbol m (number n) = false
is_symbol m (text bytes) = false
is_symbol m (symbol own) = symbol_number m == symbol_number own
is_symbol m wrong = false

-- The token is spelled so (own).
abbrev pub is_spelled : List ℕ → Terminal → Bool
is_spelled bytes (word aimed own) = bytes_eq own bytes
is_spelled bytes (number n) = false
is_spelled bytes (text own) = false
is_spelled bytes (symbol m) = false
is_spelled bytes wrong = false
