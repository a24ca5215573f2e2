-- The tokens as the grammar sees them, what each means, and the classes by which choices are made.
use Rattle.std.specs.Prelude.{◌==◌, if◌then◌else◌, ℕ, Bool, true, false, not, ◌||◌, ◌&&◌, is_some, Option, Some, None, List, [], ◌∷◌, codes, bytes_eq}
use Rattle.std.specs.List.{list_any}
use Rattle.vh_base.specs.declared.place.Place.{Place}
use Rattle.vh_logic.specs.Vector.{Vector}
use Rattle.vh_lex.specs.declared.setting.Setting.{Setting}
use Rattle.vh_lex.specs.declared.token.Kind as lexed
use Rattle.vh_lex.specs.declared.token.Kind.TheVariants as lexed_kind
use Rattle.vh_lex.specs.declared.token.Token as lexed_token
use Rattle.vh_ast.specs.declared.token.Id.{Id}
use Rattle.vh_lex.specs.declared.token.Number.{Number}
use Rattle.vh_ast.specs.declared.operator.Unary.{Unary}
use Rattle.vh_ast.specs.declared.operator.Unary.TheVariants as unary
use Rattle.vh_ast.specs.declared.operator.Binary.{Binary}
use Rattle.vh_ast.specs.declared.operator.Binary.TheVariants as binary
use Rattle.vh_parse_syntax.specs.declared.lexeme.Lexeme.{Lexeme}
use Rattle.vh_parse_syntax.specs.declared.lexeme.Lexeme.TheVariants as lexeme
use Rattle.vh_parse_syntax.specs.Lexemes.{same, one_of, row_of, word_lexeme, symbol_lexeme}

-- What a token is: the terminals of the grammar (IEEE 1364-2005, Annex A).
pub data Terminal : Type 0 where
  -- `module`, with what the directives before it set
  opening : Setting → Terminal
  -- another reserved word, or a symbol
  fixed : Lexeme → Terminal
  -- ID, SYS, STRING and NUMBER
  name : List ℕ → Terminal
  system : List ℕ → Terminal
  text : List ℕ → Terminal
  number : Vector → Bool → Terminal

-- A token with its place (own).
pub record Token : Type 0 where
  pub kind : Terminal
  pub place : Place

-- What a token of the lexer is (own).
abbrev pub terminal_of : lexed.Kind → Terminal
terminal_of (lexed_kind.Module setting) = opening setting
terminal_of (lexed_kind.Word word) = fixed (word_lexeme word)
terminal_of (lexed_kind.Symbol symbol) = fixed (symbol_lexeme symbol)
terminal_of (lexed_kind.Name bytes) = name bytes
terminal_of (lexed_kind.SysName bytes) = system bytes
terminal_of (lexed_kind.Text bytes) = text bytes
terminal_of (lexed_kind.Number n) = number n.value n.sized

-- A token of the lexer, as the grammar sees it (own).
abbrev pub token_seen : lexed_token.Token → Token
token_seen t = record { kind = terminal_of t.kind; place = t.place }

-- What the sign says of a terminal that is one (own).
abbrev pub of_lexeme : {A : Type 0} → (Lexeme → Option A) → Terminal → Option A
of_lexeme meaning (opening setting) = None
of_lexeme meaning (fixed s) = meaning s
of_lexeme meaning (name bytes) = None
of_lexeme meaning (system bytes) = None
of_lexeme meaning (text bytes) = None
of_lexeme meaning (number value sized) = None

-- The terminal is a sign of which this holds (own).
abbrev pub lexeme_is : (Lexeme → Bool) → Terminal → Bool
lexeme_is holds (opening setting) = false
lexeme_is holds (fixed s) = holds s
lexeme_is holds (name bytes) = false
lexeme_is holds (system bytes) = false
lexeme_is holds (text bytes) = false
lexeme_is holds (number value sized) = false

-- The sign that a terminal is, if it is one (own).
abbrev pub lexeme_of : Terminal → Option Lexeme
lexeme_of kind = of_lexeme (λ s. Some s) kind

-- The token is this sign, or one of these (own).
abbrev pub is : Lexeme → Token → Bool
is s t = lexeme_is (same s) t.kind

abbrev pub is_any : List Lexeme → Token → Bool
is_any all t = lexeme_is (one_of all) t.kind

-- What the first row of the token's sign says, if it has one (own).
abbrev pub row_at : {A : Type 0} → List (Lexeme × A) → Token → Option A
row_at rows t = of_lexeme (row_of rows) t.kind

-- The token is the sign of one of the rows (own).
abbrev pub in_rows : {A : Type 0} → List (Lexeme × A) → Token → Bool
in_rows rows t = is_some (row_at rows t)

-- A reserved word that stands in no production (IEEE 1364-2005, Annex B).
abbrev pub is_unused : Token → Bool
is_unused t = is lexeme.Unused t

-- What `module` carries, if the token is that (IEEE 1364-2005, 19).
abbrev pub setting_of : Terminal → Option Setting
setting_of (opening setting) = Some setting
setting_of (fixed s) = None
setting_of (name bytes) = None
setting_of (system bytes) = None
setting_of (text bytes) = None
setting_of (number value sized) = None

-- The name, the system name, the string and the number that a token is, if it is one (own).
abbrev pub name_of : Terminal → Option (List ℕ)
name_of (opening setting) = None
name_of (fixed s) = None
name_of (name bytes) = Some bytes
name_of (system bytes) = None
name_of (text bytes) = None
name_of (number value sized) = None

abbrev pub system_of : Terminal → Option (List ℕ)
system_of (opening setting) = None
system_of (fixed s) = None
system_of (name bytes) = None
system_of (system bytes) = Some bytes
system_of (text bytes) = None
system_of (number value sized) = None

abbrev pub text_of : Terminal → Option (List ℕ)
text_of (opening setting) = None
text_of (fixed s) = None
text_of (name bytes) = None
text_of (system bytes) = None
text_of (text bytes) = Some bytes
text_of (number value sized) = None

abbrev pub number_of : Terminal → Option Number
number_of (opening setting) = None
number_of (fixed s) = None
number_of (name bytes) = None
number_of (system bytes) = None
number_of (text bytes) = None
number_of (number value sized) = Some (record { value = value; sized = sized })

-- The token is a name, a system name, a string, a number, `module` (own).
abbrev pub is_name : Token → Bool
is_name t = is_some (name_of t.kind)

abbrev pub is_system : Token → Bool
is_system t = is_some (system_of t.kind)

abbrev pub is_text : Token → Bool
is_text t = is_some (text_of t.kind)

abbrev pub is_number : Token → Bool
is_number t = is_some (number_of t.kind)

abbrev pub is_module : Token → Bool
is_module t = is_some (setting_of t.kind)

-- What a token means, with its place (own).
abbrev pub with_place : {A : Type 0} → Option A → Place → Option (Place × A)
with_place None place = None
with_place (Some a) place = Some (place, a)

-- Its place, if it is so (own).
abbrev pub place_if : Bool → Place → Option Place
place_if true place = Some place
place_if false place = None

-- A name with its place (IEEE 1364-2005, 3.7).
abbrev pub id_with : Option (List ℕ) → Place → Option Id
id_with None place = None
id_with (Some bytes) place = Some (record { place = place; name = bytes })

-- The unary operators (IEEE 1364-2005, Table 5-1).
abbrev pub unary_rows : List (Lexeme × Unary)
unary_rows =
    (lexeme.Plus, unary.Plus) ∷
    (lexeme.Minus, unary.Minus) ∷
    (lexeme.Bang, unary.Not) ∷
    (lexeme.Tilde, unary.Invert) ∷
    (lexeme.Ampersand, unary.ReduceAnd) ∷
    (lexeme.TildeAnd, unary.ReduceNand) ∷
    (lexeme.Bar, unary.ReduceOr) ∷
    (lexeme.TildeOr, unary.ReduceNor) ∷
    (lexeme.Caret, unary.ReduceXor) ∷
    (lexeme.TildeCaret, unary.ReduceXnor) ∷
    (lexeme.CaretTilde, unary.ReduceXnor) ∷
    []

-- The binary operators, each with its level, the one that binds closest being 0 (IEEE 1364-2005,
-- Table 5-4).
abbrev pub binary_rows : List (Lexeme × (ℕ × Binary))
binary_rows =
    (lexeme.StarStar, (0, binary.Power)) ∷
    (lexeme.Star, (1, binary.Times)) ∷
    (lexeme.Slash, (1, binary.Divide)) ∷
    (lexeme.Percent, (1, binary.Modulus)) ∷
    (lexeme.Plus, (2, binary.Plus)) ∷
    (lexeme.Minus, (2, binary.Minus)) ∷
    (lexeme.ShiftLeft, (3, binary.ShiftLeft)) ∷
    (lexeme.ShiftRight, (3, binary.ShiftRight)) ∷
    (lexeme.ArithmeticShiftLeft, (3, binary.ArithmeticShiftLeft)) ∷
    (lexeme.ArithmeticShiftRight, (3, binary.ArithmeticShiftRight)) ∷
    (lexeme.Less, (4, binary.Less)) ∷
    (lexeme.LessEqual, (4, binary.LessEqual)) ∷
    (lexeme.Greater, (4, binary.Greater)) ∷
    (lexeme.GreaterEqual, (4, binary.GreaterEqual)) ∷
    (lexeme.LogicalEqual, (5, binary.LogicalEqual)) ∷
    (lexeme.LogicalUnequal, (5, binary.LogicalUnequal)) ∷
    (lexeme.CaseEqual, (5, binary.CaseEqual)) ∷
    (lexeme.CaseUnequal, (5, binary.CaseUnequal)) ∷
    (lexeme.Ampersand, (6, binary.And)) ∷
    (lexeme.Caret, (7, binary.Xor)) ∷
    (lexeme.CaretTilde, (7, binary.Xnor)) ∷
    (lexeme.TildeCaret, (7, binary.Xnor)) ∷
    (lexeme.Bar, (8, binary.Or)) ∷
    (lexeme.AndAnd, (9, binary.AndAnd)) ∷
    (lexeme.OrOr, (10, binary.OrOr)) ∷
    []

-- The operator, if it is of the level (own).
abbrev pub of_level : ℕ → Option (ℕ × Binary) → Option Binary
of_level level None = None
of_level level (Some row) = if row.0 == level then Some row.1 else None

-- The token as a binary operator of the level (own).
abbrev pub operator_at : ℕ → Token → Option Binary
operator_at level t = of_level level (row_at binary_rows t)

-- The signs with which an expression begins (IEEE 1364-2005, A.8).
abbrev pub expression_lexemes : List Lexeme
expression_lexemes =
    lexeme.LeftParen ∷ lexeme.LeftBrace ∷ lexeme.Plus ∷ lexeme.Minus ∷ lexeme.Bang ∷ lexeme.Tilde ∷
    lexeme.Ampersand ∷
    lexeme.TildeAnd ∷ lexeme.Bar ∷ lexeme.TildeOr ∷ lexeme.Caret ∷ lexeme.TildeCaret ∷ lexeme.CaretTilde ∷ []

-- The token begins an expression (IEEE 1364-2005, A.8).
abbrev pub begins_expression : Token → Bool
begins_expression t =
    is_number t || is_text t || is_name t || is_system t || is_any expression_lexemes t

-- The system names that are no calls, where calls are left out (own).
abbrev pub plain_systems : List (List ℕ)
plain_systems = codes "$time" ∷ codes "$signed" ∷ codes "$unsigned" ∷ []

-- The system names in whose arguments calls may stand: those that are built in, but `$strobe` and
-- `$monitor` (own).
abbrev pub open_systems : List (List ℕ)
open_systems =
    codes "$display" ∷ codes "$write" ∷ codes "$finish" ∷ codes "$stop" ∷
    codes "$time" ∷ codes "$signed" ∷ codes "$unsigned" ∷ []

-- The name is one of these (own).
abbrev pub named_in : List (List ℕ) → List ℕ → Bool
named_in all bytes = list_any (λ a. bytes_eq bytes a) all

-- The token is a system name that is a call (own).
abbrev pub is_call : Terminal → Bool
is_call (opening setting) = false
is_call (fixed s) = false
is_call (name bytes) = false
is_call (system bytes) = not (named_in plain_systems bytes)
is_call (text bytes) = false
is_call (number value sized) = false

-- Calls may stand in the arguments of this system name, where they may stand around it (own).
abbrev pub calls_in : Bool → Id → Bool
calls_in calls id = calls && named_in open_systems id.name

-- Where calls are left out, the token shows one (own).
abbrev pub shows_call : Bool → Token → Bool
shows_call calls t = not calls && is_call t.kind
