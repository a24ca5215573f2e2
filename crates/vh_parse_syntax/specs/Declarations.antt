-- Types, ranges and declared names.
--   type   = [ "signed" ] [ range ]
--   range  = "[" expr ":" expr "]"
--   net    = ID [ "=" expr ]
--   decl   = "reg" type var { "," var } ";" | ( "integer" | "time" ) init { "," init } ";"
--   var    = ID [ range | "=" expr ]
--   init   = ID [ "=" expr ]
--   ids    = ID { "," ID }
-- A range after the name of a net, an integer or a time variable, and a second one after a declared
-- name, are left out, as their "[" shows.
use Rattle.std.specs.Prelude.{Bool, true, false, ◌&&◌, List, [], ◌∷◌, Option}
use Rattle.vh_base.specs.declared.place.Place.{Place}
use Rattle.vh_parse_grammar.specs.Part.{done, seq, act, alt, unless, opt, two, after, before}
use Rattle.vh_ast.specs.declared.token.Id.{Id}
use Rattle.vh_ast.specs.declared.data_type.Variable.{Variable}
use Rattle.vh_ast.specs.declared.data_type.Variable.TheVariants as variable
use Rattle.vh_ast.specs.Expressions.{ExprTree}
use Rattle.vh_ast.specs.Declarations.{RangeTree, TypeTree, AssignedTree, NetTree, InitTree, VarPartTree, plain, memory, valued, VarTree, DeclTree, reg, integer, time}
use Rattle.vh_parse_syntax.specs.declared.lexeme.Lexeme.{Lexeme}
use Rattle.vh_parse_syntax.specs.declared.lexeme.Lexeme.TheVariants as lexeme
use Rattle.vh_parse_syntax.specs.Tokens.{is}
use Rattle.vh_parse_syntax.specs.Parts.{G, the, at_the, an_id, comma_list, ended}
use Rattle.vh_parse_syntax.specs.Expressions.{expression}

-- Trees of what is declared (IEEE 1364-2005, A.2).
abbrev pub range_of : Place → ExprTree × ExprTree → RangeTree
range_of place r = record { place = place; left = r.0; right = r.1 }

abbrev pub type_of : Bool → Option RangeTree → TypeTree
type_of signed range = record { signed = signed; range = range }

abbrev pub assigned_of : Id → ExprTree → AssignedTree
assigned_of id e = record { id = id; value = e }

abbrev pub net_of : Id → Option ExprTree → NetTree
net_of id e = record { id = id; value = e }

abbrev pub init_of : Id → Option ExprTree → InitTree
init_of id e = record { id = id; value = e }

abbrev pub var_of : Id → VarPartTree → VarTree
var_of id part = record { id = id; part = part }

abbrev pub reg_of : Place → TypeTree × List VarTree → DeclTree
reg_of place r = reg place r.0 r.1

-- range (IEEE 1364-2005, A.2.5)
unfoldable pub a_range : G RangeTree
a_range =
    two range_of (at_the lexeme.LeftBracket)
    (before (seq (expression true) (after (the lexeme.Colon) (expression true)))
    (the lexeme.RightBracket))

-- [ "signed" ] (IEEE 1364-2005, A.2.1.3)
abbrev pub signed_word : G Bool
signed_word = alt (is lexeme.Signed) (act (λ _. true) (the lexeme.Signed)) (done false)

-- type (IEEE 1364-2005, A.2.1.3)
unfoldable pub a_type : G TypeTree
a_type = two type_of signed_word (opt (is lexeme.LeftBracket) a_range)

-- The tokens with which a type that is written begins (own).
abbrev pub type_lexemes : List Lexeme
type_lexemes = lexeme.Signed ∷ lexeme.LeftBracket ∷ []

-- Where it is so, a range is left out here (own).
abbrev pub no_range : Bool → G (Unit {0})
no_range barred = unless (λ t. barred && is lexeme.LeftBracket t) (done tt)

-- An ID behind which a range is left out, where it is so (own).
abbrev pub bare_id : Bool → G Id
bare_id barred = before an_id (no_range barred)

-- [ "=" expr ] (IEEE 1364-2005, A.2.4)
unfoldable pub a_value : G (Option ExprTree)
a_value = opt (is lexeme.Equal) (after (the lexeme.Equal) (expression true))

-- ID "=" expr (IEEE 1364-2005, A.2.4)
unfoldable pub assigned : G AssignedTree
assigned = two assigned_of an_id (after (the lexeme.Equal) (expression true))

-- net (IEEE 1364-2005, A.2.4)
unfoldable pub a_net : G NetTree
a_net = two net_of (bare_id true) a_value

-- init (IEEE 1364-2005, A.2.4)
unfoldable pub an_init : G InitTree
an_init = two init_of (bare_id true) a_value

-- [ range | "=" expr ] (IEEE 1364-2005, A.2.4 and A.2.5)
unfoldable pub var_part : G VarPartTree
var_part =
    alt (is lexeme.LeftBracket) (act memory (before a_range (no_range true)))
    (alt (is lexeme.Equal) (act valued (after (the lexeme.Equal) (expression true)))
    (done plain))

-- var (IEEE 1364-2005, A.2.4)
unfoldable pub a_var : G VarTree
a_var = two var_of an_id var_part

-- decl (IEEE 1364-2005, A.2.1.3)
unfoldable pub reg_decl : G DeclTree
reg_decl = two reg_of (at_the lexeme.Reg) (seq a_type (ended (comma_list a_var)))

unfoldable pub integer_decl : G DeclTree
integer_decl = two integer (at_the lexeme.Integer) (ended (comma_list an_init))

unfoldable pub time_decl : G DeclTree
time_decl = two time (at_the lexeme.Time) (ended (comma_list an_init))

unfoldable pub decl : G DeclTree
decl = alt (is lexeme.Reg) reg_decl (alt (is lexeme.Integer) integer_decl time_decl)

-- The signs of variables, with which a decl begins (IEEE 1364-2005, A.2.1.3).
abbrev pub variable_rows : List (Lexeme × Variable)
variable_rows =
    (lexeme.Reg, variable.Reg) ∷ (lexeme.Integer, variable.Integer) ∷ (lexeme.Time, variable.Time) ∷ []

abbrev pub decl_lexemes : List Lexeme
decl_lexemes = lexeme.Reg ∷ lexeme.Integer ∷ lexeme.Time ∷ []
