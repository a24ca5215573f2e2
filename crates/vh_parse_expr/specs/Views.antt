-- How contracts see what the code holds, and what they say of it.
use Rattle.std.specs.Prelude.{◌≡◌, ℕ, List, map, Option, Some, Result}
use Rattle.vh_base.specs.declared.place.Place.{Place}
use Rattle.vh_parse_grammar.specs.declared.cursor.Cursor.{Cursor}
use Rattle.vh_parse_grammar.specs.declared.stop.Stop.{Stop}
use Rattle.vh_parse_grammar.specs.Reading.{Out}
use Rattle.vh_parse_grammar.specs.Omissions.{noted}
use Rattle.vh_parse_grammar.specs.Says.{Says}
use Rattle.vh_parse_grammar.specs.Nest as nest
use Rattle.vh_parse_grammar.specs.Nest.{Piece}
use Rattle.vh_ast.specs.declared.token.Id.{Id}
use Rattle.vh_ast.specs.declared.name.Step.{Step}
use Rattle.vh_ast.specs.declared.name.Name.{Name}
use Rattle.vh_ast.specs.declared.name.Part.{Part}
use Rattle.vh_ast.specs.declared.name.Sel.{Sel}
use Rattle.vh_ast.specs.declared.target.LvPart.{LvPart}
use Rattle.vh_ast.specs.declared.target.LvPart.TheVariants as lv
use Rattle.vh_ast.specs.declared.expr.Expr.{Expr}
use Rattle.vh_ast.specs.declared.expr.Link.{Link}
use Rattle.vh_ast.specs.declared.operator.Binary.{Binary}
use Rattle.vh_ast.specs.Expressions.{ExprTree, IndexTree, PartTree}
use Rattle.vh_ast.specs.Views.{expr_tree, link_tree, name_tree, sel_tree, step_by, part_by}
use Rattle.vh_lex.specs.declared.token.Token as lexed
use Rattle.vh_parse_syntax.specs.declared.token.Class.{Class}
use Rattle.vh_parse_syntax.specs.Tokens.{Token, token_seen, is_unused}
use Rattle.vh_parse_syntax.specs.Parts.{G}
use Rattle.vh_parse_syntax.specs.Grammar.{grammar}
use Rattle.vh_parse_syntax.specs.Names as names
use Rattle.vh_parse_expr.specs.declared.name.Last.{Last}
use Rattle.vh_parse_expr.specs.declared.name.Last.TheVariants as last
use Rattle.vh_parse_expr.specs.declared.name.Stem.{Stem}
use Rattle.vh_parse_expr.specs.declared.name.Path.{Path}
use Rattle.vh_parse_expr.specs.declared.targets.Row.{Row}

-- The tokens before a parser (own).
abbrev pub tokens_seen : List lexed.Token → List Token
tokens_seen = map token_seen

-- The cursor of a parser (own).
abbrev pub At : Type 0
At = Cursor lexed.Token Class

-- What reading the part from the cursor on gives, with so many levels left (own).
abbrev pub read_from : {A : Type 0} → ℕ → G A → At → Out Token (A × ℕ)
read_from levels part at = noted is_unused grammar levels part (tokens_seen at.tokens.now) at.omission

-- Reading the part from the cursor on, with so many levels left, gives what the code returns (own).
abbrev pub Reads : {A X : Type 0} → (X → A) → ℕ → G A → At → Result (X × At) Stop → Type 0
Reads view levels part at result = Says token_seen view (read_from levels part at) result

-- It is a name of these bytes, where it stands (IEEE 1364-2005, 3.7).
abbrev pub IsId : Id → Place → List ℕ → Type 0
IsId id place bytes = id ≡ record { place = place; name = bytes }

-- Expressions of the code, and operators with what stands behind each (own).
abbrev pub exprs_seen : List Expr → List ExprTree
exprs_seen = map expr_tree

abbrev pub links_seen : List (Link Expr) → List (Binary × ExprTree)
links_seen = map link_tree

abbrev pub link_pair : Binary × Expr → Binary × ExprTree
link_pair l = (l.0, expr_tree l.1)

abbrev pub two_exprs : Expr × Expr → ExprTree × ExprTree
two_exprs e = (expr_tree e.0, expr_tree e.1)

-- A step of a name of the code (own).
abbrev pub step_tree : Step Expr → Id × IndexTree
step_tree = step_by expr_tree

-- What stands in a bracket of the code (own).
abbrev pub part_tree : Part Expr → PartTree
part_tree = part_by expr_tree

-- An expression or more in a bracket, where that stands (own).
abbrev pub placed_expr : Place × Expr → Place × ExprTree
placed_expr e = (e.0, expr_tree e.1)

abbrev pub placed_part : Place × Part Expr → Place × PartTree
placed_part p = (p.0, part_tree p.1)

-- What stands behind the last ID of a path of the code (own).
abbrev pub last_tree : Last → names.Last
last_tree last.Plain = names.plain
last_tree (last.Indexed place e) = names.indexed place (expr_tree e)
last_tree (last.Closed s) = names.closed (sel_tree (Some s))

-- A path of the code, and one whose last ID stands alone (own).
abbrev pub path_by : Stem → names.Last → names.Path
path_by s last = record { earlier = map step_tree s.earlier; id = s.id; last = last }

abbrev pub stem_tree : Stem → names.Path
stem_tree s = path_by s names.plain

abbrev pub path_tree : Path → names.Path
path_tree p = path_by p.stem (last_tree p.last)

-- The name with its select is that of the path (own).
abbrev pub IsMade : Name Expr × Option (Sel Expr) → names.Path → Type 0
IsMade n p = (name_tree n.0 ≡ names.name_before p) × (sel_tree n.1 ≡ names.sel_of p.last)

-- What stands in a row of targets of the code, and how far it has come (own).
abbrev pub piece_tree : LvPart → Piece names.Target
piece_tree lv.Open = nest.opened
piece_tree (lv.Name n s) = nest.item (name_tree n, sel_tree s)
piece_tree lv.Close = nest.closed

abbrev pub pieces_seen : List LvPart → List (Piece names.Target)
pieces_seen = map piece_tree

abbrev pub row_tree : Row → nest.Row names.Target
row_tree r = record { depth = r.open; wants = r.wants; pieces = pieces_seen r.parts }
