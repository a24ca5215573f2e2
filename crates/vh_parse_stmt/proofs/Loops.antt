-- A turn of each loop of the parser.
use Rattle.std.proofs.Common.{◌≡◌, ℕ, ◌<◌, Bool, true, false, List, [], ◌∷◌, ◌++◌, length, refl}
use Rattle.vh_parse_grammar.specs.Conditions.{eats, Advances}
use Rattle.vh_parse_grammar.specs.Reading.{got, next_is}
use Rattle.vh_parse_grammar.specs.Omissions.{noted, joined_noted}
use Rattle.vh_parse_grammar.proofs.OmissionTurns.{noted_less, joined_noted_turn}
use Rattle.vh_ast.specs.Declarations.{DeclTree}
use Rattle.vh_ast.specs.Statements.{StmtTree, CitemTree}
use Rattle.vh_parse_syntax.specs.Tokens.{Token, is_any, is_unused}
use Rattle.vh_parse_syntax.specs.Names.{path}
use Rattle.vh_parse_syntax.specs.Expressions.{by_name, by_system, parens, braces, prim, unary_operand, any_operand, expression}
use Rattle.vh_parse_syntax.specs.Declarations.{decl_lexemes, reg_decl, integer_decl, time_decl, decl}
use Rattle.vh_parse_syntax.specs.Statements.{begins_statement, inner_stmt, stmts, begins_citem, default_item, values_item, citem}
use Rattle.vh_parse_syntax.specs.Grammar.{grammar}
use Rattle.vh_parse_syntax.specs.ExpressionConditions.{expression_advances}
use Rattle.vh_parse_syntax.specs.DeclarationConditions.{decl_advances}
use Rattle.vh_parse_syntax.specs.Table.{eating, advancing}
use Rattle.vh_parse_stmt.specs.Pieces.{decls, more_citems}

-- declarations go on by one
decl_eats : eats decl ≡ true
unfolding decl reg_decl integer_decl time_decl
decl_eats = refl

pub decls_go_on : (depth : ℕ) (front : List DeclTree) (d : DeclTree) (ts mid : List Token) (m k : ℕ) → next_is (is_any decl_lexemes) ts ≡ true →
    noted is_unused grammar depth decl ts m ≡ got (d, k) mid →
    joined_noted front (noted is_unused grammar depth decls ts m) ≡ joined_noted (front ++ d ∷ []) (noted is_unused grammar depth decls mid k)
decls_go_on depth front d ts mid m k c r =
    joined_noted_turn is_unused grammar eating advancing depth (is_any decl_lexemes) decl decl_advances decl_eats front ts m d k mid c r

pub decl_less : (depth : ℕ) (d : DeclTree × ℕ) (ts mid : List Token) (m : ℕ) → noted is_unused grammar depth decl ts m ≡ got d mid → length mid < length ts
decl_less depth d ts mid m r = noted_less is_unused grammar eating advancing depth decl decl_advances decl_eats ts m d mid r

-- The statements of a case go on by one
citem_advances : (inside : Bool) → Advances (citem inside)
unfolding citem default_item values_item
citem_advances inside = ((tt, ((tt, tt), tt)), (((expression_advances true), (refl, (tt, (expression_advances true)))), (tt, tt)))

citem_eats : (inside : Bool) → eats (citem inside) ≡ true
unfolding citem default_item values_item expression any_operand unary_operand prim by_name path by_system parens braces
citem_eats inside = refl

pub citems_go_on : (inside : Bool) (depth : ℕ) (front : List CitemTree) (i : CitemTree) (ts mid : List Token) (m k : ℕ) → next_is begins_citem ts ≡ true →
    noted is_unused grammar depth (citem inside) ts m ≡ got (i, k) mid →
    joined_noted front (noted is_unused grammar depth (more_citems inside) ts m) ≡ joined_noted (front ++ i ∷ []) (noted is_unused grammar depth (more_citems inside) mid k)
citems_go_on inside depth front i ts mid m k c r =
    joined_noted_turn is_unused grammar eating advancing depth begins_citem (citem inside) (citem_advances inside) (citem_eats inside) front ts m i k mid c r

pub citem_less : (inside : Bool) (depth : ℕ) (i : CitemTree × ℕ) (ts mid : List Token) (m : ℕ) → noted is_unused grammar depth (citem inside) ts m ≡ got i mid → length mid < length ts
citem_less inside depth i ts mid m r = noted_less is_unused grammar eating advancing depth (citem inside) (citem_advances inside) (citem_eats inside) ts m i mid r

-- The statements of a block go on by one
pub stmts_go_on : (inside : Bool) (depth : ℕ) (front : List StmtTree) (s : StmtTree) (ts mid : List Token) (m k : ℕ) → next_is begins_statement ts ≡ true →
    noted is_unused grammar depth (inner_stmt inside) ts m ≡ got (s, k) mid →
    joined_noted front (noted is_unused grammar depth (stmts inside) ts m) ≡ joined_noted (front ++ s ∷ []) (noted is_unused grammar depth (stmts inside) mid k)
unfolding stmts
stmts_go_on inside depth front s ts mid m k c r =
    joined_noted_turn is_unused grammar eating advancing depth begins_statement (inner_stmt inside) tt refl front ts m s k mid c r

pub stmt_less : (inside : Bool) (depth : ℕ) (s : StmtTree × ℕ) (ts mid : List Token) (m : ℕ) → noted is_unused grammar depth (inner_stmt inside) ts m ≡ got s mid → length mid < length ts
stmt_less inside depth s ts mid m r = noted_less is_unused grammar eating advancing depth (inner_stmt inside) tt refl ts m s mid r
