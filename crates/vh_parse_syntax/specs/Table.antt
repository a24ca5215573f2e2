-- The table with the proofs that it meets the conditions under which reading it means what it
-- should.
use Rattle.std.proofs.Common.{◌≡◌, true, refl}
use Rattle.vh_parse_grammar.specs.Conditions.{eats, Advances}
use Rattle.vh_parse_grammar.specs.Firsts.{first_at}
use Rattle.vh_parse_grammar.specs.Choices.{Heeds}
use Rattle.vh_parse_grammar.specs.Table.{Table}
use Rattle.vh_ast.specs.Items.{SourceTree}
use Rattle.vh_parse_syntax.specs.Tokens.{Token, is_unused}
use Rattle.vh_parse_syntax.specs.Parts.{Name, expr, operand, stmt, gblock, tree_of}
use Rattle.vh_parse_syntax.specs.Names.{path, braced}
use Rattle.vh_parse_syntax.specs.Expressions.{by_name, by_system, parens, braces, prim, unary_operand, any_operand, expression}
use Rattle.vh_parse_syntax.specs.Declarations.{reg_decl, integer_decl, time_decl, decl}
use Rattle.vh_parse_syntax.specs.Statements.{statement, empty_stmt, by_name_stmt, by_brace_stmt, delay_stmt, delay, event_stmt, wait_stmt, if_stmt, case_stmt, for_stmt, loop_stmt, forever_stmt, begin_stmt, fork_stmt, trigger_stmt, disable_stmt, force_stmt, release_stmt, system_stmt}
use Rattle.vh_parse_syntax.specs.Items.{a_gblock, item_block, one_item, first_word, source, item, port_item, port_head, net_item, decl_item, event_item, genvar_item, parameter_item, assign_item, gate_item, instance_item, process_item, task_item, function_item, for_item, if_item}
use Rattle.vh_parse_syntax.specs.Grammar.{grammar, begins}
use Rattle.vh_parse_syntax.specs.ExpressionConditions.{expression_eats, operand_eats, expression_advances, operand_advances, expression_heeds, operand_heeds}
use Rattle.vh_parse_syntax.specs.StatementConditions.{statement_eats, statement_advances, statement_heeds}
use Rattle.vh_parse_syntax.specs.ItemConditions.{gblock_eats, gblock_advances, gblock_heeds, source_advances, source_heeds}

pub eating : (p : Name) → eats (grammar p) ≡ true
eating (expr calls) = expression_eats calls
eating (operand calls) = operand_eats calls
eating (stmt inside) = statement_eats inside
eating gblock = gblock_eats

pub advancing : (p : Name) → Advances (grammar p)
advancing (expr calls) = expression_advances calls
advancing (operand calls) = operand_advances calls
advancing (stmt inside) = statement_advances inside
advancing gblock = gblock_advances

-- No production begins with a nested one.
pub settled : (p : Name) (t : Token) → first_at grammar 2 p t ≡ first_at grammar 1 p t
unfolding expression any_operand unary_operand prim by_name path by_system parens braces statement empty_stmt by_name_stmt by_brace_stmt braced delay_stmt delay event_stmt wait_stmt if_stmt case_stmt for_stmt loop_stmt forever_stmt begin_stmt fork_stmt trigger_stmt disable_stmt force_stmt release_stmt system_stmt a_gblock item_block one_item first_word item port_item port_head net_item decl_item decl reg_decl integer_decl time_decl event_item genvar_item parameter_item assign_item gate_item instance_item process_item task_item function_item for_item if_item
settled (expr calls) t = refl
settled (operand calls) t = refl
settled (stmt inside) t = refl
settled gblock t = refl

pub heeding : (p : Name) (t : Token) → Heeds begins (grammar p) t
heeding (expr calls) t = expression_heeds calls t
heeding (operand calls) t = operand_heeds calls t.kind t.place
heeding (stmt inside) t = statement_heeds inside t.kind t.place
heeding gblock t = gblock_heeds t.kind t.place

-- The table (own).
abbrev pub syntax_table : Table
syntax_table = record {
  Token = Token;
  left_out = is_unused;
  Name = Name;
  tree_of = tree_of;
  grammar = grammar;
  Source = SourceTree;
  start = source;
  eating = eating;
  advancing = advancing;
  start_advancing = source_advances;
  reach = 1;
  settled = settled;
  heeding = heeding;
  start_heeding = λ t. source_heeds t.kind t.place;
}
