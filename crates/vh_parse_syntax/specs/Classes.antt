-- The classes of tokens by which the grammar makes its choices, as the code names them.
use Rattle.std.specs.Prelude.{Bool, is_some, List}
use Rattle.vh_parse_syntax.specs.declared.lexeme.Lexeme.{Lexeme}
use Rattle.vh_parse_syntax.specs.declared.token.Class.{Class}
use Rattle.vh_parse_syntax.specs.declared.token.Class.TheVariants as class
use Rattle.vh_parse_syntax.specs.declared.token.Group.{Group}
use Rattle.vh_parse_syntax.specs.declared.token.Group.TheVariants as group
use Rattle.vh_parse_syntax.specs.declared.token.Rows.{Rows}
use Rattle.vh_parse_syntax.specs.declared.token.Rows.TheVariants as rows
use Rattle.vh_parse_syntax.specs.declared.token.Start.{Start}
use Rattle.vh_parse_syntax.specs.declared.token.Start.TheVariants as start
use Rattle.vh_parse_syntax.specs.declared.token.Word.{Word}
use Rattle.vh_parse_syntax.specs.Tokens.{Token, token_seen, in_rows, is, is_any, is_name, is_system, is_text, is_number, is_module, is_call, operator_at, unary_rows, begins_expression}
use Rattle.vh_parse_syntax.specs.Declarations.{variable_rows, type_lexemes, decl_lexemes}
use Rattle.vh_parse_syntax.specs.Statements.{assign_rows, edge_rows, case_rows, loop_rows, force_rows, release_rows, or_lexemes, timing_lexemes, task_lexemes, begins_statement, begins_citem, begins_slots}
use Rattle.vh_parse_syntax.specs.Items.{direction_rows, net_rows, port_type_rows, targ_rows, gate_rows, parameter_rows, process_rows, hidden_lexemes, local_lexemes, net_end_lexemes, begins_item, begins_ports, begins_conns}

-- A token of the lexer that a parser reads, as the grammar sees it (own).
abbrev pub word_seen : Word → Token
word_seen w = token_seen (w.token).now

-- The token is in one of these rows (own).
abbrev pub is_in : Rows → Token → Bool
is_in rows.Unary t = in_rows unary_rows t
is_in rows.Assign t = in_rows assign_rows t
is_in rows.Edge t = in_rows edge_rows t
is_in rows.Case t = in_rows case_rows t
is_in rows.Loop t = in_rows loop_rows t
is_in rows.Force t = in_rows force_rows t
is_in rows.Release t = in_rows release_rows t
is_in rows.Variable t = in_rows variable_rows t
is_in rows.Direction t = in_rows direction_rows t
is_in rows.Net t = in_rows net_rows t
is_in rows.PortType t = in_rows port_type_rows t
is_in rows.Targ t = in_rows targ_rows t
is_in rows.Gate t = in_rows gate_rows t
is_in rows.Parameter t = in_rows parameter_rows t
is_in rows.Process t = in_rows process_rows t

-- The signs of each group (own).
abbrev pub group_lexemes : Group → List Lexeme
group_lexemes group.Decl = decl_lexemes
group_lexemes group.Type = type_lexemes
group_lexemes group.Local = local_lexemes
group_lexemes group.Or = or_lexemes
group_lexemes group.Timing = timing_lexemes
group_lexemes group.Task = task_lexemes
group_lexemes group.NetEnd = net_end_lexemes
group_lexemes group.Hidden = hidden_lexemes

-- The token is one with which this begins (own).
abbrev pub starts : Start → Token → Bool
starts start.Expression t = begins_expression t
starts start.Statement t = begins_statement t
starts start.Citem t = begins_citem t
starts start.Slots t = begins_slots t
starts start.Item t = begins_item t
starts start.Ports t = begins_ports t
starts start.Conns t = begins_conns t

-- The token is of the class (own).
abbrev pub has : Class → Token → Bool
has (class.Is s) t = is s t
has (class.Row rows) t = is_in rows t
has (class.Among group) t = is_any (group_lexemes group) t
has (class.Begins start) t = starts start t
has (class.Operator level) t = is_some (operator_at level t)
has class.Name t = is_name t
has class.System t = is_system t
has class.Text t = is_text t
has class.Number t = is_number t
has class.Module t = is_module t
has class.Call t = is_call t.kind
