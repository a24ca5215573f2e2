-- What is answered for short texts, and which trees they have, computed by the table. Above each row stands its text, a
-- token a word; the number of a fault is how many tokens are left at its place.
use Rattle.std.proofs.Common.{◌≡◌, ℕ, suc, Bool, true, false, List, [], ◌∷◌, ◌++◌, replicate, map, length, is_some, refl}
use Rattle.std.specs.Prelude.{codes}
use Rattle.vh_base.specs.declared.place.Place.{Place}
use Rattle.vh_lex.specs.declared.setting.DefaultNet.TheVariants as nets
use Rattle.vh_parse_grammar.specs.Part.{tok, seq, bind, act, rep}
use Rattle.vh_parse_grammar.specs.Reading.{Fault, Out, then_, got, stop, lost, deep, left_out}
use Rattle.vh_parse_grammar.specs.Omissions.{noted}
use Rattle.vh_parse_grammar.specs.Table as table
use Rattle.vh_ast.specs.declared.operator.Unary.TheVariants as unary_
use Rattle.vh_ast.specs.declared.operator.Binary.TheVariants as binary
use Rattle.vh_ast.specs.Expressions as E
use Rattle.vh_ast.specs.Expressions.{ExprTree}
use Rattle.vh_ast.specs.Statements as S
use Rattle.vh_ast.specs.Statements.{StmtTree}
use Rattle.vh_ast.specs.Items.{SourceTree}
use Rattle.vh_parse_syntax.specs.declared.lexeme.Lexeme.TheVariants as lexeme
use Rattle.vh_parse_syntax.specs.Tokens.{Token, Terminal, opening, fixed, name, system, number, is_unused, operator_at}
use Rattle.vh_parse_syntax.specs.Parts.{G}
use Rattle.vh_parse_syntax.specs.Grammar.{grammar}
use Rattle.vh_parse_syntax.specs.Table.{syntax_table}
use Rattle.vh_parse_syntax.specs.Names.{esel_end, esel, dotted, bracketed, selected, reselected, path_turn, path_rest, path, row_turn, braced_rest, braced, lv}
use Rattle.vh_parse_syntax.specs.Expressions.{arguments, name_end, by_name, system_end, by_system, parens, braces_end, braces, prim, unary_operand, any_operand, chain_tail, choice_tail, expression_tail, expression}
use Rattle.vh_parse_syntax.specs.Declarations.{a_range, a_type, a_value, assigned, a_net, an_init, var_part, a_var, reg_decl, integer_decl, time_decl, decl}
use Rattle.vh_parse_syntax.specs.Statements.{delay_value, delay_end, delay, ev, event_list, event, set, assignment, task_call, name_stmt, by_name_stmt, by_brace_stmt, empty_stmt, delay_stmt, event_stmt, wait_stmt, otherwise, if_stmt, default_item, values_item, citem, citems, case_stmt, for_head, for_stmt, loop_stmt, forever_stmt, naming, stmts, begin_stmt, fork_stmt, trigger_stmt, disable_stmt, force_stmt, release_stmt, slot, slots, system_task, system_stmt, statement}
use Rattle.vh_parse_syntax.specs.Items.{port_head, pdecl, next_port, next_ports, ports, par, port_ids, port_item, next_delayed, more_delayed, delayed_nets, all_nets, net_item, decl_item, event_item, genvar_item, parameter_item, assign_item, gate, gate_item, conn_by_name, conn, conns, inst, instance_item, process_item, targ_head, targ_ids, targ, targ_id, targ_one, next_targ, next_targs, targs, local, routine, task_item, result_type, function_item, generate_head, for_item, other_gblock, if_item, item, region_word, region_end, items, within_turn, region_rest, first_word, one_item_rest, one_item, item_block, a_gblock, pars, port_list, a_module, source}

-- `module`, a number and names.
abbrev a_module_word : Terminal
a_module_word = opening (record { unit = 9; precision = 9; default_net = nets.Wire })

abbrev a_number_word : Terminal
a_number_word = number (record { digits = []; signed = true }) false

-- What is answered: that all tokens are a source, or a fault and how many tokens are left there.
data Answer : Type 0 where
  whole : Answer
  left : ℕ → Answer
  refused : Fault → ℕ → Answer

abbrev told : Out Token SourceTree → Answer
told (got a []) = whole
told (got a (t ∷ ts)) = left (suc (length ts))
told (stop fault n) = refused fault n

-- All tokens stand at one place.
abbrev here : Place
here = record { file = 1; line = 1; column = 1 }

abbrev seen : List Terminal → List Token
seen kinds = map (λ (k : Terminal). record { kind = k; place = here }) kinds

-- A row: the levels, the tokens and the answer.
record Row : Type 0 where
  levels : ℕ
  kinds : List Terminal
  answer : Answer

abbrev row : List Terminal → Answer → Row
row kinds answer = record { levels = 200; kinds = kinds; answer = answer }

abbrev row_on : ℕ → List Terminal → Answer → Row
row_on levels kinds answer = record { levels = levels; kinds = kinds; answer = answer }

abbrev answer_of : Row → Answer
answer_of r = told (table.source syntax_table r.levels (seen r.kinds))

-- The table answers each row so.
abbrev Answers : List Row → Type 0
Answers rows = map answer_of rows ≡ map (λ (r : Row). r.answer) rows

-- Expressions, names and calls.
abbrev expressions_rows : List Row
expressions_rows =
    -- module m ; initial x = a [ 1 ] [ 2 ] [ 3 ] ; endmodule
    row (a_module_word ∷ (name (codes "m")) ∷ (fixed lexeme.Semicolon) ∷ (fixed lexeme.Initial) ∷
    (name (codes "x")) ∷ (fixed lexeme.Equal) ∷ (name (codes "a")) ∷
    (fixed lexeme.LeftBracket) ∷ a_number_word ∷ (fixed lexeme.RightBracket) ∷
    (fixed lexeme.LeftBracket) ∷ a_number_word ∷ (fixed lexeme.RightBracket) ∷
    (fixed lexeme.LeftBracket) ∷ a_number_word ∷ (fixed lexeme.RightBracket) ∷
    (fixed lexeme.Semicolon) ∷ (fixed lexeme.Endmodule) ∷ [])
    (refused lost 5) ∷
    -- module m ; initial $display ( ) ; endmodule
    row (a_module_word ∷ (name (codes "m")) ∷ (fixed lexeme.Semicolon) ∷ (fixed lexeme.Initial) ∷
    (system (codes "$display")) ∷ (fixed lexeme.LeftParen) ∷ (fixed lexeme.RightParen) ∷
    (fixed lexeme.Semicolon) ∷ (fixed lexeme.Endmodule) ∷ [])
    whole ∷
    -- module m ; initial $display ( , ) ; endmodule
    row (a_module_word ∷ (name (codes "m")) ∷ (fixed lexeme.Semicolon) ∷ (fixed lexeme.Initial) ∷
    (system (codes "$display")) ∷ (fixed lexeme.LeftParen) ∷ (fixed lexeme.Comma) ∷
    (fixed lexeme.RightParen) ∷ (fixed lexeme.Semicolon) ∷ (fixed lexeme.Endmodule) ∷ [])
    whole ∷
    -- module m ; initial a = f [ g ( 1 ) ] ( 2 ) ; endmodule
    row (a_module_word ∷ (name (codes "m")) ∷ (fixed lexeme.Semicolon) ∷ (fixed lexeme.Initial) ∷
    (name (codes "a")) ∷ (fixed lexeme.Equal) ∷ (name (codes "f")) ∷
    (fixed lexeme.LeftBracket) ∷ (name (codes "g")) ∷ (fixed lexeme.LeftParen) ∷
    a_number_word ∷ (fixed lexeme.RightParen) ∷ (fixed lexeme.RightBracket) ∷
    (fixed lexeme.LeftParen) ∷ a_number_word ∷ (fixed lexeme.RightParen) ∷
    (fixed lexeme.Semicolon) ∷ (fixed lexeme.Endmodule) ∷ [])
    whole ∷
    -- module m ; initial $display ( a , f ( b ) ) ; endmodule
    row (a_module_word ∷ (name (codes "m")) ∷ (fixed lexeme.Semicolon) ∷ (fixed lexeme.Initial) ∷
    (system (codes "$display")) ∷ (fixed lexeme.LeftParen) ∷ (name (codes "a")) ∷
    (fixed lexeme.Comma) ∷ (name (codes "f")) ∷ (fixed lexeme.LeftParen) ∷ (name (codes "b")) ∷
    (fixed lexeme.RightParen) ∷ (fixed lexeme.RightParen) ∷ (fixed lexeme.Semicolon) ∷
    (fixed lexeme.Endmodule) ∷ [])
    whole ∷
    -- module m ; initial a = f [ 1 ] ( b ) ; endmodule
    row (a_module_word ∷ (name (codes "m")) ∷ (fixed lexeme.Semicolon) ∷ (fixed lexeme.Initial) ∷
    (name (codes "a")) ∷ (fixed lexeme.Equal) ∷ (name (codes "f")) ∷
    (fixed lexeme.LeftBracket) ∷ a_number_word ∷ (fixed lexeme.RightBracket) ∷
    (fixed lexeme.LeftParen) ∷ (name (codes "b")) ∷ (fixed lexeme.RightParen) ∷
    (fixed lexeme.Semicolon) ∷ (fixed lexeme.Endmodule) ∷ [])
    whole ∷
    -- module m ; initial a = f [ 1 : 0 ] ( b ) ; endmodule
    row (a_module_word ∷ (name (codes "m")) ∷ (fixed lexeme.Semicolon) ∷ (fixed lexeme.Initial) ∷
    (name (codes "a")) ∷ (fixed lexeme.Equal) ∷ (name (codes "f")) ∷
    (fixed lexeme.LeftBracket) ∷ a_number_word ∷ (fixed lexeme.Colon) ∷ a_number_word ∷
    (fixed lexeme.RightBracket) ∷ (fixed lexeme.LeftParen) ∷ (name (codes "b")) ∷
    (fixed lexeme.RightParen) ∷ (fixed lexeme.Semicolon) ∷ (fixed lexeme.Endmodule) ∷ [])
    (refused lost 5) ∷
    []

expressions-answers : Answers expressions_rows
unfolding esel_end esel dotted bracketed selected reselected path_turn path_rest path row_turn braced_rest braced lv arguments name_end by_name system_end by_system parens braces_end braces prim unary_operand any_operand chain_tail choice_tail expression_tail expression a_range a_type a_value assigned a_net an_init var_part a_var reg_decl integer_decl time_decl decl delay_value delay_end delay ev event_list event set assignment task_call name_stmt by_name_stmt by_brace_stmt empty_stmt delay_stmt event_stmt wait_stmt otherwise if_stmt default_item values_item citem citems case_stmt for_head for_stmt loop_stmt forever_stmt naming stmts begin_stmt fork_stmt trigger_stmt disable_stmt force_stmt release_stmt slot slots system_task system_stmt statement port_head pdecl next_port next_ports ports par port_ids port_item next_delayed more_delayed delayed_nets all_nets net_item decl_item event_item genvar_item parameter_item assign_item gate gate_item conn_by_name conn conns inst instance_item process_item targ_head targ_ids targ targ_id targ_one next_targ next_targs targs local routine task_item result_type function_item generate_head for_item other_gblock if_item item region_word region_end items within_turn region_rest first_word one_item_rest one_item item_block a_gblock pars port_list a_module source
expressions-answers = refl

-- Statements.
abbrev statements_rows : List Row
statements_rows =
    -- module m ; initial x = ; endmodule
    row (a_module_word ∷ (name (codes "m")) ∷ (fixed lexeme.Semicolon) ∷ (fixed lexeme.Initial) ∷
    (name (codes "x")) ∷ (fixed lexeme.Equal) ∷ (fixed lexeme.Semicolon) ∷
    (fixed lexeme.Endmodule) ∷ [])
    (refused lost 2) ∷
    -- module m ; initial a = repeat ( 2 ) @ ( e ) b ; endmodule
    row (a_module_word ∷ (name (codes "m")) ∷ (fixed lexeme.Semicolon) ∷ (fixed lexeme.Initial) ∷
    (name (codes "a")) ∷ (fixed lexeme.Equal) ∷ (fixed lexeme.Repeat) ∷
    (fixed lexeme.LeftParen) ∷ a_number_word ∷ (fixed lexeme.RightParen) ∷ (fixed lexeme.At) ∷
    (fixed lexeme.LeftParen) ∷ (name (codes "e")) ∷ (fixed lexeme.RightParen) ∷
    (name (codes "b")) ∷ (fixed lexeme.Semicolon) ∷ (fixed lexeme.Endmodule) ∷ [])
    (refused lost 11) ∷
    -- module m ; initial { { a , b } , { { c } } } = d ; endmodule
    row (a_module_word ∷ (name (codes "m")) ∷ (fixed lexeme.Semicolon) ∷ (fixed lexeme.Initial) ∷
    (fixed lexeme.LeftBrace) ∷ (fixed lexeme.LeftBrace) ∷ (name (codes "a")) ∷
    (fixed lexeme.Comma) ∷ (name (codes "b")) ∷ (fixed lexeme.RightBrace) ∷
    (fixed lexeme.Comma) ∷ (fixed lexeme.LeftBrace) ∷ (fixed lexeme.LeftBrace) ∷
    (name (codes "c")) ∷ (fixed lexeme.RightBrace) ∷ (fixed lexeme.RightBrace) ∷
    (fixed lexeme.RightBrace) ∷ (fixed lexeme.Equal) ∷ (name (codes "d")) ∷
    (fixed lexeme.Semicolon) ∷ (fixed lexeme.Endmodule) ∷ [])
    whole ∷
    -- module m ; initial if ( a ) if ( b ) ; else ; else ; else ; endmodule
    row (a_module_word ∷ (name (codes "m")) ∷ (fixed lexeme.Semicolon) ∷ (fixed lexeme.Initial) ∷
    (fixed lexeme.If) ∷ (fixed lexeme.LeftParen) ∷ (name (codes "a")) ∷
    (fixed lexeme.RightParen) ∷ (fixed lexeme.If) ∷ (fixed lexeme.LeftParen) ∷
    (name (codes "b")) ∷ (fixed lexeme.RightParen) ∷ (fixed lexeme.Semicolon) ∷
    (fixed lexeme.Else) ∷ (fixed lexeme.Semicolon) ∷ (fixed lexeme.Else) ∷
    (fixed lexeme.Semicolon) ∷ (fixed lexeme.Else) ∷ (fixed lexeme.Semicolon) ∷
    (fixed lexeme.Endmodule) ∷ [])
    (refused lost 3) ∷
    -- module m ; initial begin
    row (a_module_word ∷ (name (codes "m")) ∷ (fixed lexeme.Semicolon) ∷ (fixed lexeme.Initial) ∷
    (fixed lexeme.Begin) ∷ [])
    (refused lost 0) ∷
    -- module m ; initial force a = $time ; endmodule
    row (a_module_word ∷ (name (codes "m")) ∷ (fixed lexeme.Semicolon) ∷ (fixed lexeme.Initial) ∷
    (fixed lexeme.Force) ∷ (name (codes "a")) ∷ (fixed lexeme.Equal) ∷
    (system (codes "$time")) ∷ (fixed lexeme.Semicolon) ∷ (fixed lexeme.Endmodule) ∷ [])
    whole ∷
    -- module m ; initial release a [ f ( b ) ] ; endmodule
    row (a_module_word ∷ (name (codes "m")) ∷ (fixed lexeme.Semicolon) ∷ (fixed lexeme.Initial) ∷
    (fixed lexeme.Release) ∷ (name (codes "a")) ∷ (fixed lexeme.LeftBracket) ∷
    (name (codes "f")) ∷ (fixed lexeme.LeftParen) ∷ (name (codes "b")) ∷
    (fixed lexeme.RightParen) ∷ (fixed lexeme.RightBracket) ∷ (fixed lexeme.Semicolon) ∷
    (fixed lexeme.Endmodule) ∷ [])
    whole ∷
    -- module m ; initial a [ 1 ] ; endmodule
    row (a_module_word ∷ (name (codes "m")) ∷ (fixed lexeme.Semicolon) ∷ (fixed lexeme.Initial) ∷
    (name (codes "a")) ∷ (fixed lexeme.LeftBracket) ∷ a_number_word ∷
    (fixed lexeme.RightBracket) ∷ (fixed lexeme.Semicolon) ∷ (fixed lexeme.Endmodule) ∷ [])
    whole ∷
    -- module m ; initial a [ 1 : 0 ] ; endmodule
    row (a_module_word ∷ (name (codes "m")) ∷ (fixed lexeme.Semicolon) ∷ (fixed lexeme.Initial) ∷
    (name (codes "a")) ∷ (fixed lexeme.LeftBracket) ∷ a_number_word ∷ (fixed lexeme.Colon) ∷
    a_number_word ∷ (fixed lexeme.RightBracket) ∷ (fixed lexeme.Semicolon) ∷
    (fixed lexeme.Endmodule) ∷ [])
    (refused lost 2) ∷
    -- module m ; initial case ( a ) 1 ; endcase endmodule
    row (a_module_word ∷ (name (codes "m")) ∷ (fixed lexeme.Semicolon) ∷ (fixed lexeme.Initial) ∷
    (fixed lexeme.Case) ∷ (fixed lexeme.LeftParen) ∷ (name (codes "a")) ∷
    (fixed lexeme.RightParen) ∷ a_number_word ∷ (fixed lexeme.Semicolon) ∷
    (fixed lexeme.Endcase) ∷ (fixed lexeme.Endmodule) ∷ [])
    (refused lost 3) ∷
    -- module m ; initial case ( a ) default ; endcase endmodule
    row (a_module_word ∷ (name (codes "m")) ∷ (fixed lexeme.Semicolon) ∷ (fixed lexeme.Initial) ∷
    (fixed lexeme.Case) ∷ (fixed lexeme.LeftParen) ∷ (name (codes "a")) ∷
    (fixed lexeme.RightParen) ∷ (fixed lexeme.Default) ∷ (fixed lexeme.Semicolon) ∷
    (fixed lexeme.Endcase) ∷ (fixed lexeme.Endmodule) ∷ [])
    whole ∷
    []

statements-answers : Answers statements_rows
unfolding esel_end esel dotted bracketed selected reselected path_turn path_rest path row_turn braced_rest braced lv arguments name_end by_name system_end by_system parens braces_end braces prim unary_operand any_operand chain_tail choice_tail expression_tail expression a_range a_type a_value assigned a_net an_init var_part a_var reg_decl integer_decl time_decl decl delay_value delay_end delay ev event_list event set assignment task_call name_stmt by_name_stmt by_brace_stmt empty_stmt delay_stmt event_stmt wait_stmt otherwise if_stmt default_item values_item citem citems case_stmt for_head for_stmt loop_stmt forever_stmt naming stmts begin_stmt fork_stmt trigger_stmt disable_stmt force_stmt release_stmt slot slots system_task system_stmt statement port_head pdecl next_port next_ports ports par port_ids port_item next_delayed more_delayed delayed_nets all_nets net_item decl_item event_item genvar_item parameter_item assign_item gate gate_item conn_by_name conn conns inst instance_item process_item targ_head targ_ids targ targ_id targ_one next_targ next_targs targs local routine task_item result_type function_item generate_head for_item other_gblock if_item item region_word region_end items within_turn region_rest first_word one_item_rest one_item item_block a_gblock pars port_list a_module source
statements-answers = refl

-- Items and modules.
abbrev items_rows : List Row
items_rows =
    -- module m ; endmodule
    row (a_module_word ∷ (name (codes "m")) ∷ (fixed lexeme.Semicolon) ∷ (fixed lexeme.Endmodule) ∷ [])
    whole ∷
    -- module m ; assign ( strong0 , weak1 ) a = b ; endmodule
    row (a_module_word ∷ (name (codes "m")) ∷ (fixed lexeme.Semicolon) ∷ (fixed lexeme.Assign) ∷
    (fixed lexeme.LeftParen) ∷ (fixed lexeme.Unused) ∷ (fixed lexeme.Comma) ∷
    (fixed lexeme.Unused) ∷ (fixed lexeme.RightParen) ∷ (name (codes "a")) ∷
    (fixed lexeme.Equal) ∷ (name (codes "b")) ∷ (fixed lexeme.Semicolon) ∷
    (fixed lexeme.Endmodule) ∷ [])
    (refused lost 10) ∷
    -- module m ( output reg a [ 3 : 0 ] ) ; endmodule
    row (a_module_word ∷ (name (codes "m")) ∷ (fixed lexeme.LeftParen) ∷ (fixed lexeme.Output) ∷
    (fixed lexeme.Reg) ∷ (name (codes "a")) ∷ (fixed lexeme.LeftBracket) ∷ a_number_word ∷
    (fixed lexeme.Colon) ∷ a_number_word ∷ (fixed lexeme.RightBracket) ∷
    (fixed lexeme.RightParen) ∷ (fixed lexeme.Semicolon) ∷ (fixed lexeme.Endmodule) ∷ [])
    (refused lost 8) ∷
    -- module m ( a [ 3 : 0 ] ) ; endmodule
    row (a_module_word ∷ (name (codes "m")) ∷ (fixed lexeme.LeftParen) ∷ (name (codes "a")) ∷
    (fixed lexeme.LeftBracket) ∷ a_number_word ∷ (fixed lexeme.Colon) ∷ a_number_word ∷
    (fixed lexeme.RightBracket) ∷ (fixed lexeme.RightParen) ∷ (fixed lexeme.Semicolon) ∷
    (fixed lexeme.Endmodule) ∷ [])
    (refused lost 8) ∷
    -- module m ; casez ( a ) 1 : ; endcase endmodule
    row (a_module_word ∷ (name (codes "m")) ∷ (fixed lexeme.Semicolon) ∷ (fixed lexeme.Casez) ∷
    (fixed lexeme.LeftParen) ∷ (name (codes "a")) ∷ (fixed lexeme.RightParen) ∷ a_number_word ∷
    (fixed lexeme.Colon) ∷ (fixed lexeme.Semicolon) ∷ (fixed lexeme.Endcase) ∷
    (fixed lexeme.Endmodule) ∷ [])
    (refused lost 9) ∷
    -- module m ; wire # 1 a = b , c = d ; endmodule
    row (a_module_word ∷ (name (codes "m")) ∷ (fixed lexeme.Semicolon) ∷ (fixed lexeme.Wire) ∷
    (fixed lexeme.Hash) ∷ a_number_word ∷ (name (codes "a")) ∷ (fixed lexeme.Equal) ∷
    (name (codes "b")) ∷ (fixed lexeme.Comma) ∷ (name (codes "c")) ∷ (fixed lexeme.Equal) ∷
    (name (codes "d")) ∷ (fixed lexeme.Semicolon) ∷ (fixed lexeme.Endmodule) ∷ [])
    whole ∷
    -- module m ; generate generate wire a ; endgenerate endgenerate endmodule
    row (a_module_word ∷ (name (codes "m")) ∷ (fixed lexeme.Semicolon) ∷ (fixed lexeme.Generate) ∷
    (fixed lexeme.Generate) ∷ (fixed lexeme.Wire) ∷ (name (codes "a")) ∷
    (fixed lexeme.Semicolon) ∷ (fixed lexeme.Endgenerate) ∷ (fixed lexeme.Endgenerate) ∷
    (fixed lexeme.Endmodule) ∷ [])
    whole ∷
    -- module m ; generate wire a ; endmodule
    row (a_module_word ∷ (name (codes "m")) ∷ (fixed lexeme.Semicolon) ∷ (fixed lexeme.Generate) ∷
    (fixed lexeme.Wire) ∷ (name (codes "a")) ∷ (fixed lexeme.Semicolon) ∷
    (fixed lexeme.Endmodule) ∷ [])
    (refused lost 1) ∷
    -- module m ; task t ; input a [ 1 : 0 ] ; ; endtask endmodule
    row (a_module_word ∷ (name (codes "m")) ∷ (fixed lexeme.Semicolon) ∷ (fixed lexeme.Task) ∷
    (name (codes "t")) ∷ (fixed lexeme.Semicolon) ∷ (fixed lexeme.Input) ∷ (name (codes "a")) ∷
    (fixed lexeme.LeftBracket) ∷ a_number_word ∷ (fixed lexeme.Colon) ∷ a_number_word ∷
    (fixed lexeme.RightBracket) ∷ (fixed lexeme.Semicolon) ∷ (fixed lexeme.Semicolon) ∷
    (fixed lexeme.Endtask) ∷ (fixed lexeme.Endmodule) ∷ [])
    (refused lost 9) ∷
    -- module m ( a , inout b ) ; endmodule
    row (a_module_word ∷ (name (codes "m")) ∷ (fixed lexeme.LeftParen) ∷ (name (codes "a")) ∷
    (fixed lexeme.Comma) ∷ (fixed lexeme.Inout) ∷ (name (codes "b")) ∷
    (fixed lexeme.RightParen) ∷ (fixed lexeme.Semicolon) ∷ (fixed lexeme.Endmodule) ∷ [])
    (refused lost 5) ∷
    -- module m ; n # ( ) u ( , , . a ( 1 ) ) ; endmodule
    row (a_module_word ∷ (name (codes "m")) ∷ (fixed lexeme.Semicolon) ∷ (name (codes "n")) ∷
    (fixed lexeme.Hash) ∷ (fixed lexeme.LeftParen) ∷ (fixed lexeme.RightParen) ∷
    (name (codes "u")) ∷ (fixed lexeme.LeftParen) ∷ (fixed lexeme.Comma) ∷ (fixed lexeme.Comma) ∷
    (fixed lexeme.Dot) ∷ (name (codes "a")) ∷ (fixed lexeme.LeftParen) ∷ a_number_word ∷
    (fixed lexeme.RightParen) ∷ (fixed lexeme.RightParen) ∷ (fixed lexeme.Semicolon) ∷
    (fixed lexeme.Endmodule) ∷ [])
    whole ∷
    []

items-answers : Answers items_rows
unfolding esel_end esel dotted bracketed selected reselected path_turn path_rest path row_turn braced_rest braced lv arguments name_end by_name system_end by_system parens braces_end braces prim unary_operand any_operand chain_tail choice_tail expression_tail expression a_range a_type a_value assigned a_net an_init var_part a_var reg_decl integer_decl time_decl decl delay_value delay_end delay ev event_list event set assignment task_call name_stmt by_name_stmt by_brace_stmt empty_stmt delay_stmt event_stmt wait_stmt otherwise if_stmt default_item values_item citem citems case_stmt for_head for_stmt loop_stmt forever_stmt naming stmts begin_stmt fork_stmt trigger_stmt disable_stmt force_stmt release_stmt slot slots system_task system_stmt statement port_head pdecl next_port next_ports ports par port_ids port_item next_delayed more_delayed delayed_nets all_nets net_item decl_item event_item genvar_item parameter_item assign_item gate gate_item conn_by_name conn conns inst instance_item process_item targ_head targ_ids targ targ_id targ_one next_targ next_targs targs local routine task_item result_type function_item generate_head for_item other_gblock if_item item region_word region_end items within_turn region_rest first_word one_item_rest one_item item_block a_gblock pars port_list a_module source
items-answers = refl

-- What is left out, and on few levels.
abbrev left_out_rows : List Row
left_out_rows =
    -- module m ; assign a = b ; specify endspecify endmodule
    row (a_module_word ∷ (name (codes "m")) ∷ (fixed lexeme.Semicolon) ∷ (fixed lexeme.Assign) ∷
    (name (codes "a")) ∷ (fixed lexeme.Equal) ∷ (name (codes "b")) ∷ (fixed lexeme.Semicolon) ∷
    (fixed lexeme.Unused) ∷ (fixed lexeme.Unused) ∷ (fixed lexeme.Endmodule) ∷ [])
    (refused left_out 3) ∷
    -- module m ( input a [ 3 : 0 ] ) ; endmodule
    row (a_module_word ∷ (name (codes "m")) ∷ (fixed lexeme.LeftParen) ∷ (fixed lexeme.Input) ∷
    (name (codes "a")) ∷ (fixed lexeme.LeftBracket) ∷ a_number_word ∷ (fixed lexeme.Colon) ∷
    a_number_word ∷ (fixed lexeme.RightBracket) ∷ (fixed lexeme.RightParen) ∷
    (fixed lexeme.Semicolon) ∷ (fixed lexeme.Endmodule) ∷ [])
    (refused left_out 8) ∷
    -- module m ; case ( a ) 1 : ; endcase endmodule
    row (a_module_word ∷ (name (codes "m")) ∷ (fixed lexeme.Semicolon) ∷ (fixed lexeme.Case) ∷
    (fixed lexeme.LeftParen) ∷ (name (codes "a")) ∷ (fixed lexeme.RightParen) ∷ a_number_word ∷
    (fixed lexeme.Colon) ∷ (fixed lexeme.Semicolon) ∷ (fixed lexeme.Endcase) ∷
    (fixed lexeme.Endmodule) ∷ [])
    (refused left_out 9) ∷
    -- module m ; initial a = @ ( e ) b ; endmodule
    row (a_module_word ∷ (name (codes "m")) ∷ (fixed lexeme.Semicolon) ∷ (fixed lexeme.Initial) ∷
    (name (codes "a")) ∷ (fixed lexeme.Equal) ∷ (fixed lexeme.At) ∷ (fixed lexeme.LeftParen) ∷
    (name (codes "e")) ∷ (fixed lexeme.RightParen) ∷ (name (codes "b")) ∷
    (fixed lexeme.Semicolon) ∷ (fixed lexeme.Endmodule) ∷ [])
    (refused left_out 7) ∷
    -- module m ; initial force a = f [ g ( 1 ) ] ( 2 ) ; endmodule
    row (a_module_word ∷ (name (codes "m")) ∷ (fixed lexeme.Semicolon) ∷ (fixed lexeme.Initial) ∷
    (fixed lexeme.Force) ∷ (name (codes "a")) ∷ (fixed lexeme.Equal) ∷ (name (codes "f")) ∷
    (fixed lexeme.LeftBracket) ∷ (name (codes "g")) ∷ (fixed lexeme.LeftParen) ∷
    a_number_word ∷ (fixed lexeme.RightParen) ∷ (fixed lexeme.RightBracket) ∷
    (fixed lexeme.LeftParen) ∷ a_number_word ∷ (fixed lexeme.RightParen) ∷
    (fixed lexeme.Semicolon) ∷ (fixed lexeme.Endmodule) ∷ [])
    (refused left_out 12) ∷
    -- module m ; function f ; input x ; f <= # 1 x ; endfunction endmodule
    row (a_module_word ∷ (name (codes "m")) ∷ (fixed lexeme.Semicolon) ∷ (fixed lexeme.Function) ∷
    (name (codes "f")) ∷ (fixed lexeme.Semicolon) ∷ (fixed lexeme.Input) ∷ (name (codes "x")) ∷
    (fixed lexeme.Semicolon) ∷ (name (codes "f")) ∷ (fixed lexeme.LessEqual) ∷
    (fixed lexeme.Hash) ∷ a_number_word ∷ (name (codes "x")) ∷ (fixed lexeme.Semicolon) ∷
    (fixed lexeme.Endfunction) ∷ (fixed lexeme.Endmodule) ∷ [])
    (refused left_out 7) ∷
    -- module m ; function f ; input x ; g ; endfunction endmodule
    row (a_module_word ∷ (name (codes "m")) ∷ (fixed lexeme.Semicolon) ∷ (fixed lexeme.Function) ∷
    (name (codes "f")) ∷ (fixed lexeme.Semicolon) ∷ (fixed lexeme.Input) ∷ (name (codes "x")) ∷
    (fixed lexeme.Semicolon) ∷ (name (codes "g")) ∷ (fixed lexeme.Semicolon) ∷
    (fixed lexeme.Endfunction) ∷ (fixed lexeme.Endmodule) ∷ [])
    (refused left_out 4) ∷
    -- module m ; wire # 1 a = b , c , d ; endmodule
    row (a_module_word ∷ (name (codes "m")) ∷ (fixed lexeme.Semicolon) ∷ (fixed lexeme.Wire) ∷
    (fixed lexeme.Hash) ∷ a_number_word ∷ (name (codes "a")) ∷ (fixed lexeme.Equal) ∷
    (name (codes "b")) ∷ (fixed lexeme.Comma) ∷ (name (codes "c")) ∷ (fixed lexeme.Comma) ∷
    (name (codes "d")) ∷ (fixed lexeme.Semicolon) ∷ (fixed lexeme.Endmodule) ∷ [])
    (refused left_out 11) ∷
    -- module m ; initial # ( 1 , 2 ) a = b ; endmodule
    row (a_module_word ∷ (name (codes "m")) ∷ (fixed lexeme.Semicolon) ∷ (fixed lexeme.Initial) ∷
    (fixed lexeme.Hash) ∷ (fixed lexeme.LeftParen) ∷ a_number_word ∷ (fixed lexeme.Comma) ∷
    a_number_word ∷ (fixed lexeme.RightParen) ∷ (name (codes "a")) ∷ (fixed lexeme.Equal) ∷
    (name (codes "b")) ∷ (fixed lexeme.Semicolon) ∷ (fixed lexeme.Endmodule) ∷ [])
    (refused left_out 11) ∷
    -- module m ; initial a = ( ( real, on 2 levels
    row_on 2 (a_module_word ∷ (name (codes "m")) ∷ (fixed lexeme.Semicolon) ∷ (fixed lexeme.Initial) ∷
    (name (codes "a")) ∷ (fixed lexeme.Equal) ∷ (fixed lexeme.LeftParen) ∷
    (fixed lexeme.LeftParen) ∷ (fixed lexeme.Unused) ∷ [])
    (refused left_out 1) ∷
    -- module m ; initial a = ( ( 1, on 2 levels
    row_on 2 (a_module_word ∷ (name (codes "m")) ∷ (fixed lexeme.Semicolon) ∷ (fixed lexeme.Initial) ∷
    (name (codes "a")) ∷ (fixed lexeme.Equal) ∷ (fixed lexeme.LeftParen) ∷
    (fixed lexeme.LeftParen) ∷ a_number_word ∷ [])
    (refused deep 1) ∷
    -- module m ; initial a = ( (, on 2 levels
    row_on 2 (a_module_word ∷ (name (codes "m")) ∷ (fixed lexeme.Semicolon) ∷ (fixed lexeme.Initial) ∷
    (name (codes "a")) ∷ (fixed lexeme.Equal) ∷ (fixed lexeme.LeftParen) ∷
    (fixed lexeme.LeftParen) ∷ [])
    (refused lost 0) ∷
    -- module m ; initial force a = $f ; endmodule
    row (a_module_word ∷ (name (codes "m")) ∷ (fixed lexeme.Semicolon) ∷ (fixed lexeme.Initial) ∷
    (fixed lexeme.Force) ∷ (name (codes "a")) ∷ (fixed lexeme.Equal) ∷ (system (codes "$f")) ∷
    (fixed lexeme.Semicolon) ∷ (fixed lexeme.Endmodule) ∷ [])
    (refused left_out 3) ∷
    -- module m ; initial $strobe ( a , f ( b ) ) ; endmodule
    row (a_module_word ∷ (name (codes "m")) ∷ (fixed lexeme.Semicolon) ∷ (fixed lexeme.Initial) ∷
    (system (codes "$strobe")) ∷ (fixed lexeme.LeftParen) ∷ (name (codes "a")) ∷
    (fixed lexeme.Comma) ∷ (name (codes "f")) ∷ (fixed lexeme.LeftParen) ∷ (name (codes "b")) ∷
    (fixed lexeme.RightParen) ∷ (fixed lexeme.RightParen) ∷ (fixed lexeme.Semicolon) ∷
    (fixed lexeme.Endmodule) ∷ [])
    (refused left_out 7) ∷
    -- module m ; initial wait ( f ( b ) ) ; endmodule
    row (a_module_word ∷ (name (codes "m")) ∷ (fixed lexeme.Semicolon) ∷ (fixed lexeme.Initial) ∷
    (fixed lexeme.Wait) ∷ (fixed lexeme.LeftParen) ∷ (name (codes "f")) ∷
    (fixed lexeme.LeftParen) ∷ (name (codes "b")) ∷ (fixed lexeme.RightParen) ∷
    (fixed lexeme.RightParen) ∷ (fixed lexeme.Semicolon) ∷ (fixed lexeme.Endmodule) ∷ [])
    (refused left_out 7) ∷
    -- module m ; input a , b [ 3 : 0 ] ; endmodule
    row (a_module_word ∷ (name (codes "m")) ∷ (fixed lexeme.Semicolon) ∷ (fixed lexeme.Input) ∷
    (name (codes "a")) ∷ (fixed lexeme.Comma) ∷ (name (codes "b")) ∷
    (fixed lexeme.LeftBracket) ∷ a_number_word ∷ (fixed lexeme.Colon) ∷ a_number_word ∷
    (fixed lexeme.RightBracket) ∷ (fixed lexeme.Semicolon) ∷ (fixed lexeme.Endmodule) ∷ [])
    (refused left_out 7) ∷
    -- module m ; reg a [ 3 : 0 ] [ 1 : 0 ] ; endmodule
    row (a_module_word ∷ (name (codes "m")) ∷ (fixed lexeme.Semicolon) ∷ (fixed lexeme.Reg) ∷
    (name (codes "a")) ∷ (fixed lexeme.LeftBracket) ∷ a_number_word ∷ (fixed lexeme.Colon) ∷
    a_number_word ∷ (fixed lexeme.RightBracket) ∷ (fixed lexeme.LeftBracket) ∷ a_number_word ∷
    (fixed lexeme.Colon) ∷ a_number_word ∷ (fixed lexeme.RightBracket) ∷
    (fixed lexeme.Semicolon) ∷ (fixed lexeme.Endmodule) ∷ [])
    (refused left_out 7) ∷
    -- module m ; task t ; input integer a [ 1 : 0 ] ; ; endtask endmodule
    row (a_module_word ∷ (name (codes "m")) ∷ (fixed lexeme.Semicolon) ∷ (fixed lexeme.Task) ∷
    (name (codes "t")) ∷ (fixed lexeme.Semicolon) ∷ (fixed lexeme.Input) ∷
    (fixed lexeme.Integer) ∷ (name (codes "a")) ∷ (fixed lexeme.LeftBracket) ∷ a_number_word ∷
    (fixed lexeme.Colon) ∷ a_number_word ∷ (fixed lexeme.RightBracket) ∷
    (fixed lexeme.Semicolon) ∷ (fixed lexeme.Semicolon) ∷ (fixed lexeme.Endtask) ∷
    (fixed lexeme.Endmodule) ∷ [])
    (refused left_out 9) ∷
    -- module m ( inout a ) ; endmodule
    row (a_module_word ∷ (name (codes "m")) ∷ (fixed lexeme.LeftParen) ∷ (fixed lexeme.Inout) ∷
    (name (codes "a")) ∷ (fixed lexeme.RightParen) ∷ (fixed lexeme.Semicolon) ∷
    (fixed lexeme.Endmodule) ∷ [])
    (refused left_out 5) ∷
    -- module m ( input a , inout b ) ; endmodule
    row (a_module_word ∷ (name (codes "m")) ∷ (fixed lexeme.LeftParen) ∷ (fixed lexeme.Input) ∷
    (name (codes "a")) ∷ (fixed lexeme.Comma) ∷ (fixed lexeme.Inout) ∷ (name (codes "b")) ∷
    (fixed lexeme.RightParen) ∷ (fixed lexeme.Semicolon) ∷ (fixed lexeme.Endmodule) ∷ [])
    (refused left_out 5) ∷
    -- module m ; generate inout a ; endgenerate endmodule
    row (a_module_word ∷ (name (codes "m")) ∷ (fixed lexeme.Semicolon) ∷ (fixed lexeme.Generate) ∷
    (fixed lexeme.Inout) ∷ (name (codes "a")) ∷ (fixed lexeme.Semicolon) ∷
    (fixed lexeme.Endgenerate) ∷ (fixed lexeme.Endmodule) ∷ [])
    (refused left_out 5) ∷
    -- module m ; if ( a ) case ( b ) endmodule
    row (a_module_word ∷ (name (codes "m")) ∷ (fixed lexeme.Semicolon) ∷ (fixed lexeme.If) ∷
    (fixed lexeme.LeftParen) ∷ (name (codes "a")) ∷ (fixed lexeme.RightParen) ∷
    (fixed lexeme.Case) ∷ (fixed lexeme.LeftParen) ∷ (name (codes "b")) ∷
    (fixed lexeme.RightParen) ∷ (fixed lexeme.Endmodule) ∷ [])
    (refused left_out 5) ∷
    -- module m ; function f ; input x ; fork join endfunction endmodule
    row (a_module_word ∷ (name (codes "m")) ∷ (fixed lexeme.Semicolon) ∷ (fixed lexeme.Function) ∷
    (name (codes "f")) ∷ (fixed lexeme.Semicolon) ∷ (fixed lexeme.Input) ∷ (name (codes "x")) ∷
    (fixed lexeme.Semicolon) ∷ (fixed lexeme.Fork) ∷ (fixed lexeme.Join) ∷
    (fixed lexeme.Endfunction) ∷ (fixed lexeme.Endmodule) ∷ [])
    (refused left_out 4) ∷
    []

left-out-answers : Answers left_out_rows
unfolding esel_end esel dotted bracketed selected reselected path_turn path_rest path row_turn braced_rest braced lv arguments name_end by_name system_end by_system parens braces_end braces prim unary_operand any_operand chain_tail choice_tail expression_tail expression a_range a_type a_value assigned a_net an_init var_part a_var reg_decl integer_decl time_decl decl delay_value delay_end delay ev event_list event set assignment task_call name_stmt by_name_stmt by_brace_stmt empty_stmt delay_stmt event_stmt wait_stmt otherwise if_stmt default_item values_item citem citems case_stmt for_head for_stmt loop_stmt forever_stmt naming stmts begin_stmt fork_stmt trigger_stmt disable_stmt force_stmt release_stmt slot slots system_task system_stmt statement port_head pdecl next_port next_ports ports par port_ids port_item next_delayed more_delayed delayed_nets all_nets net_item decl_item event_item genvar_item parameter_item assign_item gate gate_item conn_by_name conn conns inst instance_item process_item targ_head targ_ids targ targ_id targ_one next_targ next_targs targs local routine task_item result_type function_item generate_head for_item other_gblock if_item item region_word region_end items within_turn region_rest first_word one_item_rest one_item item_block a_gblock pars port_list a_module source
left-out-answers = refl

-- 199 parentheses in an `initial`, and 200, where the number inside is too deep.
abbrev in_parens_row : ℕ → List Terminal
in_parens_row n =
    a_module_word ∷ name (codes "m") ∷ fixed lexeme.Semicolon ∷ fixed lexeme.Initial ∷
    name (codes "a") ∷ fixed lexeme.Equal ∷ (replicate n (fixed lexeme.LeftParen) ++
    (a_number_word ∷ (replicate n (fixed lexeme.RightParen) ++
    (fixed lexeme.Semicolon ∷ fixed lexeme.Endmodule ∷ []))))

-- Braces of a target, which take no level.
abbrev in_braces_row : ℕ → List Terminal
in_braces_row n =
    a_module_word ∷ name (codes "m") ∷ fixed lexeme.Semicolon ∷ fixed lexeme.Initial ∷
    (replicate n (fixed lexeme.LeftBrace) ++ (name (codes "a") ∷ (replicate n (fixed lexeme.RightBrace) ++
    (fixed lexeme.Equal ∷ a_number_word ∷ fixed lexeme.Semicolon ∷ fixed lexeme.Endmodule ∷ []))))

abbrev deep_rows : List Row
deep_rows =
    row (in_parens_row 199) whole ∷
    row (in_parens_row 200) (refused deep 203) ∷
    row_on 1 (in_braces_row 300) whole ∷
    []

deep-answers : Answers deep_rows
unfolding esel_end esel dotted bracketed selected reselected path_turn path_rest path row_turn braced_rest braced lv arguments name_end by_name system_end by_system parens braces_end braces prim unary_operand any_operand chain_tail choice_tail expression_tail expression a_range a_type a_value assigned a_net an_init var_part a_var reg_decl integer_decl time_decl decl delay_value delay_end delay ev event_list event set assignment task_call name_stmt by_name_stmt by_brace_stmt empty_stmt delay_stmt event_stmt wait_stmt otherwise if_stmt default_item values_item citem citems case_stmt for_head for_stmt loop_stmt forever_stmt naming stmts begin_stmt fork_stmt trigger_stmt disable_stmt force_stmt release_stmt slot slots system_task system_stmt statement port_head pdecl next_port next_ports ports par port_ids port_item next_delayed more_delayed delayed_nets all_nets net_item decl_item event_item genvar_item parameter_item assign_item gate gate_item conn_by_name conn conns inst instance_item process_item targ_head targ_ids targ targ_id targ_one next_targ next_targs targs local routine task_item result_type function_item generate_head for_item other_gblock if_item item region_word region_end items within_turn region_rest first_word one_item_rest one_item item_block a_gblock pars port_list a_module source
deep-answers = refl

-- Trees of expressions and statements.
abbrev read_as : {A : Type 0} → G A → List Terminal → Out Token (A × ℕ)
read_as part kinds = noted is_unused grammar 200 part (seen kinds) 0

abbrev e : List ℕ → ExprTree
e bytes = E.named_at (E.name (record { place = here; name = bytes }) E.no_index E.no_step) E.no_sel

-- A ? b : c ? d : g: it groups to the right
choice-tree : read_as (expression true) ((name (codes "a")) ∷ (fixed lexeme.Question) ∷ (name (codes "b")) ∷ (fixed lexeme.Colon) ∷
    (name (codes "c")) ∷ (fixed lexeme.Question) ∷ (name (codes "d")) ∷ (fixed lexeme.Colon) ∷
    (name (codes "g")) ∷ [])
    ≡ got (E.chosen (e (codes "a")) (e (codes "b")) (E.chosen (e (codes "c")) (e (codes "d")) (e (codes "g"))), 0) []
unfolding esel_end esel dotted bracketed selected reselected path_turn path_rest path row_turn braced_rest braced lv arguments name_end by_name system_end by_system parens braces_end braces prim unary_operand any_operand chain_tail choice_tail expression_tail expression a_range a_type a_value assigned a_net an_init var_part a_var reg_decl integer_decl time_decl decl delay_value delay_end delay ev event_list event set assignment task_call name_stmt by_name_stmt by_brace_stmt empty_stmt delay_stmt event_stmt wait_stmt otherwise if_stmt default_item values_item citem citems case_stmt for_head for_stmt loop_stmt forever_stmt naming stmts begin_stmt fork_stmt trigger_stmt disable_stmt force_stmt release_stmt slot slots system_task system_stmt statement port_head pdecl next_port next_ports ports par port_ids port_item next_delayed more_delayed delayed_nets all_nets net_item decl_item event_item genvar_item parameter_item assign_item gate gate_item conn_by_name conn conns inst instance_item process_item targ_head targ_ids targ targ_id targ_one next_targ next_targs targs local routine task_item result_type function_item generate_head for_item other_gblock if_item item region_word region_end items within_turn region_rest first_word one_item_rest one_item item_block a_gblock pars port_list a_module source
choice-tree = refl

-- - a ** b: a unary operator binds closest
power-tree : read_as (expression true) ((fixed lexeme.Minus) ∷ (name (codes "a")) ∷ (fixed lexeme.StarStar) ∷ (name (codes "b")) ∷ [])
    ≡ got ((E.chained (E.unary_at here unary_.Minus (e (codes "a"))) ((binary.Power, (e (codes "b"))) ∷ [])), 0) []
unfolding esel_end esel dotted bracketed selected reselected path_turn path_rest path row_turn braced_rest braced lv arguments name_end by_name system_end by_system parens braces_end braces prim unary_operand any_operand chain_tail choice_tail expression_tail expression a_range a_type a_value assigned a_net an_init var_part a_var reg_decl integer_decl time_decl decl delay_value delay_end delay ev event_list event set assignment task_call name_stmt by_name_stmt by_brace_stmt empty_stmt delay_stmt event_stmt wait_stmt otherwise if_stmt default_item values_item citem citems case_stmt for_head for_stmt loop_stmt forever_stmt naming stmts begin_stmt fork_stmt trigger_stmt disable_stmt force_stmt release_stmt slot slots system_task system_stmt statement port_head pdecl next_port next_ports ports par port_ids port_item next_delayed more_delayed delayed_nets all_nets net_item decl_item event_item genvar_item parameter_item assign_item gate gate_item conn_by_name conn conns inst instance_item process_item targ_head targ_ids targ targ_id targ_one next_targ next_targs targs local routine task_item result_type function_item generate_head for_item other_gblock if_item item region_word region_end items within_turn region_rest first_word one_item_rest one_item item_block a_gblock pars port_list a_module source
power-tree = refl

-- A - b - c: one chain, which groups to the left
minus-tree : read_as (expression true) ((name (codes "a")) ∷ (fixed lexeme.Minus) ∷ (name (codes "b")) ∷ (fixed lexeme.Minus) ∷
    (name (codes "c")) ∷ [])
    ≡ got ((E.chained (e (codes "a")) ((binary.Minus, (e (codes "b"))) ∷ (binary.Minus, (e (codes "c"))) ∷ [])), 0) []
unfolding esel_end esel dotted bracketed selected reselected path_turn path_rest path row_turn braced_rest braced lv arguments name_end by_name system_end by_system parens braces_end braces prim unary_operand any_operand chain_tail choice_tail expression_tail expression a_range a_type a_value assigned a_net an_init var_part a_var reg_decl integer_decl time_decl decl delay_value delay_end delay ev event_list event set assignment task_call name_stmt by_name_stmt by_brace_stmt empty_stmt delay_stmt event_stmt wait_stmt otherwise if_stmt default_item values_item citem citems case_stmt for_head for_stmt loop_stmt forever_stmt naming stmts begin_stmt fork_stmt trigger_stmt disable_stmt force_stmt release_stmt slot slots system_task system_stmt statement port_head pdecl next_port next_ports ports par port_ids port_item next_delayed more_delayed delayed_nets all_nets net_item decl_item event_item genvar_item parameter_item assign_item gate gate_item conn_by_name conn conns inst instance_item process_item targ_head targ_ids targ targ_id targ_one next_targ next_targs targs local routine task_item result_type function_item generate_head for_item other_gblock if_item item region_word region_end items within_turn region_rest first_word one_item_rest one_item item_block a_gblock pars port_list a_module source
minus-tree = refl

-- A + b * c
times-tree : read_as (expression true) ((name (codes "a")) ∷ (fixed lexeme.Plus) ∷ (name (codes "b")) ∷ (fixed lexeme.Star) ∷
    (name (codes "c")) ∷ [])
    ≡ got ((E.chained (e (codes "a")) ((binary.Plus, (E.chained (e (codes "b")) ((binary.Times, (e (codes "c"))) ∷ []))) ∷ [])), 0) []
unfolding esel_end esel dotted bracketed selected reselected path_turn path_rest path row_turn braced_rest braced lv arguments name_end by_name system_end by_system parens braces_end braces prim unary_operand any_operand chain_tail choice_tail expression_tail expression a_range a_type a_value assigned a_net an_init var_part a_var reg_decl integer_decl time_decl decl delay_value delay_end delay ev event_list event set assignment task_call name_stmt by_name_stmt by_brace_stmt empty_stmt delay_stmt event_stmt wait_stmt otherwise if_stmt default_item values_item citem citems case_stmt for_head for_stmt loop_stmt forever_stmt naming stmts begin_stmt fork_stmt trigger_stmt disable_stmt force_stmt release_stmt slot slots system_task system_stmt statement port_head pdecl next_port next_ports ports par port_ids port_item next_delayed more_delayed delayed_nets all_nets net_item decl_item event_item genvar_item parameter_item assign_item gate gate_item conn_by_name conn conns inst instance_item process_item targ_head targ_ids targ targ_id targ_one next_targ next_targs targs local routine task_item result_type function_item generate_head for_item other_gblock if_item item region_word region_end items within_turn region_rest first_word one_item_rest one_item item_block a_gblock pars port_list a_module source
times-tree = refl

-- A * b + c
plus-tree : read_as (expression true) ((name (codes "a")) ∷ (fixed lexeme.Star) ∷ (name (codes "b")) ∷ (fixed lexeme.Plus) ∷
    (name (codes "c")) ∷ [])
    ≡ got ((E.chained (E.chained (e (codes "a")) ((binary.Times, (e (codes "b"))) ∷ [])) ((binary.Plus, (e (codes "c"))) ∷ [])), 0) []
unfolding esel_end esel dotted bracketed selected reselected path_turn path_rest path row_turn braced_rest braced lv arguments name_end by_name system_end by_system parens braces_end braces prim unary_operand any_operand chain_tail choice_tail expression_tail expression a_range a_type a_value assigned a_net an_init var_part a_var reg_decl integer_decl time_decl decl delay_value delay_end delay ev event_list event set assignment task_call name_stmt by_name_stmt by_brace_stmt empty_stmt delay_stmt event_stmt wait_stmt otherwise if_stmt default_item values_item citem citems case_stmt for_head for_stmt loop_stmt forever_stmt naming stmts begin_stmt fork_stmt trigger_stmt disable_stmt force_stmt release_stmt slot slots system_task system_stmt statement port_head pdecl next_port next_ports ports par port_ids port_item next_delayed more_delayed delayed_nets all_nets net_item decl_item event_item genvar_item parameter_item assign_item gate gate_item conn_by_name conn conns inst instance_item process_item targ_head targ_ids targ targ_id targ_one next_targ next_targs targs local routine task_item result_type function_item generate_head for_item other_gblock if_item item region_word region_end items within_turn region_rest first_word one_item_rest one_item item_block a_gblock pars port_list a_module source
plus-tree = refl

-- a || b == c & d
or-tree : read_as (expression true) ((name (codes "a")) ∷ (fixed lexeme.OrOr) ∷ (name (codes "b")) ∷ (fixed lexeme.LogicalEqual) ∷
    (name (codes "c")) ∷ (fixed lexeme.Ampersand) ∷ (name (codes "d")) ∷ [])
    ≡ got ((E.chained (e (codes "a")) ((binary.OrOr, (E.chained (E.chained (e (codes "b")) ((binary.LogicalEqual, (e (codes "c"))) ∷ [])) ((binary.And, (e (codes "d"))) ∷ []))) ∷ [])), 0) []
unfolding esel_end esel dotted bracketed selected reselected path_turn path_rest path row_turn braced_rest braced lv arguments name_end by_name system_end by_system parens braces_end braces prim unary_operand any_operand chain_tail choice_tail expression_tail expression a_range a_type a_value assigned a_net an_init var_part a_var reg_decl integer_decl time_decl decl delay_value delay_end delay ev event_list event set assignment task_call name_stmt by_name_stmt by_brace_stmt empty_stmt delay_stmt event_stmt wait_stmt otherwise if_stmt default_item values_item citem citems case_stmt for_head for_stmt loop_stmt forever_stmt naming stmts begin_stmt fork_stmt trigger_stmt disable_stmt force_stmt release_stmt slot slots system_task system_stmt statement port_head pdecl next_port next_ports ports par port_ids port_item next_delayed more_delayed delayed_nets all_nets net_item decl_item event_item genvar_item parameter_item assign_item gate gate_item conn_by_name conn conns inst instance_item process_item targ_head targ_ids targ targ_id targ_one next_targ next_targs targs local routine task_item result_type function_item generate_head for_item other_gblock if_item item region_word region_end items within_turn region_rest first_word one_item_rest one_item item_block a_gblock pars port_list a_module source
or-tree = refl

-- if ( a ) if ( b ) ; else ;: the `else` is that of the inner `if`
else-tree : read_as (statement false) ((fixed lexeme.If) ∷ (fixed lexeme.LeftParen) ∷ (name (codes "a")) ∷ (fixed lexeme.RightParen) ∷
    (fixed lexeme.If) ∷ (fixed lexeme.LeftParen) ∷ (name (codes "b")) ∷ (fixed lexeme.RightParen) ∷
    (fixed lexeme.Semicolon) ∷ (fixed lexeme.Else) ∷ (fixed lexeme.Semicolon) ∷ [])
    ≡ got (S.stmt here (S.if_stmt (e (codes "a")) (S.stmt here (S.if_stmt (e (codes "b")) (S.stmt here (S.simple_stmt S.empty)) (S.else_stmt (S.stmt here (S.simple_stmt S.empty))))) S.no_else), 0) []
unfolding esel_end esel dotted bracketed selected reselected path_turn path_rest path row_turn braced_rest braced lv arguments name_end by_name system_end by_system parens braces_end braces prim unary_operand any_operand chain_tail choice_tail expression_tail expression a_range a_type a_value assigned a_net an_init var_part a_var reg_decl integer_decl time_decl decl delay_value delay_end delay ev event_list event set assignment task_call name_stmt by_name_stmt by_brace_stmt empty_stmt delay_stmt event_stmt wait_stmt otherwise if_stmt default_item values_item citem citems case_stmt for_head for_stmt loop_stmt forever_stmt naming stmts begin_stmt fork_stmt trigger_stmt disable_stmt force_stmt release_stmt slot slots system_task system_stmt statement port_head pdecl next_port next_ports ports par port_ids port_item next_delayed more_delayed delayed_nets all_nets net_item decl_item event_item genvar_item parameter_item assign_item gate gate_item conn_by_name conn conns inst instance_item process_item targ_head targ_ids targ targ_id targ_one next_targ next_targs targs local routine task_item result_type function_item generate_head for_item other_gblock if_item item region_word region_end items within_turn region_rest first_word one_item_rest one_item item_block a_gblock pars port_list a_module source
else-tree = refl

-- a [ b ] . c [ d ]: the last index is the select's
select-tree : read_as (expression true) ((name (codes "a")) ∷ (fixed lexeme.LeftBracket) ∷ (name (codes "b")) ∷
    (fixed lexeme.RightBracket) ∷ (fixed lexeme.Dot) ∷ (name (codes "c")) ∷
    (fixed lexeme.LeftBracket) ∷ (name (codes "d")) ∷ (fixed lexeme.RightBracket) ∷ [])
    ≡ got (E.named_at (E.name (record { place = here; name = codes "a" }) (E.index (e (codes "b"))) (E.one_step (record { place = here; name = codes "c" }) E.no_index E.no_step)) (E.index_sel here (e (codes "d"))), 0) []
unfolding esel_end esel dotted bracketed selected reselected path_turn path_rest path row_turn braced_rest braced lv arguments name_end by_name system_end by_system parens braces_end braces prim unary_operand any_operand chain_tail choice_tail expression_tail expression a_range a_type a_value assigned a_net an_init var_part a_var reg_decl integer_decl time_decl decl delay_value delay_end delay ev event_list event set assignment task_call name_stmt by_name_stmt by_brace_stmt empty_stmt delay_stmt event_stmt wait_stmt otherwise if_stmt default_item values_item citem citems case_stmt for_head for_stmt loop_stmt forever_stmt naming stmts begin_stmt fork_stmt trigger_stmt disable_stmt force_stmt release_stmt slot slots system_task system_stmt statement port_head pdecl next_port next_ports ports par port_ids port_item next_delayed more_delayed delayed_nets all_nets net_item decl_item event_item genvar_item parameter_item assign_item gate gate_item conn_by_name conn conns inst instance_item process_item targ_head targ_ids targ targ_id targ_one next_targ next_targs targs local routine task_item result_type function_item generate_head for_item other_gblock if_item item region_word region_end items within_turn region_rest first_word one_item_rest one_item item_block a_gblock pars port_list a_module source
select-tree = refl

-- A chain of a level is a chain of the level below and operators of the level with such chains behind them.
abbrev chain_at : ℕ → Bool → G ExprTree
chain_at level calls = bind (any_operand calls) (chain_tail level calls)

abbrev links_of : ℕ → Bool → ExprTree → G ExprTree
links_of level calls first = act (E.chained first) (rep (λ t. is_some (operator_at level t)) (seq (tok (operator_at level)) (chain_at level calls)))

chain-levels : (depth level : ℕ) (calls : Bool) (ts : List Token) (omission : ℕ) →
    noted is_unused grammar depth (chain_at (suc level) calls) ts omission ≡ noted is_unused grammar depth (bind (chain_at level calls) (links_of level calls)) ts omission
unfolding chain_tail
chain-levels depth level calls ts omission = by_operand (noted is_unused grammar depth (any_operand calls) ts omission)
  where
    by_operand : (o : Out Token (ExprTree × ℕ)) →
        then_ o (λ a mid. then_ (noted is_unused grammar depth (chain_tail level calls a.0) mid a.1) (λ b rest. noted is_unused grammar depth (links_of level calls b.0) rest b.1))
        ≡ then_ (then_ o (λ a mid. noted is_unused grammar depth (chain_tail level calls a.0) mid a.1)) (λ b rest. noted is_unused grammar depth (links_of level calls b.0) rest b.1)
    by_operand (got a mid) = refl
    by_operand (stop fault n) = refl
