-- The conditions of statements.
use Rattle.std.proofs.Common.{◌≡◌, Bool, true, false, refl}
use Rattle.vh_base.specs.declared.place.Place.{Place}
use Rattle.vh_parse_grammar.specs.Conditions.{eats, Advances}
use Rattle.vh_parse_grammar.specs.Choices.{Heeds}
use Rattle.vh_ast.specs.declared.token.Id.{Id}
use Rattle.vh_parse_syntax.specs.declared.lexeme.Lexeme.TheVariants as lexeme
use Rattle.vh_parse_syntax.specs.Tokens.{Token, Terminal, opening, fixed, name, system, text, number}
use Rattle.vh_parse_syntax.specs.Names.{Path, path, is_closed, single, lv, braced}
use Rattle.vh_parse_syntax.specs.Expressions.{by_name, by_system, parens, braces, prim, unary_operand, any_operand, expression}
use Rattle.vh_parse_syntax.specs.Grammar.{begins}
use Rattle.vh_parse_syntax.specs.Conditions.{at}
use Rattle.vh_parse_syntax.specs.NameConditions.{path_advances, path_heeds, lv_advances, lv_heeds, braced_advances, braced_heeds}
use Rattle.vh_parse_syntax.specs.ExpressionConditions.{expression_advances, none_of_expression, expression_heeds}
use Rattle.vh_ast.specs.Statements.{DelayTree, LvTree}
use Rattle.vh_parse_syntax.specs.Declarations.{reg_decl, integer_decl, time_decl, decl}
use Rattle.vh_parse_syntax.specs.Statements.{is_expr, delay_value, delay_end, delay, ev, event_list, event, set, assignment, task_call, name_stmt, by_name_stmt, by_brace_stmt, empty_stmt, delay_stmt, event_stmt, wait_stmt, otherwise, if_stmt, default_item, values_item, citem, citems, case_stmt, for_head, for_stmt, loop_stmt, forever_stmt, naming, stmts, begin_stmt, fork_stmt, trigger_stmt, disable_stmt, force_stmt, release_stmt, slot, slots, system_task, system_stmt, statement}
use Rattle.vh_parse_syntax.specs.DeclarationConditions.{decl_advances, decl_heeds}

-- Each production takes a token.
pub statement_eats : (inside : Bool) → eats (statement inside) ≡ true
unfolding statement empty_stmt by_name_stmt path by_brace_stmt braced delay_stmt delay event_stmt wait_stmt if_stmt case_stmt for_stmt loop_stmt forever_stmt begin_stmt fork_stmt trigger_stmt disable_stmt force_stmt release_stmt system_stmt
statement_eats inside = refl

-- Each turn of a repetition takes a token.
end_advances : (opened : Bool) (d : DelayTree) → Advances (delay_end opened d)
unfolding delay_end
end_advances true d = tt
end_advances false d = tt

pub delay_advances : Advances delay
unfolding delay delay_value
delay_advances = ((tt, (tt, (tt, (tt, (expression_advances true))))), λ d. end_advances (is_expr d.value) d)

ev_advances : Advances ev
unfolding ev
ev_advances = ((tt, (expression_advances false)), (expression_advances false))

event_advances : Advances event
unfolding event event_list
event_advances = (tt, (path_advances (expression false) (expression_advances false) false, (tt, ((tt, tt), ((ev_advances, (refl, (tt, ev_advances))), tt)))))

pub set_advances : (calls : Bool) → Advances (set calls)
unfolding set
set_advances calls = (lv_advances (expression calls) (expression_advances calls), (tt, expression_advances calls))

assignment_advances : (inside : Bool) (l : LvTree) → Advances (assignment inside l)
unfolding assignment
assignment_advances inside l = (tt, ((delay_advances, tt), ((expression_advances true), tt)))

task_advances : (p : Path) → Advances (task_call p)
unfolding task_call
task_advances p = (((tt, (((expression_advances true), (refl, (tt, (expression_advances true)))), tt)), tt), tt)

name_stmt_advances : (inside closed : Bool) (p : Path) → Advances (name_stmt inside closed p)
unfolding name_stmt
name_stmt_advances inside true p = assignment_advances inside _
name_stmt_advances inside false p = (assignment_advances inside _, task_advances p)

by_name_advances : (inside : Bool) → Advances (by_name_stmt inside)
unfolding by_name_stmt
by_name_advances inside = (path_advances (expression true) (expression_advances true) true, λ p. name_stmt_advances inside (is_closed p.last) p)

by_brace_advances : (inside : Bool) → Advances (by_brace_stmt inside)
unfolding by_brace_stmt
by_brace_advances inside = (braced_advances (expression true) (expression_advances true), λ l. assignment_advances inside l)

if_advances : (inside : Bool) → Advances (if_stmt inside)
unfolding if_stmt otherwise
if_advances inside = (tt, ((tt, ((expression_advances true), tt)), (tt, ((tt, tt), tt))))

citem_advances : (inside : Bool) → Advances (citem inside)
unfolding citem default_item values_item
citem_advances inside = ((tt, ((tt, tt), tt)), (((expression_advances true), (refl, (tt, (expression_advances true)))), (tt, tt)))

citem_eats : (inside : Bool) → eats (citem inside) ≡ true
unfolding citem default_item values_item expression any_operand unary_operand prim by_name path by_system parens braces
citem_eats inside = refl

case_advances : (inside : Bool) → Advances (case_stmt inside)
unfolding case_stmt citems
case_advances inside = (tt, ((tt, ((expression_advances true), tt)), ((citem_advances inside, (citem_eats inside, citem_advances inside)), tt)))

for_advances : (inside : Bool) → Advances (for_stmt inside)
unfolding for_stmt for_head
for_advances inside = (tt, ((tt, ((set_advances true, (tt, ((expression_advances true), (tt, set_advances true)))), tt)), tt))

naming_advances : Advances naming
unfolding naming decl reg_decl integer_decl time_decl
naming_advances = ((tt, (tt, (refl, decl_advances))), tt)

stmts_advances : (inside : Bool) → Advances (stmts inside)
unfolding stmts
stmts_advances inside = (refl, tt)

slots_advances : (calls : Bool) → Advances (slots calls)
unfolding slots slot
slots_advances calls = ((tt, ((((expression_advances calls, tt), (refl, (tt, (expression_advances calls, tt)))), tt), tt)), tt)

pub statement_advances : (inside : Bool) → Advances (statement inside)
unfolding statement empty_stmt delay_stmt event_stmt wait_stmt loop_stmt forever_stmt begin_stmt fork_stmt trigger_stmt disable_stmt force_stmt release_stmt system_stmt system_task
statement_advances inside = (
  tt,
  (
    by_name_advances inside,
    (
      by_brace_advances inside,
      (
        (delay_advances, tt),
        (
          (tt, (event_advances, tt)),
          (
            (tt, ((tt, ((expression_advances false), tt)), tt)),
            (
              if_advances inside,
              (
                case_advances inside,
                (
                  for_advances inside,
                  (
                    (tt, ((tt, ((expression_advances true), tt)), tt)),
                    (
                      (tt, tt),
                      (
                        (tt, ((naming_advances, stmts_advances inside), tt)),
                        (
                          (tt, ((naming_advances, stmts_advances inside), tt)),
                          (
                            (tt, (path_advances (expression true) (expression_advances true) false, tt)),
                            (
                              (tt, (path_advances (expression true) (expression_advances true) false, tt)),
                              (
                                (tt, (set_advances false, tt)),
                                ((tt, (lv_advances (expression true) (expression_advances true), tt)), (tt, λ id. (slots_advances _, tt))),
                              ),
                            ),
                          ),
                        ),
                      ),
                    ),
                  ),
                ),
              ),
            ),
          ),
        ),
      ),
    ),
  ),
)

-- Each choice is made right at each token.
delay_value_heeds : (kind : Terminal) (place : Place) → Heeds begins delay_value (at kind place)
unfolding delay_value
delay_value_heeds (opening s) place = (refl, refl, tt, (refl, refl, tt, (refl, tt, (expression_heeds true (at (opening s) place)))))
delay_value_heeds (fixed lexeme.LeftParen) place = (refl, refl, tt, (refl, refl, tt, (refl, tt, (expression_heeds true (at (fixed lexeme.LeftParen) place)))))
delay_value_heeds (fixed s) place = (refl, refl, tt, (refl, refl, tt, (refl, tt, (expression_heeds true (at (fixed s) place)))))
delay_value_heeds (name b) place = (refl, refl, tt, (refl, refl, tt, (refl, tt, (expression_heeds true (at (name b) place)))))
delay_value_heeds (system b) place = (refl, refl, tt, (refl, refl, tt, (refl, tt, (expression_heeds true (at (system b) place)))))
delay_value_heeds (text b) place = (refl, refl, tt, (refl, refl, tt, (refl, tt, (expression_heeds true (at (text b) place)))))
delay_value_heeds (number v z) place = (refl, refl, tt, (refl, refl, tt, (refl, tt, (expression_heeds true (at (number v z) place)))))

end_heeds : (opened : Bool) (d : DelayTree) (t : Token) → Heeds begins (delay_end opened d) t
unfolding delay_end
end_heeds true d t = tt
end_heeds false d t = tt

pub delay_heeds : (t : Token) → Heeds begins delay t
unfolding delay
delay_heeds t = (refl, (refl, tt, delay_value_heeds t.kind t.place), λ d. end_heeds (is_expr d.value) d t)

ev_heeds : (kind : Terminal) (place : Place) → Heeds begins ev (at kind place)
unfolding ev expression any_operand unary_operand prim by_name path by_system parens braces
ev_heeds (opening s) place = (refl, refl, (refl, tt, (expression_heeds false (at (opening s) place))), (expression_heeds false (at (opening s) place)))
ev_heeds (fixed lexeme.Posedge) place = (refl, refl, (refl, tt, (expression_heeds false (at (fixed lexeme.Posedge) place))), (expression_heeds false (at (fixed lexeme.Posedge) place)))
ev_heeds (fixed s) place = (refl, refl, (refl, tt, (expression_heeds false (at (fixed s) place))), (expression_heeds false (at (fixed s) place)))
ev_heeds (name b) place = (refl, refl, (refl, tt, (expression_heeds false (at (name b) place))), (expression_heeds false (at (name b) place)))
ev_heeds (system b) place = (refl, refl, (refl, tt, (expression_heeds false (at (system b) place))), (expression_heeds false (at (system b) place)))
ev_heeds (text b) place = (refl, refl, (refl, tt, (expression_heeds false (at (text b) place))), (expression_heeds false (at (text b) place)))
ev_heeds (number v z) place = (refl, refl, (refl, tt, (expression_heeds false (at (number v z) place))), (expression_heeds false (at (number v z) place)))

event_list_heeds : (kind : Terminal) (place : Place) → Heeds begins event_list (at kind place)
unfolding event_list ev expression any_operand unary_operand prim by_name path by_system parens braces
event_list_heeds (opening s) place = (refl, refl, (refl, tt, tt), (refl, (refl, ev_heeds (opening s) place, (refl, (refl, tt, ev_heeds (opening s) place))), tt))
event_list_heeds (fixed lexeme.Star) place = (refl, refl, (refl, tt, tt), (refl, (refl, ev_heeds (fixed lexeme.Star) place, (refl, (refl, tt, ev_heeds (fixed lexeme.Star) place))), tt))
event_list_heeds (fixed s) place = (refl, refl, (refl, tt, tt), (refl, (refl, ev_heeds (fixed s) place, (refl, (refl, tt, ev_heeds (fixed s) place))), tt))
event_list_heeds (name b) place = (refl, refl, (refl, tt, tt), (refl, (refl, ev_heeds (name b) place, (refl, (refl, tt, ev_heeds (name b) place))), tt))
event_list_heeds (system b) place = (refl, refl, (refl, tt, tt), (refl, (refl, ev_heeds (system b) place, (refl, (refl, tt, ev_heeds (system b) place))), tt))
event_list_heeds (text b) place = (refl, refl, (refl, tt, tt), (refl, (refl, ev_heeds (text b) place, (refl, (refl, tt, ev_heeds (text b) place))), tt))
event_list_heeds (number v z) place = (refl, refl, (refl, tt, tt), (refl, (refl, ev_heeds (number v z) place, (refl, (refl, tt, ev_heeds (number v z) place))), tt))

event_heeds : (kind : Terminal) (place : Place) → Heeds begins event (at kind place)
unfolding event path
event_heeds (opening s) place = (refl, refl, tt, (refl, refl, path_heeds (expression false) (none_of_expression false) false (at (opening s) place) (expression_heeds false (at (opening s) place)), (refl, tt, event_list_heeds (opening s) place)))
event_heeds (fixed lexeme.Star) place = (refl, refl, tt, (refl, refl, path_heeds (expression false) (none_of_expression false) false (at (fixed lexeme.Star) place) (expression_heeds false (at (fixed lexeme.Star) place)), (refl, tt, event_list_heeds (fixed lexeme.Star) place)))
event_heeds (fixed s) place = (refl, refl, tt, (refl, refl, path_heeds (expression false) (none_of_expression false) false (at (fixed s) place) (expression_heeds false (at (fixed s) place)), (refl, tt, event_list_heeds (fixed s) place)))
event_heeds (name b) place = (refl, refl, tt, (refl, refl, path_heeds (expression false) (none_of_expression false) false (at (name b) place) (expression_heeds false (at (name b) place)), (refl, tt, event_list_heeds (name b) place)))
event_heeds (system b) place = (refl, refl, tt, (refl, refl, path_heeds (expression false) (none_of_expression false) false (at (system b) place) (expression_heeds false (at (system b) place)), (refl, tt, event_list_heeds (system b) place)))
event_heeds (text b) place = (refl, refl, tt, (refl, refl, path_heeds (expression false) (none_of_expression false) false (at (text b) place) (expression_heeds false (at (text b) place)), (refl, tt, event_list_heeds (text b) place)))
event_heeds (number v z) place = (refl, refl, tt, (refl, refl, path_heeds (expression false) (none_of_expression false) false (at (number v z) place) (expression_heeds false (at (number v z) place)), (refl, tt, event_list_heeds (number v z) place)))

pub set_heeds : (calls : Bool) (t : Token) → Heeds begins (set calls) t
unfolding set lv path
set_heeds calls t = (refl, lv_heeds (expression calls) (none_of_expression calls) t.kind t.place (expression_heeds calls t), (refl, tt, expression_heeds calls t))

assignment_heeds : (inside : Bool) (l : LvTree) (kind : Terminal) (place : Place) → Heeds begins (assignment inside l) (at kind place)
unfolding assignment delay expression any_operand unary_operand prim by_name path by_system parens braces
assignment_heeds inside l (opening s) place = (refl, tt, (refl, (refl, refl, delay_heeds (at (opening s) place), tt), (refl, (expression_heeds true (at (opening s) place)), tt)))
assignment_heeds inside l (fixed lexeme.Hash) place = (refl, tt, (refl, (refl, refl, delay_heeds (at (fixed lexeme.Hash) place), tt), (refl, (expression_heeds true (at (fixed lexeme.Hash) place)), tt)))
assignment_heeds inside l (fixed s) place = (refl, tt, (refl, (refl, refl, delay_heeds (at (fixed s) place), tt), (refl, (expression_heeds true (at (fixed s) place)), tt)))
assignment_heeds inside l (name b) place = (refl, tt, (refl, (refl, refl, delay_heeds (at (name b) place), tt), (refl, (expression_heeds true (at (name b) place)), tt)))
assignment_heeds inside l (system b) place = (refl, tt, (refl, (refl, refl, delay_heeds (at (system b) place), tt), (refl, (expression_heeds true (at (system b) place)), tt)))
assignment_heeds inside l (text b) place = (refl, tt, (refl, (refl, refl, delay_heeds (at (text b) place), tt), (refl, (expression_heeds true (at (text b) place)), tt)))
assignment_heeds inside l (number v z) place = (refl, tt, (refl, (refl, refl, delay_heeds (at (number v z) place), tt), (refl, (expression_heeds true (at (number v z) place)), tt)))

task_heeds : (p : Path) (kind : Terminal) (place : Place) → Heeds begins (task_call p) (at kind place)
unfolding task_call expression any_operand prim braces
task_heeds p (opening s) place = (refl, (refl, refl, (refl, tt, (refl, (refl, (expression_heeds true (at (opening s) place)), (refl, (refl, tt, (expression_heeds true (at (opening s) place))))), tt)), tt), tt)
task_heeds p (fixed lexeme.LeftParen) place = (refl, (refl, refl, (refl, tt, (refl, (refl, (expression_heeds true (at (fixed lexeme.LeftParen) place)), (refl, (refl, tt, (expression_heeds true (at (fixed lexeme.LeftParen) place))))), tt)), tt), tt)
task_heeds p (fixed s) place = (refl, (refl, refl, (refl, tt, (refl, (refl, (expression_heeds true (at (fixed s) place)), (refl, (refl, tt, (expression_heeds true (at (fixed s) place))))), tt)), tt), tt)
task_heeds p (name b) place = (refl, (refl, refl, (refl, tt, (refl, (refl, (expression_heeds true (at (name b) place)), (refl, (refl, tt, (expression_heeds true (at (name b) place))))), tt)), tt), tt)
task_heeds p (system b) place = (refl, (refl, refl, (refl, tt, (refl, (refl, (expression_heeds true (at (system b) place)), (refl, (refl, tt, (expression_heeds true (at (system b) place))))), tt)), tt), tt)
task_heeds p (text b) place = (refl, (refl, refl, (refl, tt, (refl, (refl, (expression_heeds true (at (text b) place)), (refl, (refl, tt, (expression_heeds true (at (text b) place))))), tt)), tt), tt)
task_heeds p (number v z) place = (refl, (refl, refl, (refl, tt, (refl, (refl, (expression_heeds true (at (number v z) place)), (refl, (refl, tt, (expression_heeds true (at (number v z) place))))), tt)), tt), tt)

name_stmt_heeds : (inside closed : Bool) (p : Path) (kind : Terminal) (place : Place) → Heeds begins (name_stmt inside closed p) (at kind place)
unfolding name_stmt assignment task_call
name_stmt_heeds inside true p kind place = assignment_heeds inside (single p) kind place
name_stmt_heeds inside false p (opening s) place = (refl, refl, assignment_heeds inside (single p) (opening s) place, task_heeds p (opening s) place)
name_stmt_heeds inside false p (fixed lexeme.Equal) place = (refl, refl, assignment_heeds inside (single p) (fixed lexeme.Equal) place, task_heeds p (fixed lexeme.Equal) place)
name_stmt_heeds inside false p (fixed s) place = (refl, refl, assignment_heeds inside (single p) (fixed s) place, task_heeds p (fixed s) place)
name_stmt_heeds inside false p (name b) place = (refl, refl, assignment_heeds inside (single p) (name b) place, task_heeds p (name b) place)
name_stmt_heeds inside false p (system b) place = (refl, refl, assignment_heeds inside (single p) (system b) place, task_heeds p (system b) place)
name_stmt_heeds inside false p (text b) place = (refl, refl, assignment_heeds inside (single p) (text b) place, task_heeds p (text b) place)
name_stmt_heeds inside false p (number v z) place = (refl, refl, assignment_heeds inside (single p) (number v z) place, task_heeds p (number v z) place)

by_name_heeds : (inside : Bool) (t : Token) → Heeds begins (by_name_stmt inside) t
unfolding by_name_stmt path
by_name_heeds inside t = (refl, path_heeds (expression true) (none_of_expression true) true t (expression_heeds true t), λ p. name_stmt_heeds inside (is_closed p.last) p t.kind t.place)

by_brace_heeds : (inside : Bool) (t : Token) → Heeds begins (by_brace_stmt inside) t
unfolding by_brace_stmt braced
by_brace_heeds inside t = (refl, braced_heeds (expression true) (none_of_expression true) t (expression_heeds true t), λ l. assignment_heeds inside l t.kind t.place)

delay_stmt_heeds : (inside : Bool) (t : Token) → Heeds begins (delay_stmt inside) t
unfolding delay_stmt delay
delay_stmt_heeds inside t = (refl, delay_heeds t, tt)

event_stmt_heeds : (inside : Bool) (t : Token) → Heeds begins (event_stmt inside) t
unfolding event_stmt event
event_stmt_heeds inside t = (refl, tt, (refl, event_heeds t.kind t.place, tt))

wait_heeds : (inside : Bool) (t : Token) → Heeds begins (wait_stmt inside) t
unfolding wait_stmt expression any_operand prim braces
wait_heeds inside t = (refl, tt, (refl, (refl, tt, (refl, (expression_heeds false t), tt)), tt))

otherwise_heeds : (inside : Bool) (kind : Terminal) (place : Place) → Heeds begins (otherwise inside) (at kind place)
unfolding otherwise
otherwise_heeds inside (opening s) place = (refl, refl, (refl, tt, tt), tt)
otherwise_heeds inside (fixed lexeme.Else) place = (refl, refl, (refl, tt, tt), tt)
otherwise_heeds inside (fixed s) place = (refl, refl, (refl, tt, tt), tt)
otherwise_heeds inside (name b) place = (refl, refl, (refl, tt, tt), tt)
otherwise_heeds inside (system b) place = (refl, refl, (refl, tt, tt), tt)
otherwise_heeds inside (text b) place = (refl, refl, (refl, tt, tt), tt)
otherwise_heeds inside (number v z) place = (refl, refl, (refl, tt, tt), tt)

if_heeds : (inside : Bool) (t : Token) → Heeds begins (if_stmt inside) t
unfolding if_stmt expression any_operand prim braces
if_heeds inside t = (refl, tt, (refl, (refl, tt, (refl, (expression_heeds true t), tt)), (refl, tt, otherwise_heeds inside t.kind t.place)))

default_heeds : (inside : Bool) (kind : Terminal) (place : Place) → Heeds begins (default_item inside) (at kind place)
unfolding default_item statement empty_stmt by_name_stmt path by_brace_stmt braced delay_stmt delay event_stmt wait_stmt if_stmt case_stmt for_stmt loop_stmt forever_stmt begin_stmt fork_stmt trigger_stmt disable_stmt force_stmt release_stmt system_stmt
default_heeds inside (opening s) place = (refl, tt, (refl, (refl, refl, tt, tt), tt))
default_heeds inside (fixed lexeme.Colon) place = (refl, tt, (refl, (refl, refl, tt, tt), tt))
default_heeds inside (fixed s) place = (refl, tt, (refl, (refl, refl, tt, tt), tt))
default_heeds inside (name b) place = (refl, tt, (refl, (refl, refl, tt, tt), tt))
default_heeds inside (system b) place = (refl, tt, (refl, (refl, refl, tt, tt), tt))
default_heeds inside (text b) place = (refl, tt, (refl, (refl, refl, tt, tt), tt))
default_heeds inside (number v z) place = (refl, tt, (refl, (refl, refl, tt, tt), tt))

values_heed : (inside : Bool) (kind : Terminal) (place : Place) → Heeds begins (values_item inside) (at kind place)
unfolding values_item expression any_operand prim braces
values_heed inside (opening s) place = (refl, (refl, (expression_heeds true (at (opening s) place)), (refl, (refl, tt, (expression_heeds true (at (opening s) place))))), (refl, tt, tt))
values_heed inside (fixed lexeme.Comma) place = (refl, (refl, (expression_heeds true (at (fixed lexeme.Comma) place)), (refl, (refl, tt, (expression_heeds true (at (fixed lexeme.Comma) place))))), (refl, tt, tt))
values_heed inside (fixed s) place = (refl, (refl, (expression_heeds true (at (fixed s) place)), (refl, (refl, tt, (expression_heeds true (at (fixed s) place))))), (refl, tt, tt))
values_heed inside (name b) place = (refl, (refl, (expression_heeds true (at (name b) place)), (refl, (refl, tt, (expression_heeds true (at (name b) place))))), (refl, tt, tt))
values_heed inside (system b) place = (refl, (refl, (expression_heeds true (at (system b) place)), (refl, (refl, tt, (expression_heeds true (at (system b) place))))), (refl, tt, tt))
values_heed inside (text b) place = (refl, (refl, (expression_heeds true (at (text b) place)), (refl, (refl, tt, (expression_heeds true (at (text b) place))))), (refl, tt, tt))
values_heed inside (number v z) place = (refl, (refl, (expression_heeds true (at (number v z) place)), (refl, (refl, tt, (expression_heeds true (at (number v z) place))))), (refl, tt, tt))

citem_heeds : (inside : Bool) (kind : Terminal) (place : Place) → Heeds begins (citem inside) (at kind place)
unfolding citem default_item values_item expression any_operand unary_operand prim by_name path by_system parens braces
citem_heeds inside (opening s) place = (refl, refl, default_heeds inside (opening s) place, values_heed inside (opening s) place)
citem_heeds inside (fixed lexeme.Default) place = (refl, refl, default_heeds inside (fixed lexeme.Default) place, values_heed inside (fixed lexeme.Default) place)
citem_heeds inside (fixed s) place = (refl, refl, default_heeds inside (fixed s) place, values_heed inside (fixed s) place)
citem_heeds inside (name b) place = (refl, refl, default_heeds inside (name b) place, values_heed inside (name b) place)
citem_heeds inside (system b) place = (refl, refl, default_heeds inside (system b) place, values_heed inside (system b) place)
citem_heeds inside (text b) place = (refl, refl, default_heeds inside (text b) place, values_heed inside (text b) place)
citem_heeds inside (number v z) place = (refl, refl, default_heeds inside (number v z) place, values_heed inside (number v z) place)

citems_heed : (inside : Bool) (kind : Terminal) (place : Place) → Heeds begins (citems inside) (at kind place)
unfolding citems citem default_item values_item expression any_operand unary_operand prim by_name path by_system parens braces
citems_heed inside (opening s) place = (refl, citem_heeds inside (opening s) place, (refl, citem_heeds inside (opening s) place))
citems_heed inside (fixed lexeme.Default) place = (refl, citem_heeds inside (fixed lexeme.Default) place, (refl, citem_heeds inside (fixed lexeme.Default) place))
citems_heed inside (fixed s) place = (refl, citem_heeds inside (fixed s) place, (refl, citem_heeds inside (fixed s) place))
citems_heed inside (name b) place = (refl, citem_heeds inside (name b) place, (refl, citem_heeds inside (name b) place))
citems_heed inside (system b) place = (refl, citem_heeds inside (system b) place, (refl, citem_heeds inside (system b) place))
citems_heed inside (text b) place = (refl, citem_heeds inside (text b) place, (refl, citem_heeds inside (text b) place))
citems_heed inside (number v z) place = (refl, citem_heeds inside (number v z) place, (refl, citem_heeds inside (number v z) place))

case_heeds : (inside : Bool) (t : Token) → Heeds begins (case_stmt inside) t
unfolding case_stmt citems citem values_item expression any_operand prim braces
case_heeds inside t = (refl, tt, (refl, (refl, tt, (refl, (expression_heeds true t), tt)), (refl, citems_heed inside t.kind t.place, tt)))

for_head_heeds : (t : Token) → Heeds begins for_head t
unfolding for_head set lv path expression any_operand prim braces
for_head_heeds t = (refl, set_heeds true t, (refl, tt, (refl, (expression_heeds true t), (refl, tt, set_heeds true t))))

for_heeds : (inside : Bool) (t : Token) → Heeds begins (for_stmt inside) t
unfolding for_stmt for_head set lv path
for_heeds inside t = (refl, tt, (refl, (refl, tt, (refl, for_head_heeds t, tt)), tt))

loop_heeds : (inside : Bool) (t : Token) → Heeds begins (loop_stmt inside) t
unfolding loop_stmt expression any_operand prim braces
loop_heeds inside t = (refl, tt, (refl, (refl, tt, (refl, (expression_heeds true t), tt)), tt))

naming_heeds : (kind : Terminal) (place : Place) → Heeds begins naming (at kind place)
unfolding naming decl reg_decl integer_decl time_decl
naming_heeds (opening s) place = (refl, refl, (refl, tt, (refl, tt, (refl, decl_heeds (opening s) place))), tt)
naming_heeds (fixed lexeme.Colon) place = (refl, refl, (refl, tt, (refl, tt, (refl, decl_heeds (fixed lexeme.Colon) place))), tt)
naming_heeds (fixed s) place = (refl, refl, (refl, tt, (refl, tt, (refl, decl_heeds (fixed s) place))), tt)
naming_heeds (name b) place = (refl, refl, (refl, tt, (refl, tt, (refl, decl_heeds (name b) place))), tt)
naming_heeds (system b) place = (refl, refl, (refl, tt, (refl, tt, (refl, decl_heeds (system b) place))), tt)
naming_heeds (text b) place = (refl, refl, (refl, tt, (refl, tt, (refl, decl_heeds (text b) place))), tt)
naming_heeds (number v z) place = (refl, refl, (refl, tt, (refl, tt, (refl, decl_heeds (number v z) place))), tt)

stmts_heed : (inside : Bool) (kind : Terminal) (place : Place) → Heeds begins (stmts inside) (at kind place)
unfolding stmts statement empty_stmt by_name_stmt path by_brace_stmt braced delay_stmt delay event_stmt wait_stmt if_stmt case_stmt for_stmt loop_stmt forever_stmt begin_stmt fork_stmt trigger_stmt disable_stmt force_stmt release_stmt system_stmt
stmts_heed inside (opening s) place = (refl, tt)
stmts_heed inside (fixed lexeme.If) place = (refl, tt)
stmts_heed inside (fixed s) place = (refl, tt)
stmts_heed inside (name b) place = (refl, tt)
stmts_heed inside (system b) place = (refl, tt)
stmts_heed inside (text b) place = (refl, tt)
stmts_heed inside (number v z) place = (refl, tt)

begin_heeds : (inside : Bool) (kind : Terminal) (place : Place) → Heeds begins (begin_stmt inside) (at kind place)
unfolding begin_stmt naming stmts statement empty_stmt by_name_stmt path by_brace_stmt braced delay_stmt delay event_stmt wait_stmt if_stmt case_stmt for_stmt loop_stmt forever_stmt fork_stmt trigger_stmt disable_stmt force_stmt release_stmt system_stmt
begin_heeds inside (opening s) place = (refl, tt, (refl, (refl, naming_heeds (opening s) place, stmts_heed inside (opening s) place), tt))
begin_heeds inside (fixed lexeme.If) place = (refl, tt, (refl, (refl, naming_heeds (fixed lexeme.If) place, stmts_heed inside (fixed lexeme.If) place), tt))
begin_heeds inside (fixed s) place = (refl, tt, (refl, (refl, naming_heeds (fixed s) place, stmts_heed inside (fixed s) place), tt))
begin_heeds inside (name b) place = (refl, tt, (refl, (refl, naming_heeds (name b) place, stmts_heed inside (name b) place), tt))
begin_heeds inside (system b) place = (refl, tt, (refl, (refl, naming_heeds (system b) place, stmts_heed inside (system b) place), tt))
begin_heeds inside (text b) place = (refl, tt, (refl, (refl, naming_heeds (text b) place, stmts_heed inside (text b) place), tt))
begin_heeds inside (number v z) place = (refl, tt, (refl, (refl, naming_heeds (number v z) place, stmts_heed inside (number v z) place), tt))

fork_heeds : (inside : Bool) (kind : Terminal) (place : Place) → Heeds begins (fork_stmt inside) (at kind place)
unfolding fork_stmt naming stmts statement empty_stmt by_name_stmt path by_brace_stmt braced delay_stmt delay event_stmt wait_stmt if_stmt case_stmt for_stmt loop_stmt forever_stmt begin_stmt trigger_stmt disable_stmt force_stmt release_stmt system_stmt
fork_heeds inside (opening s) place = (refl, tt, (refl, (refl, naming_heeds (opening s) place, stmts_heed inside (opening s) place), tt))
fork_heeds inside (fixed lexeme.If) place = (refl, tt, (refl, (refl, naming_heeds (fixed lexeme.If) place, stmts_heed inside (fixed lexeme.If) place), tt))
fork_heeds inside (fixed s) place = (refl, tt, (refl, (refl, naming_heeds (fixed s) place, stmts_heed inside (fixed s) place), tt))
fork_heeds inside (name b) place = (refl, tt, (refl, (refl, naming_heeds (name b) place, stmts_heed inside (name b) place), tt))
fork_heeds inside (system b) place = (refl, tt, (refl, (refl, naming_heeds (system b) place, stmts_heed inside (system b) place), tt))
fork_heeds inside (text b) place = (refl, tt, (refl, (refl, naming_heeds (text b) place, stmts_heed inside (text b) place), tt))
fork_heeds inside (number v z) place = (refl, tt, (refl, (refl, naming_heeds (number v z) place, stmts_heed inside (number v z) place), tt))

trigger_heeds : (t : Token) → Heeds begins trigger_stmt t
unfolding trigger_stmt path
trigger_heeds t = (refl, tt, (refl, path_heeds (expression true) (none_of_expression true) false t (expression_heeds true t), tt))

disable_heeds : (t : Token) → Heeds begins disable_stmt t
unfolding disable_stmt path
disable_heeds t = (refl, tt, (refl, path_heeds (expression true) (none_of_expression true) false t (expression_heeds true t), tt))

force_heeds : (t : Token) → Heeds begins force_stmt t
unfolding force_stmt set lv path
force_heeds t = (refl, tt, (refl, set_heeds false t, tt))

release_heeds : (t : Token) → Heeds begins release_stmt t
unfolding release_stmt lv path
release_heeds t = (refl, tt, (refl, lv_heeds (expression true) (none_of_expression true) t.kind t.place (expression_heeds true t), tt))

slot_heeds : (calls : Bool) (kind : Terminal) (place : Place) → Heeds begins (slot calls) (at kind place)
unfolding slot expression any_operand unary_operand prim by_name path by_system parens braces
slot_heeds calls (opening s) place = (refl, refl, expression_heeds calls (at (opening s) place), tt)
slot_heeds calls (fixed lexeme.Plus) place = (refl, refl, expression_heeds calls (at (fixed lexeme.Plus) place), tt)
slot_heeds calls (fixed s) place = (refl, refl, expression_heeds calls (at (fixed s) place), tt)
slot_heeds calls (name b) place = (refl, refl, expression_heeds calls (at (name b) place), tt)
slot_heeds calls (system b) place = (refl, refl, expression_heeds calls (at (system b) place), tt)
slot_heeds calls (text b) place = (refl, refl, expression_heeds calls (at (text b) place), tt)
slot_heeds calls (number v z) place = (refl, refl, expression_heeds calls (at (number v z) place), tt)

slots_heed : (calls : Bool) (kind : Terminal) (place : Place) → Heeds begins (slots calls) (at kind place)
unfolding slots slot expression any_operand unary_operand prim by_name path by_system parens braces
slots_heed calls (opening s) place = (refl, refl, (refl, tt, (refl, (refl, refl, (refl, slot_heeds calls (opening s) place, (refl, (refl, tt, slot_heeds calls (opening s) place))), tt), tt)), tt)
slots_heed calls (fixed lexeme.Comma) place = (refl, refl, (refl, tt, (refl, (refl, refl, (refl, slot_heeds calls (fixed lexeme.Comma) place, (refl, (refl, tt, slot_heeds calls (fixed lexeme.Comma) place))), tt), tt)), tt)
slots_heed calls (fixed s) place = (refl, refl, (refl, tt, (refl, (refl, refl, (refl, slot_heeds calls (fixed s) place, (refl, (refl, tt, slot_heeds calls (fixed s) place))), tt), tt)), tt)
slots_heed calls (name b) place = (refl, refl, (refl, tt, (refl, (refl, refl, (refl, slot_heeds calls (name b) place, (refl, (refl, tt, slot_heeds calls (name b) place))), tt), tt)), tt)
slots_heed calls (system b) place = (refl, refl, (refl, tt, (refl, (refl, refl, (refl, slot_heeds calls (system b) place, (refl, (refl, tt, slot_heeds calls (system b) place))), tt), tt)), tt)
slots_heed calls (text b) place = (refl, refl, (refl, tt, (refl, (refl, refl, (refl, slot_heeds calls (text b) place, (refl, (refl, tt, slot_heeds calls (text b) place))), tt), tt)), tt)
slots_heed calls (number v z) place = (refl, refl, (refl, tt, (refl, (refl, refl, (refl, slot_heeds calls (number v z) place, (refl, (refl, tt, slot_heeds calls (number v z) place))), tt), tt)), tt)

system_task_heeds : (id : Id) (kind : Terminal) (place : Place) → Heeds begins (system_task id) (at kind place)
unfolding system_task slots
system_task_heeds id (opening s) place = (refl, slots_heed _ (opening s) place, tt)
system_task_heeds id (fixed lexeme.LeftParen) place = (refl, slots_heed _ (fixed lexeme.LeftParen) place, tt)
system_task_heeds id (fixed s) place = (refl, slots_heed _ (fixed s) place, tt)
system_task_heeds id (name b) place = (refl, slots_heed _ (name b) place, tt)
system_task_heeds id (system b) place = (refl, slots_heed _ (system b) place, tt)
system_task_heeds id (text b) place = (refl, slots_heed _ (text b) place, tt)
system_task_heeds id (number v z) place = (refl, slots_heed _ (number v z) place, tt)

system_heeds : (t : Token) → Heeds begins system_stmt t
unfolding system_stmt
system_heeds t = (refl, tt, λ id. system_task_heeds id t.kind t.place)

pub statement_heeds : (inside : Bool) (kind : Terminal) (place : Place) → Heeds begins (statement inside) (at kind place)
unfolding statement empty_stmt by_name_stmt path by_brace_stmt braced delay_stmt delay event_stmt wait_stmt if_stmt case_stmt for_stmt loop_stmt forever_stmt begin_stmt fork_stmt trigger_stmt disable_stmt force_stmt release_stmt system_stmt
statement_heeds inside (opening s) place = (refl, refl, tt, (refl, refl, by_name_heeds inside (at (opening s) place), (refl, refl, by_brace_heeds inside (at (opening s) place), (refl, refl, delay_stmt_heeds inside (at (opening s) place), (refl, refl, event_stmt_heeds inside (at (opening s) place), (refl, refl, wait_heeds inside (at (opening s) place), (refl, refl, if_heeds inside (at (opening s) place), (refl, refl, case_heeds inside (at (opening s) place), (refl, refl, for_heeds inside (at (opening s) place), (refl, refl, loop_heeds inside (at (opening s) place), (refl, refl, (refl, tt, tt), (refl, refl, begin_heeds inside (opening s) place, (refl, refl, fork_heeds inside (opening s) place, (refl, refl, trigger_heeds (at (opening s) place), (refl, refl, disable_heeds (at (opening s) place), (refl, refl, force_heeds (at (opening s) place), (refl, refl, release_heeds (at (opening s) place), system_heeds (at (opening s) place))))))))))))))))))
statement_heeds inside (fixed lexeme.If) place = (refl, refl, tt, (refl, refl, by_name_heeds inside (at (fixed lexeme.If) place), (refl, refl, by_brace_heeds inside (at (fixed lexeme.If) place), (refl, refl, delay_stmt_heeds inside (at (fixed lexeme.If) place), (refl, refl, event_stmt_heeds inside (at (fixed lexeme.If) place), (refl, refl, wait_heeds inside (at (fixed lexeme.If) place), (refl, refl, if_heeds inside (at (fixed lexeme.If) place), (refl, refl, case_heeds inside (at (fixed lexeme.If) place), (refl, refl, for_heeds inside (at (fixed lexeme.If) place), (refl, refl, loop_heeds inside (at (fixed lexeme.If) place), (refl, refl, (refl, tt, tt), (refl, refl, begin_heeds inside (fixed lexeme.If) place, (refl, refl, fork_heeds inside (fixed lexeme.If) place, (refl, refl, trigger_heeds (at (fixed lexeme.If) place), (refl, refl, disable_heeds (at (fixed lexeme.If) place), (refl, refl, force_heeds (at (fixed lexeme.If) place), (refl, refl, release_heeds (at (fixed lexeme.If) place), system_heeds (at (fixed lexeme.If) place))))))))))))))))))
statement_heeds inside (fixed s) place = (refl, refl, tt, (refl, refl, by_name_heeds inside (at (fixed s) place), (refl, refl, by_brace_heeds inside (at (fixed s) place), (refl, refl, delay_stmt_heeds inside (at (fixed s) place), (refl, refl, event_stmt_heeds inside (at (fixed s) place), (refl, refl, wait_heeds inside (at (fixed s) place), (refl, refl, if_heeds inside (at (fixed s) place), (refl, refl, case_heeds inside (at (fixed s) place), (refl, refl, for_heeds inside (at (fixed s) place), (refl, refl, loop_heeds inside (at (fixed s) place), (refl, refl, (refl, tt, tt), (refl, refl, begin_heeds inside (fixed s) place, (refl, refl, fork_heeds inside (fixed s) place, (refl, refl, trigger_heeds (at (fixed s) place), (refl, refl, disable_heeds (at (fixed s) place), (refl, refl, force_heeds (at (fixed s) place), (refl, refl, release_heeds (at (fixed s) place), system_heeds (at (fixed s) place))))))))))))))))))
statement_heeds inside (name b) place = (refl, refl, tt, (refl, refl, by_name_heeds inside (at (name b) place), (refl, refl, by_brace_heeds inside (at (name b) place), (refl, refl, delay_stmt_heeds inside (at (name b) place), (refl, refl, event_stmt_heeds inside (at (name b) place), (refl, refl, wait_heeds inside (at (name b) place), (refl, refl, if_heeds inside (at (name b) place), (refl, refl, case_heeds inside (at (name b) place), (refl, refl, for_heeds inside (at (name b) place), (refl, refl, loop_heeds inside (at (name b) place), (refl, refl, (refl, tt, tt), (refl, refl, begin_heeds inside (name b) place, (refl, refl, fork_heeds inside (name b) place, (refl, refl, trigger_heeds (at (name b) place), (refl, refl, disable_heeds (at (name b) place), (refl, refl, force_heeds (at (name b) place), (refl, refl, release_heeds (at (name b) place), system_heeds (at (name b) place))))))))))))))))))
statement_heeds inside (system b) place = (refl, refl, tt, (refl, refl, by_name_heeds inside (at (system b) place), (refl, refl, by_brace_heeds inside (at (system b) place), (refl, refl, delay_stmt_heeds inside (at (system b) place), (refl, refl, event_stmt_heeds inside (at (system b) place), (refl, refl, wait_heeds inside (at (system b) place), (refl, refl, if_heeds inside (at (system b) place), (refl, refl, case_heeds inside (at (system b) place), (refl, refl, for_heeds inside (at (system b) place), (refl, refl, loop_heeds inside (at (system b) place), (refl, refl, (refl, tt, tt), (refl, refl, begin_heeds inside (system b) place, (refl, refl, fork_heeds inside (system b) place, (refl, refl, trigger_heeds (at (system b) place), (refl, refl, disable_heeds (at (system b) place), (refl, refl, force_heeds (at (system b) place), (refl, refl, release_heeds (at (system b) place), system_heeds (at (system b) place))))))))))))))))))
statement_heeds inside (text b) place = (refl, refl, tt, (refl, refl, by_name_heeds inside (at (text b) place), (refl, refl, by_brace_heeds inside (at (text b) place), (refl, refl, delay_stmt_heeds inside (at (text b) place), (refl, refl, event_stmt_heeds inside (at (text b) place), (refl, refl, wait_heeds inside (at (text b) place), (refl, refl, if_heeds inside (at (text b) place), (refl, refl, case_heeds inside (at (text b) place), (refl, refl, for_heeds inside (at (text b) place), (refl, refl, loop_heeds inside (at (text b) place), (refl, refl, (refl, tt, tt), (refl, refl, begin_heeds inside (text b) place, (refl, refl, fork_heeds inside (text b) place, (refl, refl, trigger_heeds (at (text b) place), (refl, refl, disable_heeds (at (text b) place), (refl, refl, force_heeds (at (text b) place), (refl, refl, release_heeds (at (text b) place), system_heeds (at (text b) place))))))))))))))))))
statement_heeds inside (number v z) place = (refl, refl, tt, (refl, refl, by_name_heeds inside (at (number v z) place), (refl, refl, by_brace_heeds inside (at (number v z) place), (refl, refl, delay_stmt_heeds inside (at (number v z) place), (refl, refl, event_stmt_heeds inside (at (number v z) place), (refl, refl, wait_heeds inside (at (number v z) place), (refl, refl, if_heeds inside (at (number v z) place), (refl, refl, case_heeds inside (at (number v z) place), (refl, refl, for_heeds inside (at (number v z) place), (refl, refl, loop_heeds inside (at (number v z) place), (refl, refl, (refl, tt, tt), (refl, refl, begin_heeds inside (number v z) place, (refl, refl, fork_heeds inside (number v z) place, (refl, refl, trigger_heeds (at (number v z) place), (refl, refl, disable_heeds (at (number v z) place), (refl, refl, force_heeds (at (number v z) place), (refl, refl, release_heeds (at (number v z) place), system_heeds (at (number v z) place))))))))))))))))))
