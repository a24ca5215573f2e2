-- The conditions of types, ranges and declared names.
use Rattle.std.proofs.Common.{true, refl}
use Rattle.vh_base.specs.declared.place.Place.{Place}
use Rattle.vh_parse_grammar.specs.Conditions.{Advances}
use Rattle.vh_parse_grammar.specs.Choices.{Heeds}
use Rattle.vh_parse_syntax.specs.declared.lexeme.Lexeme.TheVariants as lexeme
use Rattle.vh_parse_syntax.specs.Tokens.{Token, Terminal, opening, fixed, name, system, text, number}
use Rattle.vh_parse_syntax.specs.Expressions.{braces, prim, any_operand, expression}
use Rattle.vh_parse_syntax.specs.Grammar.{begins}
use Rattle.vh_parse_syntax.specs.Conditions.{at}
use Rattle.vh_parse_syntax.specs.ExpressionConditions.{expression_advances, expression_heeds}
use Rattle.vh_parse_syntax.specs.Declarations.{a_range, a_type, a_value, assigned, a_net, an_init, var_part, a_var, reg_decl, integer_decl, time_decl, decl}

-- Each turn of a repetition takes a token.
pub range_advances : Advances a_range
unfolding a_range
range_advances = (tt, (((expression_advances true), (tt, (expression_advances true))), tt))

pub type_advances : Advances a_type
unfolding a_type
type_advances = ((tt, tt), (range_advances, tt))

pub value_advances : Advances a_value
unfolding a_value
value_advances = ((tt, (expression_advances true)), tt)

pub assigned_advances : Advances assigned
unfolding assigned
assigned_advances = (tt, (tt, (expression_advances true)))

pub net_advances : Advances a_net
unfolding a_net
net_advances = ((tt, tt), value_advances)

init_advances : Advances an_init
unfolding an_init
init_advances = ((tt, tt), value_advances)

var_advances : Advances a_var
unfolding a_var var_part
var_advances = (tt, ((range_advances, tt), ((tt, (expression_advances true)), tt)))

reg_advances : Advances reg_decl
unfolding reg_decl
reg_advances = (tt, (type_advances, ((var_advances, (refl, (tt, var_advances))), tt)))

integer_advances : Advances integer_decl
unfolding integer_decl
integer_advances = (tt, ((init_advances, (refl, (tt, init_advances))), tt))

time_advances : Advances time_decl
unfolding time_decl
time_advances = (tt, ((init_advances, (refl, (tt, init_advances))), tt))

pub decl_advances : Advances decl
unfolding decl
decl_advances = (reg_advances, (integer_advances, time_advances))

-- Each choice is made right at each token.
pub range_heeds : (t : Token) → Heeds begins a_range t
unfolding a_range expression any_operand prim braces
range_heeds t = (refl, tt, (refl, (refl, (expression_heeds true t), (refl, tt, (expression_heeds true t))), tt))

pub type_heeds : (kind : Terminal) (place : Place) → Heeds begins a_type (at kind place)
unfolding a_type a_range
type_heeds (opening s) place = (refl, (refl, refl, tt, tt), (refl, refl, range_heeds (at (opening s) place), tt))
type_heeds (fixed lexeme.Signed) place = (refl, (refl, refl, tt, tt), (refl, refl, range_heeds (at (fixed lexeme.Signed) place), tt))
type_heeds (fixed s) place = (refl, (refl, refl, tt, tt), (refl, refl, range_heeds (at (fixed s) place), tt))
type_heeds (name b) place = (refl, (refl, refl, tt, tt), (refl, refl, range_heeds (at (name b) place), tt))
type_heeds (system b) place = (refl, (refl, refl, tt, tt), (refl, refl, range_heeds (at (system b) place), tt))
type_heeds (text b) place = (refl, (refl, refl, tt, tt), (refl, refl, range_heeds (at (text b) place), tt))
type_heeds (number v z) place = (refl, (refl, refl, tt, tt), (refl, refl, range_heeds (at (number v z) place), tt))

pub value_heeds : (kind : Terminal) (place : Place) → Heeds begins a_value (at kind place)
unfolding a_value
value_heeds (opening s) place = (refl, refl, (refl, tt, (expression_heeds true (at (opening s) place))), tt)
value_heeds (fixed lexeme.Equal) place = (refl, refl, (refl, tt, (expression_heeds true (at (fixed lexeme.Equal) place))), tt)
value_heeds (fixed s) place = (refl, refl, (refl, tt, (expression_heeds true (at (fixed s) place))), tt)
value_heeds (name b) place = (refl, refl, (refl, tt, (expression_heeds true (at (name b) place))), tt)
value_heeds (system b) place = (refl, refl, (refl, tt, (expression_heeds true (at (system b) place))), tt)
value_heeds (text b) place = (refl, refl, (refl, tt, (expression_heeds true (at (text b) place))), tt)
value_heeds (number v z) place = (refl, refl, (refl, tt, (expression_heeds true (at (number v z) place))), tt)

pub assigned_heeds : (t : Token) → Heeds begins assigned t
unfolding assigned
assigned_heeds t = (refl, tt, (refl, tt, (expression_heeds true t)))

pub net_heeds : (t : Token) → Heeds begins a_net t
unfolding a_net
net_heeds t = (refl, (refl, tt, tt), value_heeds t.kind t.place)

init_heeds : (t : Token) → Heeds begins an_init t
unfolding an_init
init_heeds t = (refl, (refl, tt, tt), value_heeds t.kind t.place)

part_heeds : (kind : Terminal) (place : Place) → Heeds begins var_part (at kind place)
unfolding var_part a_range
part_heeds (opening s) place = (refl, refl, (refl, range_heeds (at (opening s) place), tt), (refl, refl, (refl, tt, (expression_heeds true (at (opening s) place))), tt))
part_heeds (fixed lexeme.Equal) place = (refl, refl, (refl, range_heeds (at (fixed lexeme.Equal) place), tt), (refl, refl, (refl, tt, (expression_heeds true (at (fixed lexeme.Equal) place))), tt))
part_heeds (fixed s) place = (refl, refl, (refl, range_heeds (at (fixed s) place), tt), (refl, refl, (refl, tt, (expression_heeds true (at (fixed s) place))), tt))
part_heeds (name b) place = (refl, refl, (refl, range_heeds (at (name b) place), tt), (refl, refl, (refl, tt, (expression_heeds true (at (name b) place))), tt))
part_heeds (system b) place = (refl, refl, (refl, range_heeds (at (system b) place), tt), (refl, refl, (refl, tt, (expression_heeds true (at (system b) place))), tt))
part_heeds (text b) place = (refl, refl, (refl, range_heeds (at (text b) place), tt), (refl, refl, (refl, tt, (expression_heeds true (at (text b) place))), tt))
part_heeds (number v z) place = (refl, refl, (refl, range_heeds (at (number v z) place), tt), (refl, refl, (refl, tt, (expression_heeds true (at (number v z) place))), tt))

var_heeds : (t : Token) → Heeds begins a_var t
unfolding a_var
var_heeds t = (refl, tt, part_heeds t.kind t.place)

reg_heeds : (kind : Terminal) (place : Place) → Heeds begins reg_decl (at kind place)
unfolding reg_decl a_type a_range a_var
reg_heeds (opening s) place = (refl, tt, (refl, type_heeds (opening s) place, (refl, (refl, var_heeds (at (opening s) place), (refl, (refl, tt, var_heeds (at (opening s) place)))), tt)))
reg_heeds (fixed lexeme.Comma) place = (refl, tt, (refl, type_heeds (fixed lexeme.Comma) place, (refl, (refl, var_heeds (at (fixed lexeme.Comma) place), (refl, (refl, tt, var_heeds (at (fixed lexeme.Comma) place)))), tt)))
reg_heeds (fixed s) place = (refl, tt, (refl, type_heeds (fixed s) place, (refl, (refl, var_heeds (at (fixed s) place), (refl, (refl, tt, var_heeds (at (fixed s) place)))), tt)))
reg_heeds (name b) place = (refl, tt, (refl, type_heeds (name b) place, (refl, (refl, var_heeds (at (name b) place), (refl, (refl, tt, var_heeds (at (name b) place)))), tt)))
reg_heeds (system b) place = (refl, tt, (refl, type_heeds (system b) place, (refl, (refl, var_heeds (at (system b) place), (refl, (refl, tt, var_heeds (at (system b) place)))), tt)))
reg_heeds (text b) place = (refl, tt, (refl, type_heeds (text b) place, (refl, (refl, var_heeds (at (text b) place), (refl, (refl, tt, var_heeds (at (text b) place)))), tt)))
reg_heeds (number v z) place = (refl, tt, (refl, type_heeds (number v z) place, (refl, (refl, var_heeds (at (number v z) place), (refl, (refl, tt, var_heeds (at (number v z) place)))), tt)))

integer_heeds : (kind : Terminal) (place : Place) → Heeds begins integer_decl (at kind place)
unfolding integer_decl an_init
integer_heeds (opening s) place = (refl, tt, (refl, (refl, init_heeds (at (opening s) place), (refl, (refl, tt, init_heeds (at (opening s) place)))), tt))
integer_heeds (fixed lexeme.Comma) place = (refl, tt, (refl, (refl, init_heeds (at (fixed lexeme.Comma) place), (refl, (refl, tt, init_heeds (at (fixed lexeme.Comma) place)))), tt))
integer_heeds (fixed s) place = (refl, tt, (refl, (refl, init_heeds (at (fixed s) place), (refl, (refl, tt, init_heeds (at (fixed s) place)))), tt))
integer_heeds (name b) place = (refl, tt, (refl, (refl, init_heeds (at (name b) place), (refl, (refl, tt, init_heeds (at (name b) place)))), tt))
integer_heeds (system b) place = (refl, tt, (refl, (refl, init_heeds (at (system b) place), (refl, (refl, tt, init_heeds (at (system b) place)))), tt))
integer_heeds (text b) place = (refl, tt, (refl, (refl, init_heeds (at (text b) place), (refl, (refl, tt, init_heeds (at (text b) place)))), tt))
integer_heeds (number v z) place = (refl, tt, (refl, (refl, init_heeds (at (number v z) place), (refl, (refl, tt, init_heeds (at (number v z) place)))), tt))

time_heeds : (kind : Terminal) (place : Place) → Heeds begins time_decl (at kind place)
unfolding time_decl an_init
time_heeds (opening s) place = (refl, tt, (refl, (refl, init_heeds (at (opening s) place), (refl, (refl, tt, init_heeds (at (opening s) place)))), tt))
time_heeds (fixed lexeme.Comma) place = (refl, tt, (refl, (refl, init_heeds (at (fixed lexeme.Comma) place), (refl, (refl, tt, init_heeds (at (fixed lexeme.Comma) place)))), tt))
time_heeds (fixed s) place = (refl, tt, (refl, (refl, init_heeds (at (fixed s) place), (refl, (refl, tt, init_heeds (at (fixed s) place)))), tt))
time_heeds (name b) place = (refl, tt, (refl, (refl, init_heeds (at (name b) place), (refl, (refl, tt, init_heeds (at (name b) place)))), tt))
time_heeds (system b) place = (refl, tt, (refl, (refl, init_heeds (at (system b) place), (refl, (refl, tt, init_heeds (at (system b) place)))), tt))
time_heeds (text b) place = (refl, tt, (refl, (refl, init_heeds (at (text b) place), (refl, (refl, tt, init_heeds (at (text b) place)))), tt))
time_heeds (number v z) place = (refl, tt, (refl, (refl, init_heeds (at (number v z) place), (refl, (refl, tt, init_heeds (at (number v z) place)))), tt))

pub decl_heeds : (kind : Terminal) (place : Place) → Heeds begins decl (at kind place)
unfolding decl reg_decl integer_decl time_decl
decl_heeds (opening s) place = (refl, refl, reg_heeds (opening s) place, (refl, refl, integer_heeds (opening s) place, time_heeds (opening s) place))
decl_heeds (fixed lexeme.Reg) place = (refl, refl, reg_heeds (fixed lexeme.Reg) place, (refl, refl, integer_heeds (fixed lexeme.Reg) place, time_heeds (fixed lexeme.Reg) place))
decl_heeds (fixed s) place = (refl, refl, reg_heeds (fixed s) place, (refl, refl, integer_heeds (fixed s) place, time_heeds (fixed s) place))
decl_heeds (name b) place = (refl, refl, reg_heeds (name b) place, (refl, refl, integer_heeds (name b) place, time_heeds (name b) place))
decl_heeds (system b) place = (refl, refl, reg_heeds (system b) place, (refl, refl, integer_heeds (system b) place, time_heeds (system b) place))
decl_heeds (text b) place = (refl, refl, reg_heeds (text b) place, (refl, refl, integer_heeds (text b) place, time_heeds (text b) place))
decl_heeds (number v z) place = (refl, refl, reg_heeds (number v z) place, (refl, refl, integer_heeds (number v z) place, time_heeds (number v z) place))
