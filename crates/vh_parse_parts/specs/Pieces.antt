-- Parts of the table that have no name there, for the functions that read them.
use Rattle.std.specs.Prelude.{List, Option}
use Rattle.vh_base.specs.declared.place.Place.{Place}
use Rattle.vh_parse_grammar.specs.Part.{seq, bind, act, alt, rep, iter, unless, opt, two, after}
use Rattle.vh_ast.specs.Declarations.{NetTree, ParTree, LocalTree, TypeTree}
use Rattle.vh_ast.specs.Statements.{DelayTree}
use Rattle.vh_ast.specs.Items.{GateTree, ConnTree}
use Rattle.vh_parse_syntax.specs.declared.lexeme.Lexeme.{Lexeme}
use Rattle.vh_parse_syntax.specs.declared.lexeme.Lexeme.TheVariants as lexeme
use Rattle.vh_parse_syntax.specs.Tokens.{is, in_rows}
use Rattle.vh_parse_syntax.specs.Parts.{G, the, at_the, row_in, placed_row, an_id, comma_more, in_parens}
use Rattle.vh_parse_syntax.specs.Declarations.{a_type, bare_id, assigned, a_net}
use Rattle.vh_parse_syntax.specs.Statements.{all_of, delay}
use Rattle.vh_parse_syntax.specs.Items as parts
use Rattle.vh_parse_syntax.specs.Items.{Declared, Delayed, Targs, direction_rows, port_bare, pdecl, with_pdecl, with_port, next_port, delayed_first, more_delayed, delayed_nets, with_delay, terminals, conns, begins_conns, next_targ, local, begins_local}

-- What stands in front of names, with these words for directions and kinds (IEEE 1364-2005, A.1.3
-- and A.2.7).
abbrev pub any_head : {D K : Type 0} → List (Lexeme × D) → List (Lexeme × K) → G ((Place × D) × (Option K × TypeTree))
any_head directions kinds = seq (placed_row directions) (seq (opt (in_rows kinds) (row_in kinds)) a_type)

-- pdecl | ID, behind a comma, and further ports (IEEE 1364-2005, A.1.3).
abbrev pub port_or_name : Declared → G Declared
port_or_name d =
    unless (is lexeme.Inout)
    (alt (in_rows direction_rows) (act (with_pdecl d) pdecl)
    (act (with_port d) (bare_id (port_bare d.port_type))))

abbrev pub more_ports : Declared → G Declared
more_ports d = iter (λ e. is lexeme.Comma) next_port d

-- A parameter of a header with its word (IEEE 1364-2005, A.1.3).
abbrev pub written_par : G ParTree
written_par = two parts.written_par (at_the lexeme.Parameter) (seq a_type assigned)

-- delay net { "," net }, up to the first net without a value; and all of them (IEEE 1364-2005,
-- A.2.1.3).
abbrev pub delayed_row : G Delayed
delayed_row = bind (seq delay a_net) (λ r. more_delayed (delayed_first r))

abbrev pub behind_delay : G (Option DelayTree × List NetTree)
behind_delay = two with_delay delayed_nets (comma_more a_net)

-- A gate with a name, and one without (IEEE 1364-2005, A.3.1).
abbrev pub named_gate : G GateTree
named_gate = two parts.named_gate an_id (after (the lexeme.LeftParen) terminals)

abbrev pub bare_gate : G GateTree
bare_gate = two parts.bare_gate (at_the lexeme.LeftParen) terminals

-- Connections, if they are written; and those of parameters (IEEE 1364-2005, A.4.1).
abbrev pub written_conns : G (List ConnTree)
written_conns = act all_of (opt begins_conns conns)

abbrev pub overrides : G (Option (List ConnTree))
overrides = opt (is lexeme.Hash) (after (the lexeme.Hash) (in_parens conns))

-- Further arguments of a task (IEEE 1364-2005, A.2.7).
abbrev pub more_targs : Targs → G Targs
more_targs s = iter (λ t. is lexeme.Comma) next_targ s

-- { targ ";" | decl } (IEEE 1364-2005, A.2.6 and A.2.7)
abbrev pub locals : G (List LocalTree)
locals = rep begins_local local
