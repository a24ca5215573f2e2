-- How contracts see what the code holds.
use Rattle.std.specs.Prelude.{List, map, Option, option_map}
use Rattle.vh_base.specs.declared.place.Place.{Place}
use Rattle.vh_ast.specs.declared.timing.Delay.{Delay}
use Rattle.vh_ast.specs.declared.declared.Net.{Net}
use Rattle.vh_ast.specs.declared.instance.Conn.{Conn}
use Rattle.vh_ast.specs.Declarations.{NetTree, TargTree, TypeTree}
use Rattle.vh_ast.specs.Statements.{DelayTree}
use Rattle.vh_ast.specs.Items.{ConnTree}
use Rattle.vh_ast.specs.Views.{type_tree, pdecl_tree, port_tree, net_tree, delay_tree, conn_tree, targ_tree}
use Rattle.vh_parse_syntax.specs.Items as parts
use Rattle.vh_parse_parts.specs.declared.head.Head.{Head}
use Rattle.vh_parse_parts.specs.declared.port.Header.{Header}
use Rattle.vh_parse_parts.specs.declared.nets.Delayed.{Delayed}
use Rattle.vh_parse_parts.specs.declared.targs.Argument.{Argument}
use Rattle.vh_parse_parts.specs.declared.targs.Arguments.{Arguments}

-- What stands in front of the names of ports, and of arguments (own).
abbrev pub head_tree : {D K : Type 0} → Head D K → (Place × D) × (Option K × TypeTree)
head_tree h = ((h.place, h.direction), (h.kind, type_tree h.data_type))

-- Declared ports so far (own).
abbrev pub header_tree : Header → parts.Declared
header_tree h =
    record { first = pdecl_tree h.first; more = map port_tree h.more; port_type = h.port_type }

-- A delay, and nets so far; and all nets, with their delay if there is one (own).
abbrev pub delayed_tree : Delayed → parts.Delayed
delayed_tree d =
    record { delay = delay_tree d.delay; nets = map net_tree d.nets; valued = d.valued }

abbrev pub nets_pair : Option Delay × List Net → Option DelayTree × List NetTree
nets_pair n = (option_map delay_tree n.0, map net_tree n.1)

-- Connections (own).
abbrev pub conns_seen : List Conn → List ConnTree
conns_seen = map conn_tree

-- An argument that may go on, and arguments so far (own).
abbrev pub argument_tree : Argument → TargTree
argument_tree a = parts.targ_of (head_tree a.head) a.ids

abbrev pub targs_tree : Arguments → parts.Targs
targs_tree a = record { earlier = map targ_tree a.earlier; last = argument_tree a.last }
