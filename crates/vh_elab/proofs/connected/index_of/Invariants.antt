use Rattle.std.proofs.Common.{◌≡◌, map, take}
use Rattle.vh_ast.specs.Views.{conn_tree}
use Rattle.vh_elab.specs.Connected.{names_of}
use Rattle.vh_elab.proofs.connected.index_of.Given as goal

abbrev pub invariant-loop-conn : goal.invariant-loop-conn
invariant-loop-conn l = l.index ≡ names_of (map conn_tree (take l.conn-index l.conns))
