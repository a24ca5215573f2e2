use Rattle.std.proofs.Common.{◌≡◌, None, map, drop}
use Rattle.vh_ast.specs.Views.{conn_tree, module_tree}
use Rattle.vh_elab.specs.Connected.{entries_fault}
use Rattle.vh_elab.proofs.connected.entries_fault.Given as goal

-- The least fault so far, with those of the entries that are left, is that of all.
abbrev pub invariant-loop-number : goal.invariant-loop-number
invariant-loop-number l =
    entries_fault (module_tree l.ports) l.index l.number (map conn_tree (drop l.number l.conns)) l.fault
    ≡ entries_fault (module_tree l.ports) l.index 0 (map conn_tree l.conns) None
