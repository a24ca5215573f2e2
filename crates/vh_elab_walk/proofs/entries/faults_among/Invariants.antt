use Rattle.std.proofs.Common.{◌≡◌, [], None, map, drop}
use Rattle.vh_ast.specs.Views.{conn_tree}
use Rattle.vh_elab_walk.specs.Overrides.{named_faults}
use Rattle.vh_elab_walk.proofs.entries.faults_among.Given as goal

-- The least so far, and of the entries that are left, is that of all.
abbrev pub invariant-loop-conn : goal.invariant-loop-conn
invariant-loop-conn l =
    named_faults l.known l.before (map conn_tree (drop l.conn-index l.conns)) l.fault
    ≡ named_faults l.known [] (map conn_tree l.conns) None
