use Rattle.std.proofs.Common.{◌≡◌, map, drop}
use Rattle.std.specs.List.{list_any}
use Rattle.vh_ast.specs.Views.{conn_tree}
use Rattle.vh_elab_walk.specs.Overrides.{is_ordered}
use Rattle.vh_elab_walk.proofs.entries.any_ordered.Given as goal

-- Those so far are none: whether one is, is whether one of those is that are left.
abbrev pub invariant-loop-conn : goal.invariant-loop-conn
invariant-loop-conn l =
    list_any is_ordered (map conn_tree (drop l.conn-index l.conns)) ≡ list_any is_ordered (map conn_tree l.conns)
