use Rattle.std.proofs.Common.{◌≡◌, drop}
use Rattle.std.specs.Prelude.{map}
use Rattle.vh_ast.specs.Views.{conn_tree}
use Rattle.vh_elab_mentions.specs.Mentions.{each, conn_ids}
use Rattle.vh_elab_mentions.specs.Views.{ids_seen}
use Rattle.vh_elab_mentions.proofs.exprs.conns_ids.Given as goal

-- The names so far, with those of what is left, are those of all.
abbrev pub invariant-loop-conn : goal.invariant-loop-conn
invariant-loop-conn l =
    each conn_ids (map conn_tree (drop l.conn-index l.conns)) (ids_seen l.ids.items)
    ≡ each conn_ids (map conn_tree l.conns) (ids_seen l.initial.ids.items)
