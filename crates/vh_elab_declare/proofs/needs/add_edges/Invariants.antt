use Rattle.std.proofs.Common.{◌≡◌, ◌++◌, drop}
use Rattle.vh_elab_cycles.specs.Views.{edges_seen}
use Rattle.vh_elab_mentions.specs.Views.{ids_seen}
use Rattle.vh_elab_declare.specs.Needs.{edges_to}
use Rattle.vh_elab_declare.specs.Views.{known_seen}
use Rattle.vh_elab_declare.proofs.needs.add_edges.Given as goal

-- Those so far, with those of the names that are left, are all of them.
abbrev pub invariant-loop-id : goal.invariant-loop-id
invariant-loop-id l =
    edges_seen l.edges.items ++ edges_to (known_seen l.known) l.around l.from (ids_seen (drop l.id-index l.ids))
    ≡ edges_seen l.initial.edges.items ++ edges_to (known_seen l.known) l.around l.from (ids_seen l.ids)
