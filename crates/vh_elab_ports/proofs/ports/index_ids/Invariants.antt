use Rattle.std.proofs.Common.{◌≡◌, ◌++◌, drop}
use Rattle.vh_elab_ports.specs.Ports.{names_of}
use Rattle.vh_elab_ports.specs.Views.{ids_seen}
use Rattle.vh_elab_ports.proofs.ports.index_ids.Given as goal

-- Those so far, with those that are left, are all of them.
abbrev pub invariant-loop-id : goal.invariant-loop-id
invariant-loop-id l =
    l.index ++ names_of (ids_seen (drop l.id-index l.ids))
    ≡ names_of (ids_seen l.ids)
