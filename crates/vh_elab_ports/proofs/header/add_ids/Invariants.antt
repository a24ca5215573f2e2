use Rattle.std.proofs.Common.{◌≡◌, ◌++◌, drop}
use Rattle.vh_elab_ports.specs.Views.{ids_seen}
use Rattle.vh_elab_ports.proofs.header.add_ids.Given as goal

-- Those so far, with those that are left, are all of them.
abbrev pub invariant-loop-id : goal.invariant-loop-id
invariant-loop-id l =
    ids_seen l.ids.items ++ drop l.id-index l.all
    ≡ ids_seen l.initial.ids.items ++ l.all
