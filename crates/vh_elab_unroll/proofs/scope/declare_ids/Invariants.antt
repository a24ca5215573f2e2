use Rattle.std.proofs.Common.{◌≡◌, drop}
use Rattle.vh_elab_ports.specs.Views.{ids_seen}
use Rattle.vh_elab_instances.specs.Instances.{seen_of}
use Rattle.vh_elab_unroll.proofs.scope.declare_ids.Given as goal

-- Those so far, with those that are left, are all of them.
abbrev pub invariant-loop-id : goal.invariant-loop-id
invariant-loop-id l =
    seen_of l.scope (ids_seen (drop l.id-index l.ids)) l.names
    ≡ seen_of l.scope (ids_seen l.ids) l.initial.names
