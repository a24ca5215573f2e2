use Rattle.std.proofs.Common.{◌≡◌, ◌++◌, map, drop}
use Rattle.vh_elab_ports.specs.Ports.{typed_name}
use Rattle.vh_elab_ports.specs.Views.{typed_seen}
use Rattle.vh_elab_ports.proofs.ports.index_typed.Given as goal

-- Those so far, with those that are left, are all of them.
abbrev pub invariant-loop-typed : goal.invariant-loop-typed
invariant-loop-typed l =
    l.index ++ map typed_name (map typed_seen (drop l.typed-index l.all))
    ≡ map typed_name (map typed_seen l.all)
