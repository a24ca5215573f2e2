use Rattle.std.proofs.Common.{◌≡◌, ◌++◌, map, drop}
use Rattle.vh_elab_ports.specs.Views.{directed_seen, ids_seen}
use Rattle.vh_elab_instances.proofs.names.see_directed.Given as goal

-- Those so far, with those that are left, are all of them.
abbrev pub invariant-loop-directed : goal.invariant-loop-directed
invariant-loop-directed l =
    ids_seen l.ids.items ++ map (λ d. d.id) (map directed_seen (drop l.directed-index l.all))
    ≡ ids_seen l.initial.ids.items ++ map (λ d. d.id) (map directed_seen l.all)
