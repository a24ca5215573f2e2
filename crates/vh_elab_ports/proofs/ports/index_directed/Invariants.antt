use Rattle.std.proofs.Common.{◌≡◌, ◌++◌, map, drop}
use Rattle.vh_elab_ports.specs.Ports.{directed_name, names_of}
use Rattle.vh_elab_ports.specs.Views.{directed_seen}
use Rattle.vh_elab_ports.proofs.ports.index_directed.Given as goal

-- Those so far, with those that are left, are all of them.
abbrev pub invariant-loop-directed : goal.invariant-loop-directed
invariant-loop-directed l =
    record {
      named :
          l.index ++ map directed_name (map directed_seen (drop l.directed-index l.all))
          ≡ map directed_name (map directed_seen l.all);
      identified :
          l.index ++ names_of (map (λ d. d.id) (map directed_seen (drop l.directed-index l.all)))
          ≡ names_of (map (λ d. d.id) (map directed_seen l.all));
    }
