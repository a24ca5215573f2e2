use Rattle.std.proofs.Common.{◌≡◌, map, drop}
use Rattle.vh_elab_ports.specs.Ports.{again_from}
use Rattle.vh_elab_ports.specs.Views.{directed_seen}
use Rattle.vh_elab_ports.proofs.faults.again_directed.Given as goal

-- Those so far, with those that are left, are all of them.
abbrev pub invariant-loop-number : goal.invariant-loop-number
invariant-loop-number l =
    again_from l.index l.number (map (λ d. d.id) (map directed_seen (drop l.number l.all))) l.fault
    ≡ again_from l.index 0 (map (λ d. d.id) (map directed_seen l.all)) l.fn.so_far
