use Rattle.std.proofs.Common.{◌≡◌, map, drop}
use Rattle.vh_bind_least.specs.Least.{least_of}
use Rattle.vh_elab_ports.specs.Ports.{is_not_among}
use Rattle.vh_elab_ports.specs.Views.{directed_seen}
use Rattle.vh_elab_ports.proofs.faults.no_ports_in.Given as goal

-- Those so far, with those that are left, are all of them.
abbrev pub invariant-loop-directed : goal.invariant-loop-directed
invariant-loop-directed l =
    least_of (λ d. is_not_among l.header d.id)
    (map directed_seen (drop l.directed-index l.all)) l.fault
    ≡ least_of (λ d. is_not_among l.header d.id) (map directed_seen l.all) l.fn.so_far
