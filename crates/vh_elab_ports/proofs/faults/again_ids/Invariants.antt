use Rattle.std.proofs.Common.{◌≡◌, drop}
use Rattle.vh_elab_ports.specs.Ports.{again_from}
use Rattle.vh_elab_ports.specs.Views.{ids_seen}
use Rattle.vh_elab_ports.proofs.faults.again_ids.Given as goal

-- Those so far, with those that are left, are all of them.
abbrev pub invariant-loop-number : goal.invariant-loop-number
invariant-loop-number l =
    again_from l.index l.number (ids_seen (drop l.number l.ids)) l.fault
    ≡ again_from l.index 0 (ids_seen l.ids) l.fn.so_far
