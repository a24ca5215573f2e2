use Rattle.std.proofs.Common.{◌≡◌, [], map, drop}
use Rattle.std.specs.List.{fold}
use Rattle.vh_store.specs.Opening.{wired}
use Rattle.vh_store.specs.Views.{record_of}
use Rattle.vh_store.proofs.opening.connect.Given as goal

-- The other drivers are still to come.
abbrev pub invariant-loop-x : goal.invariant-loop-x
invariant-loop-x l =
    fold wired (record { records = map record_of l.records; drivers = l.positions.items }) (drop l.x l.d.drivers)
    ≡ fold wired (record { records = map record_of l.fn.records; drivers = [] }) l.d.drivers
