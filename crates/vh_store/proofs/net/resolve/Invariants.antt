use Rattle.std.proofs.Common.{◌≡◌, drop}
use Rattle.std.specs.List.{fold}
use Rattle.vh_logic.specs.Vector.{width_of}
use Rattle.vh_store.specs.Resolution.{with_driver}
use Rattle.vh_store.proofs.net.resolve.Given as goal

-- The other drivers are still to be joined.
abbrev pub invariant-loop-driver : goal.invariant-loop-driver
invariant-loop-driver l = record {
  value : fold (with_driver l.table l.undriven) l.all (drop l.driver-index l.drivers) ≡ fold (with_driver l.table l.undriven) l.undriven l.drivers;
  width : width_of l.all ≡ width_of l.undriven;
}
