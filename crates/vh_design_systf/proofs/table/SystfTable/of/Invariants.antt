use Rattle.std.proofs.Common.{◌≡◌, ◌≤◌, drop, length}
use Rattle.std.specs.List.{fold}
use Rattle.vh_design_systf.specs.Table.{with_entry, table_of}
use Rattle.vh_design_systf.proofs.table.SystfTable.of.Given as goal

abbrev pub invariant-loop-entry : goal.invariant-loop-entry
invariant-loop-entry l =
    (fold with_entry l.table (drop l.entry-index l.entries.items) ≡ table_of l.entries.items)
    × (length l.table ≤ l.entry-index)
