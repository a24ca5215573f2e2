use Rattle.std.proofs.Common.{◌≡◌, ◌++◌, drop, map, filter, slice_get}
use Rattle.std.specs.Map.{values_of}
use Rattle.vh_queue.specs.declared.entry.Entry.{Entry}
use Rattle.vh_queue.specs.Serials.{picked_by}
use Rattle.vh_queue.specs.Views.{all_seen}
use Rattle.vh_queue.proofs.queue.nth_picked.Given as goal

-- The one looked for is among the rest, that many further
abbrev pub invariant-loop-stored : goal.invariant-loop-stored
invariant-loop-stored l =
    slice_get (map (λ (e : Entry). e.serial) (filter (picked_by l.starts l.now l.first) (all_seen l.now l.horizons (l.stored-iterator ++ values_of l.row)))) l.left
    ≡ slice_get (map (λ (e : Entry). e.serial) (filter (picked_by l.starts l.now l.first) (all_seen l.now l.horizons (values_of l.entries)))) l.k

abbrev pub invariant-loop-stored-2 : goal.invariant-loop-stored-2
invariant-loop-stored-2 l =
    slice_get (map (λ (e : Entry). e.serial) (filter (picked_by l.starts l.now l.first) (all_seen l.now l.horizons (values_of (drop l.stored-index l.row))))) l.left
    ≡ slice_get (map (λ (e : Entry). e.serial) (filter (picked_by l.starts l.now l.first) (all_seen l.now l.horizons (values_of l.entries)))) l.k
