use Rattle.std.proofs.Common.{length}
use Rattle.vh_links.specs.Lists.{list_of}
use Rattle.vh_wheel.specs.Views.{bucket_at}
use Rattle.vh_wheel.proofs.WalkLemmas.{left_of, Walks}
use Rattle.vh_wheel.proofs.buckets.Buckets.least.Given as goal

abbrev pub invariant-loop-at : goal.invariant-loop-at
invariant-loop-at l =
    Walks l.self (list_of (bucket_at l.self l.number) l.self-inside.links) l.at (bucket_at l.self l.number) l.least

abbrev pub decreases-loop-at : goal.decreases-loop-at
decreases-loop-at l = length (left_of l.at (list_of (bucket_at l.self l.number) l.self-inside.links))
