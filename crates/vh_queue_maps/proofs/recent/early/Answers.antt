use Rattle.std.proofs.Common.{rules, nat_lt}
use Rattle.std.proofs.lemmas.List.Sorted.{IsPartitionPoint-from_clause}
use Rattle.vh_queue_maps.proofs.RecentLemmas.{early-of, early-parted}
use Rattle.vh_queue_maps.proofs.recent.early.Goals as goal

pub returns : goal.returns
returns g c =
    early-of c.args.number c.args.row.now c.partition_point.result c.partition_point.ensures.bound
    (IsPartitionPoint-from_clause (λ e. nat_lt e.0 c.args.number) _ _ c.partition_point.ensures.partitioned
    (early-parted c.args.number c.args.row.now c.requires) (λ a r q k. search rules))
