use Rattle.std.proofs.Common.{rules}
use Rattle.std.proofs.lemmas.List.Sorted.{IsPartitionPoint-from_clause}
use Rattle.vh_queue_maps.specs.Rows.{is_before}
use Rattle.vh_queue_maps.proofs.RowsLemmas.{prefix-of, parted}
use Rattle.vh_queue_maps.proofs.near.row_from.Goals as goal

pub returns : goal.returns
returns c c' =
    prefix-of c.K.Ord.cmp c'.args.from.now c'.args.near.now c'.partition_point.result c'.partition_point.ensures.bound
    (IsPartitionPoint-from_clause (is_before c.K.Ord.cmp c'.args.from.now) _ _ c'.partition_point.ensures.partitioned
    (parted c.K.Ord.cmp c.met.K.Ord.total c'.args.from.now c'.args.near.now c'.requires) (λ a r q k. search rules))
