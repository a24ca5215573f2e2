use Rattle.std.proofs.Common.{arith}
use Rattle.std.proofs.lemmas.Option.{slice_get-get_or}
use Rattle.vh_store.specs.Opening.{with_one_driver}
use Rattle.vh_store.proofs.ContentsLemmas.{put_record, no_count}
use Rattle.vh_store.proofs.opening.connect_one.Goals as goal

pub returns-then-number-records-clause-records : goal.returns-then-number-records-clause-records
returns-then-number-records-clause-records c =
    rw (← c.number-number.ensures)
    (put_record c.args.records.now c.number-number.result _ c.connect.new.self (with_one_driver c.args.x.now)
    (slice_get-get_or c.args.records.now c.number-number.result c.index-records-number.result (omega arith)) c.in_ok-index.ensures.known)

pub returns-clause-position : goal.returns-clause-position
returns-clause-position c = rw (← c.number-number.ensures) (no_count c.args.records.now c.number-number.result (omega arith))
