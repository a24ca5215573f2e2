use Rattle.std.proofs.Common.{arith}
use Rattle.std.proofs.lemmas.Option.{slice_get-get_or}
use Rattle.vh_store.specs.Acts.{acted}
use Rattle.vh_store.proofs.ContentsLemmas.{put_record}
use Rattle.vh_store.proofs.store.act_at.Goals as goal

pub returns-then-number-records : goal.returns-then-number-records
returns-then-number-records c =
    rw (← c.number-number.ensures)
    (put_record c.args.records.now c.number-number.result _ c.act.new.self (acted c.args.act.now)
    (slice_get-get_or c.args.records.now c.number-number.result c.index-records-number.result (omega arith)) c.act.ensures)
