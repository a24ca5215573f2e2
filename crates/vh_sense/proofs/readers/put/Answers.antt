use Rattle.std.proofs.Common.{get_or}
use Rattle.std.proofs.lemmas.Option.{slice_get-get_or}
use Rattle.vh_sense.proofs.ViewsLemmas.{follows_put}
use Rattle.vh_sense.proofs.readers.put.Goals as goal

pub returns-in_ok-insert : goal.returns-in_ok-insert
returns-in_ok-insert c = λ o below.
    let old = get_or c.args.readers.now c.number-number.result c.index-readers-number.result in
    rw (← c.number-number.ensures)
    (follows_put c.args.readers.now c.number-number.result old c.insert.new.self c.args.key o
    (slice_get-get_or c.args.readers.now c.number-number.result c.index-readers-number.result c.if-number-readers.true)
    c.if-number-readers.true c.in_ok-insert.ensures.keys)
