use Rattle.std.proofs.Common.{◌∷◌, []}
use Rattle.std.proofs.lemmas.List.{map-append}
use Rattle.vh_store.specs.Opening.{opening_record}
use Rattle.vh_store.specs.Views.{record_of}
use Rattle.vh_store.proofs.ContentsLemmas.{one_more}
use Rattle.vh_store.proofs.opening.opening_records.Goals as goal

pub loop-o-preserved : goal.loop-o-preserved
loop-o-preserved c =
    rw (c.in_ok-push.ensures.items, map-append record_of c.loop-o.records.items (c.in_ok-record.record ∷ []), c.in_ok-record.ensures)
    (one_more (opening_record c.args.d.now.exprs) c.args.d.now.objects c.loop-o.o c.object.result.now _
    (rw (← c.new.ensures) c.object.ensures.value) c.loop-o.invariant)
