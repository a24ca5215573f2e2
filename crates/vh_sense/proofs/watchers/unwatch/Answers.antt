use Rattle.std.proofs.Common.{◌≡◌, ◌<◌, ◌∙◌, sym, ap, Some, length, arith}
use Rattle.std.proofs.lemmas.Option.{slice_get-get_or}
use Rattle.vh_sense.specs.Waits.{object_of}
use Rattle.vh_sense.proofs.ViewsLemmas.{named}
use Rattle.vh_sense.proofs.watchers.unwatch.Goals as goal

pub take_process-requires : goal.take_process-requires
take_process-requires c =
    let ts = c.args.terms.now in let i = c.loop-term.term-index in let t = c.term-item.result in
    let at = slice_get-get_or ts i t c.loop-term-test.true ∙ ap Some (sym c.term-item.is) in
    let below : object_of t < length c.args.watchers.now = c.requires (object_of t) (named ts i t at) in
    let kept : length c.loop-term.watchers ≡ length c.args.watchers.now = c.loop-term.auto.watchers in
    let is = c.object_of.ensures in omega (arith, below, kept, is)
