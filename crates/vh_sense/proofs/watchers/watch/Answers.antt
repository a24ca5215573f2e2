use Rattle.std.proofs.Common.{◌≡◌, ◌<◌, ◌∙◌, sym, ap, Some, length, take, false, arith}
use Rattle.std.proofs.lemmas.Option.{slice_get-get_or}
use Rattle.vh_sense.specs.Waits.{object_of}
use Rattle.vh_sense.specs.Views.{names, set_to, watches}
use Rattle.vh_sense.proofs.ViewsLemmas.{named, set_back, names_taken}
use Rattle.vh_sense.proofs.watchers.watch.Goals as goal

pub put_process-requires : goal.put_process-requires
put_process-requires c =
    let ts = c.args.terms.now in let i = c.loop-term.term-index in let t = c.term-item.result in
    let at = slice_get-get_or ts i t c.loop-term-test.true ∙ ap Some (sym c.term-item.is) in
    let below : object_of t < length c.args.watchers.now = c.requires (object_of t) (named ts i t at) in
    let kept : length c.loop-term.watchers ≡ length c.args.watchers.now = c.loop-term.auto.watchers in
    let is = c.object_of.ensures in omega (arith, below, kept, is)

pub returns-in-Err-clause-none : goal.returns-in-Err-clause-none
returns-in-Err-clause-none c = λ o q.
    let ts = c.args.terms.now in let i = c.loop-term.term-index in let p = c.args.p in
    c.unwatch.ensures o q
    ∙ ap (λ x. set_to false (names ts o) p q x) (c.in-Err.ensures.kept o q ∙ c.loop-term.invariant o q)
    ∙ set_back (names (take i ts) o) (names ts o) p q (watches c.args.watchers.now o q) (names_taken ts i o)
