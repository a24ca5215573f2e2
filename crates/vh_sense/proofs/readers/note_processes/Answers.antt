use Rattle.std.proofs.Common.{◌≡◌, ◌∙◌, ◌<◌, length, take, sym, ap, arith}
use Rattle.std.specs.List.{flat_map}
use Rattle.vh_sense.specs.Follows.{statements_in}
use Rattle.vh_sense.specs.Views.{follows_at, gathered}
use Rattle.vh_sense.proofs.FollowsLemmas.{gathered-append, code_more}
use Rattle.vh_sense.proofs.readers.note_processes.Goals as goal

pub loop-p-preserved : goal.loop-p-preserved
loop-p-preserved c = λ o below.
    let d = c.args.d.now in let ns = d.exprs in let old = follows_at c.args.readers.now o in let p = c.loop-p.p in
    let kept : length c.loop-p.readers ≡ length c.args.readers.now = c.loop-p.auto.readers in
    let inside : o < length c.loop-p.readers = omega (arith, below, kept) in
    let before = flat_map statements_in (take p d.codes) in
    c.in_ok-note_code.ensures o inside
    ∙ ap (λ fs. gathered ns o fs (statements_in c.code.result.now)) (c.loop-p.invariant o below)
    ∙ sym (gathered-append ns o old before (statements_in c.code.result.now))
    ∙ ap (λ fs. gathered ns o old fs) (sym (code_more d.codes p c.code.result.now (rw (← c.new.ensures) c.code.ensures.value)))
