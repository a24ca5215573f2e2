use Rattle.std.proofs.Common.{◌≡◌, ◌∙◌, ◌<◌, ℕ, length, sym, ap, arith}
use Rattle.std.specs.List.{flat_map, range_with_len}
use Rattle.vh_design.specs.Validity.{body_at}
use Rattle.vh_sense.specs.Follows.{statements_of_body}
use Rattle.vh_sense.specs.Views.{follows_at, gathered}
use Rattle.vh_sense.proofs.FollowsLemmas.{gathered-append, body_more}
use Rattle.vh_sense.proofs.readers.note_bodies.Goals as goal

pub loop-o-preserved : goal.loop-o-preserved
loop-o-preserved c = λ o below.
    let d = c.args.d.now in let ns = d.exprs in let old = follows_at c.args.readers.now o in let n = c.loop-o.o in
    let kept : length c.loop-o.readers ≡ length c.args.readers.now = c.loop-o.auto.readers in
    let inside : o < length c.loop-o.readers = omega (arith, below, kept) in
    let of_body = λ (k : ℕ). statements_of_body (body_at d k) in
    c.in_ok-note_body.ensures o inside
    ∙ ap (λ k. gathered ns o (follows_at c.loop-o.readers o) (of_body k)) c.new.ensures
    ∙ ap (λ fs. gathered ns o fs (of_body n)) (c.loop-o.invariant o below)
    ∙ sym (gathered-append ns o old (flat_map of_body (range_with_len 0 n)) (of_body n))
    ∙ ap (λ fs. gathered ns o old fs) (sym (body_more of_body n))
