use Rattle.std.proofs.Common.{◌≡◌, ◌∙◌, ◌<◌, length, sym, ap, arith, Some, slice_get}
use Rattle.std.proofs.lemmas.Option.{slice_get-get_or}
use Rattle.vh_design.specs.Validity.{limits_of}
use Rattle.vh_sense.specs.Reads.{reads}
use Rattle.vh_sense.specs.Views.{follow_at, follows_at, noted}
use Rattle.vh_sense.proofs.FollowsLemmas.{statement_more, other_more, statement_there, follow_of_key}
use Rattle.vh_sense.proofs.readers.note_code.Goals as goal
use Rattle.vh_sense.proofs.readers.note_code.Goals.{in-Some+in_ok-note, in_default}

pub loop-instruction-preserved : goal.loop-instruction-preserved
loop-instruction-preserved c = λ o below.
    let d = c.args.d.now in let ns = d.exprs in
    let is = c.as_slice-instruction-items.result.now in let i = c.loop-instruction.instruction-index in
    let x = c.instruction-item.result in let old = follows_at c.args.readers.now o in
    let kept : length c.loop-instruction.readers ≡ length c.args.readers.now = c.loop-instruction.auto.readers in
    let inside : o < length c.loop-instruction.readers = omega (arith, below, kept) in
    elim c.match-follow_of.branch [
      | in-Some+in_ok-note w ↦
          let f = w.in-Some.follow in
          let gives = sym c.follow_of.ensures ∙ w.in-Some.is in
          let at : slice_get c.args.code.now.instructions i ≡ Some x = rw (← c.as_slice-instruction-items.ensures) (slice_get-get_or is i x c.loop-instruction-test.true ∙ ap Some (sym c.instruction-item.is)) in
          let there : f.expr < length ns = statement_there d.objects ns d.drivers (limits_of d) c.args.code.now i x f c.requires at gives in
          ap (λ rs. follows_at rs o) w.readers-is ∙ w.in_ok-note.ensures (length ns) o there inside
          ∙ ap (λ g. noted (reads ns o f.expr) g (follows_at c.loop-instruction.readers o)) (ap follow_at w.new.ensures ∙ follow_of_key f)
          ∙ ap (λ fs. noted (reads ns o f.expr) f fs) (c.loop-instruction.invariant o below)
          ∙ statement_more ns o old is i x f c.loop-instruction-test.true c.instruction-item.is gives
      | in_default w ↦
          ap (λ rs. follows_at rs o) w.readers-is ∙ c.loop-instruction.invariant o below
          ∙ other_more ns o old is i x c.loop-instruction-test.true c.instruction-item.is (sym c.follow_of.ensures ∙ w.in_default.is)
    ]
