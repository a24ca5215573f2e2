use Rattle.std.proofs.Common.{◌≡◌, ◌∙◌, ◌<◌, ◌||◌, length, take, sym, ap, arith}
use Rattle.std.specs.List.{list_any}
use Rattle.vh_sense.specs.Reads.{object_in, is_the, reads_below}
use Rattle.vh_design.specs.Laws.{parts_of}
use Rattle.vh_sense.specs.Views.{noted, follow_at, follows_at}
use Rattle.vh_sense.proofs.ReadsLemmas.{part_before, one_part_more, all_parts, own_object, no_object, part_there}
use Rattle.vh_sense.proofs.FollowsLemmas.{noted_twice}
use Rattle.vh_sense.proofs.readers.+note.Goals as goal
use Rattle.vh_sense.proofs.readers.+note.Goals.{in-Some+in_ok-put, in_default, in-Some-part_at+in_ok-note, in_default-part_at}

pub loop-k-init : goal.loop-k-init
loop-k-init t c = λ o below.
    let same : length c.match-object_in.readers ≡ length c.args.readers.now = c.match-object_in.auto.readers in
    elim c.match-object_in.branch [
      | in-Some+in_ok-put w ↦
          ap (λ rs. follows_at rs o) w.readers-is ∙ w.in_ok-put.ensures o (omega (arith, below, same))
          ∙ ap (λ b. noted b (follow_at c.args.key) (follows_at c.args.readers.now o))
          (own_object o (object_in c.expr.result.now.kind) w.in-Some.object (sym c.object_in.ensures ∙ w.in-Some.is))
      | in_default w ↦
          ap (λ rs. follows_at rs o) w.readers-is
          ∙ ap (λ b. noted b (follow_at c.args.key) (follows_at c.args.readers.now o))
          (no_object o (object_in c.expr.result.now.kind) (sym c.object_in.ensures ∙ w.in_default.is))
    ]

pub note-requires : goal.note-requires
note-requires t c =
    let before : c.in-Some-part_at.part < c.args.e = part_before c.args.d.now.objects c.args.d.now.precision c.args.e c.expr.result.now.kind c.loop-k.k c.in-Some-part_at.part
    c.expr.ensures.fits (sym c.part_at.ensures ∙ c.in-Some-part_at.is) in
    let r : c.args.e < length c.args.d.now.exprs = c.requires in
    (omega (arith, before, c.decreases), omega (arith, before, r))

pub loop-k-preserved : goal.loop-k-preserved
loop-k-preserved t c = λ o below.
    let same : length c.match-part_at.readers ≡ length c.loop-k.readers = c.match-part_at.auto.readers in
    let e = c.args.e in let ns = c.args.d.now.exprs in let k = c.expr.result.now.kind in
    elim c.match-part_at.branch [
      | in-Some-part_at+in_ok-note w ↦
          let at = sym c.part_at.ensures ∙ w.in-Some-part_at.is in
          let part = w.in-Some-part_at.part in
          let before : part < e = part_before c.args.d.now.objects c.args.d.now.precision e k c.loop-k.k part c.expr.ensures.fits at in
          let inside : o < length c.loop-k.readers = omega (arith, below, same) in
          ap (λ rs. follows_at rs o) w.readers-is ∙ w.in_ok-note.ensures e o before inside
          ∙ ap (λ fs. noted (reads_below e ns o part) (follow_at c.args.key) fs) (c.loop-k.invariant o inside)
          ∙ noted_twice (is_the o (object_in k) || list_any (reads_below e ns o) (take c.loop-k.k (parts_of k))) (reads_below e ns o part)
          (follow_at c.args.key) (follows_at c.args.readers.now o)
          ∙ ap (λ b. noted b (follow_at c.args.key) (follows_at c.args.readers.now o))
          (sym (one_part_more (reads_below e ns o) (is_the o (object_in k)) (parts_of k) c.loop-k.k part at))
      | in_default-part_at w ↦
          absurd (part_there (parts_of k) c.loop-k.k (c.count_parts-k-end.result) c.count_parts-k-end.ensures c.loop-k-test.true
          (sym c.part_at.ensures ∙ w.in_default-part_at.is))
    ]

pub returns : goal.returns
returns t c = λ k o above below.
    let same : length c.match-object_in.readers ≡ length c.args.readers.now = c.match-object_in.auto.readers in
    let kept : length c.loop-k.readers ≡ length c.match-object_in.readers = c.loop-k.auto.readers in
    c.loop-k.invariant o (omega (arith, below, same, kept))
    ∙ ap (λ b. noted b (follow_at c.args.key) (follows_at c.args.readers.now o))
    (all_parts k c.args.d.now.exprs o c.args.e c.expr.result.now c.loop-k.k above c.expr.ensures.value
    (rw (← c.count_parts-k-end.ensures) c.loop-k-test.false))
