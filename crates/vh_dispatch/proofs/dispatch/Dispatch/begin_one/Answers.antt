use Rattle.std.proofs.Common.{◌≡◌, ◌∷◌, []}
use Rattle.vh_dispatch.proofs.FramesLemmas.{on_ok, on_err, on_any_err, stack_refused, stack_filled, stack_unplaced}
use Rattle.vh_dispatch.proofs.dispatch.Dispatch.begin_one.Goals as goal

pub returns-in_err-mark_one-clause-sets_kept : goal.returns-in_err-mark_one-clause-sets_kept
returns-in_err-mark_one-clause-sets_kept g c =
    on_any_err c.from_residual.result _
    (stack_refused c.args.self.now c.len-depth.result c.args.r.now c.clear_marks.new.self c.mark_one.new.self c.len-depth.ensures.len c.clear_marks.ensures.sets c.in_err-mark_one.ensures.kept)

pub returns-clause-sets : goal.returns-clause-sets
returns-clause-sets g c =
    on_ok c.push.result (c.push.new.self ≡ c.args.n ∷ c.args.self.now) _
    (λ placed.
    rw placed
    (stack_filled c.args.n c.args.self.now c.len-depth.result (c.args.c ∷ []) c.args.r.now c.clear_marks.new.self c.mark_one.new.self
    c.len-depth.ensures.len c.clear_marks.ensures.sets c.in_ok-mark_one.ensures.sets))
    c.push.ensures.ok

pub returns-clause-sets_kept : goal.returns-clause-sets_kept
returns-clause-sets_kept g c =
    on_err c.push.result (c.push.new.self ≡ c.args.self.now) _
    (λ kept.
    rw kept
    (stack_unplaced c.args.self.now c.len-depth.result (c.args.c ∷ []) c.args.r.now c.clear_marks.new.self c.mark_one.new.self
    c.len-depth.ensures.len c.clear_marks.ensures.sets c.in_ok-mark_one.ensures.sets))
    c.push.ensures.kept
