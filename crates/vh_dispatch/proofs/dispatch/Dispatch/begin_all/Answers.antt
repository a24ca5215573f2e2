use Rattle.std.proofs.Common.{◌≡◌, ◌∷◌, ap, ◌∙◌}
use Rattle.vh_callbacks.specs.Callbacks.{Callbacks, matching}
use Rattle.vh_dispatch.specs.Frames.{stack_of}
use Rattle.vh_dispatch.proofs.FramesLemmas.{on_ok, on_err, on_any_err, stack_refused, stack_filled, stack_unplaced}
use Rattle.vh_dispatch.proofs.dispatch.Dispatch.begin_all.Goals as goal

pub returns-in_err-mark_all-clause-sets_kept : goal.returns-in_err-mark_all-clause-sets_kept
returns-in_err-mark_all-clause-sets_kept g c =
    on_any_err c.from_residual.result _
    (stack_refused c.args.self.now c.len-depth.result c.args.r.now c.clear_marks.new.self c.mark_all.new.self c.len-depth.ensures.len c.clear_marks.ensures.sets c.in_err-mark_all.ensures.kept)

pub returns-clause-sets : goal.returns-clause-sets
returns-clause-sets g c =
    on_ok c.push.result (c.push.new.self ≡ c.args.n ∷ c.args.self.now) _
    (λ placed.
    rw placed
    (stack_filled c.args.n c.args.self.now c.len-depth.result (matching c.args.reason c.args.o c.clear_marks.new.self.callbacks) c.args.r.now c.clear_marks.new.self c.mark_all.new.self
    c.len-depth.ensures.len c.clear_marks.ensures.sets c.in_ok-mark_all.ensures.sets
    ∙ ap (λ (s : Callbacks g.row.B.Denot). matching c.args.reason c.args.o s ∷ stack_of c.args.self.now c.args.r.now) c.clear_marks.ensures.callbacks))
    c.push.ensures.ok

pub returns-clause-sets_kept : goal.returns-clause-sets_kept
returns-clause-sets_kept g c =
    on_err c.push.result (c.push.new.self ≡ c.args.self.now) _
    (λ kept.
    rw kept
    (stack_unplaced c.args.self.now c.len-depth.result (matching c.args.reason c.args.o c.clear_marks.new.self.callbacks) c.args.r.now c.clear_marks.new.self c.mark_all.new.self
    c.len-depth.ensures.len c.clear_marks.ensures.sets c.in_ok-mark_all.ensures.sets))
    c.push.ensures.kept
