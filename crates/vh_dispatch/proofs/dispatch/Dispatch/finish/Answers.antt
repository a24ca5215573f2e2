use Rattle.std.proofs.Common.{ℕ, List, [], length, cond, nat_eq, ap, ◌∙◌}
use Rattle.vh_callbacks.specs.Marks.{marked}
use Rattle.vh_dispatch.proofs.FramesLemmas.{stack_finished}
use Rattle.vh_dispatch.proofs.dispatch.Dispatch.finish.Goals as goal

pub returns-clause-sets : goal.returns-clause-sets
returns-clause-sets g c =
    rw c.pop.ensures
    (stack_finished c.args.self.now c.args.r.now c.clear_marks.new.self
    (λ d. c.clear_marks.ensures.sets d
    ∙ ap (λ (n : ℕ). cond (nat_eq d n) [] (marked d c.args.r.now)) (c.len.ensures.len ∙ ap (λ (ns : List ℕ). length ns) c.pop.ensures)))
