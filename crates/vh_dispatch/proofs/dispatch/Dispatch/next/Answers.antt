use Rattle.std.proofs.Common.{◌≡◌, ℕ, Some, cond, nat_eq, sym, ◌∙◌}
use Rattle.vh_callbacks.specs.Marks.{marked, without_number}
use Rattle.vh_dispatch.specs.Frames.{depth_of}
use Rattle.vh_dispatch.proofs.FramesLemmas.{if_some, if_none, stack_taken, stack_same}
use Rattle.vh_dispatch.proofs.dispatch.Dispatch.next.Goals as goal

pub returns-clause-left : goal.returns-clause-left
returns-clause-left g c =
    let top : depth_of c.args.self.now ≡ Some c.in_ok-depth.depth = sym c.top.ensures ∙ c.in_ok-depth.was in
    if_some c.take_marked.result
    (λ n. (d : ℕ) → marked d c.take_marked.new.self ≡ cond (nat_eq d c.in_ok-depth.depth) (without_number n (marked d c.args.r.now)) (marked d c.args.r.now)) _
    (λ n taken. stack_taken c.args.self.now c.in_ok-depth.depth n c.args.r.now c.take_marked.new.self top taken)
    c.take_marked.ensures.left

pub returns-clause-kept : goal.returns-clause-kept
returns-clause-kept g c =
    if_none c.take_marked.result ((d : ℕ) → marked d c.take_marked.new.self ≡ marked d c.args.r.now) _
    (λ same. stack_same c.args.self.now c.args.r.now c.take_marked.new.self same)
    c.take_marked.ensures.kept
