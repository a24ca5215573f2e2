use Rattle.std.proofs.Common.{◌≡◌, ◌∙◌, ℕ, Some, slice_get, sym, ap}
use Rattle.vh_dispatch.specs.Frames.{top_set, without_in_top}
use Rattle.vh_kernel.specs.declared.label.Label.TheVariants as label
use Rattle.vh_kernel.specs.declared.occurrence.Told.{Told}
use Rattle.vh_kernel.specs.Outcome.{Move}
use Rattle.vh_kernel.specs.State.{State, with_frames}
use Rattle.vh_kernel.specs.Step.{frame_of, called_for}
use Rattle.vh_kernel.specs.Views.{state_of, given_by}
use Rattle.vh_kernel.proofs.FireLemmas.{fires-there}
use Rattle.vh_kernel.proofs.kernel.Kernel.fire.Goals as goal

pub returns : goal.returns
returns c =
    let s : State = state_of c.args.self.now in
    let told : Told = c.in-Some.told.now in
    let n : ℕ = c.in-Some-take_left.c in
    let on : Some told ≡ frame_of (slice_get s.control 0) = c.in-Some.ensures in
    let chosen : slice_get (top_set s.world.frames) c.args.k ≡ Some n = sym c.in-Some-take_left.ensures.taken in
    let called : state_of c.call.new.self ≡ called_for (frame_of (slice_get s.control 0)) n (with_frames (without_in_top n s.world.frames) s) =
    c.in_ok-call.ensures ∙ ap (λ (t : State). called_for (frame_of (slice_get t.control 0)) n t) c.in-Some-take_left.ensures.left in
    fires-there s told c.args.k n (given_by c.args.self.now) on chosen
    ∙ ap (λ (t : State). (let m : Move = (label.Fire told.number n, t) in m)) (sym called)
