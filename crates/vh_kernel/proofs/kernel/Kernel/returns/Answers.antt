use Rattle.std.proofs.Common.{◌≡◌, ℕ, List, Some, slice_get, sym, subst, ap, ◌∙◌}
use Rattle.std.proofs.lemmas.Option.{slice_get-get_or}
use Rattle.vh_app.specs.declared.point.Point.{Point}
use Rattle.vh_app.specs.Next.{next_of}
use Rattle.vh_app.specs.Script.{ScriptData}
use Rattle.vh_base.specs.declared.orders.Answer.{Answer}
use Rattle.vh_base.specs.declared.orders.Order.TheVariants as order
use Rattle.vh_kernel.specs.Activations.{Activation}
use Rattle.vh_kernel.specs.State.{State}
use Rattle.vh_kernel.specs.Views.{state_of, given_by}
use Rattle.vh_kernel.proofs.StepLemmas.{returns-now}
use Rattle.vh_kernel.proofs.kernel.Kernel.returns.Goals as goal

pub returns : goal.returns
returns c is =
    let k = c.args.self.now in
    let s : State = state_of k in
    let a : Activation = c.args.activation.now in
    let i = c.script-i.result in
    let script : ScriptData = c.in-Some.script.now in
    let vars : List Answer = c.in-Some-get._vars.now in
    let l = c.in-Some.ensures.lookup in
    let m = c.in-Some-get.ensures.lookup in
    let found : slice_get s.world.scripts i ≡ Some script =
    subst (λ (xs : List ScriptData). slice_get xs i ≡ Some script) c.deref.ensures.value (slice_get-get_or c.deref.result.now i script l.3.0 ∙ ap Some (sym l.1)) in
    let had : slice_get s.world.variables i ≡ Some vars =
    subst (λ (xs : List (List Answer)). slice_get xs i ≡ Some vars) c.deref-2.ensures.value (slice_get-get_or c.deref-2.result.now i vars m.3.0 ∙ ap Some (sym m.1)) in
    let there = subst (λ (n : ℕ). slice_get s.world.scripts n ≡ Some script) c.script-i.ensures found in
    let held = subst (λ (n : ℕ). slice_get s.world.variables n ≡ Some vars) c.script-i.ensures had in
    let next : next_of script a.at vars a.seen ≡ (order.Return, a.at, vars) =
    subst (λ (p : Point). next_of script p vars a.seen ≡ (order.Return, p, vars)) c.point.ensures (c.returns_at.ensures is vars a.seen) in
    returns-now s a script vars (given_by k) there held next
