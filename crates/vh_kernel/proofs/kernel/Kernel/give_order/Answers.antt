use Rattle.std.proofs.Common.{◌≡◌, ℕ, Bool, false, List, Some, slice_get, slice_set, sym, ap, subst, ◌∙◌, arith}
use Rattle.std.proofs.lemmas.Option.{slice_get_read}
use Rattle.vh_base.specs.declared.orders.Answer.{Answer}
use Rattle.vh_kernel.specs.Activations.{Activation}
use Rattle.vh_kernel.specs.declared.control.Control.TheVariants as top
use Rattle.vh_kernel.specs.Outcome.{Move}
use Rattle.vh_kernel.specs.State.{State, with_top, with_variables}
use Rattle.vh_kernel.specs.Step.{order_move}
use Rattle.vh_kernel.specs.Views.{state_of, given_by, Moves}
use Rattle.vh_orders.specs.Orders.{Given, is_return}
use Rattle.vh_kernel.proofs.StepLemmas.{acts-next}
use Rattle.vh_kernel.proofs.kernel.Kernel.give_order.Goals as goal

pub returns : goal.returns
returns c =
    let k = c.args.self.now in
    let s : State = state_of k in
    let a : Activation = c.args.activation in
    let order = c.in_ok-order.order in
    let after : List Answer = c.next_order.new.vars in
    let given : Given = given_by k in
    let before : State = with_top (top.Activation a) s in
    let next : State = with_variables (slice_set s.world.variables a.script after) s in
    let there : slice_get s.world.scripts a.script ≡ Some c.index.result.now =
    subst (λ (i : ℕ). slice_get s.world.scripts i ≡ Some c.index.result.now) c.script-i.ensures
    (slice_get_read k.world.scripts.items c.len.result c.script-i.result c.index.result.now (c.len.ensures ∙ k.world.scripts.ok.0) (omega arith) c.index.ensures) in
    let held : slice_get s.world.variables a.script ≡ Some c.index_mut.result.now =
    subst (λ (i : ℕ). slice_get s.world.variables i ≡ Some c.index_mut.result.now) c.script-i.ensures
    (slice_get_read k.world.vars.items c.len-else-i-len.result c.script-i.result c.index_mut.result.now (c.len-else-i-len.ensures ∙ k.world.vars.ok.0) (omega arith) c.index_mut.ensures.value) in
    let goes_on : is_return order ≡ false = sym c.is_return.ensures ∙ c.if-is_return.false in
    let moves = acts-next s a c.index.result.now c.index_mut.result.now after order c.next_order.new.self.at given there held c.in_ok-order.ensures.next in
    let ordered = ap (λ (b : Bool). order_move b order (record a { at = c.next_order.new.self.at }) before next given) goes_on in
    let same = ap (λ (x : Activation). order_move false order x before next given) (sym c.next_order.ensures.kept) in
    let there_too = ap (λ (i : ℕ). order_move false order c.next_order.new.self before (with_variables (slice_set s.world.variables i after) s) given) (sym c.script-i.ensures) in
    subst (λ (m : Move). Moves m c.obey.result c.obey.new.self) (sym (moves ∙ ordered ∙ same ∙ there_too)) (c.obey.ensures before)
