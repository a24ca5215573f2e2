use Rattle.std.proofs.Common.{◌≡◌, Bool, true, false, sym, subst, ◌∙◌}
use Rattle.vh_kernel.specs.Step.{pass_move}
use Rattle.vh_kernel.specs.Views.{state_of, given_by, Moves}
use Rattle.vh_orders.specs.Orders.{is_pass}
use Rattle.vh_kernel.proofs.kernel.Kernel.obey.Goals as goal

pub returns-then-is_pass : goal.returns-then-is_pass
returns-then-is_pass c before =
    let k = c.args.self.now in
    let passes : true ≡ is_pass c.args.order = sym c.if-is_pass.true ∙ c.is_pass.ensures in
    subst (λ (b : Bool). Moves (pass_move b c.args.order c.args.activation before (state_of k) (given_by k)) c.pass.result c.pass.new.self)
    passes (c.pass.ensures c.args.order before)

pub returns : goal.returns
returns c before =
    let k = c.args.self.now in
    let asks : false ≡ is_pass c.args.order = sym c.if-is_pass.false ∙ c.is_pass.ensures in
    subst (λ (b : Bool). Moves (pass_move b c.args.order c.args.activation before (state_of k) (given_by k)) c.ask.result c.ask.new.self)
    asks (c.ask.ensures before)
