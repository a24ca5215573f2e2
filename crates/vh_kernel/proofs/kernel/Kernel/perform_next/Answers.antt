use Rattle.std.proofs.Common.{◌≡◌, ◌∙◌, Err, Some, ap, subst, rules}
use Rattle.vh_kernel.specs.Statements.{performed_outcome, statement_outcome}
use Rattle.vh_kernel.specs.Views.{state_of}
use Rattle.vh_proc_simulation.specs.Labels.{performed, IsOver}
use Rattle.vh_proc_turn.specs.Own.{FailsBy}
use Rattle.vh_proc_turn.specs.declared.fault.StepFault.{StepFault}
use Rattle.vh_proc_turn.specs.declared.fault.StepFault.TheVariants.{Run}
use Rattle.vh_kernel.proofs.kernel.Kernel.perform_next.Goals as goal

pub returns-in_ok-push_process-in-Err-Run : goal.returns-in_ok-push_process-in-Err-Run
returns-in_ok-push_process-in-Err-Run c =
    let s = state_of c.args.self.now in let f = c.in-Err-Run.fault in let e = c.in-Err-Run.field-0 in
    let fails : FailsBy (performed c.new-process.result s.world.activity) e = c.in-Err-Run.ensures.fails in
    let run : performed c.new-process.result s.world.activity ≡ Err (Some f) =
    subst (λ (x : StepFault). FailsBy (performed c.new-process.result s.world.activity) x) c.in-Err-Run.field-0-is fails in
    let over : IsOver (Run f) s.world.activity c.perform.new.self =
    subst (λ (x : StepFault). IsOver x s.world.activity c.perform.new.self) c.in-Err-Run.field-0-is c.in-Err-Run.ensures.over in
    let failed : statement_outcome c.args.p s ≡ Err f =
    ap (λ n. statement_outcome n s) (let same : c.args.p ≡ c.new-process.result = search rules in same) ∙ ap (λ r. performed_outcome r c.new-process.result s) run in
    search (rules, failed, over)
