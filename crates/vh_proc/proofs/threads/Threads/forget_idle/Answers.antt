use Rattle.std.proofs.Common.{sym, subst}
use Rattle.vh_design.specs.Shape.{Shape}
use Rattle.vh_proc.specs.Processes.{AllRun}
use Rattle.vh_proc.proofs.IdleLemmas.{kept-still}
use Rattle.vh_proc.proofs.RunsLemmas.{EachRuns}
use Rattle.vh_proc.proofs.threads.Threads.forget_idle.Goals as goal

pub forget_idle-requires : goal.forget_idle-requires
forget_idle-requires c =
    subst (λ (d : Shape). EachRuns d c.self.inside.all.entries) (sym c.design.ensures) (subst (AllRun c.args.d.now) (sym c.self.view_is) c.requires)

pub invariant_of-self-2 : goal.invariant_of-self-2
invariant_of-self-2 c = λ _.
    kept-still c.design.result.now c.in-Some-Routine.r c.self.inside.all.entries c.self.inside.families c.forget_idle.new.self c.in_ok-forget_idle.ensures
    c.self.inside.next c.rise.ensures (c.self.invariant c.if-not-self.false)
