use Rattle.std.proofs.Common.{◌∙◌, ◌-◌, ℕ, List, reverse, sym, ap, subst, arith}
use Rattle.vh_design.specs.Shape.{Shape}
use Rattle.vh_proc_thread.specs.declared.call.Call.{Call}
use Rattle.vh_proc_thread.specs.Control.{Control, Runs, standing_in}
use Rattle.vh_proc_thread.proofs.ControlLemmas.{block-last, block-none, runs-in}
use Rattle.vh_proc_thread.proofs.thread.Thread.stand_in.Goals as goal

pub returns-clause-stands : goal.returns-clause-stands
returns-clause-stands c =
    let i = c.self.inside in
    ap (λ (cs : List Call). (let q : Control = record { root = i.root; outer = i.outer; calls = cs; repeats = reverse i.repeats.items; goes = i.goes } in q))
    (block-last c.args.block _ i.calls.items c.in-Some.call.now (ap (λ (n : ℕ). n - 1) i.calls.ok.0) c.in-Some.ensures.item.3.0 c.in-Some.ensures.value)
    ∙ ap (standing_in c.args.block) c.self.view_is

pub returns-clause-runs : goal.returns-clause-runs
returns-clause-runs c = λ (d : Shape) runs. subst (Runs d) (sym (returns-clause-stands c)) (runs-in d c.args.block c.args.self.now runs)

pub returns-in_default-clause-stands : goal.returns-in_default-clause-stands
returns-in_default-clause-stands c =
    let i = c.self.inside in let few = c.in_default.ensures.item.3 in
    ap (λ (cs : List Call). (let q : Control = record { root = i.root; outer = i.outer; calls = cs; repeats = reverse i.repeats.items; goes = i.goes } in q))
    (block-none c.args.block i.calls.items (omega (arith, few)))
    ∙ ap (standing_in c.args.block) c.self.view_is

pub returns-in_default-clause-runs : goal.returns-in_default-clause-runs
returns-in_default-clause-runs c = λ (d : Shape) runs. subst (Runs d) (sym (returns-in_default-clause-stands c)) (runs-in d c.args.block c.args.self.now runs)
