use Rattle.std.proofs.Common.{◌≡◌, ◌∙◌, ◌<◌, ◌-◌, ℕ, List, length, reverse, slice_index_or, refl, sym, ap, subst, arith}
use Rattle.vh_design_code.specs.declared.code.Goes.{Goes}
use Rattle.vh_design_code.specs.declared.code.Goes.TheVariants as goes
use Rattle.vh_proc_thread.specs.declared.call.Call.{Call}
use Rattle.vh_proc_thread.specs.Control.{Control, Runs, gone}
use Rattle.vh_proc_thread.proofs.ControlLemmas.{to-last, to-none, back-more, back-none, runs-on, walked}
use Rattle.vh_proc_thread.proofs.thread.Thread.+walk.Goals as goal

pub returns-in-Some-clause-on : goal.returns-in-Some-clause-on
returns-in-Some-clause-on t c =
    let i = c.self.inside in
    ap (λ (cs : List Call). (let q : Control = record { root = i.root; outer = i.outer; calls = cs; repeats = reverse i.repeats.items; goes = i.goes } in q))
    (to-last c.args.d.now i.root c.in-To.position _ i.calls.items c.in-Some.call.now (ap (λ (n : ℕ). n - 1) i.calls.ok.0)
    c.in-Some.ensures.item.3.0 c.in-Some.ensures.value)
    ∙ ap (walked c.args.d.now (goes.To c.in-To.position)) c.self.view_is
    ∙ ap (λ (g : Goes). walked c.args.d.now g c.args.self.now) (sym c.in-To.is)

pub returns-in-Some-clause-runs : goal.returns-in-Some-clause-runs
returns-in-Some-clause-runs t c =
    subst (Runs c.args.d.now) (sym (returns-in-Some-clause-on t c)) (runs-on c.args.d.now c.args.goes c.args.self.now c.requires)

pub returns-in_default-clause-on : goal.returns-in_default-clause-on
returns-in_default-clause-on t c =
    let i = c.self.inside in let few = c.in_default.ensures.item.3 in
    ap (λ (cs : List Call). (let q : Control = record { root = i.root; outer = i.outer; calls = cs; repeats = reverse i.repeats.items; goes = i.goes } in q))
    (to-none c.args.d.now i.root c.in-To.position i.calls.items (omega (arith, few)))
    ∙ ap (walked c.args.d.now (goes.To c.in-To.position)) c.self.view_is
    ∙ ap (λ (g : Goes). walked c.args.d.now g c.args.self.now) (sym c.in-To.is)

pub returns-in-Some-last-clause-on : goal.returns-in-Some-last-clause-on
returns-in-Some-last-clause-on t c =
    let i = c.self-in-Back.inside in let ys = c.pop.new.self in let item = c.in-Some-last.ensures.item in
    let some : 0 < length ys.items = subst (λ (zs : List Call). 0 < length zs) c.deref.ensures.value item.3.0 in
    let at : c.in-Some-last.call.now ≡ slice_index_or ys.items (length ys.items - 1) c.in-Some-last.call.now =
    item.1 ∙ ap (λ (zs : List Call). slice_index_or zs (length zs - 1) c.in-Some-last.call.now) c.deref.ensures.value in
    c.walk.ensures.on
    ∙ ap (λ (g : Goes). (let q : Control = record { root = i.root; outer = i.outer; calls = gone c.args.d.now i.root g (reverse ys.items); repeats = reverse i.repeats.items; goes = i.goes } in q))
    c.behind-next.ensures
    ∙ ap (λ (cs : List Call). (let q : Control = record { root = i.root; outer = i.outer; calls = cs; repeats = reverse i.repeats.items; goes = i.goes } in q))
    (back-more c.args.d.now i.root _ _ _ i.calls.items ys.items c.pop.result c.in-Some-last.call.now c.pop.ensures.items c.pop.ensures.cases ys.ok.0 some refl at)
    ∙ ap (walked c.args.d.now goes.Back) c.self-in-Back.view_is
    ∙ ap (λ (g : Goes). walked c.args.d.now g c.args.self.now) (sym c.in-Back.is)

pub returns-in_default-last-clause-on : goal.returns-in_default-last-clause-on
returns-in_default-last-clause-on t c =
    let i = c.self-in-Back.inside in let ys = c.pop.new.self in let few = c.in_default-last.ensures.item.3 in
    let none : length ys.items ≡ 0 = ap length (sym c.deref.ensures.value) ∙ omega (arith, few) in
    ap (λ (cs : List Call). (let q : Control = record { root = i.root; outer = i.outer; calls = cs; repeats = reverse i.repeats.items; goes = i.goes } in q))
    (back-none c.args.d.now i.root i.calls.items ys.items c.pop.result c.pop.ensures.items none)
    ∙ ap (walked c.args.d.now goes.Back) c.self-in-Back.view_is
    ∙ ap (λ (g : Goes). walked c.args.d.now g c.args.self.now) (sym c.in-Back.is)
