use Rattle.std.proofs.Common.{◌≡◌, ◌∙◌, ◌<◌, ◌-◌, List, length, reverse, slice_index_or, sym, ap, subst}
use Rattle.vh_proc_thread.specs.declared.call.Call.{Call}
use Rattle.vh_proc_thread.specs.Control.{behind_end, without_call}
use Rattle.vh_proc_thread.proofs.ControlLemmas.{control, popped, innermost}
use Rattle.vh_proc_thread.proofs.thread.Thread.leave_call.Goals as goal

pub returns-clause-left : goal.returns-clause-left
returns-clause-left c =
    let i = c.self.inside in let ys = c.pop.new.self in let item = c.in-Some.ensures.item in
    let some : 0 < length ys.items = subst (λ (zs : List Call). 0 < length zs) c.deref.ensures.value item.3.0 in
    let at : c.in-Some.around.now ≡ slice_index_or ys.items (length ys.items - 1) c.in-Some.around.now =
    item.1 ∙ ap (λ (zs : List Call). slice_index_or zs (length zs - 1) c.in-Some.around.now) c.deref.ensures.value in
    let inner = innermost ys.items c.in-Some.around.now some at in
    let less = popped _ _ i.calls.items ys.items c.pop.result c.pop.ensures.items c.pop.ensures.cases ys.ok.0 in
    ap (control i.root i.outer (reverse ys.items) (reverse i.repeats.items))
    (c.behind_end-goes.ensures inner.rest ∙ ap (behind_end c.args.d.now i.root) (sym inner.is))
    ∙ ap (λ (cs : List Call). control i.root i.outer cs (reverse i.repeats.items) (behind_end c.args.d.now i.root cs)) (sym less)
    ∙ ap (without_call c.args.d.now) c.self.view_is
