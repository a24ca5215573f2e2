use Rattle.std.proofs.Common.{◌∙◌, not, nat_lt, sym, ap, subst, rules}
use Rattle.std.proofs.lemmas.Fn.{filter_same}
use Rattle.std.specs.List.{AllByRecursion}
use Rattle.vh_proc_thread.specs.declared.call.Repeat.{Repeat}
use Rattle.vh_proc_thread.specs.Control.{Control, HasBody, repeats_within}
use Rattle.vh_proc_thread.proofs.ControlLemmas.{bodies-back, runs-taken, cut, body-cut, task-cut, block-cut}
use Rattle.vh_proc_thread.proofs.thread.Thread.disable.Goals as goal

pub up_to_outermost-depth-requires-clause-bodies : goal.up_to_outermost-depth-requires-clause-bodies
up_to_outermost-depth-requires-clause-bodies c =
    subst (AllByRecursion (HasBody c.args.d.now)) (sym c.deref.ensures.value)
    (bodies-back c.args.d.now c.args.self.now c.self.inside.calls.items c.requires (ap (λ (q : Control). q.calls) c.self.view_is))

pub leave_call-requires : goal.leave_call-requires
leave_call-requires c =
    let i = c.self.inside in
    runs-taken c.args.d.now c.args.self.now i.root i.outer _ i.calls.items c.truncate.new.self.items _ _ _ _ c.requires c.self.view_is c.truncate.ensures.items

pub returns-then-is_call_of-clause-disabled : goal.returns-then-is_call_of-clause-disabled
returns-then-is_call_of-clause-disabled c =
    let i = c.self.inside in
    c.leave_call.ensures.left
    ∙ task-cut c.args.d.now c.args.target i.root i.outer c.up_to_outermost-depth.result i.goes i.calls.items c.truncate.new.self.items i.repeats.items c.retain.new.self.items
    c.in-Some.call.now c.args.self.now c.self.view_is
    (cut c.args.d.now c.args.target i.root _ i.calls.items c.truncate.new.self.items c.deref.result.now c.deref-2.result.now c.in-Some.call.now
    c.truncate.ensures.items c.deref.ensures.value c.up_to_outermost-depth.ensures.most c.up_to_outermost-depth.ensures.found
    c.deref-2.ensures.value c.in-Some.ensures.item.3.0 c.in-Some.ensures.item.1)
    (sym c.is_call_of.ensures ∙ c.if-is_call_of.true)
    (filter_same _ (λ (r : Repeat). nat_lt r.depth c.up_to_outermost-depth.result) _ (λ x b f' k. search rules) _ _ c.retain.ensures.filtered)

pub block_around-requires-clause-body : goal.block_around-requires-clause-body
block_around-requires-clause-body c =
    body-cut c.args.d.now c.args.self.now c.up_to_outermost-depth.result c.self.inside.calls.items c.truncate.new.self.items c.deref-2.result.now c.in-Some.call.now
    c.requires (ap (λ (q : Control). q.calls) c.self.view_is) c.truncate.ensures.items c.deref-2.ensures.value c.in-Some.ensures.item.3.0 c.in-Some.ensures.item.1

pub code_of-requires-clause-body : goal.code_of-requires-clause-body
code_of-requires-clause-body c =
    body-cut c.args.d.now c.args.self.now c.up_to_outermost-depth.result c.self.inside.calls.items c.truncate.new.self.items c.deref-2.result.now c.in-Some.call.now
    c.requires (ap (λ (q : Control). q.calls) c.self.view_is) c.truncate.ensures.items c.deref-2.ensures.value c.in-Some.ensures.item.3.0 c.in-Some.ensures.item.1

pub returns-in-Some-block_around-clause-runs : goal.returns-in-Some-block_around-clause-runs
returns-in-Some-block_around-clause-runs c =
    let i = c.self.inside in
    c.leave_block.ensures.runs c.args.d.now
    (runs-taken c.args.d.now c.args.self.now i.root i.outer _ i.calls.items c.truncate.new.self.items _ _ _ _ c.requires c.self.view_is c.truncate.ensures.items)

pub returns-in-Some-block_around-clause-disabled : goal.returns-in-Some-block_around-clause-disabled
returns-in-Some-block_around-clause-disabled c =
    let i = c.self.inside in
    c.leave_block.ensures.left
    ∙ block-cut c.args.d.now c.args.target i.root i.outer c.up_to_outermost-depth.result i.goes i.calls.items c.truncate.new.self.items i.repeats.items
    c.retain-in-Some-block_around.new.self.items c.in-Some.call.now c.args.self.now c.code_of.result.now c.as_slice-blocks.result.now c.in-Some-block_around.block c.self.view_is
    (cut c.args.d.now c.args.target i.root _ i.calls.items c.truncate.new.self.items c.deref.result.now c.deref-2.result.now c.in-Some.call.now
    c.truncate.ensures.items c.deref.ensures.value c.up_to_outermost-depth.ensures.most c.up_to_outermost-depth.ensures.found
    c.deref-2.ensures.value c.in-Some.ensures.item.3.0 c.in-Some.ensures.item.1)
    (sym c.is_call_of.ensures ∙ c.if-is_call_of.false) c.code_of.ensures c.as_slice-blocks.ensures
    (sym c.in-Some-block_around.is ∙ c.block_around.ensures)
    (filter_same _ (λ (r : Repeat). not (repeats_within c.as_slice-blocks.result.now c.up_to_outermost-depth.result c.args.target r)) _ (λ x b f' k. search rules) _ _
    c.retain-in-Some-block_around.ensures.filtered)

pub returns-in_default-block_around-clause-runs : goal.returns-in_default-block_around-clause-runs
returns-in_default-block_around-clause-runs c =
    let i = c.self.inside in
    runs-taken c.args.d.now c.args.self.now i.root i.outer _ i.calls.items c.truncate.new.self.items _ _ _ _ c.requires c.self.view_is c.truncate.ensures.items
