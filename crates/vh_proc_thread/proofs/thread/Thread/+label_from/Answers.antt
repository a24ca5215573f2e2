use Rattle.std.proofs.Common.{◌≡◌, ◌∙◌, ◌-◌, length, reverse, slice_get, refl, sym, ap, rules}
use Rattle.std.specs.Option.{option_and_then}
use Rattle.vh_design_code.specs.declared.code.Goes.{Goes}
use Rattle.vh_design_code.specs.declared.code.Goes.TheVariants as goes
use Rattle.vh_proc_thread.specs.Control.{gone, instruction_of}
use Rattle.vh_proc_thread.proofs.ControlLemmas.{label-none, label-at, label-ended, label-more}
use Rattle.vh_proc_thread.proofs.thread.Thread.+label_from.Goals as goal

pub returns-then-is_empty : goal.returns-then-is_empty
returns-then-is_empty t c =
    sym (ap (option_and_then (instruction_of c.args.d.now c.args.self.now.root))
    (label-none c.args.d.now c.args.self.now.root c.args.goes c.args.calls.now (search rules)))

pub returns-in-To : goal.returns-in-To
returns-in-To t c =
    label-at c.args.d.now c.args.self.now.root c.in-To.position _ c.args.calls.now c.index-calls-last.result c.code_of.result.now c.args.goes _
    refl (search rules) (search rules) c.in-To.is (search rules) (search rules)

pub returns-then-last-eq0 : goal.returns-then-last-eq0
returns-then-last-eq0 t c =
    let back : c.args.goes ≡ goes.Back = search rules in
    sym (ap (λ (g : Goes). option_and_then (instruction_of c.args.d.now c.args.self.now.root) (slice_get (gone c.args.d.now c.args.self.now.root g (reverse c.args.calls.now)) 0)) back
    ∙ ap (option_and_then (instruction_of c.args.d.now c.args.self.now.root))
    (label-ended c.args.d.now c.args.self.now.root c.args.calls.now (search rules)))

pub returns : goal.returns
returns t c =
    label-more c.args.d.now c.args.self.now.root (length c.args.calls.now - 1) (length c.args.calls.now - 1 - 1) c.args.calls.now _ c.index-calls-last-2.result
    c.args.goes c.behind-next.result _ refl (search rules) refl refl (search rules) (search rules) (search rules) c.label_from.ensures
