use Rattle.std.proofs.Common.{◌∙◌, ◌+◌, ◌-◌, ℕ, List, drop, length, Some, ap, arith}
use Rattle.std.proofs.lemmas.List.{take_all, length-drop}
use Rattle.vh_display.specs.Formats.{Front}
use Rattle.vh_display.proofs.FormatsLemmas.{front_on, front_wants, front_end}
use Rattle.vh_display.proofs.format.front.Goals as goal

pub loop-i-preserved : goal.loop-i-preserved
loop-i-preserved c =
    front_on c.args.name.now c.args.format.now c.loop-i.mode c.in-On.next c.loop-i.i _ c.loop-i.out.items c.step.new.out.items c.in_ok-next.field-0
    c.loop-i-test.true c.in_ok-next.ensures.text c.in_ok-next.ensures.next c.in-On.is
    ∙ c.loop-i.invariant

pub returns-in-Wants-clause-text : goal.returns-in-Wants-clause-text
returns-in-Wants-clause-text c =
    ap (λ (f : Front). f.text)
    (front_wants c.args.name.now c.args.format.now c.loop-i.mode c.in-Wants.conversion c.loop-i.i _ c.loop-i.out.items c.step.new.out.items c.in_ok-next.field-0
    c.loop-i-test.true c.in_ok-next.ensures.text c.in_ok-next.ensures.next c.in-Wants.is
    ∙ c.loop-i.invariant)

pub returns-in-Wants-clause-wants : goal.returns-in-Wants-clause-wants
returns-in-Wants-clause-wants c =
    let bs = c.args.format.now in
    let i = c.loop-i.i in
    ap (λ (ys : List ℕ). Some (c.in-Wants.conversion, ys)) (take_all (length bs - (i + 1)) (drop (i + 1) bs) (omega (arith, length-drop (i + 1) bs)))
    ∙ ap (λ (f : Front). f.wants)
    (front_wants c.args.name.now bs c.loop-i.mode c.in-Wants.conversion i _ c.loop-i.out.items c.step.new.out.items c.in_ok-next.field-0
    c.loop-i-test.true c.in_ok-next.ensures.text c.in_ok-next.ensures.next c.in-Wants.is
    ∙ c.loop-i.invariant)

pub returns-clause-text : goal.returns-clause-text
returns-clause-text c =
    ap (λ (f : Front). f.text)
    (front_end c.args.name.now c.args.format.now c.loop-i.mode c.loop-i.i c.loop-i.out.items (omega (arith, c.loop-i-test.false)) ∙ c.loop-i.invariant)

pub returns-clause-wants : goal.returns-clause-wants
returns-clause-wants c =
    ap (λ (f : Front). f.wants)
    (front_end c.args.name.now c.args.format.now c.loop-i.mode c.loop-i.i c.loop-i.out.items (omega (arith, c.loop-i-test.false)) ∙ c.loop-i.invariant)
