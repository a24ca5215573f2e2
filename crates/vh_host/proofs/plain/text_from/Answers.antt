use Rattle.std.proofs.Common.{ℕ, sym, ap, ◌∙◌}
use Rattle.vh_kernel.specs.Views.{state_of}
use Rattle.vh_kernel.specs.Step.{next_given, step_of}
use Rattle.vh_host.proofs.LabelTexts.{text_next, text_last}
use Rattle.vh_host.proofs.plain.text_from.Goals as goal

pub returns-then-is_end : goal.returns-then-is_end
returns-then-is_end c =
    let s = state_of c.loop-made.kernel in
    c.in_ok-push_line.ensures
    ∙ text_last c.loop-made.next c.args.budget c.loop-made.made s (state_of c.step.new.self) c.in_ok-label.label _ _
    c.loop-made-test.true (ap (λ (k : ℕ). step_of s k (next_given s)) (sym c.choose-k.ensures.choice) ∙ c.in_ok-label.ensures.in_order)
    (sym c.if-is_end.ensures) c.loop-made.invariant.0

pub loop-made-preserved : goal.loop-made-preserved
loop-made-preserved c =
    let s = state_of c.loop-made.kernel in (
      rw (c.in_ok-push_line.ensures, c.choose-k.ensures.next)
          (text_next c.loop-made.next c.args.budget c.loop-made.made s (state_of c.step.new.self) c.in_ok-label.label _ _
          c.loop-made-test.true (ap (λ (k : ℕ). step_of s k (next_given s)) (sym c.choose-k.ensures.choice) ∙ c.in_ok-label.ensures.in_order)
          (sym c.is_end.ensures ∙ c.if-is_end.false) c.loop-made.invariant.0),
      c.in_ok-label.ensures.goes (sym c.is_end.ensures ∙ c.if-is_end.false),
    )
