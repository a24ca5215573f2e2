use Rattle.std.proofs.Common.{◌∙◌, sym, add-one}
use Rattle.vh_logic.specs.Digit.{is_same}
use Rattle.vh_text.proofs.TextsLemmas.{list_any-at, list_any-none, sameb-same}
use Rattle.vh_text.proofs.digits.has.Goals as goal

pub returns-then-eq : goal.returns-then-eq
returns-then-eq c =
    sym (list_any-at (is_same c.args.digit) _ _ _ c.digit.ensures (sameb-same c.digit.result c.args.digit ∙ sym c.if-eq.ensures))

pub loop-i-preserved : goal.loop-i-preserved
loop-i-preserved c = (
  c.loop-i.invariant.0,
  rw add-one (list_any-none (is_same c.args.digit) _ _ _ c.digit.ensures (sameb-same c.digit.result c.args.digit ∙ sym c.if-eq.ensures) c.loop-i.invariant.1),
)
