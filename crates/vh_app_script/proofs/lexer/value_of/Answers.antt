use Rattle.std.proofs.Common.{◌∙◌}
use Rattle.vh_app_script.proofs.Numbers.{too-great, too-great_sum, below-some}
use Rattle.vh_app_script.proofs.lexer.value_of.Goals as goal

pub returns-in_err-checked_mul : goal.returns-in_err-checked_mul
returns-in_err-checked_mul c =
    c.from_residual.ensures ∙ too-great c.digits.number _ c.digits.rest.now c.digits.invariant.0 c.in-len1-up.len_at_least c.in_err-checked_mul.ensures

pub returns-in_err-number : goal.returns-in_err-number
returns-in_err-number c =
    c.from_residual-in_err-number.ensures ∙ too-great_sum c.digits.number c.in_ok-checked_mul.field-0 c.saturating_sub-digit.result _ c.digits.rest.now c.digits.invariant.0 c.in-len1-up.len_at_least c.in_ok-checked_mul.ensures.1 c.saturating_sub-digit.ensures c.in_err-number.ensures

pub returns : goal.returns
returns c = below-some c.digits.number _ c.digits.rest.now c.digits.invariant.0 c.in_default.len_below c.digits.invariant.1
