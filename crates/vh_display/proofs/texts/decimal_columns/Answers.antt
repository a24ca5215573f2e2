use Rattle.std.proofs.Common.{◌+◌, ℕ, ap, arith}
use Rattle.vh_display.proofs.TextsLemmas.{columns_are}
use Rattle.vh_display.proofs.texts.decimal_columns.Goals as goal

pub returns-then-is_signed : goal.returns-then-is_signed
returns-then-is_signed c = rw (← c.width.ensures.value, ← c.is_signed.ensures, c.if-is_signed.true)
    (ap (λ (n : ℕ). n + 1) (columns_are c.width.result (omega (arith, c.width.ensures.most))))

pub returns-else-is_signed : goal.returns-else-is_signed
returns-else-is_signed c =
    let columns = columns_are c.width.result (omega (arith, c.width.ensures.most)) in
    rw (← c.width.ensures.value, ← c.is_signed.ensures, c.if-is_signed.false) (omega (arith, columns))
