use Rattle.std.proofs.Common.{sym, ◌∙◌}
use Rattle.vh_host_words.proofs.NumbersLemmas.{not_named}
use Rattle.vh_host_words.proofs.values.number_named.Goals as goal

pub returns-in-Err : goal.returns-in-Err
returns-in-Err c = not_named c.args.word.now c.in-Err.field-0 c.in-Err.ensures.value.0 (rw c.as_bytes.ensures.value at (sym c.is_numeral.ensures ∙ c.if-not-is_numeral.false))
