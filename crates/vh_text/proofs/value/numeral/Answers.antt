use Rattle.std.proofs.Common.{ap, ◌∙◌, sym, ℕ, Option, length}
use Rattle.std.specs.Option.{option_map}
use Rattle.std.proofs.lemmas.Bool.{eqb-false}
use Rattle.vh_text.specs.Views.{number_kept}
use Rattle.vh_text.proofs.ValuesLemmas.{numeral-symbols, numeral-plain}
use Rattle.vh_text.proofs.value.numeral.Goals as goal

pub returns-then-has_literal_symbols : goal.returns-then-has_literal_symbols
returns-then-has_literal_symbols c =
    let some = eqb-false (length c.args.bytes.now) 0 (sym c.is_empty.ensures ∙ c.if-is_empty.false) in
    sym (ap (λ (o : Option ℕ). option_map number_kept o) (numeral-symbols c.args.bytes.now some (sym c.has_literal_symbols.ensures ∙ c.if-has_literal_symbols.true)))

pub returns : goal.returns
returns c =
    let some = eqb-false (length c.args.bytes.now) 0 (sym c.is_empty.ensures ∙ c.if-is_empty.false) in
    c.read_number.ensures
    ∙ sym (ap (λ (o : Option ℕ). option_map number_kept o) (numeral-plain c.args.bytes.now some (sym c.has_literal_symbols.ensures ∙ c.if-has_literal_symbols.false)))
