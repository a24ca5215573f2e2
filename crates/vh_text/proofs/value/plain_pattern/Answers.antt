use Rattle.std.proofs.Common.{ap, ◌∙◌, sym, ℕ, List, Option}
use Rattle.std.specs.Option.{option_map}
use Rattle.vh_logic.specs.declared.digits.Digit.{Digit}
use Rattle.vh_text.specs.Digits.{spelled_digits}
use Rattle.vh_text.specs.Views.{pattern_of}
use Rattle.vh_text.proofs.ValuesLemmas.{characters-plain, spelled_digits-symbols}
use Rattle.vh_text.proofs.value.plain_pattern.Goals as goal

pub returns-then-has_literal_symbols : goal.returns-then-has_literal_symbols
returns-then-has_literal_symbols c =
    sym (ap (λ (o : Option (List Digit)). option_map pattern_of o)
    (spelled_digits-symbols c.args.group c.args.bytes.now c.requires.group_least c.requires.group_most (sym c.has_literal_symbols.ensures ∙ c.if-has_literal_symbols.true)))

pub returns : goal.returns
returns c =
    c.read_pattern.ensures
    ∙ ap (λ (xs : List ℕ). option_map pattern_of (spelled_digits c.args.group xs))
    (characters-plain c.args.bytes.now (sym c.has_literal_symbols.ensures ∙ c.if-has_literal_symbols.false))
