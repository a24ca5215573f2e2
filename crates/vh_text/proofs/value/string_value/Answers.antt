use Rattle.std.proofs.Common.{ap, ◌∙◌, sym, Some, false}
use Rattle.vh_logic.specs.Vector.{Vector}
use Rattle.vh_logic.specs.Parts.{resized}
use Rattle.vh_text.specs.declared.pattern.Pattern.{Pattern}
use Rattle.vh_text.specs.Digits.{spelled_digits}
use Rattle.vh_text.proofs.LiteralsLemmas.{from_pattern}
use Rattle.vh_text.proofs.ValuesLemmas.{string_value-is, cut_or_padded-take}
use Rattle.vh_text.proofs.value.string_value.Goals as goal

pub returns : goal.returns
returns c =
    let bs = c.args.bytes.now in
    let got = from_pattern (spelled_digits c.args.group bs) c.in_ok-pattern.pattern c.in_ok-pattern.ensures in
    ap (λ (v : Vector). Some v)
    (c.resize.ensures.value ∙ ap (λ (p : Pattern). resized p.value c.args.width false) got.2 ∙ cut_or_padded-take c.args.width got.0 c.requires.most)
    ∙ sym (string_value-is c.args.group c.args.width bs got.0 (sym c.is_length.ensures.value ∙ c.if-not-is_length.false) got.1)
