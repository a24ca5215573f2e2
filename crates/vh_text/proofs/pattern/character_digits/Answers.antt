use Rattle.std.proofs.Common.{◌≡◌, ap, ◌∙◌, sym, arith, ◌<◌, ◌^◌, List, Some, Option}
use Rattle.std.specs.Char.{digit_value}
use Rattle.std.specs.Option.{option_map}
use Rattle.vh_logic.specs.declared.digits.Digit.{Digit}
use Rattle.vh_logic.specs.Vector.{Vector}
use Rattle.vh_logic.specs.Planes.{digits_of}
use Rattle.vh_logic.specs.Number.{binary}
use Rattle.vh_text.specs.Views.{digits_alone}
use Rattle.vh_text.proofs.ViewsLemmas.{base_is, character_digits-number, digits_of-binary}
use Rattle.vh_text.proofs.pattern.character_digits.Goals as goal

pub to_digit-requires-clause-lower_bound : goal.to_digit-requires-clause-lower_bound
to_digit-requires-clause-lower_bound c = let b = base_is c.args.group c.requires.least c.requires.most in omega (arith, b.0, b.1)

pub to_digit-requires-clause-upper_bound : goal.to_digit-requires-clause-upper_bound
to_digit-requires-clause-upper_bound c = let b = base_is c.args.group c.requires.least c.requires.most in omega (arith, b.0, b.2)

pub returns-clause-value : goal.returns-clause-value
returns-clause-value c =
    let k = c.args.group in
    let b = base_is k c.requires.least c.requires.most in
    let below : digit_value c.args.c < 2 ^ k = omega (arith, b.0, c.in_ok-n.ensures.value.0) in
    let digits : digits_of k c.in_ok-n.n 0 ≡ binary k (digit_value c.args.c) =
    ap (λ n. digits_of k n 0) c.in_ok-n.ensures.value.1 ∙ digits_of-binary k (digit_value c.args.c) in
    let value : c.from_planes.result ≡ digits_alone (binary k (digit_value c.args.c)) = c.from_planes.ensures.value ∙ ap digits_alone digits in
    ap (λ (v : Vector). Some v) value
    ∙ sym (ap (λ (o : Option (List Digit)). option_map digits_alone o)
    (character_digits-number k c.args.c (sym c.is_x_letter.ensures ∙ c.if-is_x_letter.false) (sym c.is_z_letter.ensures ∙ c.if-is_z_letter.false) below))
