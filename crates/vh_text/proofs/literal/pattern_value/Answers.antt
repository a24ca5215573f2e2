use Rattle.std.proofs.Common.{ap, ◌∙◌, sym, ℕ, List, Option, Ok}
use Rattle.vh_logic.specs.declared.digits.Digit.{Digit}
use Rattle.vh_logic.specs.Vector.{Vector}
use Rattle.vh_text.specs.declared.pattern.Pattern.{Pattern}
use Rattle.vh_text.specs.Literals.{at_width, of_digits, width_by, pattern_value}
use Rattle.vh_text.proofs.LiteralsLemmas.{from_pattern, sized_digits-take, natural_width-pattern}
use Rattle.vh_text.proofs.literal.pattern_value.Goals as goal

pub returns-in-Some-width_by : goal.returns-in-Some-width_by
returns-in-Some-width_by c o h =
    let p = c.in-Some.pattern in
    let got = from_pattern o p (sym c.in-Some.is ∙ h) in
    let ds = got.0 in
    let w = c.in-Some-width_by.width in
    let natural = c.pattern_width.ensures.value ∙ natural_width-pattern p ds got.2 in
    let width = c.in-Some-width_by.ensures.value ∙ ap (λ (n : Option ℕ). width_by c.args.size n) natural in
    let value = c.sized_digits.ensures ∙ ap (λ (q : Pattern). of_digits c.args.signed q.value.digits w) got.2
    ∙ ap (λ (xs : List Digit). record { digits = xs; signed = c.args.signed }) (sized_digits-take w ds c.in-Some-width_by.ensures.width.1) in
    ap (λ (v : Vector). Ok v) value ∙ ap (λ (n : Option ℕ). at_width (of_digits c.args.signed ds) n) width
    ∙ sym (ap (λ (x : Option (List Digit)). pattern_value c.args.size c.args.signed x) got.1)

pub returns-in-None : goal.returns-in-None
returns-in-None c o h =
    let p = c.in-Some.pattern in
    let got = from_pattern o p (sym c.in-Some.is ∙ h) in
    let ds = got.0 in
    let natural = c.pattern_width.ensures.value ∙ natural_width-pattern p ds got.2 in
    let width = c.in-None.ensures.value ∙ ap (λ (n : Option ℕ). width_by c.args.size n) natural in
    ap (λ (n : Option ℕ). at_width (of_digits c.args.signed ds) n) width
    ∙ sym (ap (λ (x : Option (List Digit)). pattern_value c.args.size c.args.signed x) got.1)
