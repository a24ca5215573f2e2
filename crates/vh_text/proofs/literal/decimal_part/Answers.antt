use Rattle.std.proofs.Common.{◌≡◌, ap, ◌∙◌, sym, [], ◌∷◌, Option, Some, true, false}
use Rattle.vh_logic.specs.declared.digits.Digit.{Digit}
use Rattle.vh_logic.specs.Vector.{Vector}
use Rattle.vh_text.specs.declared.pattern.Pattern.{Pattern}
use Rattle.vh_text.specs.Digits.{characters}
use Rattle.vh_text.specs.Literals.{decimal_part}
use Rattle.vh_text.specs.Views.{pattern_of}
use Rattle.vh_text.proofs.literal.decimal_part.Goals as goal

-- One digit is kept whole
one_digit : (v : Vector) (d : Digit) → v ≡ record { digits = d ∷ []; signed = false } → Some (record { value = v; is_held = true }) ≡ Some (pattern_of (d ∷ []))
one_digit v d e = let p : Pattern → Option Pattern = λ q. Some q in ap (λ (x : Vector). p (record { value = x; is_held = true })) e

pub returns-in-Some : goal.returns-in-Some
returns-in-Some c =
    let d = c.in-Some.digit in
    c.pattern_value.ensures (Some (d ∷ [])) (one_digit c.filled.result d c.filled.ensures.value)
    ∙ ap (λ (o : Option Digit). decimal_part c.args.size c.args.signed (characters c.args.bytes.now) o) (sym c.in-Some.is ∙ c.lone_letter.ensures)
