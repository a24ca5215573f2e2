use Rattle.std.proofs.Common.{◌≡◌, ap, ◌∙◌, sym, ℕ, List, Bool, Option, Some, false, ◌+◌, ◌%◌, ◌^◌, ◌≤◌, arith}
use Rattle.vh_logic.specs.declared.digits.Digit.{Digit}
use Rattle.vh_logic.specs.Vector.{Vector}
use Rattle.vh_logic.specs.declared.vector.TheConstants.{MAX_WIDTH}
use Rattle.vh_logic.specs.Number.{binary, wrapped, signed_integer}
use Rattle.vh_logic.specs.Planes.{digits_of}
use Rattle.vh_text.specs.Values.{integer_value}
use Rattle.vh_text.proofs.ValuesLemmas.{from_number, kept-fits, digits_of-positive, digits_of-negative, integer_value-is, not_false}
use Rattle.vh_text.proofs.value.integer_value.Goals as goal
use Rattle.vh_text.proofs.value.integer_value.Goals.{then-negative, else-negative}

pub returns : goal.returns
returns c o h =
    let w = c.args.width in
    let m = c.in_ok-number.number in
    let got = from_number o m (sym c.in_ok-number.was ∙ h) in
    let n = got.0 in
    let low = kept-fits m n got.2 (not_false m.fits c.if-not-number.false) in
    let within : n ≤ c.args.most = omega (arith, low, c.if-number-most.false) in
    let digits : digits_of w c.if-negative.word 0 ≡ binary w (wrapped w (signed_integer c.args.negative n)) =
    elim c.if-negative.branch [
      | then-negative b ↦
          let none : (c.if-negative.word + n) % 2 ^ MAX_WIDTH ≡ 0 =
          ap (λ x. (x + n) % 2 ^ MAX_WIDTH) b.word-is ∙ ap (λ x. (b.wrapping_neg-word.result + x) % 2 ^ MAX_WIDTH) (sym low) ∙ b.wrapping_neg-word.ensures in
          digits_of-negative w n c.if-negative.word c.requires.most none ∙ ap (λ (t : Bool). binary w (wrapped w (signed_integer t n))) (sym b.if-negative.true)
      | else-negative b ↦
          ap (λ x. digits_of w x 0) (b.word-is ∙ low) ∙ digits_of-positive w n ∙ ap (λ (t : Bool). binary w (wrapped w (signed_integer t n))) (sym b.if-negative.false)
    ] in
    ap (λ (v : Vector). Some v) (c.from_planes.ensures.value ∙ ap (λ (xs : List Digit). record { digits = xs; signed = false }) digits)
    ∙ sym (ap (λ (x : Option ℕ). integer_value w c.args.negative c.args.most x) got.1 ∙ integer_value-is w c.args.negative c.args.most n within)
