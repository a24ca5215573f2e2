use Rattle.std.proofs.Common.{ap, ◌∙◌, ◌≡◌, List, length, replicate}
use denote.Enum.Bare.{sameb}
use Rattle.vh_logic.specs.contracts.digits.Digit.{the_type}
use Rattle.vh_logic.specs.declared.digits.Digit.{Digit}
use Rattle.vh_logic.specs.declared.digits.Digit.TheVariants.{One}
use Rattle.vh_logic.specs.Digit.{is_same}
use Rattle.vh_logic.specs.Vector.{Vector, all_positions}
use Rattle.vh_text.proofs.TextsLemmas.{all_positions-replicate, sameb-test}
use Rattle.vh_text.proofs.digits.is_all.Goals as goal

pub returns : goal.returns
returns c =
    let ds = c.args.v.now.digits in
    let copies : c.filled.result.digits ≡ replicate (length ds) c.args.digit =
    ap (λ (v : Vector). v.digits) c.filled.ensures.value ∙ ap (λ n. replicate n c.args.digit) c.width.ensures.value in
    c.eq.ensures ∙ ap (λ (d : Digit). sameb the_type d One) c.case_equal.ensures ∙ sameb-test _
    ∙ ap (λ (xs : List Digit). all_positions is_same ds xs) copies ∙ all_positions-replicate c.args.digit ds
