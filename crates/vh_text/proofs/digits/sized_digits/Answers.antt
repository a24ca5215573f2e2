use Rattle.std.proofs.Common.{◌≡◌, ap, ◌∙◌, sym, arith, ◌-◌, length, List, replicate, ◌++◌, get_or}
use Rattle.std.proofs.lemmas.Option.{get_or_from_slice_get}
use Rattle.vh_logic.specs.declared.digits.Digit.{Digit}
use Rattle.vh_logic.specs.declared.digits.Digit.TheVariants.{Zero}
use Rattle.vh_logic.specs.Vector.{Vector, highest}
use Rattle.vh_text.specs.Digits.{fill_of}
use Rattle.vh_text.proofs.ViewsLemmas.{sized_digits-same}
use Rattle.vh_text.proofs.digits.sized_digits.Goals as goal

pub returns : goal.returns
returns c =
    let ds = c.args.v.now.digits in
    let w = c.args.width in
    let f : Digit = fill_of (highest ds) in
    let last : c.digit-highest.result ≡ highest ds =
    sym (get_or_from_slice_get ds (c.width-2.result - 1) c.digit-highest.result Zero c.digit-highest.ensures)
    ∙ ap (λ n. get_or ds (n - 1) Zero) c.width-2.ensures.value in
    let above : c.filled-above.result.digits ≡ replicate (w - length ds) f =
    ap (λ (v : Vector). v.digits) c.filled-above.ensures.value
    ∙ ap (λ n. replicate (w - n) c.fill_of.result) c.width-3.ensures.value
    ∙ ap (λ (d : Digit). replicate (w - length ds) d) (c.fill_of.ensures ∙ ap fill_of last) in
    let digits : c.concat.result.digits ≡ ds ++ replicate (w - length ds) f =
    ap (λ (v : Vector). v.digits) c.concat.ensures.value ∙ ap (λ (xs : List Digit). ds ++ xs) above in
    c.resize-2.ensures.value
    ∙ ap (λ (xs : List Digit). record { digits = xs; signed = c.args.signed }) (sized_digits-same w ds _ _ f (omega (arith, c.width.ensures.value)) digits)
