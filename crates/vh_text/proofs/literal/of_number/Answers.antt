use Rattle.std.proofs.Common.{ap, ◌∙◌, sym, subst, ℕ, List, Option, Ok}
use Rattle.vh_logic.specs.declared.digits.Digit.{Digit}
use Rattle.vh_logic.specs.Vector.{Vector}
use Rattle.vh_logic.specs.Planes.{digits_of}
use Rattle.vh_text.specs.declared.number.Number.{Number}
use Rattle.vh_text.specs.Literals.{at_width, of_number}
use Rattle.vh_text.specs.Views.{IsWidthIfSome}
use Rattle.vh_text.proofs.LiteralsLemmas.{digits_of-kept}
use Rattle.vh_text.proofs.literal.of_number.Goals as goal

pub returns-in-Some : goal.returns-in-Some
returns-in-Some c n h =
    let w = c.in-Some.width in
    let P : Option ℕ → Type 0 = λ o. IsWidthIfSome o in
    let range = subst P c.in-Some.is c.requires in
    let digits = ap (λ (x : Number). digits_of w x.low 0) h ∙ digits_of-kept w n range.1 in
    let value = c.from_planes.ensures.value ∙ ap (λ (xs : List Digit). record { digits = xs; signed = c.args.signed }) digits in
    ap (λ (v : Vector). Ok v) value ∙ sym (ap (λ (o : Option ℕ). at_width (of_number c.args.signed n) o) c.in-Some.is)
