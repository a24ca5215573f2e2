-- A mask cuts the number to the width.
use Rattle.std.proofs.Common.{ap, ◌∙◌}
use Rattle.vh_logic.specs.PlanesBack.{length-digits_of}
use Rattle.vh_logic.proofs.PlanesLemmas.{digits_of-mask}
use Rattle.vh_logic.proofs.NumberLemmas.{digits_of-binary}
use Rattle.vh_logic.proofs.ArithmeticLemmas.{literal-width}
use Rattle.vh_logic.proofs.vector.Vec4.with_number.Goals as goal

pub returns-clause-value : goal.returns-clause-value
returns-clause-value c =
    rw (c.mask.ensures, ← c.self.view_is) (simp length-digits_of (ap (λ ds. record { digits = ds; signed = c.self.inside.signed })
    (digits_of-mask c.self.inside.width c.args.number 0 ∙ digits_of-binary c.self.inside.width c.args.number)))

pub returns-clause-width : goal.returns-clause-width
returns-clause-width c = literal-width _ _ _ _ _ _ c.self.view_is
