-- A 1 in each bit of both planes is an x at each position.
use Rattle.std.proofs.Common.{ap}
use Rattle.vh_logic.specs.PlanesBack.{length-digits_of}
use Rattle.vh_logic.proofs.PlanesLemmas.{digits_of-xs}
use Rattle.vh_logic.proofs.ArithmeticLemmas.{literal-width}
use Rattle.vh_logic.proofs.vector.Vec4.unknown.Goals as goal

pub returns-clause-value : goal.returns-clause-value
returns-clause-value c = rw (c.mask-all.ensures, ← c.self.view_is) (simp length-digits_of (ap (λ ds. record { digits = ds; signed = c.self.inside.signed }) (digits_of-xs c.self.inside.width)))

pub returns-clause-width : goal.returns-clause-width
returns-clause-width c = literal-width _ _ _ _ _ _ c.self.view_is
