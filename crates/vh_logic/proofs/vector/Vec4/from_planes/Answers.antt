-- Bits above the width do not count.
use Rattle.std.proofs.Common.{ap}
use Rattle.vh_logic.proofs.PlanesLemmas.{digits_of-mask}
use Rattle.vh_logic.specs.PlanesBack.{length-digits_of}
use Rattle.vh_logic.proofs.vector.Vec4.from_planes.Goals as goal

pub returns-clause-value : goal.returns-clause-value
returns-clause-value c = rw c.mask-all.ensures (ap (λ ds. record { digits = ds; signed = c.args.signed }) (digits_of-mask c.args.width c.args.aval c.args.bval))

pub returns-clause-width : goal.returns-clause-width
returns-clause-width c = length-digits_of c.args.width _ _
