-- Each digit has its pair of planes.
use Rattle.std.proofs.Common.{ap}
use Rattle.vh_logic.proofs.PlanesLemmas.{digits_of-zeros, digits_of-ones, digits_of-xs, digits_of-zs}
use Rattle.vh_logic.specs.PlanesBack.{length-digits_of}
use Rattle.vh_logic.proofs.vector.Vec4.filled.Goals as goal
use Rattle.vh_logic.proofs.vector.Vec4.filled.Goals.{in-Zero, in-One, in-X, in-Z}

pub returns-clause-value : goal.returns-clause-value
returns-clause-value c =
    elim c.match-digit.branch [
      | in-Zero w ↦ rw (w.aval-is, w.in-Zero.is) (ap (λ ds. record { digits = ds; signed = c.args.signed }) (digits_of-zeros c.args.width))
      | in-One w ↦ rw (w.aval-is, w.in-One.is, c.mask-all.ensures) (ap (λ ds. record { digits = ds; signed = c.args.signed }) (digits_of-ones c.args.width))
      | in-X w ↦ rw (w.aval-is, w.in-X.is, c.mask-all.ensures) (ap (λ ds. record { digits = ds; signed = c.args.signed }) (digits_of-xs c.args.width))
      | in-Z w ↦ rw (w.aval-is, w.in-Z.is, c.mask-all.ensures) (ap (λ ds. record { digits = ds; signed = c.args.signed }) (digits_of-zs c.args.width))
    ]

pub returns-clause-width : goal.returns-clause-width
returns-clause-width c = length-digits_of c.args.width _ _
