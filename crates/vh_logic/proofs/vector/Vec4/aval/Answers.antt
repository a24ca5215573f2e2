-- The digits give their planes back.
use Rattle.std.proofs.Common.{sym}
use Rattle.vh_logic.specs.PlanesBack.{aval-digits_of}
use Rattle.vh_logic.proofs.vector.Vec4.aval.Goals as goal

pub returns : goal.returns
returns c = rw (← c.self.view_is) (sym (aval-digits_of c.self.inside.width c.self.inside.aval c.self.inside.bval c.self.invariant.2))
