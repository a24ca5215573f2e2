-- The number of digits is the width that they were made with.
use Rattle.std.proofs.Common.{sym}
use Rattle.vh_logic.specs.PlanesBack.{length-digits_of}
use Rattle.vh_logic.proofs.vector.Vec4.width.Goals as goal

pub returns-clause-value : goal.returns-clause-value
returns-clause-value c = rw (← c.self.view_is) (sym (length-digits_of c.self.inside.width c.self.inside.aval c.self.inside.bval))
