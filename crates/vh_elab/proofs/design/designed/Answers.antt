-- A design is made exactly where the rules hold.
use Rattle.std.proofs.Common.{◌∙◌, sym, ap}
use Rattle.vh_design.specs.Handed.{shape_of}
use Rattle.vh_elab.specs.Elaborated.{made}
use Rattle.vh_elab.proofs.FittingLemmas.{designed_is, designed_not}
use Rattle.vh_elab.proofs.design.designed.Goals as goal

pub returns-in-None : goal.returns-in-None
returns-in-None c = designed_not (shape_of c.args.parts) c.in-None.ensures

pub returns-in-Some : goal.returns-in-Some
returns-in-Some c = designed_is (shape_of c.args.parts) c.in-Some.ensures.0 ∙ ap made (sym c.in-Some.ensures.1)
