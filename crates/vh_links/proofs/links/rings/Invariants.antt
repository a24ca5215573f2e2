use Rattle.vh_links.specs.Views.{AreRings}
use Rattle.vh_links.proofs.links.rings.Given as goal

abbrev pub invariant-loop-i : goal.invariant-loop-i
invariant-loop-i l = AreRings l.i l.links.items
