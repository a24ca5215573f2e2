use Rattle.vh_slots.proofs.ViewsLemmas.{sound-new}
use Rattle.vh_slots.proofs.slots.Slots.new.Goals as goal

pub invariant_of-result : goal.invariant_of-result
invariant_of-result g c = sound-new _ _ _ c.new.ensures.items c.new-2.ensures.empty c.ranges.first.fits
