use Rattle.vh_wheel.proofs.FlagsLemmas.{kept-new}
use Rattle.vh_wheel.proofs.buckets.Buckets.new.Goals as goal

pub invariant_of-result : goal.invariant_of-result
invariant_of-result c = kept-new c.new-2.result c.in_ok-links.links c.new-3.result.items c.in_ok-links.ensures c.new-3.ensures.items c.new-2.ensures
