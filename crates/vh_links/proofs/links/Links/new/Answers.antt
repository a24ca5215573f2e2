use Rattle.std.proofs.Common.{[], replicate}
use Rattle.vh_links.specs.Views.{Holds}
use Rattle.vh_links.proofs.ViewsLemmas.{lists_in-is, holds-seen, holds-new}
use Rattle.vh_links.proofs.links.Links.new.Goals as goal

after : (c : goal.In_ok-links) → Holds c.args.anchors c.in_ok-links.links.items (record { lists = replicate c.args.anchors []; nodes = 0 })
after c = holds-new c.args.anchors c.in_ok-links.links.items c.in_ok-links.ensures.0 c.in_ok-links.ensures.1

pub invariant_of-result : goal.invariant_of-result
invariant_of-result c = holds-seen _ _ _ (after c)

pub returns : goal.returns
returns c = lists_in-is _ _ _ (after c)
