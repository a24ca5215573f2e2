use Rattle.std.proofs.Common.{◌≡◌, map, drop}
use Rattle.vh_elab_sites.specs.Sites.{each, wire_site}
use Rattle.vh_elab_sites.specs.Views.{sites_seen, around_seen}
use Rattle.vh_elab_sites.proofs.items.add_wires.Given as goal

-- Those so far, with those that are left, are all of them.
abbrev pub invariant-loop-id : goal.invariant-loop-id
invariant-loop-id l =
    each (wire_site (around_seen l.around_it)) (map (λ b. b.now) (drop l.id-index l.ids))
    (sites_seen l.sites)
    ≡ each (wire_site (around_seen l.around_it)) (map (λ b. b.now) l.ids)
    (sites_seen l.initial.sites)
