use Rattle.std.proofs.Common.{◌≡◌, drop}
use Rattle.vh_elab_sites.specs.Sites.{each, with_named}
use Rattle.vh_elab_sites.specs.Views.{declared_seen, sites_seen}
use Rattle.vh_elab_sites.proofs.items.add_ids.Given as goal

-- Those so far, with those that are left, are all of them.
abbrev pub invariant-loop-id : goal.invariant-loop-id
invariant-loop-id l =
    each (λ id so. with_named l.scope id (declared_seen l.declared) so) (drop l.id-index l.ids)
    (sites_seen l.sites)
    ≡ each (λ id so. with_named l.scope id (declared_seen l.declared) so) l.ids
    (sites_seen l.initial.sites)
