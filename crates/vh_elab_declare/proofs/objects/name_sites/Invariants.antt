use Rattle.std.proofs.Common.{◌≡◌, drop, None}
use Rattle.vh_elab_sites.specs.Views.{all_seen}
use Rattle.vh_elab_declare.specs.Objects.{each, named_site}
use Rattle.vh_elab_declare.specs.Views.{naming_seen}
use Rattle.vh_elab_declare.proofs.objects.name_sites.Given as goal

-- Those so far, with those that are left, are all of them.
abbrev pub invariant-loop-site : goal.invariant-loop-site
invariant-loop-site l =
    each named_site (all_seen (drop l.site-index l.sites)) (naming_seen l.names l.fault)
    ≡ each named_site (all_seen l.sites) (naming_seen l.initial.names None)
