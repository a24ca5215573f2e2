use Rattle.std.proofs.Common.{◌≡◌, drop}
use Rattle.vh_elab_sites.specs.Views.{all_seen}
use Rattle.vh_elab_declare.specs.Objects.{each, made_site}
use Rattle.vh_elab_declare.specs.Views.{gathered_seen}
use Rattle.vh_elab_declare.proofs.objects.make_sites.Given as goal

-- Those so far, with those that are left, are all of them.
abbrev pub invariant-loop-site : goal.invariant-loop-site
invariant-loop-site l =
    each made_site (all_seen (drop l.site-index l.sites)) (gathered_seen l.objects.items l.bodies)
    ≡ each made_site (all_seen l.sites) (gathered_seen l.initial.objects.items l.initial.bodies)
