use Rattle.std.proofs.Common.{◌≡◌, drop}
use Rattle.vh_elab_sites.specs.Views.{all_seen}
use Rattle.vh_elab_declare.specs.FirstPass.{site_kept}
use Rattle.vh_elab_declare.specs.Objects.{each}
use Rattle.vh_elab_declare.proofs.genvars.keep_genvars.Given as goal

-- Those so far, with those that are left, are all of them.
abbrev pub invariant-loop-site : goal.invariant-loop-site
invariant-loop-site l =
    each site_kept (all_seen (drop l.site-index l.sites)) l.genvars ≡ each site_kept (all_seen l.sites) l.initial.genvars
