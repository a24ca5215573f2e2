use Rattle.std.proofs.Common.{◌≡◌, ◌++◌, drop}
use Rattle.vh_elab_sites.specs.Views.{all_seen}
use Rattle.vh_elab.specs.Routines.{arguments_from}
use Rattle.vh_elab.proofs.routines.arguments_from.Given as goal

-- Those so far, with those that are left, are all of them.
abbrev pub invariant-loop-site : goal.invariant-loop-site
invariant-loop-site l =
    l.arguments.items ++ arguments_from l.scope (all_seen (drop l.site-index l.sites)) ≡ arguments_from l.scope (all_seen l.sites)
