use Rattle.std.proofs.Common.{◌≡◌, drop}
use Rattle.vh_elab_sites.specs.Views.{all_seen}
use Rattle.vh_elab_declare.specs.Needs.{fault_at}
use Rattle.vh_elab_declare.proofs.needs.fault_at.Given as goal

-- None of those so far.
abbrev pub invariant-loop-site : goal.invariant-loop-site
invariant-loop-site l =
    fault_at (all_seen (drop l.site-index l.sites)) l.number ≡ fault_at (all_seen l.sites) l.number
