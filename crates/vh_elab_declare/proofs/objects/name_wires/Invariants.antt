use Rattle.std.proofs.Common.{◌≡◌, drop}
use Rattle.vh_elab_sites.specs.Views.{all_seen}
use Rattle.vh_elab_declare.specs.Objects.{wires_named}
use Rattle.vh_elab_declare.proofs.objects.name_wires.Given as goal

-- Those so far, with those that are left, are all of them.
abbrev pub invariant-loop-site : goal.invariant-loop-site
invariant-loop-site l =
    wires_named (all_seen (drop l.site-index l.sites)) l.names ≡ wires_named (all_seen l.sites) l.initial.names
