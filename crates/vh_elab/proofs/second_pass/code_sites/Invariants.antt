use Rattle.std.proofs.Common.{◌≡◌, drop}
use Rattle.vh_elab_sites.specs.Views.{all_seen}
use Rattle.vh_elab_walk.specs.Views.{source_seen}
use Rattle.vh_elab.specs.Elaborated.{sites_coded}
use Rattle.vh_elab.specs.Views.{AreSoundIn, coding_seen, ready_seen}
use Rattle.vh_elab.proofs.second_pass.code_sites.Given as goal

-- What is made of the sites so far, with those that are left, is what is made of all.
abbrev pub invariant-loop-site : goal.invariant-loop-site
invariant-loop-site l = record {
  coded : sites_coded (source_seen l.pass.modules) (ready_seen l.pass.ready) l.unit
      (all_seen (drop l.site-index l.sites)) (coding_seen l.coding)
      ≡ sites_coded (source_seen l.pass.modules) (ready_seen l.pass.ready) l.unit (all_seen l.sites) (coding_seen l.initial.coding);
  sound : AreSoundIn l.pass (coding_seen l.coding).added.exprs;
}
