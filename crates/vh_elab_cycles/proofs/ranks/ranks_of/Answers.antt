use Rattle.std.proofs.Common.{◌∙◌, ap, sym}
use Rattle.std.specs.List.{list_all}
use Rattle.vh_elab_cycles.specs.Laid.{may_fall}
use Rattle.vh_elab_cycles.specs.Views.{edge_seen}
use Rattle.vh_elab_cycles.proofs.LaidLemmas.{all-seen, none-fall}
use Rattle.vh_elab_cycles.proofs.ranks.ranks_of.Goals as goal

pub returns-then-all_may_fall : goal.returns-then-all_may_fall
returns-then-all_may_fall c =
    all-seen c.in_ok-ranks.ranks.items c.args.edges.now
    (sym (ap (λ r. list_all (λ e. may_fall r (edge_seen e)) c.args.edges.now) c.deref.ensures.value)
    ∙ sym c.all_may_fall.ensures ∙ c.if-all_may_fall.true)

pub returns : goal.returns
returns c = none-fall c.new.result.items c.new.ensures.items _
