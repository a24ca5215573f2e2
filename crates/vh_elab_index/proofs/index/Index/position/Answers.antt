use Rattle.std.proofs.Common.{◌∙◌, ap}
use Rattle.vh_elab_index.specs.First.{position_in}
use Rattle.vh_elab_index.proofs.FirstLemmas.{rows-lookup}
use Rattle.vh_elab_index.proofs.index.Index.position.Goals as goal

pub returns : goal.returns
returns c =
    c.copied.ensures ∙ c.get.ensures.value ∙ rows-lookup c.args.name.now c.self.inside.positions.entries
    ∙ c.self.invariant c.args.name.now ∙ ap (λ ns. position_in ns c.args.name.now) c.self.view_is
