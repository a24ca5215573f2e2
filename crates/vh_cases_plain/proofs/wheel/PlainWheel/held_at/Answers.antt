use Rattle.std.proofs.Common.{◌∙◌, ap, sym}
use Rattle.vh_cases_plain.specs.Views.{under, entry_of}
use Rattle.vh_cases_plain.proofs.ViewsLemmas.{entry-seen}
use Rattle.vh_cases_plain.proofs.wheel.PlainWheel.held_at.Goals as goal

pub returns : goal.returns
returns c =
    ap entry_of (c.copied.ensures ∙ c.get.ensures.value)
    ∙ sym (entry-seen c.self.inside.nodes c.self.inside.present (under c.self.inside.held) c.args.self.now c.args.node c.self.view_is c.self.invariant)
