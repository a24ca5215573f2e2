use Rattle.std.proofs.Common.{◌∙◌, ap}
use Rattle.vh_app.specs.Next.{number_of}
use Rattle.vh_app.proofs.script.Script.number.Goals as goal

pub returns : goal.returns
returns c =
    c.copied.ensures ∙ c.get.ensures.value ∙ c.self.invariant c.args.name.now
    ∙ ap (λ s. number_of s c.args.name.now) c.self.view_is
