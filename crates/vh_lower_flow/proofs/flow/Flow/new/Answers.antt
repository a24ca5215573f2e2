use Rattle.std.proofs.Common.{◌∙◌, ap}
use Rattle.vh_lower_flow.specs.Trees.{flow}
use Rattle.vh_lower_flow.specs.Views.{form_tree}
use Rattle.vh_lower_flow.proofs.ViewsLemmas.{tree-made}
use Rattle.vh_lower_flow.proofs.flow.Flow.new.Goals as goal

pub returns : goal.returns
returns c = tree-made _ _ ∙ ap (λ n. flow n (form_tree c.args.form)) c.in_ok-size.ensures
