use Rattle.std.proofs.Common.{rules, ◌≡◌, ◌∙◌, ◌++◌, ◌∷◌, [], ap}
use Rattle.vh_elab_declare.specs.Constants.{paired}
use Rattle.vh_elab_declare.proofs.GivenLemmas.{given-more}
use Rattle.vh_elab_declare.proofs.given.Given.with.Goals as goal

pub returns : goal.returns
returns c =
    let names : c.in_ok-names.names ≡ c.self.inside.names ++ c.args.name.now ∷ [] = search rules in
    let values : c.push.new.self.items ≡ c.self.inside.values.items ++ c.args.value ∷ [] = search rules in
    given-more c.self.inside.names _ c.self.inside.values.items _ c.args.name.now c.args.value c.self.invariant names values
    ∙ ap (λ g. g ++ (c.args.name.now, c.args.value) ∷ []) c.self.view_is
