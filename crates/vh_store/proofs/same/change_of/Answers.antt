use Rattle.std.proofs.Common.{◌≡◌, ◌∙◌, refl, sym, subst, true}
use Rattle.vh_logic.specs.Vector.{Vector}
use Rattle.vh_store.specs.Contents.{same_value}
use Rattle.vh_store.proofs.ContentsLemmas.{value_is, value_itself}
use Rattle.vh_store.proofs.same.change_of.Goals as goal

pub returns-then-is_same_value : goal.returns-then-is_same_value
returns-then-is_same_value c =
    value_is c.args.old c.args.new (sym c.is_same_value.ensures ∙ c.if-is_same_value.true)

pub returns : goal.returns
returns c =
    let other : c.args.old ≡ c.args.new → same_value c.args.old c.args.new ≡ true =
    λ e. subst (λ (v : Vector). same_value c.args.old v ≡ true) e (value_itself c.args.old) in
    (refl, λ e. let yes = c.is_same_value.ensures ∙ other e in let no = c.if-is_same_value.false in absurd (cc))
