-- What a tree of the code is seen as, by its form: a layer is compared with what its parts are seen as.
use Rattle.std.specs.Prelude.{◌≡◌, ℕ, List, [], ◌∷◌, map, refl}
use Rattle.std.proofs.Common.{ap, sym, ◌∙◌}
use Rattle.vh_lower_flow.specs.declared.flow.FlowForm.{FlowForm}
use Rattle.vh_lower_flow.specs.declared.flow.FlowForm.TheVariants as form
use Rattle.vh_lower_flow.specs.declared.flow.Flow.{Flow, roll-Flow, out-Flow, fold-roll-Flow, fold_out-Flow}
use Rattle.vh_lower_flow.specs.Trees.{flow, case_of, case_items}
use Rattle.vh_lower_flow.specs.Views.{flow_tree, form_tree}

-- What is made of each of a list twice is made of it at once
map-both : {A B C : Type 0} (f : A → B) (g : B → C) (h : A → C) → ((a : A) → g (f a) ≡ h a) →
    (all : List A) → map g (map f all) ≡ map h all
map-both f g h same [] = refl
map-both f g h same (a ∷ all) = rw (same a, map-both f g h same all) refl

abbrev made_as : ℕ → FlowForm Flow → Flow
made_as n f = roll-Flow (record { size = n; form = f })

pub tree-made : (n : ℕ) (f : FlowForm Flow) → flow_tree (made_as n f) ≡ flow n (form_tree f)
tree-made n (form.Step s) = fold-roll-Flow _ _ _
tree-made n (form.Row fs) = fold-roll-Flow _ _ _
tree-made n (form.Choice g m holds fails) = fold-roll-Flow _ _ _
tree-made n (form.Turns body g m) = fold-roll-Flow _ _ _
tree-made n (form.Case h m all default) =
    fold-roll-Flow _ _ _
    ∙ ap (λ l. flow n (case_of h m (case_items l) (flow_tree default))) (map-both _ _ _ (λ c. refl) all)
tree-made n (form.Block o body) = fold-roll-Flow _ _ _
tree-made n (form.Fork m branches) = fold-roll-Flow _ _ _

-- A tree of this form is seen as one that is made so.
pub tree-of : (f : Flow) (g : FlowForm Flow) → (out-Flow f).form ≡ g → flow_tree f ≡ flow (out-Flow f).size (form_tree g)
tree-of f g is =
    fold_out-Flow _ _ _ ∙ sym (fold-roll-Flow _ _ _)
    ∙ ap (λ (x : FlowForm Flow). flow_tree (made_as (out-Flow f).size x)) is
    ∙ tree-made (out-Flow f).size g
