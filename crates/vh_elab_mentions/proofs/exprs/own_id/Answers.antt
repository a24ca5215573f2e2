use Rattle.std.proofs.Common.{◌≡◌, ◌∙◌, ◌⊎◌, List, [], ◌∷◌, Option, Some, None, true, not, map, refl, ap, inl, inr}
use Rattle.std.specs.Option.{is_some}
use Rattle.std.proofs.lemmas.Bool.{false≢true}
use Rattle.vh_ast.specs.declared.token.Id.{Id}
use Rattle.vh_ast.specs.declared.name.Step.{Step}
use Rattle.vh_ast.specs.declared.expr.Expr.{Expr}
use Rattle.vh_ast.specs.Expressions.{steps}
use Rattle.vh_ast.specs.Views.{expr_tree, index_by, step_by}
use Rattle.vh_elab_mentions.specs.Mentions.{Ids, own_id}
use Rattle.vh_elab_mentions.proofs.exprs.own_id.Goals as goal
use Rattle.vh_elab_mentions.proofs.exprs.own_id.Goals.{else-is_none-via-then-is_none+else-is_empty, else-is_none-via-else-is_none}

-- A path has no name of its own.
path-none : (index : Option Expr) (more : List (Step Expr)) (id : Id) (ids : Ids) → (is_some index ≡ true) ⊎ (more ≡ [] → ⊥)
    → ids ≡ own_id (index_by expr_tree index) (steps (map (step_by expr_tree) more)) id ids
path-none (Some e) more id ids h = refl
path-none None (s ∷ more) id ids h = refl
path-none None [] id ids (inl h) = absurd (cc)
path-none None [] id ids (inr h) = absurd (h refl)

pub returns-else-is_none : goal.returns-else-is_none
returns-else-is_none c =
    let name = c.args.name.now in
    path-none name.first.index name.more name.first.id _
    (elim c.else-is_none.branch [
      | else-is_none-via-then-is_none+else-is_empty w ↦ inr (λ none. false≢true (w.if-is_empty.ensures.1 none))
      | else-is_none-via-else-is_none w ↦ inl (c.is_none.ensures ∙ ap not w.if-is_none.false)
    ])
