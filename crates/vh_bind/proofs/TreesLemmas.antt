-- What an expression of the code is seen as, by its form.
use Rattle.std.proofs.Common.{◌≡◌, ◌∙◌, List, sym, ap}
use Rattle.std.specs.Prelude.{map}
use Rattle.vh_base.specs.declared.place.Place.{Place}
use Rattle.vh_ast.specs.declared.expr.Primary.{Primary}
use Rattle.vh_ast.specs.declared.expr.Primary.TheVariants as prim
use Rattle.vh_ast.specs.declared.expr.Link.{Link}
use Rattle.vh_ast.specs.declared.expr.ExprForm.{ExprForm}
use Rattle.vh_ast.specs.declared.expr.ExprForm.TheVariants as form
use Rattle.vh_ast.specs.declared.expr.Expr.{Expr, roll-Expr, out-Expr, fold-roll-Expr, fold_out-Expr}
use Rattle.vh_ast.specs.Expressions.{expr, chain, links}
use Rattle.vh_ast.specs.Views.{expr_tree, link_tree}
use Rattle.vh_bind.specs.Views.{primary_tree}
use Rattle.vh_ast.proofs.ViewsLemmas.{expr_tree-Name, expr_tree-Call, expr_tree-Chain}

abbrev at_place : Place → ExprForm Expr → Expr
at_place place form = roll-Expr (record { place = place; form = form })

-- An expression of this form is seen as one that is made so.
made_of : (e : Expr) (f : ExprForm Expr) → (out-Expr e).form ≡ f → expr_tree e ≡ expr_tree (at_place (out-Expr e).place f)
made_of e f is =
    fold_out-Expr _ _ _ ∙ sym (fold-roll-Expr _ _ _)
    ∙ ap (λ (x : ExprForm Expr). expr_tree (at_place (out-Expr e).place x)) is

tree-made : (place : Place) (p : Primary Expr) → expr_tree (at_place place (form.Primary p)) ≡ expr place (primary_tree p)
tree-made place (prim.Number n) = fold-roll-Expr _ _ _
tree-made place (prim.Text bytes) = fold-roll-Expr _ _ _
tree-made place (prim.Name n s) = expr_tree-Name place n s
tree-made place (prim.Call n all) = expr_tree-Call place n all
tree-made place (prim.System id all) = fold-roll-Expr _ _ _
tree-made place (prim.Paren e) = fold-roll-Expr _ _ _
tree-made place (prim.Concat all) = fold-roll-Expr _ _ _
tree-made place (prim.Repeat count all) = fold-roll-Expr _ _ _

pub tree-Primary : (e : Expr) (p : Primary Expr) → (out-Expr e).form ≡ form.Primary p
    → expr_tree e ≡ expr (out-Expr e).place (primary_tree p)
tree-Primary e p is = made_of e (form.Primary p) is ∙ tree-made (out-Expr e).place p

-- By the primary in it.
pub tree-of : (e : Expr) (p q : Primary Expr) → (out-Expr e).form ≡ form.Primary p → p ≡ q
    → expr_tree e ≡ expr (out-Expr e).place (primary_tree q)
tree-of e p q is same =
    tree-Primary e p is ∙ ap (λ (x : Primary Expr). expr (out-Expr e).place (primary_tree x)) same

pub tree-Chain : (e first : Expr) (all : List (Link Expr)) → (out-Expr e).form ≡ form.Chain first all
    → expr_tree e ≡ expr (out-Expr e).place (chain (expr_tree first) (links (map link_tree all)))
tree-Chain e first all is = made_of e _ is ∙ expr_tree-Chain (out-Expr e).place first all
