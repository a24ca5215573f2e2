-- What an expression of the code is seen as, by its form.
use Rattle.std.proofs.Common.{◌≡◌, ◌∙◌, List, Option, sym, ap}
use Rattle.std.specs.Prelude.{map}
use Rattle.vh_base.specs.declared.place.Place.{Place}
use Rattle.vh_ast.specs.declared.name.Name.{Name}
use Rattle.vh_ast.specs.declared.name.Sel.{Sel}
use Rattle.vh_ast.specs.declared.expr.Primary.TheVariants as prim
use Rattle.vh_ast.specs.declared.expr.Link.{Link}
use Rattle.vh_ast.specs.declared.expr.ExprForm.{ExprForm}
use Rattle.vh_ast.specs.declared.expr.ExprForm.TheVariants as form
use Rattle.vh_ast.specs.declared.expr.Expr.{Expr, roll-Expr, out-Expr, fold-roll-Expr, fold_out-Expr}
use Rattle.vh_ast.specs.Expressions.{expr, named, call, chain, exprs, links}
use Rattle.vh_ast.specs.Views.{expr_tree, link_tree, name_tree, sel_tree}
use Rattle.vh_ast.proofs.ViewsLemmas.{expr_tree-Name, expr_tree-Call, expr_tree-Chain}

abbrev at_place : Place → ExprForm Expr → Expr
at_place place form = roll-Expr (record { place = place; form = form })

-- An expression of this form is seen as one that is made so.
made_of : (e : Expr) (f : ExprForm Expr) → (out-Expr e).form ≡ f → expr_tree e ≡ expr_tree (at_place (out-Expr e).place f)
made_of e f is =
    fold_out-Expr _ _ _ ∙ sym (fold-roll-Expr _ _ _)
    ∙ ap (λ (x : ExprForm Expr). expr_tree (at_place (out-Expr e).place x)) is

pub tree-Name : (e : Expr) (n : Name Expr) (s : Option (Sel Expr)) → (out-Expr e).form ≡ form.Primary (prim.Name n s)
    → expr_tree e ≡ expr (out-Expr e).place (named (name_tree n) (sel_tree s))
tree-Name e n s is = made_of e _ is ∙ expr_tree-Name (out-Expr e).place n s

pub tree-Call : (e : Expr) (n : Name Expr) (all : List Expr) → (out-Expr e).form ≡ form.Primary (prim.Call n all)
    → expr_tree e ≡ expr (out-Expr e).place (call (name_tree n) (exprs (map expr_tree all)))
tree-Call e n all is = made_of e _ is ∙ expr_tree-Call (out-Expr e).place n all

pub tree-Chain : (e first : Expr) (all : List (Link Expr)) → (out-Expr e).form ≡ form.Chain first all
    → expr_tree e ≡ expr (out-Expr e).place (chain (expr_tree first) (links (map link_tree all)))
tree-Chain e first all is = made_of e _ is ∙ expr_tree-Chain (out-Expr e).place first all
