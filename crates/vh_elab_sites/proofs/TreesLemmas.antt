-- What a statement of the code is seen as, where it is a `case`.
use Rattle.std.proofs.Common.{◌≡◌, ◌∙◌, List, sym, ap}
use Rattle.std.specs.Prelude.{map}
use Rattle.vh_base.specs.declared.place.Place.{Place}
use Rattle.vh_ast.specs.declared.expr.Expr.{Expr}
use Rattle.vh_ast.specs.declared.stmt.CaseWord.{CaseWord}
use Rattle.vh_ast.specs.declared.stmt.Citem.{Citem}
use Rattle.vh_ast.specs.declared.stmt.StmtForm.{StmtForm}
use Rattle.vh_ast.specs.declared.stmt.StmtForm.TheVariants as form
use Rattle.vh_ast.specs.declared.stmt.Stmt.{Stmt, roll-Stmt, out-Stmt, fold-roll-Stmt, fold_out-Stmt}
use Rattle.vh_ast.specs.Statements.{stmt, case_stmt, citems}
use Rattle.vh_ast.specs.Views.{expr_tree, stmt_tree, citem_tree}
use Rattle.vh_ast.proofs.ViewsLemmas.{stmt_tree-Case}

abbrev at_place : Place → StmtForm Stmt → Stmt
at_place place form = roll-Stmt (record { place = place; form = form })

-- A statement of this form is seen as one that is made so.
made_of : (s : Stmt) (f : StmtForm Stmt) → (out-Stmt s).form ≡ f → stmt_tree s
    ≡ stmt_tree (at_place (out-Stmt s).place f)
made_of s f is =
    fold_out-Stmt _ _ _ ∙ sym (fold-roll-Stmt _ _ _)
    ∙ ap (λ (x : StmtForm Stmt). stmt_tree (at_place (out-Stmt s).place x)) is

pub tree-Case : (s : Stmt) (word : CaseWord) (value : Expr)
    (all : List (Citem Stmt)) → (out-Stmt s).form ≡ form.Case word value all
    → stmt_tree s ≡ stmt (out-Stmt s).place
    (case_stmt word (expr_tree value) (citems (map citem_tree all)))
tree-Case s word value all is = made_of s _ is ∙ stmt_tree-Case (out-Stmt s).place word value all
