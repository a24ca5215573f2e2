-- A name, a call and a chain of the code are seen as such.
use Rattle.std.proofs.Common.{◌∙◌, ap, rules}
use Rattle.vh_ast.specs.declared.expr.Primary.{Primary}
use Rattle.vh_ast.specs.declared.expr.ExprForm.TheVariants as form
use Rattle.vh_ast.specs.declared.expr.Expr.{Expr}
use Rattle.vh_elab_mentions.proofs.TreesLemmas.{tree-Name, tree-Call, tree-Chain}
use Rattle.vh_elab_mentions.proofs.exprs.+exprs.Goals as goal

pub expr_ids-returns-in_ok-name_ids-in-Name : goal.expr_ids-returns-in_ok-name_ids-in-Name
expr_ids-returns-in_ok-name_ids-in-Name t c =
    rw (tree-Name c.args.e.now _ _ (c.in-Primary.is ∙ ap (λ (p : Primary Expr). form.Primary p) c.in-Name.is)) (search rules)

pub expr_ids-returns-in_ok-called_ids-in-Call : goal.expr_ids-returns-in_ok-called_ids-in-Call
expr_ids-returns-in_ok-called_ids-in-Call t c =
    rw (tree-Call c.args.e.now _ _ (c.in-Primary.is ∙ ap (λ (p : Primary Expr). form.Primary p) c.in-Call.is)) (search rules)

pub expr_ids-returns-in_ok-expr_ids-in-Chain : goal.expr_ids-returns-in_ok-expr_ids-in-Chain
expr_ids-returns-in_ok-expr_ids-in-Chain t c = rw (tree-Chain c.args.e.now _ _ c.in-Chain.is) (search rules)
