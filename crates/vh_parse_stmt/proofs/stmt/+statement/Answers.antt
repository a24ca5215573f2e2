-- A level is taken off; a block goes on by a statement, and a case by one with its values.
use Rattle.std.proofs.Common.{◌≡◌, subst, suc, ◌-◌, sym, ◌∙◌, arith}
use Rattle.std.proofs.lemmas.List.{map-append}
use Rattle.vh_parse_grammar.specs.Says.{Says}
use Rattle.vh_ast.specs.Views.{stmt_tree, citem_tree}
use Rattle.vh_parse_syntax.specs.Tokens.{token_seen}
use Rattle.vh_parse_expr.specs.Views.{tokens_seen}
use Rattle.vh_parse_expr.proofs.Loops.{fewer}
use Rattle.vh_parse_stmt.proofs.Pieces.{values-listed, case-listed}
use Rattle.vh_parse_stmt.proofs.Loops.{citems_go_on, citem_less, stmts_go_on, stmt_less}
use Rattle.vh_parse_stmt.proofs.stmt.+statement.Goals as goal

pub inner_statement-returns : goal.inner_statement-returns
inner_statement-returns t c = let e : c.args.depth ≡ suc (c.args.depth - 1) = omega arith in rw e (rw (c.no_timing-at.ensures.tokens, c.no_timing-at.ensures.omission) at c.statement.ensures)

pub values_item-returns : goal.values_item-returns
values_item-returns t c = subst (λ o. Says token_seen citem_tree o c.listed_item.result) (values-listed _ _ _ _) c.listed_item.ensures

pub case_stmt-returns : goal.case_stmt-returns
case_stmt-returns t c = subst (λ o. Says token_seen stmt_tree o c.listed_case.result) (case-listed _ _ _ _) c.listed_case.ensures

pub citems-all-smaller : goal.citems-all-smaller
citems-all-smaller t c = fewer _ _ (citem_less _ _ _ _ _ _ c.in_ok-next.ensures)

pub citems-all-preserved : goal.citems-all-preserved
citems-all-preserved t c =
    rw (c.in_ok-with_item-2.ensures, map-append)
    (c.all.invariant ∙ citems_go_on _ _ _ _ (tokens_seen c.all.rest.tokens.now) (tokens_seen c.in_ok-next.end.tokens.now) c.all.rest.omission c.in_ok-next.end.omission (sym c.all-test.ensures) c.in_ok-next.ensures)

pub stmts-all-smaller : goal.stmts-all-smaller
stmts-all-smaller t c = fewer _ _ (stmt_less _ _ _ _ _ _ c.in_ok-next.ensures)

pub stmts-all-preserved : goal.stmts-all-preserved
stmts-all-preserved t c =
    rw (c.in_ok-with_stmt.ensures, map-append)
    (c.all.invariant ∙ stmts_go_on _ _ _ _ (tokens_seen c.all.rest.tokens.now) (tokens_seen c.in_ok-next.end.tokens.now) c.all.rest.omission c.in_ok-next.end.omission (sym c.all-test.ensures) c.in_ok-next.ensures)
