-- A level is taken off; a path goes on by a step, a list by an expression, and a chain by a link.
use Rattle.std.proofs.Common.{◌≡◌, suc, ◌+◌, ◌-◌, sym, ◌∙◌, arith}
use Rattle.std.proofs.lemmas.List.{map-append}
use Rattle.std.proofs.lemmas.Result.{err_from_is_err_and}
use Rattle.vh_parse_expr.specs.Views.{tokens_seen}
use Rattle.vh_parse_expr.proofs.Loops.{fewer, path_goes_on, path_less, exprs_go_on, expr_less, links_go_on, link_less, chain_ends, chain_stops}
use Rattle.vh_parse_expr.proofs.expr.+expression.Goals as goal

pub inner-returns : goal.inner-returns
inner-returns t c = let e : c.args.depth ≡ suc (c.args.depth - 1) = omega arith in rw e (rw (c.no_call-at.ensures.tokens, c.no_call-at.ensures.omission) at c.outermost.ensures)

pub inner_operand-returns : goal.inner_operand-returns
inner_operand-returns t c = let e : c.args.depth ≡ suc (c.args.depth - 1) = omega arith in rw e (rw (c.no_call-at.ensures.tokens, c.no_call-at.ensures.omission) at c.operand.ensures)

pub path_rest-path-smaller : goal.path_rest-path-smaller
path_rest-path-smaller t c = fewer _ _ (path_less _ _ _ _ _ _ _ _ _ c.in_ok-longer.ensures)

pub path_rest-path-preserved : goal.path_rest-path-preserved
path_rest-path-preserved t c = c.path.invariant ∙ path_goes_on _ _ _ _ _ _ _ _ _ _ (sym c.path-test.ensures) c.in_ok-longer.ensures

pub more-all-smaller : goal.more-all-smaller
more-all-smaller t c = fewer _ _ (expr_less _ _ _ _ _ _ _ c.in_ok-next.ensures)

pub more-all-preserved : goal.more-all-preserved
more-all-preserved t c =
    rw (c.in_ok-push.ensures.ok, map-append, c.into_inner.ensures)
    (c.all.invariant ∙ exprs_go_on _ _ _ _ _ (tokens_seen c.all.rest.tokens.now) (tokens_seen c.in_ok-next.end.tokens.now) c.all.rest.omission c.in_ok-next.end.omission (sym c.all-test.ensures) c.in_ok-next.ensures)

pub chain-links-smaller : goal.chain-links-smaller
chain-links-smaller t c = fewer _ _ (link_less _ _ _ _ _ _ _ c.in_ok-operator.ensures)

pub chain-links-preserved : goal.chain-links-preserved
chain-links-preserved t c =
    rw (c.in_ok-with_link.ensures, map-append, c.linked.ensures)
    (c.links.invariant ∙ links_go_on _ _ _ _ _ (tokens_seen c.links.rest.tokens.now) (tokens_seen c.in_ok-operator.behind.tokens.now) c.links.rest.omission c.in_ok-operator.behind.omission (sym c.links-test.ensures) c.in_ok-operator.ensures)

pub chain-levels-preserved : goal.chain-levels-preserved
chain-levels-preserved t c =
    let e : c.levels.below + 1 ≡ suc c.levels.below = omega arith in
    rw (e, c.in_ok-head.ensures) (chain_ends _ _ _ _ _ _ (tokens_seen c.levels.rest.tokens.now) (tokens_seen c.links.rest.tokens.now) _ c.levels.rest.omission c.links.rest.omission _ c.levels.invariant c.links.invariant (sym c.links-test.ensures))

pub chain-returns-in_err-operator : goal.chain-returns-in_err-operator
chain-returns-in_err-operator t c =
    let p = err_from_is_err_and c.from_residual.result c.from_residual.ensures.1 in
    rw (p.1, p.2)
    (chain_stops _ _ c.args.level _ _ _ _ (tokens_seen c.levels.rest.tokens.now) (tokens_seen c.links.rest.tokens.now) _ c.levels.rest.omission c.links.rest.omission _ _ (omega arith) c.levels.invariant c.links.invariant (sym c.links-test.ensures) c.in_err-operator.ensures)
