-- Declarations go on by one.
use Rattle.std.proofs.Common.{◌≡◌, sym, ◌∙◌}
use Rattle.std.proofs.lemmas.List.{map-append}
use Rattle.vh_parse_expr.specs.Views.{tokens_seen}
use Rattle.vh_parse_expr.proofs.Loops.{fewer}
use Rattle.vh_parse_stmt.proofs.Loops.{decls_go_on, decl_less}
use Rattle.vh_parse_stmt.proofs.head.decls.Goals as goal

pub all-smaller : goal.all-smaller
all-smaller c = fewer _ _ (decl_less _ _ _ _ _ c.in_ok-next.ensures)

pub all-preserved : goal.all-preserved
all-preserved c =
    rw (c.in_ok-push.ensures.ok, map-append)
    (c.all.invariant ∙ decls_go_on _ _ _ (tokens_seen c.all.rest.tokens.now) (tokens_seen c.in_ok-next.end.tokens.now) c.all.rest.omission c.in_ok-next.end.omission (sym c.all-test.ensures) c.in_ok-next.ensures)
