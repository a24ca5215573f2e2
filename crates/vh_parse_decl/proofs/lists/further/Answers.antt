-- A list goes on by one behind a comma.
use Rattle.std.proofs.Common.{◌≡◌, sym, ◌∙◌}
use Rattle.std.proofs.lemmas.List.{map-append}
use Rattle.vh_parse_expr.specs.Views.{tokens_seen}
use Rattle.vh_parse_expr.proofs.Loops.{fewer}
use Rattle.vh_parse_decl.proofs.Loops.{item_goes_on, item_less}
use Rattle.vh_parse_decl.proofs.lists.further.Goals as goal

pub all-smaller : goal.all-smaller
all-smaller g c = fewer _ _ (item_less (g.T.Listed.part c.args.form) (g.met.T.Listed.advances c.args.form) _ _ _ _ _ c.in_ok-item.ensures)

pub all-preserved : goal.all-preserved
all-preserved g c =
    rw (c.in_ok-push.ensures.ok, map-append)
    (c.all.invariant ∙ item_goes_on (g.T.Listed.part c.args.form) (g.met.T.Listed.advances c.args.form) _ _ _ (tokens_seen c.all.rest.tokens.now) (tokens_seen c.in_ok-item.end.tokens.now) c.all.rest.omission c.in_ok-item.end.omission (sym c.all-test.ensures) c.in_ok-item.ensures)
