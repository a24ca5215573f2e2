-- A level is taken off; items go on by one.
use Rattle.std.proofs.Common.{◌≡◌, suc, ◌-◌, sym, ◌∙◌, arith}
use Rattle.vh_parse_expr.proofs.Loops.{fewer}
use Rattle.vh_parse_items.proofs.Loops.{items_go_on, item_less, within_go_on, within_less}
use Rattle.vh_parse_items.proofs.generate.+gblock.Goals as goal

pub inner_gblock-returns : goal.inner_gblock-returns
inner_gblock-returns t c = let e : c.args.depth ≡ suc (c.args.depth - 1) = omega arith in rw e (rw (c.no_hidden-at.ensures.tokens, c.no_hidden-at.ensures.omission) at c.gblock.ensures)

pub all_items-items-smaller : goal.all_items-items-smaller
all_items-items-smaller t c = fewer _ _ (item_less _ _ _ _ _ _ c.in_ok-longer.ensures)

pub all_items-items-preserved : goal.all_items-items-preserved
all_items-items-preserved t c = c.items.invariant ∙ items_go_on _ _ _ _ _ _ _ (sym c.items-test.ensures) c.in_ok-longer.ensures

pub within-items-smaller : goal.within-items-smaller
within-items-smaller t c = fewer _ _ (within_less _ _ _ _ _ _ c.in_ok-longer.ensures)

pub within-items-preserved : goal.within-items-preserved
within-items-preserved t c = c.items.invariant ∙ within_go_on _ _ _ _ _ _ _ (sym c.items-test.ensures) c.in_ok-longer.ensures
