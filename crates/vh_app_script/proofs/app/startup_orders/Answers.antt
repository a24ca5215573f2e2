-- The orders of a startup go on by one.
use Rattle.std.proofs.Common.{sym, ◌∙◌}
use Rattle.std.proofs.lemmas.List.{map-append}
use Rattle.vh_app_script.proofs.Loops.{fewer, orders_go_on, order_less}
use Rattle.vh_app_script.proofs.app.startup_orders.Goals as goal

pub orders-smaller : goal.orders-smaller
orders-smaller c = fewer _ _ (order_less _ _ _ _ _ c.in_ok-next.ensures)

pub orders-preserved : goal.orders-preserved
orders-preserved c =
    rw (c.in_ok-push.ensures.ok, map-append) (c.orders.invariant ∙ orders_go_on _ _ _ _ _ _ (sym c.orders-test.ensures) c.in_ok-next.ensures)
