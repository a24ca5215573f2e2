use Rattle.std.proofs.Common.{◌≡◌, ◌++◌, map, drop}
use Rattle.vh_app.specs.Layout.{asked}
use Rattle.vh_app_script.specs.Views.{order_seen}
use Rattle.vh_app.proofs.laying.lay_startup.Given as goal

-- The orders so far, with those that are left, are all of them.
abbrev pub invariant-loop-order : goal.invariant-loop-order
invariant-loop-order l =
    l.nodes.items ++ map asked (map order_seen (drop l.order-index l.orders))
    ≡ map asked (map order_seen l.orders)
