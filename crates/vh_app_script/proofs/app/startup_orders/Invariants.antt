-- What is read stands in front of what is left.
use Rattle.std.proofs.Common.{◌≡◌, length, map}
use Rattle.vh_parse_grammar.specs.Reading.{read, joined}
use Rattle.vh_app_script.specs.Grammar.{grammar, startup_orders}
use Rattle.vh_app_script.specs.Views.{terminals, env_seen, order_seen}
use Rattle.vh_app_script.proofs.app.startup_orders.Given as goal

abbrev pub invariant-orders : goal.invariant-orders
invariant-orders l =
    read grammar l.levels (startup_orders (env_seen l.env).rules) (terminals l.fn.at)
    ≡ joined (map order_seen l.found) (read grammar l.levels (startup_orders (env_seen l.env).rules) (terminals l.rest))

abbrev pub decreases-orders : goal.decreases-orders
decreases-orders l = length l.rest
