use Rattle.std.proofs.Common.{◌≡◌, ◌+◌, map, drop}
use Rattle.vh_app.specs.Layout.{sizes_of}
use Rattle.vh_app_script.specs.Tree.{commands}
use Rattle.vh_app_script.specs.Views.{command_tree}
use Rattle.vh_app.proofs.sizes.+size.Given as goal

-- The sum so far, with the commands that are left, is the whole.
abbrev pub invariant-sizes_of-loop-command : goal.invariant-sizes_of-loop-command
invariant-sizes_of-loop-command l =
    l.sum + sizes_of (commands (map command_tree (drop l.command-index l.all)))
    ≡ sizes_of (commands (map command_tree l.all))
