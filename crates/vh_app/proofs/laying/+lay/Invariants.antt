use Rattle.std.proofs.Common.{◌≡◌, map, drop}
use Rattle.vh_app.specs.Layout.{with_commands}
use Rattle.vh_app_script.specs.Tree.{commands}
use Rattle.vh_app_script.specs.Views.{command_tree}
use Rattle.vh_app.proofs.laying.+lay.Given as goal

-- What is laid so far, with the commands that are left, is all of them.
abbrev pub invariant-lay_all-loop-command : goal.invariant-lay_all-loop-command
invariant-lay_all-loop-command l =
    with_commands (commands (map command_tree (drop l.command-index l.all))) l.nodes.items
    ≡ with_commands (commands (map command_tree l.all)) l.initial.nodes.items
