-- A level is taken off; a block goes on by a command.
use Rattle.std.proofs.Common.{◌≡◌, suc, ◌-◌, sym, ◌∙◌, arith}
use Rattle.vh_app_script.proofs.Loops.{fewer, commands_go_on, command_less, while-read}
use Rattle.vh_app_script.proofs.block.+blocks.Goals as goal

pub inner_block-returns-then-levels-gt0 : goal.inner_block-returns-then-levels-gt0
inner_block-returns-then-levels-gt0 t c = let e : c.args.levels ≡ suc (c.args.levels - 1) = omega arith in rw e c.any_block.ensures

pub more_commands-commands-smaller : goal.more_commands-commands-smaller
more_commands-commands-smaller t c = fewer _ _ (command_less _ _ _ _ _ _ c.in_ok-rest.ensures)

pub more_commands-commands-preserved : goal.more_commands-commands-preserved
more_commands-commands-preserved t c =
    c.commands.invariant ∙ commands_go_on _ _ _ _ _ _ (sym c.commands-test.ensures) c.in_ok-rest.ensures

pub while_end-returns : goal.while_end-returns
while_end-returns t c =
    while-read _ _ _ _ _ _ _ _ _ c.in_ok-test.ensures (rw c.saturating_sub-room.ensures at c.in_ok-body.ensures) c.in_ok-repeated.ensures
