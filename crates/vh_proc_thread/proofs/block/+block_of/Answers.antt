use Rattle.std.proofs.Common.{◌∙◌, sym, ap}
use Rattle.std.specs.Option.{option_and_then}
use Rattle.vh_proc_thread.specs.Blocks.{block_below}
use Rattle.vh_proc_thread.proofs.BlocksLemmas.{outward_none, outward_some, found_missing, found_own, found_around}
use Rattle.vh_proc_thread.proofs.block.+block_of.Goals as goal

pub returns-in_err-block : goal.returns-in_err-block
returns-in_err-block t c =
    c.from_residual-in_err-block.ensures
    ∙ sym (found_missing c.args.blocks.now c.args.target c.in_ok-number.number c.args.inner c.in_ok-number.was c.in_err-block.ensures.lookup.3)

pub returns-then-eq : goal.returns-then-eq
returns-then-eq t c =
    let l = c.in_ok-block.ensures.lookup in
    sym (found_own c.args.blocks.now c.args.target c.in_ok-number.number c.args.inner c.in_ok-block.block.now c.in_ok-number.was l.3.0 l.1
    (sym c.eq.ensures ∙ c.if-eq.true))

pub returns-in_err-around : goal.returns-in_err-around
returns-in_err-around t c =
    let l = c.in_ok-block.ensures.lookup in
    c.from_residual-in_err-around.ensures
    ∙ sym (found_around c.args.blocks.now c.args.target c.in_ok-number.number c.args.inner c.in_ok-block.block.now c.in_ok-number.was l.3.0 l.1
    (sym c.eq.ensures ∙ c.if-eq.false)
    ∙ ap (option_and_then (block_below c.in_ok-number.number c.args.blocks.now c.args.target)) c.in_err-around.was)

pub returns-then-around-number : goal.returns-then-around-number
returns-then-around-number t c =
    let l = c.in_ok-block.ensures.lookup in
    sym (found_around c.args.blocks.now c.args.target c.in_ok-number.number c.args.inner c.in_ok-block.block.now c.in_ok-number.was l.3.0 l.1
    (sym c.eq.ensures ∙ c.if-eq.false)
    ∙ ap (option_and_then (block_below c.in_ok-number.number c.args.blocks.now c.args.target)) c.in_ok-around.was
    ∙ outward_none c.in_ok-number.number c.args.blocks.now c.args.target c.in_ok-around.around c.if-around-number.true)

pub returns : goal.returns
returns t c =
    let l = c.in_ok-block.ensures.lookup in
    c.block_of.ensures
    ∙ sym (found_around c.args.blocks.now c.args.target c.in_ok-number.number c.args.inner c.in_ok-block.block.now c.in_ok-number.was l.3.0 l.1
    (sym c.eq.ensures ∙ c.if-eq.false)
    ∙ ap (option_and_then (block_below c.in_ok-number.number c.args.blocks.now c.args.target)) c.in_ok-around.was
    ∙ outward_some c.in_ok-number.number c.args.blocks.now c.args.target c.in_ok-around.around c.if-around-number.false)
