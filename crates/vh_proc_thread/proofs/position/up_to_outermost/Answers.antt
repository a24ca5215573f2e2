use Rattle.std.proofs.Common.{◌∙◌, sym, ap}
use Rattle.vh_proc_thread.specs.Control.{is_within}
use Rattle.vh_proc_thread.proofs.ControlLemmas.{outermost-found}
use Rattle.vh_proc_thread.proofs.position.up_to_outermost.Goals as goal

pub returns-then-is_within-clause-found : goal.returns-then-is_within-clause-found
returns-then-is_within-clause-found c =
    outermost-found (is_within c.args.d.now c.args.root c.args.target) c.args.calls.now c.loop-k.k c.index-calls-k.result c.loop-k-test.true c.loop-k.invariant
    (ap (is_within c.args.d.now c.args.root c.args.target) (sym c.index-calls-k.is) ∙ sym c.is_within.ensures ∙ c.if-is_within.true)
