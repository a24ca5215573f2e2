use Rattle.vh_design_names.proofs.NamesLemmas.{walked_next}
use Rattle.vh_design_names.proofs.names.scopes_of.Goals as goal

pub loop-next-preserved : goal.loop-next-preserved
loop-next-preserved c = rw c.in_ok-push.ensures.items
    (walked_next c.args.d.now.objects c.args.o c.in-Some.scope c.object.result.now c.loop-next.scopes.items
    (rw (← c.in-Some.is) c.loop-next.invariant) c.object.ensures.value c.object.ensures.scope)
