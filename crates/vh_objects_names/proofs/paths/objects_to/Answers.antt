use Rattle.std.proofs.Common.{◌≡◌, ◌∙◌, ◌++◌, ◌∷◌, [], Some, sym, ap, true, false}
use Rattle.vh_objects_names.proofs.PathsLemmas.{Walked, scope_is, walked_next, walked_last}
use Rattle.vh_objects_names.proofs.paths.objects_to.Goals as goal

pub returns-then-same_scope-clause-objects : goal.returns-then-same_scope-clause-objects
returns-then-same_scope-clause-objects c =
    let os = c.args.d.now.objects in
    ap Some c.in_ok-push.ensures.items
    ∙ walked_last os c.args.scope.now c.args.o c.in-Some.o c.object-info.result.now.parent c.loop-next.objects.items
    (rw (← c.in-Some.is) c.loop-next.invariant) (scope_is os c.in-Some.o c.object-info.result.now c.object-info.ensures.value)
    c.object-info.ensures.scope (sym c.same_scope.ensures ∙ c.if-same_scope.true)

pub loop-next-preserved : goal.loop-next-preserved
loop-next-preserved c =
    let os = c.args.d.now.objects in
    rw c.in_ok-push.ensures.items
    (walked_next os c.args.scope.now c.args.o c.in-Some.o c.object-info.result.now.parent c.loop-next.objects.items
    (rw (← c.in-Some.is) c.loop-next.invariant) (scope_is os c.in-Some.o c.object-info.result.now c.object-info.ensures.value)
    c.object-info.ensures.scope (sym c.same_scope.ensures ∙ c.if-same_scope.false))
