use Rattle.std.proofs.Common.{◌≡◌, ◌++◌, drop}
use Rattle.vh_elab_declare.specs.Objects.{around_from, around_in}
use Rattle.vh_elab_declare.proofs.objects.around.Given as goal

-- The scopes so far, with those around them, are all of them.
abbrev pub invariant-loop-up : goal.invariant-loop-up
invariant-loop-up l =
    l.around.items ++ around_from (drop l._up-index l.objects) l.objects l.scope ≡ around_in l.objects l.fn.scope
