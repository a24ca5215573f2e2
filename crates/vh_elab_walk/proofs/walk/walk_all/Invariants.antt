use Rattle.std.proofs.Common.{◌≡◌, ◌-◌}
use Rattle.vh_elab_walk.specs.Walks.{most_instances, walk}
use Rattle.vh_elab_walk.specs.Views.{source_seen, stack_seen, walk_seen}
use Rattle.vh_elab_walk.proofs.walk.walk_all.Given as goal

-- What comes of those that still wait is what comes of all.
abbrev pub invariant-loop-instance : goal.invariant-loop-instance
invariant-loop-instance l =
    walk (most_instances - l._instance) (source_seen l.modules) l.top_name (stack_seen l.waiting.items) (walk_seen l.walk)
    ≡ walk most_instances (source_seen l.modules) l.top_name (stack_seen l.fn.waiting.items) (walk_seen l.fn.walk)
