use Rattle.std.proofs.Common.{◌≡◌, ◌+◌, ◌<◌, length, IfSome, find}
use Rattle.std.specs.Option.{option_map_or}
use Rattle.vh_design_names.specs.Names.{around, scopes_of}
use Rattle.vh_design_nodes.specs.Fits.{has_kind}
use Rattle.vh_objects.specs.Kinds.{is_module}
use Rattle.vh_objects.proofs.relation.module_from.Given as goal

-- None of those that were passed is a module, and the next one is there.
abbrev pub invariant-loop-next : goal.invariant-loop-next
invariant-loop-next l = record {
  same : find (has_kind is_module l.d.objects) (around (scopes_of l.d.objects) l.next)
      ≡ find (has_kind is_module l.d.objects) (around (scopes_of l.d.objects) l.fn.scope);
  there : IfSome l.next (λ s. s < length l.d.objects);
}

-- The number of the scope falls.
abbrev pub decreases-loop-next : goal.decreases-loop-next
decreases-loop-next l = option_map_or (λ n. n + 1) l.next 0
