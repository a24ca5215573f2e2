use Rattle.std.proofs.Common.{◌≡◌, ◌++◌, drop, slice_get}
use Rattle.std.specs.List.{flat_map}
use Rattle.vh_bind_stmt.specs.Calls.{selected_at}
use Rattle.vh_bind_stmt.proofs.calls.add_all_selected.Given as goal

-- What is selected so far, with what the parts that are left select, is all of it.
abbrev pub invariant-loop-part : goal.invariant-loop-part
invariant-loop-part l =
    l.targets.items ++ flat_map (λ e. selected_at (slice_get l.nodes e)) (drop l.part-index l.parts)
    ≡ l.initial.targets.items ++ flat_map (λ e. selected_at (slice_get l.nodes e)) l.parts
