use Rattle.std.proofs.Common.{◌≡◌, [], map, drop}
use Rattle.vh_ast.specs.Views.{ev_tree}
use Rattle.vh_bind.specs.Views.{scope_seen}
use Rattle.vh_bind_stmt.specs.Events.{all_terms}
use Rattle.vh_bind_stmt.proofs.events.all_terms.Given as goal

-- The terms so far, with those of the events that are left, are all of them.
abbrev pub invariant-loop-ev : goal.invariant-loop-ev
invariant-loop-ev l =
    all_terms (scope_seen l.here) l.all.items (map ev_tree (drop l.ev-index l.evs))
    ≡ all_terms (scope_seen l.here) [] (map ev_tree l.evs)
