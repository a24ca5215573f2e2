use Rattle.std.proofs.Common.{◌≡◌, map, drop}
use Rattle.vh_ast.specs.Views.{conn_tree}
use Rattle.vh_bind.specs.Views.{scope_seen}
use Rattle.vh_elab_walk.specs.Overrides.{entries_taken}
use Rattle.vh_elab_walk.specs.Views.{names_seen, overriding_seen}
use Rattle.vh_elab_walk.proofs.overrides.take_entries.Given as goal

-- What the entries so far give, with those that are left, is what all give.
abbrev pub invariant-loop-place : goal.invariant-loop-place
invariant-loop-place l =
    entries_taken (scope_seen l.scope) (names_seen l.names) l.place (map conn_tree (drop l.place l.conns)) (overriding_seen l.overriding)
    ≡ entries_taken (scope_seen l.scope) (names_seen l.names) 0 (map conn_tree l.conns) (overriding_seen l.fn.overriding)
