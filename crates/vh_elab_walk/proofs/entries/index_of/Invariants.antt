use Rattle.std.proofs.Common.{◌≡◌, ◌++◌, drop}
use Rattle.vh_elab_walk.specs.Views.{names_seen}
use Rattle.vh_elab_walk.proofs.entries.index_of.Given as goal

-- Those so far, with those that are left, are all of them.
abbrev pub invariant-loop-name : goal.invariant-loop-name
invariant-loop-name l = l.index ++ names_seen (drop l.name-index l.names) ≡ names_seen l.names
