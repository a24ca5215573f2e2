use Rattle.std.proofs.Common.{◌≡◌, ◌++◌, drop}
use Rattle.vh_design_names.specs.Names.{dotted}
use Rattle.vh_objects_names.proofs.paths.push_names.Given as goal

-- The names of the objects from this one on are there.
abbrev pub invariant-loop-i : goal.invariant-loop-i
invariant-loop-i l = l.name.items ≡ l.initial.name.items ++ dotted l.d.objects (drop l.i l.scopes)
