use Rattle.std.proofs.Common.{◌≡◌, ◌++◌, drop, length, true}
use Rattle.std.specs.List.{flat_map, list_all}
use Rattle.vh_design_code.specs.Codes.{fits_arg}
use Rattle.vh_proc_simulation.specs.Labels.{compared}
use Rattle.vh_proc_simulation.proofs.labels.compared.Given as goal

-- The values so far, before those of the arguments that are left.
abbrev pub invariant-loop-arg : goal.invariant-loop-arg
invariant-loop-arg l = record {
  fit : list_all (fits_arg (length l.d.exprs)) (drop l.arg-index l.args) ≡ true;
  values : l.values.items ++ flat_map (compared l.d l.s) (drop l.arg-index l.args)
      ≡ flat_map (compared l.d l.s) l.args;
}
