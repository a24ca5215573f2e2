use Rattle.std.proofs.Common.{◌≡◌, drop}
use Rattle.vh_bind.specs.Scopes.{genvar_value}
use Rattle.vh_bind.proofs.named.genvar_value.Given as goal

-- The genvars that are left decide.
abbrev pub invariant-loop-genvar : goal.invariant-loop-genvar
invariant-loop-genvar l =
    genvar_value (drop l.genvar-index l.genvars) l.fn.scope l.name ≡ genvar_value l.genvars l.fn.scope l.name
