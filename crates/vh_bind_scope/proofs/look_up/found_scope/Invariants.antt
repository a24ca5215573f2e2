use Rattle.std.proofs.Common.{◌≡◌, drop}
use Rattle.vh_bind_scope.specs.LookUp.{scope_found}
use Rattle.vh_bind_scope.proofs.look_up.found_scope.Given as goal

-- The scopes that are left decide.
abbrev pub invariant-loop-scope : goal.invariant-loop-scope
invariant-loop-scope l = scope_found l.names (drop l.scope-index l.around) l.name ≡ scope_found l.names l.around l.name
