use Rattle.std.proofs.Common.{◌≡◌, true, false, sym, rules}
use Rattle.std.specs.Prelude.{is_some, IsTrue}
use Rattle.vh_bind.specs.Views.{scope_seen}
use Rattle.vh_bind.proofs.FoldsLemmas.{call_fault-indexed, call_fault-longer}
use Rattle.vh_bind.proofs.binding.call_fault.Goals as goal
use Rattle.vh_bind.proofs.binding.call_fault.Goals.{then-is_some-via-then-is_some, then-is_some-via-else-is_some+then-not-is_empty}

not_true : IsTrue false → ⊥
not_true e = cc

pub returns-then-is_some : goal.returns-then-is_some
returns-then-is_some c =
    elim c.then-is_some.branch [
      | then-is_some-via-then-is_some w ↦
          let is : is_some c.args.name.now.first.index ≡ true = search rules in
          sym (call_fault-indexed (scope_seen c.args.scope.now) c.args.name.now is)
      | then-is_some-via-else-is_some+then-not-is_empty w ↦
          sym (call_fault-longer (scope_seen c.args.scope.now) c.args.name.now (λ nil. not_true (w.if-not-is_empty.ensures.1 nil)))
    ]
