use Rattle.std.proofs.Common.{◌≡◌, [], true, false, rules}
use Rattle.std.specs.Prelude.{is_some, IsTrue}
use Rattle.vh_bind.specs.Scopes.{here}
use Rattle.vh_bind.specs.Views.{scope_seen}
use Rattle.vh_bind_expr.proofs.ReadsLemmas.{alone-readable}
use Rattle.vh_bind_expr.proofs.NamesLemmas.{read-path}
use Rattle.vh_bind_expr.proofs.names.name_read.Goals as goal
use Rattle.vh_bind_expr.proofs.names.name_read.Goals.{else-is_none-via-then-is_none+else-is_empty, else-is_none-via-else-is_none}

not_true : IsTrue false → ⊥
not_true e = cc

pub returns-then-is_empty-clause-kind : goal.returns-then-is_empty-clause-kind
returns-then-is_empty-clause-kind c =
    let s = here (scope_seen c.args.scope.now) c.args.nodes.now in
    rw c.alone_read.ensures (alone-readable s c.as_slice.result.now)

-- A name with an index or with more than one part is a path.
pub returns-clause-readable : goal.returns-clause-readable
returns-clause-readable c =
    let s = here (scope_seen c.args.scope.now) c.args.nodes.now in
    let n = c.args.name.now in
    let path : is_some n.first.index ≡ false → n.more ≡ [] → ⊥ = elim c.else-is_none.branch [
      | else-is_none-via-then-is_none+else-is_empty w ↦ λ none nil. not_true (w.if-is_empty.ensures.1 nil)
      | else-is_none-via-else-is_none w ↦ λ none nil. (let there : is_some n.first.index ≡ true = search rules in cc)
    ] in
    rw (read-path s n path) c.path_named.ensures.readable
