use Rattle.std.proofs.Common.{◌≡◌, [], true, false, rules}
use Rattle.std.specs.Prelude.{is_some, IsTrue}
use Rattle.vh_bind.specs.Views.{scope_seen}
use Rattle.vh_bind.proofs.PathsLemmas.{name-path}
use Rattle.vh_bind.proofs.paths.meaning.Goals as goal
use Rattle.vh_bind.proofs.paths.meaning.Goals.{else-is_none-via-then-is_none+else-is_empty, else-is_none-via-else-is_none}

not_true : IsTrue false → ⊥
not_true e = cc

-- A name with an index or with more than one part is a path.
pub returns : goal.returns
returns c =
    let s = scope_seen c.args.scope.now in
    let n = c.args.name.now in
    let path : is_some n.first.index ≡ false → n.more ≡ [] → ⊥ = elim c.else-is_none.branch [
      | else-is_none-via-then-is_none+else-is_empty w ↦ λ none nil. not_true (w.if-is_empty.ensures.1 nil)
      | else-is_none-via-else-is_none w ↦ λ none nil. (let there : is_some n.first.index ≡ true = search rules in cc)
    ] in
    rw (name-path s c.args.call n path) c.path_meant.ensures
