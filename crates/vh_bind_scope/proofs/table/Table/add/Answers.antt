use Rattle.std.proofs.Common.{◌≡◌, ◌∙◌, ◌++◌, ◌∷◌, [], None, refl, ap}
use Rattle.vh_bind_scope.specs.Names.{Table, named}
use Rattle.vh_bind_scope.specs.Views.{table_seen}
use Rattle.vh_bind_scope.proofs.NamesLemmas.{one_more}
use Rattle.vh_bind_scope.proofs.table.Table.add.Goals as goal

pub returns-clause-added : goal.returns-clause-added
returns-clause-added c =
    let rows = c.self.inside.names.entries in
    let name = c.in_ok-name.name in
    let same = c.in_ok-name.ensures.items in
    let fresh : named name.items (table_seen rows) ≡ None =
    ap (λ n. named n (table_seen rows)) same ∙ ap (named c.args.name.now) c.self.view_is ∙ c.requires in
    ap table_seen c.in_ok-insert.ensures.entries
    ∙ one_more _ (λ x y. refl) rows name c.args.meaning fresh
    ∙ ap (λ n. table_seen rows ++ (n, c.args.meaning) ∷ []) same
    ∙ ap (λ (t : Table). t ++ (c.args.name.now, c.args.meaning) ∷ []) c.self.view_is
