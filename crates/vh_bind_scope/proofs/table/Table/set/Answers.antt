use Rattle.std.proofs.Common.{◌≡◌, ◌∙◌, None, ap, sym, rules}
use Rattle.std.specs.Prelude.{bytes_eq}
use Rattle.std.specs.Map.{lookup}
use Rattle.vh_bind_scope.specs.Names.{Table, named, with_meaning}
use Rattle.vh_bind_scope.specs.Views.{table_seen}
use Rattle.vh_bind_scope.proofs.NamesLemmas.{named_seen, set_seen, set_none}
use Rattle.vh_bind_scope.proofs.table.Table.set.Goals as goal
use Rattle.vh_bind_scope.proofs.table.Table.set.Goals.{in-Some, in_default}

pub returns : goal.returns
returns c = elim c.match-get_mut.branch [
  | in-Some w ↦
      ap (λ s. table_seen s.names.entries) w.self-inside-is
      ∙ ap table_seen (c.get_mut.follows.holds c.args.meaning).0
      ∙ set_seen c.args.name.now c.args.meaning c.self.inside.names.entries
      ∙ ap (with_meaning c.args.name.now c.args.meaning) c.self.view_is
  | in_default w ↦
      let none : lookup (λ k. bytes_eq c.args.name.now k.items) c.self.inside.names.entries ≡ None = search rules in
      let absent : named c.args.name.now c.args.self.now ≡ None =
      ap (named c.args.name.now) (sym c.self.view_is) ∙ sym (named_seen c.args.name.now c.self.inside.names.entries) ∙ none in
      ap (λ s. table_seen s.names.entries) w.self-inside-is
      ∙ ap (λ m. table_seen m.entries) c.get_mut.follows.holds-at-none
      ∙ c.self.view_is
      ∙ sym (set_none c.args.name.now c.args.meaning c.args.self.now absent)
]
