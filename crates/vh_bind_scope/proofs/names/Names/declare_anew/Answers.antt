use Rattle.std.proofs.Common.{◌≡◌, ◌∙◌, ℕ, Some, None, ap, sym, rules}
use Rattle.std.specs.Prelude.{◌==◌}
use Rattle.std.specs.Map.{lookup, set_value}
use Rattle.vh_bind_scope.specs.Names.{Names, Table, declared_anew, with_meaning}
use Rattle.vh_bind_scope.proofs.NamesLemmas.{anew-there, anew-none}
use Rattle.vh_bind_scope.proofs.names.Names.declare_anew.Goals as goal
use Rattle.vh_bind_scope.proofs.names.Names.declare_anew.Goals.{in-Some, in_default}

pub returns : goal.returns
returns c =
    let n : ℕ = c.number.result in
    let name = c.args.name.now in
    let ns = c.args.self.now in
    elim c.match-get_mut.branch [
      | in-Some w ↦
          let at : lookup (λ s. n == s) ns ≡ Some w.in-Some.table.now = search rules in
          ap (λ s. s.scopes.entries) w.self-inside-is
          ∙ (c.get_mut.follows.holds w.set.new.self).0
          ∙ ap (set_value (λ s. n == s) c.self.inside.scopes.entries) w.set.ensures
          ∙ ap (λ (es : Names). set_value (λ s. n == s) es (with_meaning name c.args.meaning w.in-Some.table.now)) c.self.view_is
          ∙ anew-there n name c.args.meaning ns w.in-Some.table.now at
          ∙ ap (λ (scope : ℕ). declared_anew scope name c.args.meaning ns) c.number.ensures
      | in_default w ↦
          let at : lookup (λ s. n == s) ns ≡ None = search rules in
          ap (λ s. s.scopes.entries) w.self-inside-is
          ∙ ap (λ m. m.entries) c.get_mut.follows.holds-at-none
          ∙ c.self.view_is
          ∙ sym (anew-none n name c.args.meaning ns at)
          ∙ ap (λ (scope : ℕ). declared_anew scope name c.args.meaning ns) c.number.ensures
    ]
