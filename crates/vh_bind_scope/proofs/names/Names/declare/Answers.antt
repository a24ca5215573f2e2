use Rattle.std.proofs.Common.{◌≡◌, ◌∙◌, ◌++◌, ◌∷◌, [], ℕ, List, false, Option, Some, None, ap, sym, rules}
use Rattle.std.specs.Prelude.{is_some, nat_eq, ◌==◌}
use Rattle.std.specs.Map.{lookup, set_value}
use Rattle.std.proofs.lemmas.Map.Steps.{set_value_same}
use Rattle.indexmap.specs.IndexMap.{IndexMap, insert_entry}
use Rattle.vh_bind_scope.specs.declared.names.Meaning.{Meaning}
use Rattle.vh_bind_scope.specs.Names.{Names, Table, meaning_in, with_name}
use Rattle.vh_bind_scope.proofs.NamesLemmas.{not_named, with_name-there, with_name-new, declared-new}
use Rattle.vh_bind_scope.proofs.names.Names.declare.Goals as goal
use Rattle.vh_bind_scope.proofs.names.Names.declare.Goals.{in-Some-1, in-None-1}

pub add-requires : goal.add-requires
add-requires c =
    let ns = c.args.self.now in
    let absent : is_some (meaning_in ns c.args.scope c.args.name.now) ≡ false = search rules in
    let at : lookup (λ s. c.args.scope == s) ns ≡ Some c.in-Some.table.now = search rules in
    not_named c.args.scope c.args.name.now ns c.in-Some.table.now absent at

pub returns-in_err-add-in-Some-clause-kept : goal.returns-in_err-add-in-Some-clause-kept
returns-in_err-add-in-Some-clause-kept c =
    let ns = c.self.inside.scopes.entries in
    let at : lookup (λ s. c.number.result == s) ns ≡ Some c.in-Some.table.now = search rules in
    let same =
    (c.get_mut.follows.holds c.add.new.self).0
    ∙ set_value_same _ ns c.add.new.self (at ∙ ap Some (sym (c.in_err-add-in-Some.ensures.kept))) ∙ c.self.view_is in
    search rules

pub returns-in_ok-add-in-Some-clause-names : goal.returns-in_ok-add-in-Some-clause-names
returns-in_ok-add-in-Some-clause-names c =
    let ns = c.args.self.now in
    let n : ℕ = c.number.result in
    let d : List ℕ × Meaning = (c.args.name.now, c.args.meaning) in
    let absent : is_some (meaning_in ns c.args.scope c.args.name.now) ≡ false = search rules in
    let at : lookup (λ s. n == s) ns ≡ Some c.in-Some.table.now = search rules in
    (c.get_mut.follows.holds c.add.new.self).0
    ∙ ap (set_value (λ s. n == s) c.self.inside.scopes.entries) c.in_ok-add-in-Some.ensures.added
    ∙ ap (λ (es : Names). set_value (λ s. n == s) es (c.in-Some.table.now ++ d ∷ [])) c.self.view_is
    ∙ with_name-there n d ns c.in-Some.table.now at
    ∙ ap (λ (scope : ℕ). with_name scope d ns) c.number.ensures
    ∙ sym (declared-new c.args.scope c.args.name.now c.args.meaning ns absent)

pub returns-in_ok-insert-in-None-clause-names : goal.returns-in_ok-insert-in-None-clause-names
returns-in_ok-insert-in-None-clause-names c =
    let ns = c.args.self.now in
    let n : ℕ = c.number-in-None.result in
    let d : List ℕ × Meaning = (c.args.name.now, c.args.meaning) in
    let absent : is_some (meaning_in ns c.args.scope c.args.name.now) ≡ false = search rules in
    let at : lookup (λ s. n == s) ns ≡ None = search rules in
    let made =
    with_name-new n d ns at ∙ ap (λ (scope : ℕ). with_name scope d ns) c.number-in-None.ensures
    ∙ sym (declared-new c.args.scope c.args.name.now c.args.meaning ns absent) in
    let entered =
    c.in_ok-insert-in-None.ensures.entries
    ∙ ap (λ (m : IndexMap ℕ Table _). insert_entry nat_eq m.entries n c.in_ok-table-in-None.table) c.get_mut.follows.holds-at-none
    ∙ ap (insert_entry nat_eq c.self.inside.scopes.entries n) c.in_ok-table-in-None.ensures
    ∙ ap (λ (es : Names). insert_entry nat_eq es n (d ∷ [])) c.self.view_is in
    elim c.match-branch-4.branch [
      | in-Some-1 w ↦ w.self-is ∙ entered ∙ made
      | in-None-1 w ↦ w.self-is ∙ entered ∙ made
    ]
