use Rattle.std.proofs.Common.{◌≡◌, ◌<◌, ◌∙◌, ℕ, List, length, get_or, ap, arith, sym, Some, Result, Ok, Err, IfOk, OnOk, OnErr}
use Rattle.std.specs.BTreeMap.{BTreeMap, is_at}
use Rattle.std.specs.Map.{lookup, set_value}
use Rattle.std.specs.Ordering.{nat_cmp}
use Rattle.vh_slots.specs.declared.slots.Key.{Key}
use Rattle.vh_slots.specs.Table.{Table, after_replace}
use Rattle.vh_cases_plain.specs.Views.{under, table_in, IsWithin}
use Rattle.vh_cases_plain.proofs.ViewsLemmas.{set-written, within-write, key-value, replaces, if-ok, if-err}
use Rattle.vh_cases_plain.proofs.slots.PlainSlots.replace.Goals as goal

within-set : {T : Type 0} (gs : List ℕ) (m n : BTreeMap ℕ T) (i : ℕ) (v : T) (r : Result T T) → IsWithin gs (under m) → i < length gs
    → IfOk r (λ old. under m i ≡ Some old) → OnOk r (n.entries ≡ set_value (is_at (nat_cmp i)) m.entries v) → OnErr r (n.entries ≡ m.entries)
    → IsWithin gs (under n)
within-set gs m n i v (Ok old) within inside some is kept =
    within-write gs gs (under m) (under n) i (Some v) within inside (omega arith) within.few (set-written m n i old v some is)
within-set gs m n i v (Err back) within inside some is kept = record {
  few = within.few;
  within = λ k l. ap (lookup (is_at (nat_cmp k))) kept ∙ within.within k l;
}

replaced : {T : Type 0} (gs : List ℕ) (m n : BTreeMap ℕ T) (limit first : ℕ) (key : Key) (v : T) (t : Table T) (r : Result T T)
    → table_in gs (under m) limit first ≡ t → key.slot < length gs → get_or gs key.slot 0 ≡ key.generation
    → IfOk r (λ old. under m key.slot ≡ Some old) → OnOk r (n.entries ≡ set_value (is_at (nat_cmp key.slot)) m.entries v)
    → IfOk r (λ _. table_in gs (under n) limit first ≡ after_replace key v t)
replaced gs m n limit first key v t (Ok old) seen inside same some is =
    replaces gs (under m) (under n) limit first key v t seen inside same (set-written m n key.slot old v some is)
replaced gs m n limit first key v t (Err back) seen inside same some is = tt

pub invariant_of-self : goal.invariant_of-self
invariant_of-self g c =
    let found = key-value c.self.inside.generations.items (under c.self.inside.values) c.self.inside.limit c.self.inside.first c.args.key.slot
    c.args.key.generation c.args.self.now c.self.view_is (sym c.is_of.ensures ∙ c.if-not-is_of.false) in
    within-set c.self.inside.generations.items c.self.inside.values c.set.new.values c.args.key.slot c.args.value c.set.result c.self.invariant found.0
    c.set.ensures.old c.set.ensures.set c.set.ensures.kept

pub returns-clause-old : goal.returns-clause-old
returns-clause-old g c =
    let found = key-value c.self.inside.generations.items (under c.self.inside.values) c.self.inside.limit c.self.inside.first c.args.key.slot
    c.args.key.generation c.args.self.now c.self.view_is (sym c.is_of.ensures ∙ c.if-not-is_of.false) in
    if-ok c.set.result (λ old some. found.2 ∙ some) c.set.ensures.old

pub returns-clause-replaced : goal.returns-clause-replaced
returns-clause-replaced g c =
    let found = key-value c.self.inside.generations.items (under c.self.inside.values) c.self.inside.limit c.self.inside.first c.args.key.slot
    c.args.key.generation c.args.self.now c.self.view_is (sym c.is_of.ensures ∙ c.if-not-is_of.false) in
    replaced c.self.inside.generations.items c.self.inside.values c.set.new.values c.self.inside.limit c.self.inside.first c.args.key c.args.value
    c.args.self.now c.set.result c.self.view_is found.0 found.1 c.set.ensures.old c.set.ensures.set

pub returns-clause-none : goal.returns-clause-none
returns-clause-none g c =
    let found = key-value c.self.inside.generations.items (under c.self.inside.values) c.self.inside.limit c.self.inside.first c.args.key.slot
    c.args.key.generation c.args.self.now c.self.view_is (sym c.is_of.ensures ∙ c.if-not-is_of.false) in
    if-err c.set.result (λ back none. (found.2 ∙ none.0, none.1)) c.set.ensures.none
